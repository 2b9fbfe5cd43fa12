-- Objects, and what they hold.
use Rattle.std.specs.Prelude.{ℕ, Bool, List, Option}
use Rattle.rx_tree.specs.declared.value.Value.{Value}
use Rattle.rx_tree.specs.declared.activity.Outcome.{Outcome}

-- What a Message object sends, and what came of it: `used` once it was sent or is to be sent, and the activities that
-- become live when it is complete.
pub record Sending : Type 0 where
  pub target : Value
  pub name : List ℕ
  pub args : List (Option Value)
  pub used : Bool
  pub outcome : Outcome
  pub notify : List ℕ

-- What an object holds besides its variables.
pub data Contents : Type 0 where
  -- nothing
  Plain : Contents
  -- it is a class
  ClassObject : Contents
  -- an Array's places, in order from 1; an empty place has no value
  Places : List (Option Value) → Contents
  -- a Queue's items, the front first
  Line : List Value → Contents
  -- a Directory's names with their values, in the order in which it is walked
  Names : List (List ℕ × Value) → Contents
  -- a Message's row
  Message : Sending → Contents

-- An object: the number of its class, and its contents.
pub record Object : Type 0 where
  pub class : ℕ
  pub contents : Contents
