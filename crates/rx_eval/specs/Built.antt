-- What an instruction is made of.
use Rattle.std.specs.Prelude.{◌≡◌, ℕ, Bool, true, List, map, reverse, Option}
use Rattle.rx_tree.specs.declared.expr.SendPart.{SendPart}
use Rattle.rx_tree.specs.declared.expr.Expr.{Expr}
use Rattle.rx_eval.specs.declared.code.Callee.{Callee}
use Rattle.rx_eval.specs.declared.code.Calling.{Calling}
use Rattle.rx_eval.specs.declared.code.Class.{Class}
use Rattle.rx_eval.specs.declared.code.Sending.{Sending}
use Rattle.rx_eval.specs.Bodies.{Body}
use Rattle.rx_eval.specs.Places.{class_name, knows_class, knows_send, part_of}
use Rattle.rx_eval.specs.Whole.{given}

-- the class of a message, as it stands in the message
pub record IsClass (body : Body) (above : Option (List ℕ)) (class : Option Class) : Type 0 where
  pub name : class_name class ≡ above
  pub known : knows_class body class ≡ true

-- the instruction of a message
pub record IsSending (body : Body) (part : SendPart) (send : Sending) : Type 0 where
  pub is : part_of send part.args ≡ part
  pub shape : send.shape ≡ reverse (map given part.args)
  pub known : knows_send body send ≡ true

-- the instruction of a call
abbrev pub calling_of : List ℕ → Bool → Callee → List (Option Expr) → Calling
calling_of name is_string callee args =
    record { name = name; is_string = is_string; callee = callee; shape = reverse (map given args) }
