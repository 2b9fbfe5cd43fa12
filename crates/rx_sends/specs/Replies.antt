-- What the sender of a message has then, and what a message comes to.
use Rattle.std.specs.Prelude.{◌≡◌, ℕ, List, Some, None, Result, Ok, Err, IfOk}
use Rattle.rx_tree.specs.Object.{Object}
use Rattle.rx_tree.specs.declared.value.Value.TheVariants.{Ref}
use Rattle.rx_native.specs.declared.answer.Began.TheVariants as b
use Rattle.rx_native.specs.declared.answer.NativeAnswer.{NativeAnswer}
use Rattle.rx_native.specs.declared.answer.NativeAnswer.TheVariants as a
use Rattle.rx_native.specs.Outcomes.{Outcome}
use Rattle.rx_sends.specs.declared.refused.SendRefused.{SendRefused}
use Rattle.rx_sends.specs.declared.refused.SendRefused.TheVariants as refused
use Rattle.rx_sends.specs.declared.reply.Reply.{Reply}
use Rattle.rx_sends.specs.declared.reply.Reply.TheVariants.{Gives, Starts}

-- What a native method gives. START gives its Message, once an activity is begun for it; an object that NEW has made is told as it is.
abbrev pub reply_of : NativeAnswer → Reply
reply_of (a.Value value) = Gives (Some value)
reply_of a.Nothing = Gives None
reply_of (a.Begin (b.New object)) = Gives (Some (Ref object))
reply_of (a.Begin (b.Start message)) = Starts message

-- What a message comes to, with the objects afterwards: what its sender has, or an error, or there is no method for it.
pub data Delivery : Type 0 where
  Replies : Reply → List Object → Delivery
  Raises : ℕ → List Object → Delivery
  NoMethod : List Object → Delivery

-- A call's answer, with the objects afterwards, is what the message comes to; or else memory is wanting.
pub record Delivers (result : Result Reply SendRefused) (after : List Object) (delivery : Delivery) : Type 0 where
  pub reply : IfOk result (λ reply. delivery ≡ Replies reply after)
  pub raised : (number : ℕ) → result ≡ Err (refused.Raised number) → delivery ≡ Raises number after
  pub no_method : result ≡ Err refused.NoMethod → delivery ≡ NoMethod after

-- The same of a native method: an error changes nothing, and there is a method.
pub record Comes (result : Result NativeAnswer SendRefused) (before after : List Object) (outcome : Outcome) : Type 0 where
  pub answer : IfOk result (λ answer. outcome ≡ Ok (answer, after))
  pub raised : (number : ℕ) → result ≡ Err (refused.Raised number) → (outcome ≡ Err number) × (after ≡ before)
  pub no_method : result ≡ Err refused.NoMethod → ⊥
