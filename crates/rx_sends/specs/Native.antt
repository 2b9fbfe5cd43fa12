-- What a native method comes to.
use Rattle.std.specs.Prelude.{ℕ, ◌==◌, ◌&&◌, not, if◌then◌else◌, List, Ok, Err}
use Rattle.rx_tree.specs.Object.{Object}
use Rattle.rx_tree.specs.declared.value.Value.{Value}
use Rattle.rx_native.specs.Arguments.{Arguments}
use Rattle.rx_native.specs.Methods.{is_built}
use Rattle.rx_native.specs.Outcomes.{Outcome, incorrect_method_call, resources_exhausted}
use Rattle.rx_sends.specs.Making.{news}
use Rattle.rx_sends.specs.Numbers.{is_new, is_start, new_message}
use Rattle.rx_sends.specs.Outcomes.{outcome}
use Rattle.rx_sends.specs.Replies.{Delivery, NoMethod, Raises, Replies, reply_of}
use Rattle.rx_sends.specs.Settings.{Setting}

-- The methods of Message aren't here yet: the class has no NEW, and its objects have no methods of their own.
abbrev pub without_method : ℕ → List Object → Delivery
without_method id objects = if id == new_message then Raises incorrect_method_call objects else NoMethod objects

abbrev pub native_after : List Object → Outcome → Delivery
native_after objects (Ok answer) = Replies (reply_of answer.0) answer.1
native_after objects (Err number) = Raises number objects

-- A native method is done at once. Where there is no room for a further activity, START raises 5 before its own errors.
abbrev pub natives : Setting → List Object → Value → ℕ → Arguments → Delivery
natives setting objects target id args =
    if not (is_built id) then without_method id objects
    else if is_new id then news setting objects target id args
    else if setting.sender.is_full && is_start id then Raises resources_exhausted objects
    else native_after objects (outcome setting objects target id args)
