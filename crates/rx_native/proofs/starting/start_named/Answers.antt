use Rattle.std.proofs.Common.{rules, ◌∙◌, ℕ, Bool, List, sym, ap}
use Rattle.std.specs.Prelude.{◌&&◌, if◌then◌else◌, Err}
use Rattle.rx_tree.specs.Object.{Message, Sending}
use Rattle.rx_classes.specs.Natives.{message_class}
use Rattle.rx_heap.specs.Kept.{sending as row_sending}
use Rattle.rx_native.specs.declared.answer.NativeAnswer.TheVariants as a
use Rattle.rx_native.specs.declared.answer.Began.TheVariants as b
use Rattle.rx_native.specs.ObjectMethods.{sending, waits_for_message}
use Rattle.rx_native.specs.Targets.{is_message}
use Rattle.rx_native.specs.Outcomes.{incorrect_method_call, makes, with_object}
use Rattle.rx_native.proofs.HeapLemmas.{made-over, makes-ok}
use Rattle.rx_native.proofs.starting.start_named.Goals as goal

pub returns : goal.returns
returns c = record {
  answer =
      ap (λ (refused : Bool). if refused then Err incorrect_method_call
      else makes c.args.heap.now message_class (Message (sending c.args.target.now c.args.name c.args.args.now)) (λ (message : ℕ). a.Begin (b.Start message)))
      (ap (λ (name : List ℕ). is_message c.args.heap.now c.args.target.now && waits_for_message name) (sym c.bytes.ensures.bytes)
      ∙ (sym c.is_refused.ensures ∙ c.if-is_refused.false))
      ∙ makes-ok c.args.heap.now _ message_class c.in_ok-message.message (Message (sending c.args.target.now c.args.name c.args.args.now))
      (λ (message : ℕ). a.Begin (b.Start message)) c.in_ok-message.ensures.room c.in_ok-message.ensures.number
      (made-over c.args.heap.now c.make.new.heap message_class c.in_ok-message.message _ (Message (row_sending c.in_ok-row.row))
      c.in_ok-message.ensures.ok c.in_ok-message.ensures.number
      ∙ ap (λ (row : Sending). with_object c.args.heap.now message_class (Message row)) c.in_ok-row.ensures);
  raised = search rules;
  unchanged = search rules;
}
