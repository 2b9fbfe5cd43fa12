use Rattle.std.proofs.Common.{rules, ◌∙◌, ℕ, None, sym, ap, arith}
use Rattle.std.specs.Prelude.{replicate, Result}
use Rattle.rx_tree.specs.Object.{Places}
use Rattle.rx_native.specs.declared.answer.NativeAnswer.TheVariants as a
use Rattle.rx_native.specs.declared.answer.Began.TheVariants as b
use Rattle.rx_native.specs.Outcomes.{makes, on, with_object}
use Rattle.rx_native.proofs.HeapLemmas.{makes-ok}
use Rattle.rx_native.proofs.PlaceLemmas.{made-size}
use Rattle.rx_native.proofs.array.new.Goals as goal

pub returns : goal.returns
returns c = record {
  answer =
      ap (λ (r : Result ℕ ℕ). on r (λ (size : ℕ). makes c.args.heap.now c.args.class (Places (replicate size None)) (λ (array : ℕ). a.Begin (b.New array))))
      (sym c.in_ok-size.ensures.size)
      ∙ makes-ok c.args.heap.now c.array_resize.new.self c.args.class c.in_ok-array.array (Places (replicate c.in_ok-size.size None))
      (λ (array : ℕ). a.Begin (b.New array)) c.in_ok-array.ensures.room c.in_ok-array.ensures.number
      (c.in_ok-array_resize.ensures.ok
      ∙ (made-size c.args.heap.now c.make.new.heap c.args.class c.in_ok-array.array c.in_ok-size.size c.in_ok-array.ensures.ok c.in_ok-array.ensures.number
      ∙ ap (λ (n : ℕ). with_object c.args.heap.now c.args.class (Places (replicate n None))) (omega arith)));
  raised = search rules;
  unchanged = search rules;
}
