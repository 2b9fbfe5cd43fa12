use Rattle.std.proofs.Common.{arith, sym, ◌∙◌}
use Rattle.rx_cutfn.proofs.CompareLemmas.{differs_first, differs_nowhere}
use Rattle.rx_cutfn.proofs.searching.compare.Goals as goal

pub returns-then-byte_behind : goal.returns-then-byte_behind
returns-then-byte_behind c = record {
  place = differs_first c.args.a.now c.args.b.now c.args.pad c.loop-passed.passed (omega arith) c.loop-passed.invariant
      (λ same. c.if-byte_behind.true (c.byte_behind.ensures ∙ same ∙ sym c.byte_behind-in-loop-passed.ensures));
}

pub returns : goal.returns
returns c = record {
  place = differs_nowhere c.args.a.now c.args.b.now c.args.pad (λ k below. c.loop-passed.invariant k (omega arith));
}
