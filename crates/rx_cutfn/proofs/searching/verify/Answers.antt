use Rattle.std.proofs.Common.{◌≡◌, ◌+◌, get_or, arith, sym, ap, ◌∙◌}
use Rattle.std.proofs.lemmas.List.{get_or-drop}
use Rattle.rx_cutfn.proofs.CompareLemmas.{passed_before, sought_first, sought_nowhere, sought_where_equal}
use Rattle.rx_cutfn.proofs.searching.verify.Goals as goal

pub returns-then-members-byte : goal.returns-then-members-byte
returns-then-members-byte c =
    let behind = c.rest-byte-items.result.now in
    let byte = get_or behind c.loop-at.at 0 in
    let is : byte ≡ get_or c.args.text.now (c.in_ok-passed.passed + c.loop-at.at) 0 =
    ap (λ t. get_or t c.loop-at.at 0) c.rest-byte-items.ensures.rest ∙ get_or-drop c.in_ok-passed.passed c.args.text.now c.loop-at.at 0 in
    let told = c.members-members.ensures byte (omega (arith, c.type_inv.text (c.in_ok-passed.passed + c.loop-at.at))) in
    record {
      answer = sought_first c.args.text.now c.args.reference.now behind c.args.option c.args.from c.in-Some.wanted c.in_ok-passed.passed c.loop-at.at
          c.rest-byte-items.ensures.rest c.loop-at-test.true c.loop-at.invariant
          (sought_where_equal c.args.reference.now c.in-Some.wanted _ byte told c.if-members-byte.true)
          (sym c.in-Some.ensures)
          (sym c.unwrap_or.ensures ∙ passed_before c.unwrap_or.result c.in_ok-passed.passed c.in_ok-passed.ensures.answer);
    }

pub returns : goal.returns
returns c = record {
  answer = sought_nowhere c.args.text.now c.args.reference.now c.rest-byte-items.result.now c.args.option c.args.from c.in-Some.wanted c.in_ok-passed.passed
      c.rest-byte-items.ensures.rest (λ k below. c.loop-at.invariant k (omega arith))
      (sym c.in-Some.ensures)
      (sym c.unwrap_or.ensures ∙ passed_before c.unwrap_or.result c.in_ok-passed.passed c.in_ok-passed.ensures.answer);
}
