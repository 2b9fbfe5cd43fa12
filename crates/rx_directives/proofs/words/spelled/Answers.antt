use Rattle.std.proofs.Common.{ℕ, List, length, ◌==◌, sym, ◌∙◌, ap}
use Rattle.rx_scan.specs.Reader.{symbol_at}
use Rattle.rx_directives.proofs.WordLemmas.{spelled_no, spelled_yes}
use Rattle.rx_directives.proofs.words.spelled.Goals as goal

pub returns-then-not-is_empty : goal.returns-then-not-is_empty
returns-then-not-is_empty c =
    let is = c.in_ok-kind.ensures.symbol ∙ ap symbol_at c.bytes-bytes.ensures.bytes in
    sym (spelled_no c.args.text.now c.in_ok-kind.behind.now c.in_ok-kind.kind is (sym c.is_empty-2.ensures ∙ c.if-not-is_empty.true))

pub returns : goal.returns
returns c =
    let is = c.in_ok-kind.ensures.symbol ∙ ap symbol_at c.bytes-bytes.ensures.bytes in
    let some = ap (λ (bytes : List ℕ). length bytes == 0) (sym c.bytes-bytes.ensures.bytes) ∙ sym c.is_empty.ensures ∙ c.if-is_empty.false in
    rw (spelled_yes c.args.text.now c.in_ok-kind.behind.now c.in_ok-kind.kind is (sym c.is_empty-2.ensures ∙ c.if-not-is_empty.false) some) c.variable_of.ensures
