use Rattle.std.proofs.Common.{◌≡◌, None, ◌∙◌, sym, ap}
use Rattle.rx_scan.specs.Reader.{space_at}
use Rattle.rx_scan.specs.Read.{rest_of}
use Rattle.rx_scan.proofs.CutLemmas.{LeadsTo-behind, LeadsTo-end, behind-none, behind-shorter}
use Rattle.rx_scan.proofs.scanner.ends_line.Goals as goal

pub loop-behind-smaller : goal.loop-behind-smaller
loop-behind-smaller c = behind-shorter c.loop-behind.rest.now c.in-Some.behind.now (sym c.in-Some.ensures.rest)

pub loop-behind-preserved : goal.loop-behind-preserved
loop-behind-preserved c = LeadsTo-behind c.args.bytes.now c.loop-behind.rest.now c.in-Some.behind.now c.loop-behind.invariant (sym c.in-Some.ensures.rest)

pub returns : goal.returns
returns c = λ cut is.
    let none : space_at c.loop-behind.rest.now ≡ None =
    behind-none (space_at c.loop-behind.rest.now) (sym c.behind_space.ensures.rest ∙ ap rest_of c.in_default.is) in
    c.is_line_end.ensures ∙ LeadsTo-end c.args.bytes.now c.loop-behind.rest.now c.loop-behind.invariant none cut is
