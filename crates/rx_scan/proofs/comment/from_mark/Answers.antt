use Rattle.std.proofs.Common.{◌≡◌, ◌-◌, length, take, drop, ◌∙◌, ap, arith}
use Rattle.std.proofs.lemmas.Grind.{common_steps}
use Rattle.rx_scan.specs.Reader.{close_from}
use Rattle.rx_scan.proofs.MarkSearchLemmas.{mark-at, mark-none}
use Rattle.rx_scan.proofs.comment.from_mark.Goals as goal

pub returns-in-Some-clause-same : goal.returns-in-Some-clause-same
returns-in-Some-clause-same c = λ n.
    let whole : take (length c.args.bytes.now - c.in-Some.at) (drop c.in-Some.at c.args.bytes.now) ≡ drop c.in-Some.at c.args.bytes.now =
    grind (arith, common_steps) in
    ap (close_from n) whole ∙ mark-at c.args.bytes.now c.in-Some.at c.in-Some.ensures n

pub returns-in-None-clause-same : goal.returns-in-None-clause-same
returns-in-None-clause-same c = mark-none c.args.bytes.now c.in-None.ensures
