use Rattle.std.proofs.Common.{arith, sym}
use Rattle.std.proofs.lemmas.Grind.{common_steps}
use Rattle.rx_scan.proofs.Prefixes.{line_rest-at, line_rest-none}
use Rattle.rx_scan.proofs.comment.line_rest.Goals as goal

pub returns-in-Some : goal.returns-in-Some
returns-in-Some c = grind (arith, common_steps, line_rest-at c.args.bytes.now c.in-Some.at c.in-Some.ensures)

pub returns-in-None : goal.returns-in-None
returns-in-None c = sym (line_rest-none c.args.bytes.now c.in-None.ensures)
