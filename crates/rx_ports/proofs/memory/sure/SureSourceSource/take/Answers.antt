use Rattle.std.proofs.Common.{drop, rules, drop-drop, arith}
use Rattle.std.proofs.lemmas.List.{take-append-drop}
use Rattle.std.proofs.lemmas.Grind.{common_steps}
use Rattle.rx_ports.proofs.memory.sure.SureSourceSource.take.Goals as goal

-- what was left is its front and what is left then
pub returns-in-Ok-clause-bytes : goal.returns-in-Ok-clause-bytes
returns-in-Ok-clause-bytes c =
    let n = c.min-count.result in
    let seam = take-append-drop n (drop c.self.inside.at c.self.inside.bytes.items) in
    let rest = drop-drop n c.self.inside.at c.self.inside.bytes.items in
    (search rules, search rules, grind (arith, common_steps, seam, rest))
