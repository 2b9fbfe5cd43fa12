use Rattle.std.proofs.Common.{arith}
use Rattle.std.proofs.lemmas.Grind.{common_steps}
use Rattle.rx_scan.proofs.PartLemmas.{parts-push, parts-last}
use Rattle.rx_scan.proofs.symbol.parts_of.Goals as goal

pub loop-at-preserved : goal.loop-at-preserved
loop-at-preserved c = record {
  joined = grind (arith, common_steps, parts-push c.loop-at.parts c.push.new.self c.args.tail.now c.loop-at.rest.now c.in-Some.at c.in_ok-part_of.field-0);
  few = grind (arith, common_steps);
}

pub returns : goal.returns
returns c = grind (arith, common_steps, parts-last c.loop-at.parts c.push-2.new.self c.args.tail.now c.loop-at.rest.now c.in_ok-part_of-2.field-0)
