use Rattle.std.proofs.Common.{take}
use Rattle.rx_eval.specs.Names.{tail_names}
use Rattle.rx_eval.specs.Numbers.{AreNumbers, Keeps}
use Rattle.rx_eval.proofs.names.Names.number_tail.Given as goal

abbrev pub invariant-loop-part : goal.invariant-loop-part
invariant-loop-part l = record {
  are : AreNumbers l.self (tail_names (take l.part-index l.parts)) l.numbers;
  keeps : Keeps l.initial.self l.self;
}
