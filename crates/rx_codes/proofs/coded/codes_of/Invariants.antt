use Rattle.std.proofs.Common.{take}
use Rattle.std.specs.Arc.{arc_value}
use Rattle.rx_codes.specs.Codes.{AreCodes}
use Rattle.rx_codes.proofs.coded.codes_of.Given as goal

abbrev pub invariant-loop-clause : goal.invariant-loop-clause
invariant-loop-clause l = AreCodes (arc_value l.fixed) (take l.clause-index l.clauses) l.codes
