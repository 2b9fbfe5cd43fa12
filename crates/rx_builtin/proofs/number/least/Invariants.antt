use Rattle.std.proofs.Common.{◌≡◌, IsTrue, fold, length, map}
use Rattle.std.specs.List.{list_all}
use Rattle.rx_builtin.specs.Numbers.{lesser, least, is_within, number_of}
use Rattle.rx_builtin.proofs.number.least.Given as goal

-- the least so far goes on with the rest, whose numbers are short
abbrev pub invariant-loop-rest : goal.invariant-loop-rest
invariant-loop-rest l = record {
  short : IsTrue (list_all (is_within 18) l.rest);
  same : fold lesser l.least (map number_of l.rest) ≡ least (map number_of l.a);
}

abbrev pub decreases-loop-rest : goal.decreases-loop-rest
decreases-loop-rest l = length l.rest
