use Rattle.std.proofs.Common.{◌≡◌, drop}
use Rattle.rx_packages.specs.MethodClauses as spec
use Rattle.rx_packages.proofs.method_clauses.+method_clauses.Given as goal

abbrev pub invariant-in_clauses-loop-clause : goal.invariant-in_clauses-loop-clause
invariant-in_clauses-loop-clause l = spec.in_clauses (drop l.clause-index l.clauses) ≡ spec.in_clauses l.clauses

abbrev pub invariant-in_whens-loop-when : goal.invariant-in_whens-loop-when
invariant-in_whens-loop-when l = spec.in_whens (drop l.when-index l.whens) ≡ spec.in_whens l.whens
