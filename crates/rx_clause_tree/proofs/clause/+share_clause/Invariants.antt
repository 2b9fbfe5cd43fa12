use Rattle.std.proofs.Common.{◌≡◌, take}
use Rattle.rx_clause_tree.proofs.clause.+share_clause.Given as goal

abbrev pub invariant-share_clauses-loop-clause : goal.invariant-share_clauses-loop-clause
invariant-share_clauses-loop-clause l = l.shared ≡ take l.clause-index l.clauses

abbrev pub invariant-share_whens-loop-when : goal.invariant-share_whens-loop-when
invariant-share_whens-loop-when l = l.shared ≡ take l.when-index l.whens
