use Rattle.std.proofs.Common.{take}
use Rattle.rx_flow.specs.Laid.{plans, Laid, LaidWhens}
use Rattle.rx_flow.proofs.flatten.+flatten.Given as goal

abbrev pub invariant-flatten_clauses-loop-clause : goal.invariant-flatten_clauses-loop-clause
invariant-flatten_clauses-loop-clause l = Laid l.initial.code l.code (plans (take l.clause-index l.clauses))

abbrev pub invariant-flatten_whens-loop-when : goal.invariant-flatten_whens-loop-when
invariant-flatten_whens-loop-when l = LaidWhens l.exit l.initial.code l.code l.line (take l.when-index l.whens)
