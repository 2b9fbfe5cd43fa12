-- The clauses that stand in bodies of methods alone.
use Rattle.std.specs.Prelude.{Bool, true, false, ◌||◌, List, [], ◌∷◌, Option, Some, None, map}
use Rattle.rx_clause_tree.specs.declared.simple.Simple.{Simple}
use Rattle.rx_clause_tree.specs.declared.simple.Simple.TheVariants as c
use Rattle.rx_clause_tree.specs.declared.clause.Clause.{Clause}
use Rattle.rx_clause_tree.specs.declared.clause.ClauseKind.{ClauseKind}
use Rattle.rx_clause_tree.specs.declared.clause.When.{When}
use Rattle.rx_clause_tree.specs.declared.clause.ClauseKind.TheOpen.{ClauseKind-F, Clause-F, When-F}
use Rattle.rx_clause_tree.specs.declared.clause.ClauseKind.TheFolds.{fold-ClauseKind, fold-Clause, fold-When}

-- EXPOSE, GUARD, REPLY and FORWARD
abbrev pub is_for_methods : Simple → Bool
is_for_methods (c.Expose names) = true
is_for_methods (c.GuardOn given) = true
is_for_methods (c.GuardOff given) = true
is_for_methods (c.Reply given) = true
is_for_methods (c.Forward forward) = true
is_for_methods _ = false

abbrev pub any : List Bool → Bool
any [] = false
any (one ∷ others) = one || any others

abbrev pub if_given : Option Bool → Bool
if_given None = false
if_given (Some one) = one

abbrev pub any_given : Option (List Bool) → Bool
any_given None = false
any_given (Some all) = any all

-- One level of a clause, with the answer of each part in its place.
abbrev pub kind_step : ClauseKind-F Bool Bool Bool → Bool
kind_step (ClauseKind-F.Simple simple) = is_for_methods simple
kind_step (ClauseKind-F.If test chosen other) = chosen || if_given other
kind_step (ClauseKind-F.Select whens other) = any whens || any_given other
kind_step (ClauseKind-F.Group clauses) = any clauses
kind_step (ClauseKind-F.Loop header test clauses) = any clauses

abbrev pub clause_step : Clause-F Bool Bool Bool → Bool
clause_step clause = clause.kind

abbrev pub when_step : When-F Bool Bool Bool → Bool
when_step when = when.chosen

-- whether a clause is one of these, or one stands in it
abbrev pub in_kind : ClauseKind → Bool
in_kind = fold-ClauseKind Bool Bool Bool kind_step clause_step when_step

abbrev pub in_clause : Clause → Bool
in_clause = fold-Clause Bool Bool Bool kind_step clause_step when_step

abbrev pub in_when : When → Bool
in_when = fold-When Bool Bool Bool kind_step clause_step when_step

abbrev pub in_clauses : List Clause → Bool
in_clauses clauses = any (map in_clause clauses)

abbrev pub in_whens : List When → Bool
in_whens whens = any (map in_when whens)
