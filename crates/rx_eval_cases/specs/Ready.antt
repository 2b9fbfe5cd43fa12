-- Jobs that can be computed, and values that are set.
use Rattle.std.specs.Prelude.{◌≤◌, ℕ, List, [], ◌∷◌, ◌++◌, Option, None}
use Rattle.rx_tree.specs.declared.name.Derived.{Derived}
use Rattle.rx_tree.specs.declared.name.Derived.TheVariants.{Simple, Stem, Compound}
use Rattle.rx_tree.specs.declared.value.Value.{Value}
use Rattle.rx_vars.specs.Tables.{look_up}
use Rattle.rx_eval.specs.declared.job.Job.{Job}
use Rattle.rx_eval.specs.Answers.{IsPlaced}

pub record IsReady (job : Job) : Type 0 where
  pub placed : IsPlaced job
  pub at_least_1 : 1 ≤ job.facts.frame.digits
  pub at_most_18 : job.facts.frame.digits ≤ 18

-- the value of a variable, among those that are set under the names with which variables are written
abbrev pub set_value : List (List ℕ × Value) → Derived → Option Value
set_value values (Simple name) = look_up values name
set_value values (Stem stem) = look_up values stem
set_value values (Compound stem []) = None
set_value values (Compound stem (byte ∷ bytes)) = look_up values (stem ++ byte ∷ bytes)
