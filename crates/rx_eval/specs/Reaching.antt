-- What an evaluation comes to, once it goes on.
use Rattle.std.specs.Prelude.{◌≡◌, Bool, List, Option}
use Rattle.rx_tree.specs.declared.name.Derived.{Derived}
use Rattle.rx_tree.specs.declared.name.Name.{Name}
use Rattle.rx_tree.specs.declared.value.Value.{Value}
use Rattle.rx_eval.specs.declared.facts.Facts.{Facts}
use Rattle.rx_eval.specs.declared.ready.Reached.{Reached}
use Rattle.rx_eval.specs.declared.ready.Reached.TheVariants as reached
use Rattle.rx_eval.specs.Code.{Code, evaluation}
use Rattle.rx_eval.specs.Evaluation.{AllFound, AllDone, AllRaise, AllNoValue, AllCall}
use Rattle.rx_eval.specs.Machine.{is_kept}
use Rattle.rx_eval.specs.Names.{reads}
use Rattle.rx_eval.specs.Noting.{AreNoted}
use Rattle.rx_eval.specs.Pauses.{Going, Pause, left_of, trees_of}
use Rattle.rx_eval.specs.Values.{Values}

-- what its expressions come to over these facts
abbrev pub comes_to : Going → Facts → AllFound
comes_to going facts = evaluation going.code facts going.place going.values

-- Over the values of the variables for which these names stand they come to the same as over those that they read.
abbrev pub Suffice : Going → List Name → Type 0
Suffice going names =
    (facts : Facts) (value : Derived → Option Value) (noted : Values) → AreNoted value names noted
    → comes_to going (record facts { reads = noted }) ≡ comes_to going (record facts { reads = reads value (trees_of going) })

-- an evaluation in this code stands at a call
pub record StandsIn (its_code : Code) (is_kept : Bool) (pause : Pause) : Type 0 where
  pub code : pause.code ≡ its_code
  pub kept : pause.kept ≡ is_kept

-- It has come to this. At a call the rest is left of it, in the same code.
abbrev pub IsReached : Code → AllFound → Reached → Type 0
IsReached code all (reached.Done values) = all ≡ AllDone values
IsReached code all (reached.Raise number) = all ≡ AllRaise number
IsReached code all (reached.NoValue name) = all ≡ AllNoValue name
IsReached code all (reached.Call sent pause) = (all ≡ AllCall sent (left_of pause)) × StandsIn code (is_kept sent.awaited) pause
