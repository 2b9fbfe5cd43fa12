-- A program run to its end, or to a line of input that can't be read.
use Rattle.std.specs.Prelude.{◌≡◌, ◌≢◌, ◌⊎◌, ℕ, List, [], ◌∷◌, ◌++◌, length, true, false, Option, Some, IsTrue, codes}
use Rattle.rx_ports.specs.Causes.{Rose}
use Rattle.rx_clause_tree.specs.declared.package.Package.{Package}
use Rattle.rx_machine.specs.World.{World, WantsLine}
use Rattle.rx_machine.specs.Opening.{opening}
use Rattle.rx_machine.specs.Input.{lines}
use Rattle.rx_machine.specs.declared.end.End.TheVariants.{Going}
use Rattle.rx_machine.specs.Enabled.{enabled, robin}
use Rattle.rx_machine.specs.End.{end, status_of}
use Rattle.rx_machine.specs.Runs.{SerialRun, last_of}
use Rattle.rx_machine.specs.Step.{step}
use Rattle.rx_machine.specs.Texts.{err_text, notes_text}
use Rattle.rx_top.specs.declared.conclusion.Conclusion.{Conclusion}
use Rattle.rx_top.specs.declared.running.Course.{Course}
use Rattle.rx_top.specs.declared.running.Course.TheVariants.{Ended, Starved}
use Rattle.rx_top.specs.Ports.{Leaves}

-- what there is to tell of a world: its steps, as many as the picks, and what was said
pub record IsSaid (w : World) (told : Conclusion) : Type 0 where
  pub steps : told.steps ≡ w.steps
  pub picks : told.steps ≡ length told.schedule.items
  pub output : told.output.items ≡ w.output

-- The schedule is a run of the program, with this argument and these bytes of input: each pick was enabled when it came and
-- the next in a circle. It leads to a world that doesn't go on. Status, steps, output and report are those of that world. The
-- bytes that are left are the last ones of the input, and have just the lines that no step has read.
pub record IsRunOf (program : Package) (argument : Option (List ℕ)) (budget : ℕ) (input left : List ℕ) (told : Conclusion) : Type 0 where
  pub world : World
  pub run : SerialRun (opening program argument (lines input) true budget) told.schedule.items world
  pub ended : end world ≢ Going
  pub said : IsSaid world told
  pub status : told.status ≡ status_of world
  pub report : told.report.items ≡ err_text world
  pub read : List ℕ
  pub behind : input ≡ read ++ left
  pub unread : world.rest ≡ lines left

-- a line of input that was wanted couldn't be read
abbrev pub line_245 : List ℕ
line_245 = codes "REX245 input" ++ 10 ∷ []

-- The schedule is such a run over the first lines of the input, all of which it has read. It leads to a world whose next
-- activity in the circle takes a step that wants a line. Steps and output are those of that world, the report has its notes
-- and tells that a line was wanted, and the bytes that are left are the last ones of the input.
pub record IsStarvedRun (program : Package) (argument : Option (List ℕ)) (budget : ℕ) (input left : List ℕ) (told : Conclusion) : Type 0 where
  pub world : World
  pub given : List (List ℕ)
  pub others : List (List ℕ)
  pub first : lines input ≡ given ++ others
  pub run : SerialRun (opening program argument given false budget) told.schedule.items world
  pub read_all : world.rest ≡ []
  pub going : end world ≡ Going
  pub activity : ℕ
  pub next : robin world (last_of 0 told.schedule.items) ≡ Some activity
  pub enabled : IsTrue (enabled world activity)
  pub wants : step world activity ≡ WantsLine
  pub said : IsSaid world told
  pub status : told.status ≡ 245
  pub report : told.report.items ≡ notes_text world ++ line_245
  pub read : List ℕ
  pub behind : input ≡ read ++ left

-- The same of an input that had some bytes, and has some left.
pub record RunsOver (program : Package) (argument : Option (List ℕ)) (budget : ℕ) (before now : Option (List ℕ)) (told : Conclusion) : Type 0 where
  pub bytes : List ℕ
  pub left : List ℕ
  pub leaves : Leaves before now bytes left
  pub run : IsRunOf program argument budget bytes left told

pub record StarvesOver (program : Package) (argument : Option (List ℕ)) (budget : ℕ) (before now : Option (List ℕ)) (told : Conclusion) : Type 0 where
  pub bytes : List ℕ
  pub left : List ℕ
  pub leaves : Leaves before now bytes left
  pub run : IsStarvedRun program argument budget bytes left told

-- What running a program comes to: its end, or a line that couldn't be read, and then the input has failed.
abbrev pub IsPlayed : Package → Option (List ℕ) → ℕ → Option (List ℕ) → ℕ → Option (List ℕ) → ℕ → Conclusion → Type 0
IsPlayed program argument budget before faults_before now faults_now told =
    RunsOver program argument budget before now told ⊎ (StarvesOver program argument budget before now told × Rose faults_before faults_now)

-- What is told of a world: its steps and what was said, with these picks, a status, and a report.
pub record IsWorldTold (w : World) (picks : List ℕ) (status : ℕ) (report : List ℕ) (told : Conclusion) : Type 0 where
  pub schedule : told.schedule.items ≡ picks
  pub steps : told.steps ≡ w.steps
  pub output : told.output.items ≡ w.output
  pub is_status : told.status ≡ status
  pub is_report : told.report.items ≡ report

-- what is told of a world to which a run came
abbrev pub IsCourseTold : World → Course → Conclusion → Type 0
IsCourseTold w (Ended picks) told = IsWorldTold w picks.items (status_of w) (err_text w) told
IsCourseTold w (Starved picks) told = IsWorldTold w picks.items 245 (notes_text w ++ line_245) told
