-- What a call has to tell, and why.
use Rattle.std.specs.Prelude.{◌≡◌, ℕ, List, [], ◌∷◌, ◌++◌, Option, None, Some, codes, decimal}
use Rattle.rx_clause_tree.specs.declared.package.Package.{Package}
use Rattle.rx_ports.specs.Causes.{Rose}
use Rattle.rx_packages.specs.Refusals.{IsDeep}
use Rattle.rx_packages.specs.Checking.{IsSomeProgram}
use Rattle.rx_packages.specs.declared.refused.SourceRefused.{SourceRefused}
use Rattle.rx_packages.specs.declared.refused.SourceRefused.TheVariants.{Long, Deep, Bad, OutOfMemory}
use Rattle.rx_packages.specs.declared.checking.Checked.{Checked}
use Rattle.rx_packages.specs.declared.checking.Checked.TheVariants as checked
use Rattle.rx_top.specs.declared.words.Request.{Request}
use Rattle.rx_top.specs.declared.conclusion.Conclusion.{Conclusion}
use Rattle.rx_top.specs.Words.{request, AskToRun, AskToCheck, AskFor}
use Rattle.rx_top.specs.Loading.{HasSource, IsRunnable, IsUnbuiltAt, IsBadAt, IsLong}
use Rattle.rx_top.specs.Ports.{Supplies, Unread, Shrinks}
use Rattle.rx_top.specs.Runs.{RunsOver, StarvesOver}

-- The words ask for a program that its file has, all of which runs.
pub record AsksToRun (words : List (List ℕ)) (before : Supplies) : Type 0 where
  pub name : List ℕ
  pub budget : ℕ
  pub argument : Option (List ℕ)
  pub asked : AskToRun words name budget argument
  pub program : Package
  pub has_program : HasSource before.files name (IsRunnable program)

-- It was run to its end.
pub record Ran (words : List (List ℕ)) (before now : Supplies) (told : Conclusion) : Type 0 where
  pub asks : AsksToRun words before
  pub run : RunsOver asks.program asks.argument asks.budget before.input now.input told

-- It was run until it wanted a line of input that couldn't be read.
pub record RanUnfed (words : List (List ℕ)) (before now : Supplies) (told : Conclusion) : Type 0 where
  pub asks : AsksToRun words before
  pub run : StarvesOver asks.program asks.argument asks.budget before.input now.input told
  pub rose : Rose before.input_faults now.input_faults

-- Nothing was run: a status, a text for the output, and one for the report.
pub record RanNothing (number : ℕ) (output report : List ℕ) (told : Conclusion) : Type 0 where
  pub status : told.status ≡ number
  pub steps : told.steps ≡ 0
  pub schedule : told.schedule.items ≡ []
  pub wrote : told.output.items ≡ output
  pub reported : told.report.items ≡ report

-- The words ask to run the source of a file, or to check it, and the file has a source like this.
pub record AsksFor (words : List (List ℕ)) (before : Supplies) (like : List ℕ → Type 0) : Type 0 where
  pub name : List ℕ
  pub asked : AskFor words name
  pub has : HasSource before.files name like

-- the same of words that ask to run it
pub record AsksUnbuilt (words : List (List ℕ)) (before : Supplies) (line : ℕ) : Type 0 where
  pub name : List ℕ
  pub budget : ℕ
  pub argument : Option (List ℕ)
  pub asked : AskToRun words name budget argument
  pub has : HasSource before.files name (IsUnbuiltAt line)

-- the same of words that ask to check it
pub record ChecksOne (words : List (List ℕ)) (before : Supplies) (like : List ℕ → Type 0) : Type 0 where
  pub name : List ℕ
  pub asked : AskToCheck words name
  pub has : HasSource before.files name like

-- The words are a request, and the shelf has failed.
pub record ShelfFailed (words : List (List ℕ)) (before now : Supplies) : Type 0 where
  pub asks : Request
  pub asked : request words ≡ Some asks
  pub rose : Rose before.shelf_faults now.shelf_faults

abbrev pub line_ok : List ℕ
line_ok = codes "ok" ++ 10 ∷ []

-- `REX240 line 7 error 35`
abbrev pub line_bad : ℕ → ℕ → List ℕ
line_bad line number = codes "REX240 line " ++ decimal line ++ codes " error " ++ decimal number ++ 10 ∷ []

-- a clause that doesn't run yet is told as this error
abbrev pub unbuilt : ℕ
unbuilt = 3

abbrev pub line_243 : List ℕ
line_243 = codes "REX243 words" ++ 10 ∷ []

abbrev pub line_244 : List ℕ
line_244 = codes "REX244 shelf" ++ 10 ∷ []

abbrev pub line_long : List ℕ
line_long = codes "REX250 source" ++ 10 ∷ []

abbrev pub line_deep : List ℕ
line_deep = codes "REX250 nesting" ++ 10 ∷ []

-- What a call has to tell, by its cause. Where nothing was run the input is as it was.
pub data IsConclusion (words : List (List ℕ)) (before now : Supplies) (told : Conclusion) : Type 0 where
  -- a program was run to its end
  OfRun : Ran words before now told → IsConclusion words before now told
  -- or to a line that couldn't be read
  OfUnfed : RanUnfed words before now told → IsConclusion words before now told
  -- the source that is to be run is a program, and not all of it runs yet
  OfUnbuilt : (line : ℕ) → RanNothing 240 [] (line_bad line unbuilt) told → Unread before now → AsksUnbuilt words before line
      → IsConclusion words before now told
  -- the source that is checked is a program
  OfFine : RanNothing 0 line_ok [] told → Unread before now → ChecksOne words before IsSomeProgram → IsConclusion words before now told
  -- the source that is to be run or checked is none
  OfBad : (line number : ℕ) → RanNothing 240 [] (line_bad line number) told → Unread before now → AsksFor words before (IsBadAt line number)
      → IsConclusion words before now told
  -- it is too long
  OfLong : RanNothing 250 [] line_long told → Unread before now → AsksFor words before IsLong → IsConclusion words before now told
  -- its brackets stand too deep in one another
  OfDeep : RanNothing 250 [] line_deep told → Unread before now → AsksFor words before IsDeep → IsConclusion words before now told
  -- the words are no request
  OfNoRequest : RanNothing 243 [] line_243 told → Unread before now → request words ≡ None → IsConclusion words before now told
  -- the program's file could not be read
  OfShelf : RanNothing 244 [] line_244 told → Unread before now → ShelfFailed words before now → IsConclusion words before now told
  -- memory was wanted
  OfMemory : RanNothing 247 [] [] told → IsConclusion words before now told

-- the same, of words that are this request
abbrev pub Fulfils : Request → Supplies → Supplies → Conclusion → Type 0
Fulfils asks before now told = (words : List (List ℕ)) → request words ≡ Some asks → IsConclusion words before now told

-- the same, of words that ask to run the program of this file
abbrev pub RunsFile : List ℕ → ℕ → Option (List ℕ) → Supplies → Supplies → Conclusion → Type 0
RunsFile name budget argument before now told =
    (words : List (List ℕ)) → AskToRun words name budget argument → IsConclusion words before now told

-- the same, of words that ask whether the source of this file is a program
abbrev pub ChecksFile : List ℕ → Supplies → Supplies → Conclusion → Type 0
ChecksFile name before now told = (words : List (List ℕ)) → AskToCheck words name → IsConclusion words before now told

-- what is told of a source that is refused
abbrev pub IsRefusal : SourceRefused → Conclusion → Type 0
IsRefusal Long told = RanNothing 250 [] line_long told
IsRefusal Deep told = RanNothing 250 [] line_deep told
IsRefusal (Bad line number) told = RanNothing 240 [] (line_bad line number) told
IsRefusal OutOfMemory told = ⊥

-- what is told of a source by what its check tells
abbrev pub IsToldOf : Checked → Conclusion → Type 0
IsToldOf checked.Fine told = RanNothing 0 line_ok [] told
IsToldOf (checked.Refused line number) told = RanNothing 240 [] (line_bad line number) told
IsToldOf checked.LongSource told = RanNothing 250 [] line_long told
IsToldOf checked.DeepSource told = RanNothing 250 [] line_deep told
IsToldOf checked.NoMemory told = ⊥
