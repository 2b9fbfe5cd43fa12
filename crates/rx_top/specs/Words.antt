-- Which request the words of a command line are.
use Rattle.std.specs.Prelude.{◌≡◌, ℕ, List, [], ◌∷◌, ◌++◌, length, Option, None, Some, Result, Ok, Err, codes, decimal, Bool, true, false, ◌&&◌, ◌==◌, nat_le, if◌then◌else◌}
use Rattle.std.specs.Option.{option_and_then}
use Rattle.std.specs.Str.{bytes_eq}
use Rattle.std.specs.Str.Parse.{digits_value}
use Rattle.rx_tree.specs.Bytes.{longest}
use Rattle.rx_top.specs.declared.words.Request.{Request}
use Rattle.rx_top.specs.declared.words.Request.TheVariants.{Run, Check}
use Rattle.rx_top.specs.declared.words.WordsRefused.{WordsRefused}
use Rattle.rx_top.specs.declared.words.WordsRefused.TheVariants.{NotARequest, OutOfMemory}

-- how many steps a run may take where nothing is said
abbrev pub default_steps : ℕ
default_steps = 1000000

-- an option begins with two hyphens
abbrev pub is_option : List ℕ → Bool
is_option (first ∷ second ∷ word) = (first == 45) && (second == 45)
is_option _ = false

-- a word is the decimal digits of this number, without leading zeros, and the number is in a range
abbrev pub is_number_between : ℕ → ℕ → ℕ → List ℕ → Bool
is_number_between low high number word = bytes_eq word (decimal number) && (nat_le low number && nat_le number high)

-- the number in this range that a word is the decimal digits of
unfoldable pub number_between : ℕ → ℕ → List ℕ → Option ℕ
number_between low high word =
    let number = digits_value 10 word in
    if is_number_between low high number word then Some number else None

-- words with a blank before each
abbrev pub with_blanks : List (List ℕ) → List ℕ
with_blanks [] = []
with_blanks (word ∷ words) = 32 ∷ word ++ with_blanks words

-- The argument: the words joined by one blank, or none where there are no words.
abbrev pub argument_of : List (List ℕ) → Option (List ℕ)
argument_of [] = None
argument_of (word ∷ words) = Some (word ++ with_blanks words)

-- an argument is a string of the language
abbrev pub is_string : Option (List ℕ) → Bool
is_string None = true
is_string (Some argument) = nat_le (length argument) longest

-- to run a program with so many steps and this argument, without workers and schedule file
abbrev pub run_with : ℕ → List ℕ → Option (List ℕ) → Option Request
run_with steps program argument =
    if is_option program then None else (if is_string argument then Some (Run 0 steps None program argument) else None)

-- the program, and the words of its argument
abbrev pub run_of : ℕ → List (List ℕ) → Option Request
run_of steps [] = None
run_of steps (program ∷ words) = run_with steps program (argument_of words)

-- what follows `--steps`: from 1 to 10,000,000 steps, and the others
abbrev pub stepped : List (List ℕ) → Option Request
stepped [] = None
stepped (steps ∷ words) = option_and_then (λ number. run_of number words) (number_between 1 10000000 steps)

-- what follows `run`: perhaps `--steps` and a number; then the program, and the words of its argument
abbrev pub run_request : List (List ℕ) → Option Request
run_request [] = None
run_request (first ∷ words) = if bytes_eq first (codes "--steps") then stepped words else run_of default_steps (first ∷ words)

-- what follows `check`: the program
abbrev pub check_request : List (List ℕ) → Option Request
check_request (program ∷ []) = if is_option program then None else Some (Check program)
check_request _ = None

-- The request that words are.
unfoldable pub request : List (List ℕ) → Option Request
request [] = None
request (command ∷ words) =
    if bytes_eq command (codes "run") then run_request words
    else (if bytes_eq command (codes "check") then check_request words else None)

-- The words ask to run the program of this file, with so many steps and this argument.
pub record AskToRun (words : List (List ℕ)) (name : List ℕ) (budget : ℕ) (argument : Option (List ℕ)) : Type 0 where
  pub workers : ℕ
  pub schedule : Option (List ℕ)
  pub asked : request words ≡ Some (Run workers budget schedule name argument)

-- the words ask whether the source of this file is a program
abbrev pub AskToCheck : List (List ℕ) → List ℕ → Type 0
AskToCheck words name = request words ≡ Some (Check name)

-- the words ask to run the program of this file, or to check it
pub data AskFor (words : List (List ℕ)) (name : List ℕ) : Type 0 where
  ToRun : (budget : ℕ) (argument : Option (List ℕ)) → AskToRun words name budget argument → AskFor words name
  ToCheck : AskToCheck words name → AskFor words name

-- What reading some words gives that are perhaps a request: it, or that they are none, or want of memory.
abbrev pub IsReadingOf : Option Request → Result Request WordsRefused → Type 0
IsReadingOf found (Ok asked) = found ≡ Some asked
IsReadingOf found (Err NotARequest) = found ≡ None
IsReadingOf found (Err OutOfMemory) = Unit {0}

-- What reading the words of an argument gives: it, or that it is no string, or want of memory.
abbrev pub IsArgumentOf : Option (List ℕ) → Result (Option (List ℕ)) WordsRefused → Type 0
IsArgumentOf found (Ok argument) = (argument ≡ found) × (is_string found ≡ true)
IsArgumentOf found (Err NotARequest) = is_string found ≡ false
IsArgumentOf found (Err OutOfMemory) = Unit {0}
