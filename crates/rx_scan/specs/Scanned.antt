-- What a scan answers.
use Rattle.std.specs.Prelude.{◌≤◌, ◌+◌, ℕ, List, Result, Ok, Err, IsTrue}
use Rattle.rx_tree.specs.declared.token.Token.{Token}
use Rattle.rx_tree.specs.Spelling.{feeds, Spells}
use Rattle.rx_scan.specs.Read.{is_number}
use Rattle.rx_scan.specs.declared.scanner.ScanRefused.{ScanRefused}
use Rattle.rx_scan.specs.declared.scanner.ScanRefused.TheVariants.{Bad, OutOfMemory}

-- A source is refused: no tokens spell it, the number is 6, 13 or 15, and the line is one of the source's.
pub record IsRefused (source : List ℕ) (line number : ℕ) : Type 0 where
  pub none : (tokens : List Token) → Spells source tokens → ⊥
  pub number_is : IsTrue (is_number number)
  pub from_one : 1 ≤ line
  pub at_most : line ≤ feeds source + 1

-- the answer is the tokens that spell the source, or that none do; or want of memory
abbrev pub IsScanned : List ℕ → Result (List Token) ScanRefused → Type 0
IsScanned source (Ok tokens) = Spells source tokens
IsScanned source (Err (Bad line number)) = IsRefused source line number
IsScanned source (Err OutOfMemory) = Unit {0}
