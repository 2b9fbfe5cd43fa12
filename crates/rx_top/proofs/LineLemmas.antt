-- Lines that are read of the input a byte at a time.
use Rattle.std.proofs.Common.{◌≡◌, ◌≢◌, ◌<◌, ◌≤◌, ◌+◌, ℕ, Bool, true, false, List, [], ◌∷◌, ◌++◌, length, Option, None, Some, refl, sym, ◌∙◌, ap, subst, arith, append_assoc, append-nil, ne_eqb, eq-eqb}
use Rattle.std.specs.Prelude.{◌==◌, if◌then◌else◌}
use Rattle.std.specs.Io.KnownBytes.{Consumes, IsAtEnd, Keeps}
use Rattle.std.proofs.KnownBytes.{Consumes-nil, Consumes-trans, Consumes-kept}
use Rattle.rx_machine.specs.Input.{lines, lines_behind, longest_line}
use Rattle.rx_top.specs.declared.lines.LineRead.{LineRead}
use Rattle.rx_top.specs.declared.lines.LineRead.TheVariants.{Line, Last, End, Failed, NoMemory}
use Rattle.rx_top.specs.Lines.{Feeds, Spell, IsLine, IsLastLine, IsLineRead}
use Rattle.rx_top.specs.Ports.{HasInput, Shrinks}

-- Bytes of a line that is begun: what comes behind them goes on with it, or where they are the most, they are the line.
pub record IsBegun (line : List ℕ) : Type 0 where
  pub within : length line ≤ longest_line
  pub goes_on : length line < longest_line → (behind : List ℕ) → lines (line ++ behind) ≡ lines_behind line behind
  pub is_full : length line ≡ longest_line → (behind : List ℕ) → lines (line ++ behind) ≡ line ∷ lines behind

pub begun-none : IsBegun []
begun-none = record { within = omega arith; goes_on = λ less behind. refl; is_full = λ full. absurd (omega arith) }

-- ---- a byte behind them

length-snoc : (line : List ℕ) (b : ℕ) → length (line ++ b ∷ []) ≡ length line + 1
length-snoc [] b = refl
length-snoc (x ∷ line) b = let rest : length (line ++ b ∷ []) ≡ length line + 1 = length-snoc line b in omega arith

behind-first : (begun behind : List ℕ) (b : ℕ) → lines_behind begun (b ∷ behind)
    ≡ (if b == 10 then begun ∷ lines_behind [] behind
    else if length begun + 1 == longest_line then (begun ++ b ∷ []) ∷ lines_behind [] behind
    else lines_behind (begun ++ b ∷ []) behind)
behind-first [] behind b = refl
behind-first (x ∷ begun) behind b = refl

if-so : (test : Bool) (one other : List (List ℕ)) → test ≡ true → (if test then one else other) ≡ one
if-so true one other is = refl
if-so false one other is = cc

if-not : (test : Bool) (one other : List (List ℕ)) → test ≡ false → (if test then one else other) ≡ other
if-not true one other is = cc
if-not false one other is = refl

-- a line feed ends it
pub feed-ends : (line behind : List ℕ) → IsBegun line → length line < longest_line → lines ((line ++ 10 ∷ []) ++ behind) ≡ line ∷ lines behind
feed-ends line behind is less =
    ap lines (append_assoc line (10 ∷ []) behind) ∙ is.goes_on less (10 ∷ behind) ∙ behind-first line behind 10

-- another byte goes on with it
other-behind : (line behind : List ℕ) (b : ℕ) → IsBegun line → length line < longest_line → b ≢ 10
    → lines ((line ++ b ∷ []) ++ behind)
    ≡ (if length line + 1 == longest_line then (line ++ b ∷ []) ∷ lines behind else lines_behind (line ++ b ∷ []) behind)
other-behind line behind b is less other =
    ap lines (append_assoc line (b ∷ []) behind) ∙ is.goes_on less (b ∷ behind) ∙ behind-first line behind b
    ∙ if-not (b == 10) _ _ (ne_eqb b 10 other)

pub begun-by : (line : List ℕ) (b : ℕ) → IsBegun line → length line < longest_line → b ≢ 10 → IsBegun (line ++ b ∷ [])
begun-by line b is less other =
    let longer : length (line ++ b ∷ []) ≡ length line + 1 = length-snoc line b in
    record {
      within = omega (arith, longer, less);
      goes_on = λ fewer behind.
          other-behind line behind b is less other ∙ if-not (length line + 1 == longest_line) _ _ (ne_eqb (length line + 1) longest_line (omega (arith, longer, fewer)));
      is_full = λ full behind.
          other-behind line behind b is less other ∙ if-so (length line + 1 == longest_line) _ _ (eq-eqb (length line + 1) longest_line (sym longer ∙ full));
    }

-- ---- what a line comes to

read-line : (old new : Option (List ℕ)) (bytes read : List ℕ) (result : LineRead) → IsLine bytes result → Consumes old new read
    → ((behind : List ℕ) → lines (read ++ behind) ≡ bytes ∷ lines behind) → IsLineRead old new result
read-line old new bytes read (Line line) is taken spell = record {
  read = read;
  taken = taken;
  spell = λ behind. spell behind ∙ ap (λ (l : List ℕ). l ∷ lines behind) (sym is);
}
read-line old new bytes read NoMemory is taken spell = (read, taken)
read-line old new bytes read (Last line) is taken spell = absurd is
read-line old new bytes read End is taken spell = absurd is
read-line old new bytes read Failed is taken spell = absurd is

-- a line that is as long as a line can be
pub full-line : (old new : Option (List ℕ)) (bytes line : List ℕ) (result : LineRead) → IsBegun bytes → longest_line ≤ length bytes → line ≡ bytes
    → Consumes old new bytes → IsLine line result → IsLineRead old new result
full-line old new bytes line result begun long same taken is =
    let within : length bytes ≤ longest_line = begun.within in
    let full : length bytes ≡ longest_line = omega (arith, within, long) in
    read-line old new bytes bytes result (subst (λ (l : List ℕ). IsLine l result) same is) taken (begun.is_full full)

-- one that a line feed ends
pub ended-line : (old mid new : Option (List ℕ)) (bytes line : List ℕ) (result : LineRead) → IsBegun bytes → length bytes < longest_line → line ≡ bytes
    → Consumes old mid bytes → Consumes mid new (10 ∷ []) → IsLine line result → IsLineRead old new result
ended-line old mid new bytes line result begun less same first second is =
    read-line old new bytes (bytes ++ 10 ∷ []) result (subst (λ (l : List ℕ). IsLine l result) same is)
    (Consumes-trans old mid new bytes (10 ∷ []) first second) (λ behind. feed-ends bytes behind begun less)

all-read : (old mid : Option (List ℕ)) (bytes : List ℕ) → Consumes old mid bytes → IsAtEnd mid → HasInput old bytes
all-read None mid bytes taken ended = tt
all-read (Some xs) None bytes taken ended = absurd taken
all-read (Some xs) (Some ys) bytes taken ended = taken ∙ ap (λ (l : List ℕ). bytes ++ l) ended ∙ append-nil bytes

begun-last : (bytes : List ℕ) → bytes ≢ [] → lines_behind bytes [] ≡ bytes ∷ []
begun-last [] some = absurd (some refl)
begun-last (x ∷ bytes) some = refl

last-of : (bytes : List ℕ) → IsBegun bytes → length bytes < longest_line → bytes ≢ [] → lines bytes ≡ bytes ∷ []
last-of bytes begun less some = ap lines (sym (append-nil bytes)) ∙ begun.goes_on less [] ∙ begun-last bytes some

-- one that the end of the input ends, or that end
pub last-line : (old mid new : Option (List ℕ)) (bytes line : List ℕ) (result : LineRead) → IsBegun bytes → length bytes < longest_line → line ≡ bytes
    → Consumes old mid bytes → IsAtEnd mid → Keeps mid new → IsLastLine line result → IsLineRead old new result
last-line old mid new bytes line (Last last) begun less same taken ended keeps is = record {
  read = bytes;
  taken = Consumes-kept old mid new bytes taken keeps;
  spell = (
    all-read old mid bytes taken ended,
    last-of bytes begun less (λ none. is.1 (same ∙ none)) ∙ ap (λ (l : List ℕ). l ∷ []) (sym (is.0 ∙ same)),
  );
}
last-line old mid new bytes line End begun less same taken ended keeps is =
    let none : bytes ≡ [] = sym same ∙ is in
    record { read = bytes; taken = Consumes-kept old mid new bytes taken keeps; spell = (all-read old mid bytes taken ended, ap lines none) }
last-line old mid new bytes line NoMemory begun less same taken ended keeps is = (bytes, Consumes-kept old mid new bytes taken keeps)
last-line old mid new bytes line (Line other) begun less same taken ended keeps is = absurd is
last-line old mid new bytes line Failed begun less same taken ended keeps is = absurd is

-- a byte behind them that is lost
pub shrinks-byte : (old mid new : Option (List ℕ)) (bytes : List ℕ) (b : ℕ) → Consumes old mid bytes → Consumes mid new (b ∷ []) → Shrinks old new
shrinks-byte old mid new bytes b first second = (bytes ++ b ∷ [], Consumes-trans old mid new bytes (b ∷ []) first second)

-- a byte that couldn't be read, or for which there was no memory
pub shrinks-kept : (old mid new : Option (List ℕ)) (bytes : List ℕ) → Consumes old mid bytes → Keeps mid new → Shrinks old new
shrinks-kept old mid new bytes taken keeps = (bytes, Consumes-kept old mid new bytes taken keeps)

pub shrinks-of : (old new : Option (List ℕ)) (read : LineRead) → IsLineRead old new read → Shrinks old new
shrinks-of old new (Line line) fed = (fed.read, fed.taken)
shrinks-of old new (Last line) fed = (fed.read, fed.taken)
shrinks-of old new End fed = (fed.read, fed.taken)
shrinks-of old new Failed fed = fed
shrinks-of old new NoMemory fed = fed

pub shrinks-then : (a b c : Option (List ℕ)) → Shrinks a b → Shrinks b c → Shrinks a c
shrinks-then a b c first second = (first.0 ++ second.0, Consumes-trans a b c first.0 second.0 first.1 second.1)

pub shrinks-not : (a : Option (List ℕ)) → Shrinks a a
shrinks-not a = ([], Consumes-nil a)

-- ---- lines behind lines

has-both : (a b : Option (List ℕ)) (first second : List ℕ) → Consumes a b first → HasInput b second → HasInput a (first ++ second)
has-both None b first second taken has = tt
has-both (Some xs) None first second taken has = absurd taken
has-both (Some xs) (Some ys) first second taken has = taken ∙ ap (λ (l : List ℕ). first ++ l) has

spell-then : (ended : Bool) (a b : Option (List ℕ)) (first second : List ℕ) (given more : List (List ℕ)) → Consumes a b first
    → ((behind : List ℕ) → lines (first ++ behind) ≡ given ++ lines behind) → Spell ended b second more → Spell ended a (first ++ second) (given ++ more)
spell-then false a b first second given more taken one other = λ behind.
    ap lines (append_assoc first second behind) ∙ one (second ++ behind) ∙ ap (λ (l : List (List ℕ)). given ++ l) (other behind)
    ∙ sym (append_assoc given more (lines behind))
spell-then true a b first second given more taken one other =
    (has-both a b first second taken other.0, one second ∙ ap (λ (l : List (List ℕ)). given ++ l) other.1)

pub feeds-then : (a b c : Option (List ℕ)) (given more : List (List ℕ)) (ended : Bool) → Feeds a b given false → Feeds b c more ended
    → Feeds a c (given ++ more) ended
feeds-then a b c given more ended first second = record {
  read = first.read ++ second.read;
  taken = Consumes-trans a b c first.read second.read first.taken second.taken;
  spell = spell-then ended a b first.read second.read given more first.taken first.spell second.spell;
}

pub feeds-nothing : (a : Option (List ℕ)) → Feeds a a [] false
feeds-nothing a = record { read = []; taken = Consumes-nil a; spell = λ behind. refl }
