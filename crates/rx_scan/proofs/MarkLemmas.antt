-- The longest mark at the front of some bytes is what `IsMark` means.
use Rattle.std.proofs.Common.{◌≡◌, ◌==◌, ℕ, Bool, true, false, not, cond, ◌||◌, ◌&&◌, List, [], ◌∷◌, ◌++◌, Option, None, Some, refl, sym, ◌∙◌, ap}
use Rattle.std.specs.Prelude.{is_some, codes}
use Rattle.std.specs.Str.{bytes_eq}
use Rattle.std.proofs.lemmas.Slice.Eq.{bytes_eq-Decides}
use Rattle.std.proofs.lemmas.Bool.{both_ways, or_parts, and_parts, not-true, cond-false, eqb-true}
use Rattle.std.specs.Cmp.{first_so, second_so}
use Rattle.std.specs.List.{list_all}
use Rattle.rx_tree.specs.declared.token.TokenKind.{TokenKind}
use Rattle.rx_tree.specs.Letters.{begins, is_blank, is_quote, is_symbol_byte}
use Rattle.rx_tree.specs.Marks.{marks, beside, mark_of, opens_comment, goes_on, IsMark}
use Rattle.rx_scan.specs.Reader.{or_else, short_mark, longest_mark, mark_at, comment_at}
use Rattle.rx_scan.proofs.Prefixes.{not-so}

-- What holds of each entry of a table holds of what it has.

entry-passes : (P : List ℕ → Bool) (bytes : List ℕ) (kind : TokenKind) (entry : List ℕ × TokenKind) (table : List (List ℕ × TokenKind)) (here : Bool)
    → bytes_eq bytes entry.0 ≡ here → P entry.0 ≡ true → (beside bytes table ≡ Some kind → P bytes ≡ true)
    → cond here (Some entry.1) (beside bytes table) ≡ Some kind → P bytes ≡ true
entry-passes P bytes kind entry table true tested passes later is = ap P ((bytes_eq-Decides bytes entry.0).0 tested) ∙ passes
entry-passes P bytes kind entry table false tested passes later is = later is

table-passes : (P : List ℕ → Bool) (bytes : List ℕ) (kind : TokenKind) (table : List (List ℕ × TokenKind))
    → list_all (λ (entry : List ℕ × TokenKind). P entry.0) table ≡ true → beside bytes table ≡ Some kind → P bytes ≡ true
table-passes P bytes kind [] all is = cc
table-passes P bytes kind (entry ∷ table) all is =
    entry-passes P bytes kind entry table (bytes_eq bytes entry.0) refl (first_so (P entry.0) _ all)
    (table-passes P bytes kind table (second_so (P entry.0) _ all)) is

pub mark-passes : (P : List ℕ → Bool) (bytes : List ℕ) (kind : TokenKind) → list_all (λ (entry : List ℕ × TokenKind). P entry.0) marks ≡ true
    → mark_of bytes ≡ Some kind → P bytes ≡ true
unfolding mark_of
mark-passes P bytes kind all is = table-passes P bytes kind marks all is

-- a mark has one to three bytes
abbrev has_mark_length : List ℕ → Bool
has_mark_length [] = false
has_mark_length (b ∷ []) = true
has_mark_length (b ∷ (c ∷ [])) = true
has_mark_length (b ∷ (c ∷ (d ∷ []))) = true
has_mark_length (b ∷ (c ∷ (d ∷ (e ∷ bytes)))) = false

mark-length : (bytes : List ℕ) (kind : TokenKind) → mark_of bytes ≡ Some kind → has_mark_length bytes ≡ true
mark-length bytes kind is = mark-passes has_mark_length bytes kind refl is

-- the first two of three bytes are a mark, where there are three
abbrev front_is_mark : List ℕ → Bool
front_is_mark (b ∷ (c ∷ (d ∷ bytes))) = is_some (mark_of (b ∷ (c ∷ [])))
front_is_mark _ = true

all-fronts : list_all (λ (entry : List ℕ × TokenKind). front_is_mark entry.0) marks ≡ true
unfolding mark_of
all-fronts = refl

mark-front : (b c d : ℕ) (kind : TokenKind) → mark_of (b ∷ (c ∷ (d ∷ []))) ≡ Some kind → is_some (mark_of (b ∷ (c ∷ []))) ≡ true
mark-front b c d kind is = mark-passes front_is_mark (b ∷ (c ∷ (d ∷ []))) kind all-fronts is

-- no mark opens a comment
abbrev front_opens_none : List ℕ → Bool
front_opens_none (b ∷ (c ∷ bytes)) = not (opens_comment (b ∷ (c ∷ [])))
front_opens_none _ = true

mark-opens : (b c : ℕ) (bytes : List ℕ) (kind : TokenKind) → mark_of (b ∷ (c ∷ bytes)) ≡ Some kind → opens_comment (b ∷ (c ∷ [])) ≡ false
mark-opens b c bytes kind is = not-true (opens_comment (b ∷ (c ∷ []))) (mark-passes front_opens_none (b ∷ (c ∷ bytes)) kind refl is)

is-none : {A : Type 0} (found : Option A) → is_some found ≡ false → found ≡ None
is-none None none = refl
is-none (Some x) none = cc

none-is : {A : Type 0} (found : Option A) → found ≡ None → is_some found ≡ false
none-is None none = refl
none-is (Some x) none = cc

no-three : (b c d : ℕ) (found : Option TokenKind) → mark_of (b ∷ (c ∷ (d ∷ []))) ≡ found → is_some (mark_of (b ∷ (c ∷ []))) ≡ false → found ≡ None
no-three b c d None is none = refl
no-three b c d (Some kind) is none = absurd (both_ways _ none (mark-front b c d kind is))

-- A mark that is written at the front is the longest one there.

short-one : (kind : TokenKind) (b : ℕ) (rest : List ℕ) → mark_of (b ∷ []) ≡ Some kind → goes_on (b ∷ []) rest ≡ false
    → short_mark b rest ≡ Some (kind, rest)
short-one kind b [] mark longest = ap (λ m. or_else m [] None) mark
short-one kind b (c ∷ rest) mark longest =
    let none : mark_of (b ∷ (c ∷ [])) ≡ None = is-none _ (or_parts (is_some (mark_of (b ∷ (c ∷ [])))) _ longest).0 in
    ap (λ m. or_else m rest (or_else (mark_of (b ∷ [])) (c ∷ rest) None)) none ∙ ap (λ m. or_else m (c ∷ rest) None) mark

longest-one : (kind : TokenKind) (b : ℕ) (rest : List ℕ) → mark_of (b ∷ []) ≡ Some kind → goes_on (b ∷ []) rest ≡ false
    → longest_mark (b ∷ rest) ≡ Some (kind, rest)
longest-one kind b [] mark longest = short-one kind b [] mark longest
longest-one kind b (c ∷ []) mark longest = short-one kind b (c ∷ []) mark longest
longest-one kind b (c ∷ (d ∷ rest)) mark longest =
    let none : mark_of (b ∷ (c ∷ (d ∷ []))) ≡ None = no-three b c d _ refl (or_parts (is_some (mark_of (b ∷ (c ∷ [])))) _ longest).0 in
    ap (λ m. or_else m rest (short_mark b (c ∷ (d ∷ rest)))) none ∙ short-one kind b (c ∷ (d ∷ rest)) mark longest

short-two : (kind : TokenKind) (b c : ℕ) (rest : List ℕ) → mark_of (b ∷ (c ∷ [])) ≡ Some kind → short_mark b (c ∷ rest) ≡ Some (kind, rest)
short-two kind b c rest mark = ap (λ m. or_else m rest (or_else (mark_of (b ∷ [])) (c ∷ rest) None)) mark

longest-two : (kind : TokenKind) (b c : ℕ) (rest : List ℕ) → mark_of (b ∷ (c ∷ [])) ≡ Some kind → goes_on (b ∷ (c ∷ [])) rest ≡ false
    → longest_mark (b ∷ (c ∷ rest)) ≡ Some (kind, rest)
longest-two kind b c [] mark longest = short-two kind b c [] mark
longest-two kind b c (d ∷ rest) mark longest =
    let none : mark_of (b ∷ (c ∷ (d ∷ []))) ≡ None = is-none _ (or_parts (is_some (mark_of (b ∷ (c ∷ (d ∷ []))))) _ longest).0 in
    ap (λ m. or_else m rest (short_mark b (c ∷ (d ∷ rest)))) none ∙ short-two kind b c (d ∷ rest) mark

longest-three : (kind : TokenKind) (b c d : ℕ) (rest : List ℕ) → mark_of (b ∷ (c ∷ (d ∷ []))) ≡ Some kind → longest_mark (b ∷ (c ∷ (d ∷ rest))) ≡ Some (kind, rest)
longest-three kind b c d rest mark = ap (λ m. or_else m rest (short_mark b (c ∷ (d ∷ rest)))) mark

plain-one : (b : ℕ) (rest : List ℕ) → goes_on (b ∷ []) rest ≡ false → mark_at (b ∷ rest) ≡ longest_mark (b ∷ rest)
plain-one b [] longest = refl
plain-one b (c ∷ rest) longest = cond-false _ _ _ (or_parts (is_some (mark_of (b ∷ (c ∷ [])))) _ longest).1

plain-two : (b c : ℕ) (rest : List ℕ) → opens_comment (b ∷ (c ∷ [])) ≡ false → mark_at (b ∷ (c ∷ rest)) ≡ longest_mark (b ∷ (c ∷ rest))
plain-two b c rest plain = cond-false _ _ _ plain

pub mark_at-is : (kind : TokenKind) (rest written : List ℕ) → IsMark kind written rest → mark_at (written ++ rest) ≡ Some (kind, rest)
mark_at-is kind rest [] token = let none : has_mark_length [] ≡ true = mark-length [] kind token.mark in cc
mark_at-is kind rest (b ∷ []) token = plain-one b rest token.longest ∙ longest-one kind b rest token.mark token.longest
mark_at-is kind rest (b ∷ (c ∷ [])) token =
    plain-two b c rest (mark-opens b c [] kind token.mark) ∙ longest-two kind b c rest token.mark token.longest
mark_at-is kind rest (b ∷ (c ∷ (d ∷ []))) token =
    plain-two b c (d ∷ rest) (mark-opens b c (d ∷ []) kind token.mark) ∙ longest-three kind b c d rest token.mark
mark_at-is kind rest (b ∷ (c ∷ (d ∷ (e ∷ written)))) token =
    let none : has_mark_length (b ∷ (c ∷ (d ∷ (e ∷ written)))) ≡ true = mark-length (b ∷ (c ∷ (d ∷ (e ∷ written)))) kind token.mark in cc

-- The longest mark at the front is written there.

pub record HasMark (kind : TokenKind) (rest bytes : List ℕ) : Type 0 where
  pub written : List ℕ
  pub is : bytes ≡ written ++ rest
  pub mark : IsMark kind written rest

or_else-some : (found : Option TokenKind) (rest : List ℕ) (later : Option (TokenKind × List ℕ)) (kind : TokenKind) (behind : List ℕ) (Goal : Type 0)
    → (found ≡ Some kind → behind ≡ rest → Goal) → (found ≡ None → later ≡ Some (kind, behind) → Goal)
    → or_else found rest later ≡ Some (kind, behind) → Goal
or_else-some None rest later kind behind Goal here there is = there refl is
or_else-some (Some other) rest later kind behind Goal here there is =
    let pair : (other, rest) ≡ (kind, behind) = let all : Some (other, rest) ≡ Some (kind, behind) = is in cc in
    here (ap (λ (t : TokenKind × List ℕ). Some t.0) pair) (ap (λ (t : TokenKind × List ℕ). t.1) (sym pair))

-- a comment is opened by two bytes
opens-three : (b c d : ℕ) → opens_comment (b ∷ (c ∷ (d ∷ []))) ≡ false
opens-three b c d =
    not-so _ (λ opens. three-are-not-two b c d _ refl opens)
  where
    three-are-not-two : (b c d : ℕ) (hyphens : Bool) → bytes_eq (b ∷ (c ∷ (d ∷ []))) (codes "--") ≡ hyphens
        → (hyphens || bytes_eq (b ∷ (c ∷ (d ∷ []))) (codes "/*")) ≡ true → ⊥
    three-are-not-two b c d true is opens =
        let same : b ∷ (c ∷ (d ∷ [])) ≡ 45 ∷ (45 ∷ []) = (bytes_eq-Decides (b ∷ (c ∷ (d ∷ []))) (codes "--")).0 is in cc
    three-are-not-two b c d false is opens =
        let same : b ∷ (c ∷ (d ∷ [])) ≡ 47 ∷ (42 ∷ []) = (bytes_eq-Decides (b ∷ (c ∷ (d ∷ []))) (codes "/*")).0 opens in cc

opens-four : (b c d e : ℕ) → opens_comment (b ∷ (c ∷ (d ∷ (e ∷ [])))) ≡ false
opens-four b c d e =
    not-so _ (λ opens. four-are-not-two b c d e _ refl opens)
  where
    four-are-not-two : (b c d e : ℕ) (hyphens : Bool) → bytes_eq (b ∷ (c ∷ (d ∷ (e ∷ [])))) (codes "--") ≡ hyphens
        → (hyphens || bytes_eq (b ∷ (c ∷ (d ∷ (e ∷ [])))) (codes "/*")) ≡ true → ⊥
    four-are-not-two b c d e true is opens =
        let same : b ∷ (c ∷ (d ∷ (e ∷ []))) ≡ 45 ∷ (45 ∷ []) = (bytes_eq-Decides (b ∷ (c ∷ (d ∷ (e ∷ [])))) (codes "--")).0 is in cc
    four-are-not-two b c d e false is opens =
        let same : b ∷ (c ∷ (d ∷ (e ∷ []))) ≡ 47 ∷ (42 ∷ []) = (bytes_eq-Decides (b ∷ (c ∷ (d ∷ (e ∷ [])))) (codes "/*")).0 opens in cc

no-four : (b c d e : ℕ) (found : Option TokenKind) → mark_of (b ∷ (c ∷ (d ∷ (e ∷ [])))) ≡ found → is_some found ≡ false
no-four b c d e None is = refl
no-four b c d e (Some kind) is = let none : has_mark_length (b ∷ (c ∷ (d ∷ (e ∷ [])))) ≡ true = mark-length (b ∷ (c ∷ (d ∷ (e ∷ [])))) kind is in cc

neither : (s t : Bool) → s ≡ false → t ≡ false → (s || t) ≡ false
neither true t first second = first
neither false t first second = second

ends-three : (b c d : ℕ) (rest : List ℕ) → goes_on (b ∷ (c ∷ (d ∷ []))) rest ≡ false
ends-three b c d [] = refl
ends-three b c d (e ∷ rest) = neither _ _ (no-four b c d e _ refl) (opens-four b c d e)

ends-two : (b c : ℕ) (rest : List ℕ) → begins (λ d. is_some (mark_of (b ∷ (c ∷ (d ∷ []))))) rest ≡ false → goes_on (b ∷ (c ∷ [])) rest ≡ false
ends-two b c [] none = refl
ends-two b c (d ∷ rest) none = neither _ _ none (opens-three b c d)

ends-one : (b : ℕ) (rest : List ℕ) → begins (λ c. is_some (mark_of (b ∷ (c ∷ [])))) rest ≡ false → begins (λ c. opens_comment (b ∷ (c ∷ []))) rest ≡ false
    → goes_on (b ∷ []) rest ≡ false
ends-one b [] none plain = refl
ends-one b (c ∷ rest) none plain = neither _ _ none plain

abbrev tail_of : List ℕ → List ℕ
tail_of [] = []
tail_of (b ∷ bytes) = bytes

short-written : (kind : TokenKind) (rest : List ℕ) (b : ℕ) (bytes : List ℕ) → begins (λ c. opens_comment (b ∷ (c ∷ []))) bytes ≡ false
    → begins (λ c. begins (λ d. is_some (mark_of (b ∷ (c ∷ (d ∷ []))))) (tail_of bytes)) bytes ≡ false
    → short_mark b bytes ≡ Some (kind, rest) → HasMark kind rest (b ∷ bytes)
short-written kind rest b [] plain none is =
    or_else-some (mark_of (b ∷ [])) [] None kind rest _
    (λ mark same. record {
      written = b ∷ [];
      is = ap (λ xs. b ∷ xs) (sym same);
      mark = record { mark = mark; longest = ap (goes_on (b ∷ [])) same };
    })
    (λ other later. cc) is
short-written kind rest b (c ∷ bytes) plain none is =
    or_else-some (mark_of (b ∷ (c ∷ []))) bytes (or_else (mark_of (b ∷ [])) (c ∷ bytes) None) kind rest _
    (λ mark same. record {
      written = b ∷ (c ∷ []);
      is = ap (λ xs. b ∷ (c ∷ xs)) (sym same);
      mark = record { mark = mark; longest = ap (goes_on (b ∷ (c ∷ []))) same ∙ ends-two b c bytes none };
    })
    (λ other later. or_else-some (mark_of (b ∷ [])) (c ∷ bytes) None kind rest _
    (λ mark same. record {
      written = b ∷ [];
      is = ap (λ xs. b ∷ xs) (sym same);
      mark = record { mark = mark; longest = ap (goes_on (b ∷ [])) same ∙ ends-one b (c ∷ bytes) (none-is _ other) plain };
    })
    (λ nothing last. cc) later) is

longest-written : (kind : TokenKind) (rest : List ℕ) (b : ℕ) (bytes : List ℕ) → begins (λ c. opens_comment (b ∷ (c ∷ []))) bytes ≡ false
    → longest_mark (b ∷ bytes) ≡ Some (kind, rest) → HasMark kind rest (b ∷ bytes)
longest-written kind rest b [] plain is = short-written kind rest b [] plain refl is
longest-written kind rest b (c ∷ []) plain is = short-written kind rest b (c ∷ []) plain refl is
longest-written kind rest b (c ∷ (d ∷ bytes)) plain is =
    or_else-some (mark_of (b ∷ (c ∷ (d ∷ [])))) bytes (short_mark b (c ∷ (d ∷ bytes))) kind rest _
    (λ mark same. record {
      written = b ∷ (c ∷ (d ∷ []));
      is = ap (λ xs. b ∷ (c ∷ (d ∷ xs))) (sym same);
      mark = record { mark = mark; longest = ends-three b c d rest };
    })
    (λ other later. short-written kind rest b (c ∷ (d ∷ bytes)) plain (none-is _ other) later) is

mark-two : (kind : TokenKind) (rest : List ℕ) (b c : ℕ) (bytes : List ℕ) (opens : Bool) → opens_comment (b ∷ (c ∷ [])) ≡ opens
    → cond opens None (longest_mark (b ∷ (c ∷ bytes))) ≡ Some (kind, rest) → HasMark kind rest (b ∷ (c ∷ bytes))
mark-two kind rest b c bytes true tested is = cc
mark-two kind rest b c bytes false tested is = longest-written kind rest b (c ∷ bytes) tested is

pub mark_at-written : (kind : TokenKind) (rest bytes : List ℕ) → mark_at bytes ≡ Some (kind, rest) → HasMark kind rest bytes
mark_at-written kind rest [] is = cc
mark_at-written kind rest (b ∷ []) is = longest-written kind rest b [] refl is
mark_at-written kind rest (b ∷ (c ∷ bytes)) is = mark-two kind rest b c bytes (opens_comment (b ∷ (c ∷ []))) refl is

-- A mark begins with a byte that begins nothing else.
abbrev pub is_plain : ℕ → Bool
is_plain b = not (is_symbol_byte b || (is_quote b || ((b == 10) || ((b == 59) || (is_blank b || (b == 13))))))

pub mark-plain : (bytes : List ℕ) (kind : TokenKind) → mark_of bytes ≡ Some kind → begins is_plain bytes ≡ true
mark-plain bytes kind is = mark-passes (begins is_plain) bytes kind refl is

-- Two bytes that open no comment of either kind.
two-bytes : (b c first second : ℕ) → ((b == first) && (c == second)) ≡ true → (b ≡ first) × (c ≡ second)
two-bytes b c first second is =
    let both : ((b == first) ≡ true) × ((c == second) ≡ true) = and_parts (b == first) (c == second) is in
    (eqb-true b first both.0, eqb-true c second both.1)

no-opening : (b c : ℕ) (first second : ℕ) → opens_comment (first ∷ (second ∷ [])) ≡ true → opens_comment (b ∷ (c ∷ [])) ≡ false
    → ((b == first) && (c == second)) ≡ false
no-opening b c first second opens none = not-so _ (λ is.
    let same : (b ≡ first) × (c ≡ second) = two-bytes b c first second is in
    both_ways (opens_comment (b ∷ (c ∷ []))) none
    (ap (λ x. opens_comment (x ∷ (c ∷ []))) same.0 ∙ ap (λ y. opens_comment (first ∷ (y ∷ []))) same.1 ∙ opens))

no-comment : (b c : ℕ) (bytes : List ℕ) → opens_comment (b ∷ (c ∷ [])) ≡ false → comment_at (b ∷ (c ∷ bytes)) ≡ None
no-comment b c bytes none = cond-false _ _ _ (no-opening b c 47 42 refl none) ∙ cond-false _ _ _ (no-opening b c 45 45 refl none)

mark-one_no_comment : (b : ℕ) (rest : List ℕ) → goes_on (b ∷ []) rest ≡ false → comment_at (b ∷ rest) ≡ None
mark-one_no_comment b [] longest = refl
mark-one_no_comment b (c ∷ rest) longest = no-comment b c rest (or_parts (is_some (mark_of (b ∷ (c ∷ [])))) _ longest).1

-- no comment begins at a mark
pub mark-no_comment : (kind : TokenKind) (rest written : List ℕ) → IsMark kind written rest → comment_at (written ++ rest) ≡ None
mark-no_comment kind rest [] token = let none : has_mark_length [] ≡ true = mark-length [] kind token.mark in cc
mark-no_comment kind rest (b ∷ []) token = mark-one_no_comment b rest token.longest
mark-no_comment kind rest (b ∷ (c ∷ written)) token = no-comment b c (written ++ rest) (mark-opens b c written kind token.mark)
