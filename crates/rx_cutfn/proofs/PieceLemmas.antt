-- The pieces of a text between a needle's places, by the first place, and how long they are together.
use Rattle.std.proofs.Common.{◌≡◌, ℕ, zero, suc, ◌+◌, ◌-◌, ◌*◌, ◌<◌, ◌≤◌, true, false, List, [], ◌∷◌, ◌++◌, length, take, drop, refl, sym, ap, subst, ◌∙◌, arith, inl, inr, append_assoc}
use Rattle.std.proofs.Common.{flat_map, Some, None}
use Rattle.std.proofs.lemmas.Bool.{cond-true, cond-false, cases_Bool, ne_eqb, false≢true}
use Rattle.std.proofs.lemmas.List.{append-nil, drop-drop, length-append, take-append-drop}
use Rattle.std.proofs.lemmas.Slice.Eq.{bytes_eq-Decides}
use Rattle.std.proofs.Math.Nat.{mul-zero}
use Rattle.std.specs.List.{concat}
use Rattle.memchr.specs.Find.{FindsNeedle}
use Rattle.rx_cutfn.specs.Places.{begins_with}
use Rattle.rx_cutfn.specs.Replacing.{with_byte, pieces_behind, pieces, joined, countstr}
use Rattle.rx_cutfn.proofs.PlaceLemmas.{begins_with_true, begins_with_false}

-- ---- one step of the definition

pieces_nil : (needle : List ℕ) (skip : ℕ) → pieces_behind needle skip [] ≡ [] ∷ []
unfolding pieces_behind
pieces_nil needle skip = refl

pieces_skip : (needle : List ℕ) (skip byte : ℕ) (rest : List ℕ) → pieces_behind needle (suc skip) (byte ∷ rest) ≡ pieces_behind needle skip rest
unfolding pieces_behind
pieces_skip needle skip byte rest = refl

pieces_hit : (needle : List ℕ) (byte : ℕ) (rest : List ℕ) → begins_with (byte ∷ rest) needle ≡ true → pieces_behind needle 0 (byte ∷ rest) ≡ [] ∷ pieces_behind needle (length needle - 1) rest
unfolding pieces_behind
pieces_hit needle byte rest begins =
    cond-true (begins_with (byte ∷ rest) needle) ([] ∷ pieces_behind needle (length needle - 1) rest) (with_byte byte (pieces_behind needle 0 rest)) begins

pieces_miss : (needle : List ℕ) (byte : ℕ) (rest : List ℕ) → begins_with (byte ∷ rest) needle ≡ false → pieces_behind needle 0 (byte ∷ rest) ≡ with_byte byte (pieces_behind needle 0 rest)
unfolding pieces_behind
pieces_miss needle byte rest differs =
    cond-false (begins_with (byte ∷ rest) needle) ([] ∷ pieces_behind needle (length needle - 1) rest) (with_byte byte (pieces_behind needle 0 rest)) differs

-- bytes of a needle are passed over
pieces_passed : (needle : List ℕ) (skip : ℕ) (text : List ℕ) → pieces_behind needle skip text ≡ pieces_behind needle 0 (drop skip text)
pieces_passed needle zero text = refl
pieces_passed needle (suc skip) [] = pieces_nil needle (suc skip) ∙ sym (pieces_nil needle 0)
pieces_passed needle (suc skip) (byte ∷ rest) = pieces_skip needle skip byte rest ∙ pieces_passed needle skip rest

pub pieces_of : (needle text : List ℕ) → 0 < length needle → pieces needle text ≡ pieces_behind needle 0 text
pieces_of needle text some =
    cond-false _ (text ∷ []) (pieces_behind needle 0 text) (ne_eqb (length needle) 0 (λ none. omega arith))

-- ---- by the first place

no_needle_in_nil : (needle : List ℕ) (at : ℕ) → 0 < length needle → begins_with (drop at []) needle ≡ true → ⊥
no_needle_in_nil [] at some begins = omega arith
no_needle_in_nil (c ∷ cs) zero some begins = false≢true begins
no_needle_in_nil (c ∷ cs) (suc at) some begins = false≢true begins

behind_needle : (needle : List ℕ) (byte : ℕ) (rest : List ℕ) → 0 < length needle → pieces_behind needle (length needle - 1) rest ≡ pieces_behind needle 0 (drop (length needle) (byte ∷ rest))
behind_needle [] byte rest some = absurd (omega arith)
behind_needle (c ∷ cs) byte rest some =
    let same : suc (length cs) - 1 ≡ length cs = omega arith in
    ap (λ n. pieces_behind (c ∷ cs) n rest) same ∙ pieces_passed (c ∷ cs) (length cs) rest

pieces_at : (needle text : List ℕ) (at : ℕ) → 0 < length needle → ((j : ℕ) → j < at → begins_with (drop j text) needle ≡ false) → begins_with (drop at text) needle ≡ true → pieces_behind needle 0 text ≡ take at text ∷ pieces_behind needle 0 (drop (at + length needle) text)
pieces_at needle [] at some fails holds = absurd (no_needle_in_nil needle at some holds)
pieces_at needle (byte ∷ rest) zero some fails holds =
    let same : length needle ≡ 0 + length needle = omega arith in
    pieces_hit needle byte rest holds ∙
    ap (λ ps. [] ∷ ps) (behind_needle needle byte rest some ∙ ap (λ n. pieces_behind needle 0 (drop n (byte ∷ rest))) same)
pieces_at needle (byte ∷ rest) (suc at) some fails holds =
    let same : suc (at + length needle) ≡ suc at + length needle = omega arith in
    pieces_miss needle byte rest (fails 0 (omega arith)) ∙
    ap (with_byte byte) (pieces_at needle rest at some (λ j below. fails (suc j) (omega arith)) holds) ∙
    ap (λ n. (byte ∷ take at rest) ∷ pieces_behind needle 0 (drop n (byte ∷ rest))) same

pieces_alone : (needle text : List ℕ) → ((j : ℕ) → j < length text → begins_with (drop j text) needle ≡ false) → pieces_behind needle 0 text ≡ text ∷ []
pieces_alone needle [] fails = pieces_nil needle 0
pieces_alone needle (byte ∷ rest) fails =
    pieces_miss needle byte rest (fails 0 (omega arith)) ∙
    ap (with_byte byte) (pieces_alone needle rest (λ j below. fails (suc j) (omega arith)))

pub pieces_found : (needle text : List ℕ) (at : ℕ) → 0 < length needle → FindsNeedle text needle 0 (Some at) → pieces_behind needle 0 text ≡ take at text ∷ pieces_behind needle 0 (drop (at + length needle) text)
pieces_found needle text at some found =
    pieces_at needle text at some
    (λ j below. begins_with_false text needle j some (found.0.before j (omega arith) below))
    (begins_with_true text needle at found.1)

pub pieces_not_found : (needle text : List ℕ) → 0 < length needle → FindsNeedle text needle 0 None → pieces_behind needle 0 text ≡ text ∷ []
pieces_not_found needle text some found =
    pieces_alone needle text (λ j below. begins_with_false text needle j some (found j (omega arith) (omega arith)))

-- ---- the pieces joined

with_byte_joined : (between : List ℕ) (byte : ℕ) (ps : List (List ℕ)) → joined between (with_byte byte ps) ≡ byte ∷ joined between ps
with_byte_joined between byte [] = refl
with_byte_joined between byte (p ∷ ps) = refl

some_with_byte : (byte : ℕ) (ps : List (List ℕ)) → 0 < length (with_byte byte ps)
some_with_byte byte [] = omega arith
some_with_byte byte (p ∷ ps) = omega arith

pub some_piece : (needle : List ℕ) (skip : ℕ) (text : List ℕ) → 0 < length (pieces_behind needle skip text)
some_piece needle skip [] = omega (arith, ap length (pieces_nil needle skip))
some_piece needle (suc skip) (byte ∷ rest) = omega (arith, ap length (pieces_skip needle skip byte rest), some_piece needle skip rest)
some_piece needle zero (byte ∷ rest) = elim (cases_Bool (begins_with (byte ∷ rest) needle)) [
  | inl begins ↦ omega (arith, ap length (pieces_hit needle byte rest begins))
  | inr differs ↦ omega (arith, ap length (pieces_miss needle byte rest differs), some_with_byte byte (pieces_behind needle 0 rest))
]

pub joined_more : (between piece : List ℕ) (ps : List (List ℕ)) → 0 < length ps → joined between (piece ∷ ps) ≡ piece ++ (between ++ joined between ps)
joined_more between piece [] some = absurd (omega arith)
joined_more between piece (p ∷ ps) some =
    ap (λ t. piece ++ t) (append_assoc between p (flat_map (λ next. between ++ next) ps))

-- joined by the needle they are the text
joined_is : (needle : List ℕ) (skip : ℕ) (text : List ℕ) → 0 < length needle → joined needle (pieces_behind needle skip text) ≡ drop skip text
joined_is needle zero [] some = ap (joined needle) (pieces_nil needle 0)
joined_is needle (suc skip) [] some = ap (joined needle) (pieces_nil needle (suc skip))
joined_is needle (suc skip) (byte ∷ rest) some = ap (joined needle) (pieces_skip needle skip byte rest) ∙ joined_is needle skip rest some
joined_is needle zero (byte ∷ rest) some = elim (cases_Bool (begins_with (byte ∷ rest) needle)) [
  | inl begins ↦
      let front = (bytes_eq-Decides (take (length needle) (byte ∷ rest)) needle).0 begins in
      let behind = pieces_behind needle (length needle - 1) rest in
      ap (joined needle) (pieces_hit needle byte rest begins) ∙
      joined_more needle [] behind (some_piece needle (length needle - 1) rest) ∙
      ap (λ t. needle ++ t) (joined_is needle (length needle - 1) rest some ∙ one_less needle byte rest some) ∙
      ap (λ t. t ++ drop (length needle) (byte ∷ rest)) (sym front) ∙
      take-append-drop (length needle) (byte ∷ rest)
  | inr differs ↦
      ap (joined needle) (pieces_miss needle byte rest differs) ∙
      with_byte_joined needle byte (pieces_behind needle 0 rest) ∙
      ap (λ t. byte ∷ t) (joined_is needle 0 rest some)
] where
  one_less : (needle : List ℕ) (byte : ℕ) (rest : List ℕ) → 0 < length needle → drop (length needle - 1) rest ≡ drop (length needle) (byte ∷ rest)
  one_less [] byte rest some = absurd (omega arith)
  one_less (c ∷ cs) byte rest some = let same : suc (length cs) - 1 ≡ length cs = omega arith in ap (λ n. drop n rest) same

-- ---- how long

length-joined_behind : (between : List ℕ) (ps : List (List ℕ)) → length (flat_map (λ next. between ++ next) ps) ≡ length (concat ps) + length ps * length between
length-joined_behind between [] = omega arith
length-joined_behind between (p ∷ ps) =
    let a = length-append (between ++ p) (flat_map (λ next. between ++ next) ps) in
    let b = length-append between p in
    let c = length-append p (concat ps) in
    omega (arith, length-joined_behind between ps)

length-joined : (between : List ℕ) (ps : List (List ℕ)) → 0 < length ps → length (joined between ps) ≡ length (concat ps) + (length ps - 1) * length between
length-joined between [] some = absurd (omega arith)
length-joined between (p ∷ ps) some =
    let a = length-append p (flat_map (λ next. between ++ next) ps) in
    let b = length-append p (concat ps) in
    let same : suc (length ps) - 1 ≡ length ps = omega arith in
    let product : (suc (length ps) - 1) * length between ≡ length ps * length between = ap (λ n. n * length between) same in
    omega (arith, length-joined_behind between ps)

-- the text with another one in place of each place of the needle
pub length-changed : (needle text new : List ℕ) → 0 < length needle → length (joined new (pieces needle text)) + countstr needle text * length needle ≡ length text + countstr needle text * length new
unfolding countstr
length-changed needle text new some =
    let ps = pieces_behind needle 0 text in
    let by_needle = length-joined needle ps (some_piece needle 0 text) in
    let by_new = length-joined new ps (some_piece needle 0 text) in
    let is = ap length (joined_is needle 0 text some) in
    let sum : length (joined new ps) + (length ps - 1) * length needle ≡ length text + (length ps - 1) * length new = omega arith in
    subst (λ (qs : List (List ℕ)). length (joined new qs) + (length qs - 1) * length needle ≡ length text + (length qs - 1) * length new) (sym (pieces_of needle text some)) sum

pub places_fit : (needle text : List ℕ) → 0 < length needle → countstr needle text * length needle ≤ length text
places_fit needle text some =
    let whole = length-changed needle text [] some in
    let none = mul-zero (countstr needle text) in
    omega arith

-- ---- one step of joining them with another text

pub joined_found : (needle text new : List ℕ) (at : ℕ) → 0 < length needle → FindsNeedle text needle 0 (Some at) → joined new (pieces_behind needle 0 text) ≡ take at text ++ (new ++ joined new (pieces_behind needle 0 (drop (length needle) (drop at text))))
joined_found needle text new at some found =
    let behind = drop (length needle) (drop at text) in
    let same : drop (at + length needle) text ≡ behind = sym (drop-drop (length needle) at text) in
    ap (joined new) (pieces_found needle text at some found ∙ ap (λ t. take at text ∷ pieces_behind needle 0 t) same) ∙
    joined_more new (take at text) (pieces_behind needle 0 behind) (some_piece needle 0 behind)

pub joined_not_found : (needle text new : List ℕ) → 0 < length needle → FindsNeedle text needle 0 None → joined new (pieces_behind needle 0 text) ≡ text
joined_not_found needle text new some found = ap (joined new) (pieces_not_found needle text some found) ∙ append-nil text
