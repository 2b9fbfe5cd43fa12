-- Words that stand in a row, and the line of the one in the line of the other.
use Rattle.std.proofs.Common.{inl, inr, cond, subst, zero-add, add_assoc, ◌≡◌, ℕ, zero, suc, ◌+◌, ◌-◌, ◌<◌, ◌≤◌, ◌==◌, Bool, true, false, not, Option, None, Some, option_map, List, [], ◌∷◌, ◌++◌, length, get_or, take, drop, refl, sym, ap, ◌∙◌, arith, append_assoc, length-append}
use Rattle.std.specs.Prelude.{flat_map, count_by, bytes_eq}
use Rattle.std.specs.List.{list_all, starts_with}
use Rattle.std.proofs.lemmas.Bool.{cases_Bool, cases_lt, and_parts, or_parts, false≢true}
use Rattle.std.proofs.lemmas.List.{get_or-append-add, get_or_append_left}
use Rattle.std.proofs.lemmas.List.Folds.{list_all_at}
use Rattle.std.proofs.lemmas.List.Sums.{sum_by-append, sum_by-cons}
use Rattle.std.proofs.Math.Seq.{take-append-add}
use Rattle.memchr.proofs.lemmas.MatchLemmas.{OccursAt-split}
use Rattle.std.proofs.lemmas.Slice.Eq.{bytes_eq-Decides, starts_is}
use Rattle.std.proofs.lemmas.Grind.{flat_map-append}
use Rattle.memchr.specs.Find.{OccursAt, NoneBefore, FindsNeedle}
use Rattle.rx_text.specs.Blanks.{is_blank}
use Rattle.rx_wordfn.specs.Lines.{ended, line}
use Rattle.rx_wordfn.specs.Functions.{before_row}
use Rattle.rx_wordfn.specs.Words.{words}
use Rattle.rx_wordfn.proofs.WordLemmas.{plain, plain-words}

-- some words, each with a space behind it
abbrev flat : List (List ℕ) → List ℕ
flat ws = flat_map ended ws

space_is_blank : (byte : ℕ) (rest : List ℕ) → plain (byte ∷ rest) ≡ true → 0x20 ≡ byte → false ≡ true
space_is_blank byte rest h e = ap (λ b. plain (b ∷ rest)) e ∙ h

-- two words that are ended alike are one
record Same (w p xs ys : List ℕ) : Type 0 where
  pub word : w ≡ p
  pub rest : xs ≡ ys

same_more : (a : ℕ) (w p xs ys : List ℕ) → Same w p xs ys → (b : ℕ) → a ≡ b → Same (a ∷ w) (b ∷ p) xs ys
same_more a w p xs ys s b e = let words = s.word in record { word = cc; rest = s.rest }

same_ended : (w p xs ys : List ℕ) → plain w ≡ true → plain p ≡ true → w ++ (0x20 ∷ xs) ≡ p ++ (0x20 ∷ ys) → Same w p xs ys
same_ended [] [] xs ys hw hp e = record { word = refl; rest = cc }
same_ended [] (b ∷ p) xs ys hw hp e = let first : 0x20 ≡ b = cc in absurd (false≢true (space_is_blank b p hp first))
same_ended (a ∷ w) [] xs ys hw hp e = let first : 0x20 ≡ a = cc in absurd (false≢true (space_is_blank a w hw first))
same_ended (a ∷ w) (b ∷ p) xs ys hw hp e =
    let rest : w ++ (0x20 ∷ xs) ≡ p ++ (0x20 ∷ ys) = cc in
    let first : a ≡ b = cc in
    same_more a w p xs ys (same_ended w p xs ys (and_parts _ _ hw).1 (and_parts _ _ hp).1 rest) b first

flat-cons : (w : List ℕ) (ws : List (List ℕ)) → flat (w ∷ ws) ≡ w ++ (0x20 ∷ flat ws)
flat-cons w ws = append_assoc w (0x20 ∷ []) (flat ws)

-- what is left of some words whose line begins as that of a row
rest_of : (ws ps : List (List ℕ)) (after : List ℕ) → list_all plain ws ≡ true → list_all plain ps ≡ true → flat ws ≡ flat ps ++ after → (rest : List (List ℕ)) × (ws ≡ ps ++ rest)
rest_of ws [] after hw hp e = (ws, refl)
rest_of [] (p ∷ ps) after hw hp e =
    let long = ap length (e ∙ ap (λ t. t ++ after) (flat-cons p ps)) in
    absurd (omega (arith, long, length-append (p ++ (0x20 ∷ flat ps)) after, length-append p (0x20 ∷ flat ps)))
rest_of (w ∷ ws) (p ∷ ps) after hw hp e =
    let same =
    same_ended w p (flat ws) (flat ps ++ after) (and_parts _ _ hw).0 (and_parts _ _ hp).0
    (sym (flat-cons w ws) ∙ e ∙ ap (λ t. t ++ after) (flat-cons p ps) ∙ append_assoc p (0x20 ∷ flat ps) after) in
    let further = rest_of ws ps after (and_parts _ _ hw).1 (and_parts _ _ hp).1 same.rest in
    (further.0, ap (λ (v : List ℕ). v ∷ ws) same.word ∙ ap (λ (l : List (List ℕ)). p ∷ l) further.1)

-- ---- the line of a row in front of a line

occurs_front : (hay needle after : List ℕ) → hay ≡ needle ++ after → OccursAt hay needle 0
occurs_front hay needle after e = record {
  fits = omega (arith, ap length e, length-append needle after);
  reads = λ j l. ap (λ (t : List ℕ). get_or t (0 + j) 0) e ∙ ap (λ n. get_or (needle ++ after) n 0) (zero-add j) ∙ get_or_append_left needle after 0 j l;
}

line_begins : (ws ps : List (List ℕ)) → starts_with bytes_eq ws ps ≡ true → OccursAt (line ws) (line ps) 0
line_begins ws ps e =
    let parts = (starts_is bytes_eq-Decides ws ps (starts_with bytes_eq ws ps) refl).0 e in
    occurs_front (line ws) (line ps) (flat (drop (length ps) ws))
    (ap line parts ∙ ap (λ (t : List ℕ). 0x20 ∷ t) (flat_map-append ended ps (drop (length ps) ws)))

tail_same : (xs ys : List ℕ) → 0x20 ∷ xs ≡ 0x20 ∷ ys → xs ≡ ys
tail_same xs ys e = cc

words_begin : (ws ps : List (List ℕ)) → list_all plain ws ≡ true → list_all plain ps ≡ true → OccursAt (line ws) (line ps) 0 → starts_with bytes_eq ws ps ≡ true
words_begin ws ps hw hp occurs =
    let after = drop (0 + length (line ps)) (line ws) in
    let rest = rest_of ws ps after hw hp (tail_same (flat ws) (flat ps ++ after) (OccursAt-split (line ws) (line ps) 0 occurs)) in
    (starts_is bytes_eq-Decides ws ps (starts_with bytes_eq ws ps) refl).1 rest.0 rest.1

-- ---- a place behind a front part

occurs_on : (hay front rest needle : List ℕ) (k : ℕ) → hay ≡ front ++ rest → OccursAt rest needle k → OccursAt hay needle (length front + k)
occurs_on hay front rest needle k e occurs = record {
  fits = omega (arith, ap length e, length-append front rest, occurs.fits);
  reads = λ j l.
      ap (λ (t : List ℕ). get_or t (length front + k + j) 0) e ∙ ap (λ n. get_or (front ++ rest) n 0) (add_assoc (length front) k j) ∙
      get_or-append-add front rest (k + j) 0 ∙ occurs.reads j l;
}

occurs_back : (hay front rest needle : List ℕ) (k : ℕ) → hay ≡ front ++ rest → OccursAt hay needle (length front + k) → OccursAt rest needle k
occurs_back hay front rest needle k e occurs = record {
  fits = omega (arith, ap length e, length-append front rest, occurs.fits);
  reads = λ j l.
      sym (get_or-append-add front rest (k + j) 0) ∙ ap (λ n. get_or (front ++ rest) n 0) (sym (add_assoc (length front) k j)) ∙
      ap (λ (t : List ℕ). get_or t (length front + k + j) 0) (sym e) ∙ occurs.reads j l;
}

-- no line of a row begins within a word
not_within : (hay w rest more : List ℕ) (i : ℕ) → plain w ≡ true → hay ≡ (0x20 ∷ w) ++ rest → i < length w → OccursAt hay (0x20 ∷ more) (suc i) → ⊥
not_within hay w rest more i hw e l occurs =
    let read : get_or hay (suc i + 0) 0 ≡ 0x20 = occurs.reads 0 (omega arith) in
    let place : suc i + 0 ≡ suc i = omega arith in
    let byte : get_or w i 0 ≡ 0x20 =
    sym (get_or_append_left (0x20 ∷ w) rest 0 (suc i) (omega arith)) ∙ ap (λ (t : List ℕ). get_or t (suc i) 0) (sym e) ∙
    ap (λ n. get_or hay n 0) (sym place) ∙ read in
    false≢true (sym (list_all_at (λ b. not (is_blank b)) w i 0 l (ap (λ b. not (is_blank b)) byte)) ∙ hw)

-- ---- how many spaces stand in front of a place

abbrev pub is_space : ℕ → Bool
is_space byte = byte == 0x20

abbrev pub spaces_before : List ℕ → ℕ → ℕ
spaces_before line k = count_by is_space (take k line)

not_space : (byte : ℕ) → is_blank byte ≡ false → is_space byte ≡ false
not_space byte e = (or_parts _ _ e).0

not_blank : (byte : ℕ) → not (is_blank byte) ≡ true → is_blank byte ≡ false
not_blank byte e = grind arith

spaces-plain : (w : List ℕ) → plain w ≡ true → count_by is_space w ≡ 0
spaces-plain [] h = refl
spaces-plain (byte ∷ w) h =
    let rest : count_by is_space w ≡ 0 = spaces-plain w (and_parts _ _ h).1 in
    let first : cond (is_space byte) 1 0 ≡ 0 =
    ap {B = ℕ} (λ (b : Bool). cond b 1 0) (not_space byte (not_blank byte (and_parts _ _ h).0)) in
    sum_by-cons (λ b. cond (is_space b) 1 0) byte w ∙ omega (arith, first, rest)

spaces-on : (hay w rest : List ℕ) (k : ℕ) → plain w ≡ true → hay ≡ (0x20 ∷ w) ++ rest → spaces_before hay (suc (length w) + k) ≡ spaces_before rest k + 1
spaces-on hay w rest k hw e =
    ap (λ (t : List ℕ). spaces_before t (suc (length w) + k)) e ∙
    ap (count_by is_space) (take-append-add (0x20 ∷ w) rest k) ∙
    sum_by-append (λ b. cond (is_space b) 1 0) (0x20 ∷ w) (take k rest) ∙
    omega (arith, sum_by-cons (λ b. cond (is_space b) 1 0) 0x20 w, spaces-plain w hw)

-- ---- the first place

line-cons : (w : List ℕ) (ws : List (List ℕ)) → line (w ∷ ws) ≡ (0x20 ∷ w) ++ line ws
line-cons w ws = ap (λ (t : List ℕ). 0x20 ∷ t) (flat-cons w ws)

-- The words of a row are found by their lines: so many words stand in front of them as spaces in front of the row's line.
abbrev FoundBy : List (List ℕ) → List (List ℕ) → Type 0
FoundBy ps ws = (r : Option ℕ) → FindsNeedle (line ws) (line ps) 0 r → option_map (spaces_before (line ws)) r ≡ before_row ps ws

too_short : (ps : List (List ℕ)) (k : ℕ) → 0 < length ps → k + length (line ps) ≤ 1 → ⊥
too_short [] k some h = omega arith
too_short (p ∷ ps) k some h = omega (arith, ap length (line-cons p ps), length-append (0x20 ∷ p) (line ps))

found-here : (ps ws : List (List ℕ)) (w : List ℕ) → starts_with bytes_eq (w ∷ ws) ps ≡ true → FoundBy ps (w ∷ ws)
found-here ps ws w e None h = absurd (h 0 (omega arith) (omega arith) (line_begins (w ∷ ws) ps e))
found-here ps ws w e (Some zero) h = rw e
found-here ps ws w e (Some (suc k)) h = absurd (h.0.before 0 (omega arith) (omega arith) (line_begins (w ∷ ws) ps e))

not_in_word : (ps ws : List (List ℕ)) (w : List ℕ) (k : ℕ) → plain w ≡ true → k < suc (length w) → (OccursAt (line (w ∷ ws)) (line ps) 0 → ⊥) → OccursAt (line (w ∷ ws)) (line ps) k → ⊥
not_in_word ps ws w zero hw below not_here occurs = not_here occurs
not_in_word ps ws w (suc i) hw below not_here occurs =
    not_within (line (w ∷ ws)) w (line ws) (flat ps) i hw (line-cons w ws) (omega arith) occurs

found-behind : (ps ws : List (List ℕ)) (w : List ℕ) (k i : ℕ) → plain w ≡ true → k ≡ suc (length w) + i → starts_with bytes_eq (w ∷ ws) ps ≡ false → FoundBy ps ws → NoneBefore (OccursAt (line (w ∷ ws)) (line ps)) 0 (length (line (w ∷ ws)) + 1) k × OccursAt (line (w ∷ ws)) (line ps) k → option_map (spaces_before (line (w ∷ ws))) (Some k) ≡ before_row ps (w ∷ ws)
found-behind ps ws w k i hw same e further h =
    let P : ℕ → Type 0 = λ n. OccursAt (line (w ∷ ws)) (line ps) n in
    let occurs = occurs_back (line (w ∷ ws)) (0x20 ∷ w) (line ws) (line ps) i (line-cons w ws) (subst P same h.1) in
    let fits = occurs.fits in
    let later =
    further (Some i) (
      record {
        low = omega arith;
        high = omega arith;
        before = λ j low high earlier.
            h.0.before (suc (length w) + j) (omega arith) (omega arith)
            (occurs_on (line (w ∷ ws)) (0x20 ∷ w) (line ws) (line ps) j (line-cons w ws) earlier);
      },
      occurs,
    ) in
    rw e (ap (λ (n : ℕ). Some (spaces_before (line (w ∷ ws)) n)) same ∙
    ap (λ (n : ℕ). Some n) (spaces-on (line (w ∷ ws)) w (line ws) i hw (line-cons w ws)) ∙
    ap (option_map (λ count. count + 1)) later)

found-later : (ps ws : List (List ℕ)) (w : List ℕ) → plain w ≡ true → starts_with bytes_eq (w ∷ ws) ps ≡ false → (OccursAt (line (w ∷ ws)) (line ps) 0 → ⊥) → FoundBy ps ws → FoundBy ps (w ∷ ws)
found-later ps ws w hw e not_here further None h =
    let long = ap length (line-cons w ws) ∙ length-append (0x20 ∷ w) (line ws) in
    let later =
    further None (λ i low high occurs.
    h (suc (length w) + i) (omega arith) (omega (arith, long)) (occurs_on (line (w ∷ ws)) (0x20 ∷ w) (line ws) (line ps) i (line-cons w ws) occurs)) in
    rw e (ap (option_map (λ count. count + 1)) later)
found-later ps ws w hw e not_here further (Some k) h =
    elim (cases_lt k (suc (length w))) [
      | inl within ↦ absurd (not_in_word ps ws w k hw within not_here h.1)
      | inr behind ↦ found-behind ps ws w k (k - suc (length w)) hw (omega arith) e further h
    ]

pub found : (ps ws : List (List ℕ)) → list_all plain ps ≡ true → 0 < length ps → list_all plain ws ≡ true → FoundBy ps ws
found ps [] hp some hw None h = refl
found ps [] hp some hw (Some k) h = absurd (too_short ps k some h.1.fits)
found ps (w ∷ ws) hp some hw r h =
    let further = found ps ws hp some (and_parts _ _ hw).1 in
    elim (cases_Bool (starts_with bytes_eq (w ∷ ws) ps)) [
      | inl here ↦ found-here ps ws w here r h
      | inr later ↦ found-later ps ws w (and_parts _ _ hw).0 later (λ occurs. false≢true (sym later ∙ words_begin (w ∷ ws) ps hw hp occurs)) further r h
    ]

below_by : (ps ws : List (List ℕ)) (w : List ℕ) (k : ℕ) (test : Bool) → starts_with bytes_eq (w ∷ ws) ps ≡ test → (r : Option ℕ) → before_row ps ws ≡ r → ((i : ℕ) → before_row ps ws ≡ Some i → i < length ws) → before_row ps (w ∷ ws) ≡ Some k → k < length (w ∷ ws)
below_by ps ws w k true e r er further h = let first : Some 0 ≡ Some k = rw e at h in let zero_is : 0 ≡ k = cc in omega arith
below_by ps ws w k false e None er further h = let later : None ≡ Some k = rw (e, er) at h in cc
below_by ps ws w k false e (Some i) er further h =
    let later : Some (i + 1) ≡ Some k = rw (e, er) at h in
    let next : i + 1 ≡ k = cc in
    omega (arith, further i er)

-- a row that is found is in front of a word
pub before_row-below : (ps ws : List (List ℕ)) (k : ℕ) → before_row ps ws ≡ Some k → k < length ws
before_row-below ps [] k e = cc
before_row-below ps (w ∷ ws) k e = below_by ps ws w k (starts_with bytes_eq (w ∷ ws) ps) refl (before_row ps ws) refl (before_row-below ps ws) e

-- the same for the words of two texts
pub found_lines : (phrase text hay needle : List ℕ) → hay ≡ line (words text) → needle ≡ line (words phrase) → 0 < length (words phrase) → (r : Option ℕ) → FindsNeedle hay needle 0 r → option_map (spaces_before hay) r ≡ before_row (words phrase) (words text)
found_lines phrase text hay needle same_hay same_needle some r =
    let P : List ℕ → List ℕ → Type 0 = λ h n. FindsNeedle h n 0 r → option_map (spaces_before h) r ≡ before_row (words phrase) (words text) in
    subst (λ (h : List ℕ). P h needle) (sym same_hay)
    (subst (λ (n : List ℕ). P (line (words text)) n) (sym same_needle)
    (found (words phrase) (words text) (plain-words phrase) some (plain-words text) r))
