-- The words of a text, one after the other.
use Rattle.std.proofs.Common.{◌≡◌, ℕ, zero, suc, ◌-◌, ◌<◌, ◌≤◌, Bool, true, false, not, List, [], ◌∷◌, ◌++◌, length, get_or, take, drop, cond, nat_lt, Some, None, inl, inr, refl, sym, ap, ◌∙◌, arith, append_assoc, length-append}
use Rattle.std.specs.Prelude.{filter, position, unwrap_or}
use Rattle.std.specs.List.{slice_split, onto_first, before_first, position_or_len, list_all}
use Rattle.std.proofs.lemmas.Bool.{cases_Bool, ltb-false}
use Rattle.std.proofs.lemmas.List.{take-append-drop}
use Rattle.std.proofs.lemmas.List.Sums.{prefix_len-le-length}
use Rattle.std.proofs.Math.Seq.{drop-append_seam}
use Rattle.rx_text.proofs.BlankLemmas.{front_parts}
use Rattle.rx_text.specs.Blanks.{is_blank, without_blanks_in_front}
use Rattle.rx_wordfn.specs.Words.{has_bytes, words, from_blank, from_word}

-- ---- the first byte

place-blank : (byte : ℕ) (rest : List ℕ) → is_blank byte ≡ true → position_or_len is_blank (byte ∷ rest) ≡ 0
place-blank byte rest e = rw e

place-other : (byte : ℕ) (rest : List ℕ) → is_blank byte ≡ false → position_or_len is_blank (byte ∷ rest) ≡ suc (position_or_len is_blank rest)
place-other byte rest e = rw e (omega arith)

front-other : (byte : ℕ) (rest : List ℕ) → is_blank byte ≡ false → before_first is_blank (byte ∷ rest) ≡ byte ∷ before_first is_blank rest
front-other byte rest e = ap (λ n. take n (byte ∷ rest)) (place-other byte rest e)

front-blank : (byte : ℕ) (rest : List ℕ) → is_blank byte ≡ true → before_first is_blank (byte ∷ rest) ≡ []
front-blank byte rest e = ap (λ n. take n (byte ∷ rest)) (place-blank byte rest e)

behind-other : (byte : ℕ) (rest : List ℕ) → is_blank byte ≡ false → from_blank (byte ∷ rest) ≡ from_blank rest
behind-other byte rest e = ap (λ n. drop n (byte ∷ rest)) (place-other byte rest e)

behind-blank : (byte : ℕ) (rest : List ℕ) → is_blank byte ≡ true → from_blank (byte ∷ rest) ≡ byte ∷ rest
behind-blank byte rest e = ap (λ n. drop n (byte ∷ rest)) (place-blank byte rest e)

words-blank : (byte : ℕ) (rest : List ℕ) → is_blank byte ≡ true → words (byte ∷ rest) ≡ words rest
words-blank byte rest e = rw e

split-blank : (byte : ℕ) (rest : List ℕ) → is_blank byte ≡ true → slice_split is_blank (byte ∷ rest) ≡ [] ∷ slice_split is_blank rest
split-blank byte rest e = rw e

split-other : (byte : ℕ) (rest : List ℕ) → is_blank byte ≡ false → slice_split is_blank (byte ∷ rest) ≡ onto_first byte (slice_split is_blank rest)
split-other byte rest e = rw e

-- ---- the parts of a text: the bytes in front of its first blank, and others

record Parts (text : List ℕ) : Type 0 where
  pub others : List (List ℕ)
  pub parts : slice_split is_blank text ≡ before_first is_blank text ∷ others
  pub behind : filter has_bytes others ≡ words (from_blank text)

parts_by : (byte : ℕ) (rest : List ℕ) (test : Bool) → is_blank byte ≡ test → Parts rest → Parts (byte ∷ rest)
parts_by byte rest true e further = record {
  others = slice_split is_blank rest;
  parts = split-blank byte rest e ∙ ap (λ (w : List ℕ). w ∷ slice_split is_blank rest) (sym (front-blank byte rest e));
  behind = sym (words-blank byte rest e) ∙ ap words (sym (behind-blank byte rest e));
}
parts_by byte rest false e further = record {
  others = further.others;
  parts =
      split-other byte rest e ∙ ap (onto_first byte) further.parts ∙
      ap (λ (w : List ℕ). w ∷ further.others) (sym (front-other byte rest e));
  behind = further.behind ∙ ap words (sym (behind-other byte rest e));
}

parts_of : (text : List ℕ) → Parts text
parts_of [] = record { others = []; parts = refl; behind = refl }
parts_of (byte ∷ rest) = parts_by byte rest (is_blank byte) refl (parts_of rest)

-- ---- the words of a text that begins with one

words-other : (byte : ℕ) (rest : List ℕ) → is_blank byte ≡ false → words (byte ∷ rest) ≡ before_first is_blank (byte ∷ rest) ∷ words (from_blank (byte ∷ rest))
words-other byte rest e =
    let further = parts_of rest in
    ap (filter has_bytes) (split-other byte rest e ∙ ap (onto_first byte) further.parts) ∙
    ap (λ (ws : List (List ℕ)). (byte ∷ before_first is_blank rest) ∷ ws) (further.behind ∙ ap words (sym (behind-other byte rest e))) ∙
    ap (λ (w : List ℕ). w ∷ words (from_blank (byte ∷ rest))) (sym (front-other byte rest e))

front_stays : (byte : ℕ) (rest : List ℕ) → is_blank byte ≡ false → without_blanks_in_front (byte ∷ rest) ≡ byte ∷ rest
front_stays byte rest e = rw e

words-front_by : (byte : ℕ) (rest : List ℕ) (test : Bool) → is_blank byte ≡ test → words rest ≡ words (without_blanks_in_front rest) → words (byte ∷ rest) ≡ words (without_blanks_in_front (byte ∷ rest))
words-front_by byte rest true e further = rw e further
words-front_by byte rest false e further = ap words (sym (front_stays byte rest e))

-- blanks in front of a text are in front of its first word
pub words-front : (text : List ℕ) → words text ≡ words (without_blanks_in_front text)
words-front [] = refl
words-front (byte ∷ rest) = words-front_by byte rest (is_blank byte) refl (words-front rest)

begins_by : (first : ℕ) (more : List ℕ) (byte : ℕ) (rest : List ℕ) (test : Bool) → is_blank first ≡ test → (without_blanks_in_front more ≡ byte ∷ rest → is_blank byte ≡ false) → without_blanks_in_front (first ∷ more) ≡ byte ∷ rest → is_blank byte ≡ false
begins_by first more byte rest true e further h = further (rw e at h)
begins_by first more byte rest false e further h =
    let same : first ∷ more ≡ byte ∷ rest = rw e at h in
    let byte_same : first ≡ byte = cc in
    ap is_blank (sym byte_same) ∙ e

begins : (text : List ℕ) (byte : ℕ) (rest : List ℕ) → without_blanks_in_front text ≡ byte ∷ rest → is_blank byte ≡ false
begins [] byte rest h = cc
begins (first ∷ more) byte rest h = begins_by first more byte rest (is_blank first) refl (begins more byte rest) h

-- what the next word is, where the text without blanks in front is `front`
pub words-next : (text front : List ℕ) → without_blanks_in_front text ≡ front → 0 < length front → words text ≡ before_first is_blank front ∷ words (from_blank front)
words-next text [] e some = absurd (omega arith)
words-next text (byte ∷ rest) e some = words-front text ∙ ap words e ∙ words-other byte rest (begins text byte rest e)

pub length-next : (text front : List ℕ) → without_blanks_in_front text ≡ front → 0 < length front → 0 < length (before_first is_blank front)
length-next text [] e some = absurd (omega arith)
length-next text (byte ∷ rest) e some =
    let first = ap length (front-other byte rest (begins text byte rest e)) in
    omega arith

pub words-none : (text : List ℕ) → without_blanks_in_front text ≡ [] → words text ≡ []
words-none text e = words-front text ∙ ap words e

-- ---- the text from a word on

pub from_word-none : (count : ℕ) (text : List ℕ) → without_blanks_in_front text ≡ [] → from_word count text ≡ []
from_word-none zero text e = e
from_word-none (suc count) text e = ap (λ t. from_word count (from_blank t)) e ∙ from_word-none count [] refl

words-from_by : (count : ℕ) (text front : List ℕ) → without_blanks_in_front text ≡ front → words (from_word count (from_blank front)) ≡ drop count (words (from_blank front)) → words (from_word count (from_blank front)) ≡ drop (suc count) (words text)
words-from_by count text [] e further =
    ap words (from_word-none count [] refl) ∙ ap (drop (suc count)) (sym (words-none text e))
words-from_by count text (byte ∷ rest) e further =
    further ∙ ap (drop (suc count)) (sym (words-next text (byte ∷ rest) e (omega arith)))

-- the words from a word on
pub words-from_word : (count : ℕ) (text : List ℕ) → words (from_word count text) ≡ drop count (words text)
words-from_word zero text = sym (words-front text)
words-from_word (suc count) text =
    words-from_by count text (without_blanks_in_front text) refl (words-from_word count (from_blank (without_blanks_in_front text)))

-- a word by its number, from the words from there on
pub nth-none : (count : ℕ) (ws : List (List ℕ)) → drop count ws ≡ [] → get_or ws count [] ≡ []
nth-none zero ws e = ap (λ l. get_or l 0 []) e
nth-none (suc count) [] e = refl
nth-none (suc count) (w ∷ ws) e = nth-none count ws e

pub nth-some : (count : ℕ) (ws more : List (List ℕ)) (w : List ℕ) → drop count ws ≡ w ∷ more → get_or ws count [] ≡ w
nth-some zero ws more w e = ap (λ l. get_or l 0 []) e
nth-some (suc count) [] more w e = cc
nth-some (suc count) (v ∷ ws) more w e = nth-some count ws more w e

-- ---- there are no more words than bytes

length-filter_first : (w : List ℕ) (ws : List (List ℕ)) → length (filter has_bytes ws) ≤ length (filter has_bytes (w ∷ ws))
length-filter_first [] ws = omega arith
length-filter_first (byte ∷ w) ws = omega arith

length-words_by : (byte : ℕ) (rest : List ℕ) (test : Bool) → is_blank byte ≡ test → length (words rest) ≤ length rest → length (words (byte ∷ rest)) ≤ length (byte ∷ rest)
length-words_by byte rest true e further = omega (arith, ap length (words-blank byte rest e))
length-words_by byte rest false e further =
    let parts = parts_of rest in
    let all = ap length (words-other byte rest e) in
    let behind = ap length (parts.behind ∙ ap words (sym (behind-other byte rest e))) in
    let whole = ap (λ ws. length (filter has_bytes ws)) parts.parts in
    let kept = length-filter_first (before_first is_blank rest) parts.others in
    omega arith

pub length-words : (text : List ℕ) → length (words text) ≤ length text
length-words [] = omega arith
length-words (byte ∷ rest) = length-words_by byte rest (is_blank byte) refl (length-words rest)

-- ---- no word has a blank

abbrev pub plain : List ℕ → Bool
plain word = list_all (λ byte. not (is_blank byte)) word

plain-onto : (byte : ℕ) (ws : List (List ℕ)) → is_blank byte ≡ false → list_all plain ws ≡ true → list_all plain (onto_first byte ws) ≡ true
plain-onto byte [] e h = rw e
plain-onto byte (w ∷ ws) e h = rw e h

plain-split_by : (byte : ℕ) (rest : List ℕ) (test : Bool) → is_blank byte ≡ test → list_all plain (slice_split is_blank rest) ≡ true → list_all plain (slice_split is_blank (byte ∷ rest)) ≡ true
plain-split_by byte rest true e further = ap (list_all plain) (split-blank byte rest e) ∙ further
plain-split_by byte rest false e further = ap (list_all plain) (split-other byte rest e) ∙ plain-onto byte (slice_split is_blank rest) e further

plain-split : (text : List ℕ) → list_all plain (slice_split is_blank text) ≡ true
plain-split [] = refl
plain-split (byte ∷ rest) = plain-split_by byte rest (is_blank byte) refl (plain-split rest)

plain-filter : (ws : List (List ℕ)) → list_all plain ws ≡ true → list_all plain (filter has_bytes ws) ≡ true
plain-filter [] h = refl
plain-filter ([] ∷ ws) h = plain-filter ws h
plain-filter ((byte ∷ w) ∷ ws) h = grind (arith, plain-filter ws)

pub plain-words : (text : List ℕ) → list_all plain (words text) ≡ true
plain-words text = plain-filter (slice_split is_blank text) (plain-split text)

-- ---- the text from a word on is an end of the text

pub record IsEnd (part text : List ℕ) : Type 0 where
  pub front : List ℕ
  pub parts : text ≡ front ++ part

is_end-further : (part middle text : List ℕ) → IsEnd part middle → IsEnd middle text → IsEnd part text
is_end-further part middle text inner outer = record {
  front = outer.front ++ inner.front;
  parts = outer.parts ∙ ap (λ t. outer.front ++ t) inner.parts ∙ sym (append_assoc outer.front inner.front part);
}

is_end-front : (text : List ℕ) → IsEnd (without_blanks_in_front text) text
is_end-front text = let parts = front_parts text in record { front = parts.before; parts = parts.parts }

is_end-blank : (text : List ℕ) → IsEnd (from_blank text) text
is_end-blank text = record {
  front = take (position_or_len is_blank text) text;
  parts = sym (take-append-drop (position_or_len is_blank text) text);
}

is_end-word : (count : ℕ) (text : List ℕ) → IsEnd (from_word count text) text
is_end-word zero text = is_end-front text
is_end-word (suc count) text =
    let front = without_blanks_in_front text in
    is_end-further (from_word (suc count) text) front text
    (is_end-further (from_word (suc count) text) (from_blank front) front (is_end-word count (from_blank front)) (is_end-blank front))
    (is_end-front text)

pub drop-from_word : (count : ℕ) (text part : List ℕ) → part ≡ from_word count text → drop (length text - length part) text ≡ part
drop-from_word count text part e =
    let end = is_end-word count text in
    let parts : text ≡ end.front ++ part = end.parts ∙ ap (λ t. end.front ++ t) (sym e) in
    let front : length text - length part ≡ length end.front = omega (arith, ap length parts, length-append end.front part) in
    ap (λ (n : ℕ). drop n text) front ∙ ap (λ (t : List ℕ). drop (length end.front) t) parts ∙ drop-append_seam end.front part

-- ---- where the first blank is

pub first-or-length : (text : List ℕ) → unwrap_or (position is_blank text) (length text) ≡ position_or_len is_blank text
first-or-length text = elim (cases_Bool (nat_lt (position_or_len is_blank text) (length text))) [
  | inl below ↦ ap (λ (b : Bool). unwrap_or (cond b (Some (position_or_len is_blank text)) None) (length text)) below
  | inr at_end ↦
      let beyond = ltb-false (position_or_len is_blank text) (length text) at_end in
      let bound = prefix_len-le-length (λ byte. not (is_blank byte)) text in
      ap (λ (b : Bool). unwrap_or (cond b (Some (position_or_len is_blank text)) None) (length text)) at_end ∙ omega arith
]
