-- The table of a translation, place by place from the end.
use Rattle.std.proofs.Common.{◌≡◌, ℕ, suc, ◌+◌, ◌-◌, ◌<◌, ◌≤◌, Bool, true, false, ◌&&◌, cond, not, eqb, ltb, List, [], ◌∷◌, ◌++◌, length, map, take, drop, get_or, set, position, Option, None, Some, option_map, option_copied, unwrap_or, is_none, Bor, refl, sym, ap, ◌∙◌, arith, inl, inr, zero-add}
use Rattle.std.proofs.lemmas.Bool.{cases_eq, cases_lt, cond-true, cond-false, eq-eqb, ne_eqb, lt-ltb, le-ltb}
use Rattle.std.proofs.lemmas.List.{drop_all, drop_more, get_or-drop, get_or-set_same, get_or-set_other, get_or_default, length-append, length-drop, length-map, length-take, map-id}
use Rattle.std.proofs.lemmas.List.Edits.{map_over_more}
use Rattle.std.proofs.lemmas.List.FromFn.{fill_by_all, get_or-range_with_len}
use Rattle.std.specs.List.{range_with_len, position_or_len}
use Rattle.rx_answers.specs.Answers.{within_limit}
use Rattle.rx_cutfn.specs.Letters.{IsTable, byte_at, translated, all_bytes, translate, upper}

pub all_bytes_are : (bytes : List ℕ) → length bytes ≡ 256 → ((k : ℕ) → k < 256 → get_or bytes k 0 ≡ k) → bytes ≡ all_bytes
all_bytes_are bytes long told = fill_by_all (λ k. k) bytes 256 0 long told ∙ map-id (range_with_len 0 256)

-- ---- one byte of the input table

position_hit : (test : ℕ → Bool) (x : ℕ) (xs : List ℕ) → test x ≡ true → position test (x ∷ xs) ≡ Some 0
position_hit test x xs holds =
    let none : position_or_len test (x ∷ xs) ≡ 0 = cond-false (not (test x)) (1 + position_or_len test xs) 0 (ap not holds) in
    ap (λ n. cond (ltb n (suc (length xs))) (Some n) None) none ∙
    cond-true (ltb 0 (suc (length xs))) (Some 0) None (lt-ltb 0 (suc (length xs)) (omega arith))

after : Option ℕ → Option ℕ
after place = option_map (λ k. suc k) place

one_more : (n length : ℕ) → cond (ltb (suc n) (suc length)) (Some (suc n)) None ≡ after (cond (ltb n length) (Some n) None)
unfolding after
one_more n length = elim (cases_lt n length) [
  | inl within ↦
      cond-true (ltb (suc n) (suc length)) (Some (suc n)) None (lt-ltb (suc n) (suc length) (omega arith)) ∙
      ap after (sym (cond-true (ltb n length) (Some n) None (lt-ltb n length within)))
  | inr past ↦
      cond-false (ltb (suc n) (suc length)) (Some (suc n)) None (le-ltb (suc n) (suc length) (omega arith)) ∙
      ap after (sym (cond-false (ltb n length) (Some n) None (le-ltb n length past)))
]

position_miss : (test : ℕ → Bool) (x : ℕ) (xs : List ℕ) → test x ≡ false → position test (x ∷ xs) ≡ after (position test xs)
position_miss test x xs fails =
    let n = position_or_len test xs in
    let e : position_or_len test (x ∷ xs) ≡ 1 + n = cond-true (not (test x)) (1 + n) 0 (ap not fails) in
    let one : 1 + n ≡ suc n = omega arith in
    ap (λ k. cond (ltb k (suc (length xs))) (Some k) None) (e ∙ one) ∙ one_more n (length xs)

byte_at_hit : (output : List ℕ) (pad byte : ℕ) (place : Option ℕ) → place ≡ Some 0 → byte_at output pad byte place ≡ get_or output 0 pad
byte_at_hit output pad byte place e = ap (byte_at output pad byte) e

byte_at_after : (output : List ℕ) (at pad byte : ℕ) (place : Option ℕ) → byte_at (drop at output) pad byte (after place) ≡ byte_at (drop (at + 1) output) pad byte place
unfolding after
byte_at_after output at pad byte None = refl
byte_at_after output at pad byte (Some k) =
    let same : at + suc k ≡ at + 1 + k = omega arith in
    get_or-drop at output (suc k) pad ∙ ap (λ n. get_or output n pad) same ∙ sym (get_or-drop (at + 1) output k pad)

-- a byte that stands at a place of the input table, and no other one before it
pub translated_hit : (output input : List ℕ) (at pad byte : ℕ) → at < length input → get_or input at 0 ≡ byte → translated (drop at output) (drop at input) pad byte ≡ get_or output at pad
translated_hit output input at pad byte within same =
    let zero_behind : at + 0 ≡ at = omega arith in
    ap (λ t. translated (drop at output) t pad byte) (drop_more input at 0 within) ∙
    byte_at_hit (drop at output) pad byte _ (position_hit (λ other. eqb other byte) (get_or input at 0) (drop (at + 1) input) (eq-eqb (get_or input at 0) byte same)) ∙
    get_or-drop at output 0 pad ∙
    ap (λ n. get_or output n pad) zero_behind

pub translated_miss : (output input : List ℕ) (at pad byte : ℕ) → at < length input → (get_or input at 0 ≡ byte → ⊥) → translated (drop at output) (drop at input) pad byte ≡ translated (drop (at + 1) output) (drop (at + 1) input) pad byte
translated_miss output input at pad byte within apart =
    ap (λ t. translated (drop at output) t pad byte) (drop_more input at 0 within) ∙
    ap (byte_at (drop at output) pad byte) (position_miss (λ other. eqb other byte) (get_or input at 0) (drop (at + 1) input) (ne_eqb (get_or input at 0) byte apart)) ∙
    byte_at_after output at pad byte (position (λ other. eqb other byte) (drop (at + 1) input))

-- past the end of the input table
pub translated_none : (output input : List ℕ) (at pad byte : ℕ) → length input ≤ at → translated (drop at output) (drop at input) pad byte ≡ byte
translated_none output input at pad byte past = ap (λ t. translated (drop at output) t pad byte) (drop_all at input past)

-- ---- one place of the table more, from the end

pub table_none : (table output input : List ℕ) (pad : ℕ) → table ≡ all_bytes → IsTable table (drop (length input) output) (drop (length input) input) pad
table_none table output input pad all byte below =
    ap (λ t. get_or t byte 0) all ∙
    get_or-range_with_len 0 256 byte 0 below ∙
    zero-add byte ∙
    sym (translated_none output input (length input) pad byte (omega arith))

pub table_more : (table output input : List ℕ) (pad at new : ℕ) → length table ≡ 256 → 0 < at → at ≤ length input → new ≡ get_or output (at - 1) pad → IsTable table (drop at output) (drop at input) pad → IsTable (set table (get_or input (at - 1) 0) new) (drop (at - 1) output) (drop (at - 1) input) pad
table_more table output input pad at new long low high is told byte below =
    let back : at - 1 + 1 ≡ at = omega arith in
    elim (cases_eq (get_or input (at - 1) 0) byte) [
      | inl same ↦
          ap (λ k. get_or (set table k new) byte 0) same ∙
          get_or-set_same table byte new 0 (omega arith) ∙
          is ∙
          sym (translated_hit output input (at - 1) pad byte (omega arith) same)
      | inr apart ↦
          get_or-set_other table (get_or input (at - 1) 0) byte new 0 (λ e. apart (sym e)) ∙
          told byte below ∙
          ap (λ n. translated (drop n output) (drop n input) pad byte) (sym back) ∙
          sym (translated_miss output input (at - 1) pad byte (omega arith) apart)
    ]

-- a table that gives what a function does for each byte gives it for a text
pub map_same : (f g : ℕ → ℕ) (text : List ℕ) → ((k : ℕ) → k < length text → f (get_or text k 0) ≡ g (get_or text k 0)) → map f text ≡ map g text
map_same f g [] same = refl
map_same f g (byte ∷ rest) same = grind (arith, same 0 (omega arith), map_same f g rest (λ k below. same (suc k) (omega arith)))

-- ---- one byte of the text more

pub replaced_more : (table items text : List ℕ) (at : ℕ) → at < length items → items ≡ map (λ byte. get_or table byte 0) (take at text) ++ drop at text → set items at (get_or table (get_or items at 0) 0) ≡ map (λ byte. get_or table byte 0) (take (at + 1) text) ++ drop (at + 1) text
replaced_more table items text at within is =
    let long = ap length is ∙ length-append (map (λ byte. get_or table byte 0) (take at text)) (drop at text) in
    let within_text : at < length text = omega (arith, length-map (take at text) (λ byte. get_or table byte 0), length-take at text, length-drop at text) in
    map_over_more (λ byte. get_or table byte 0) text items at (get_or items at 0) within_text is (get_or_default items at 0 (get_or items at 0) within)

-- ---- TRANSLATE

-- what a borrowed text that may be left out holds
pub text_or : (given : Option (Bor (List ℕ))) (other : Bor (List ℕ)) → unwrap_or (option_copied given) other.now ≡ (unwrap_or given other).now
text_or None other = refl
text_or (Some text) other = refl

pub is_none_copied : (given : Option (Bor (List ℕ))) → is_none (option_copied given) ≡ is_none given
is_none_copied None = refl
is_none_copied (Some text) = refl

pub translated_same : (output output' input input' : List ℕ) (pad pad' byte : ℕ) → output ≡ output' → input ≡ input' → pad ≡ pad' → translated output input pad byte ≡ translated output' input' pad' byte
translated_same output output' input input' pad pad' byte output_is input_is pad_is =
    ap (λ o. translated o input pad byte) output_is ∙
    ap (λ i. translated output' i pad byte) input_is ∙
    ap (λ p. translated output' input' p byte) pad_is

pub translated_by : (text table : List ℕ) (to from : Option (List ℕ)) (pad : Option ℕ) → (is_none to && (is_none from && is_none pad)) ≡ false → IsTable table (unwrap_or to []) (unwrap_or from all_bytes) (unwrap_or pad 0x20) → ((k : ℕ) → get_or text k 0 < 256) → within_limit (map (λ byte. get_or table byte 0) text) ≡ translate text to from pad
unfolding translate
translated_by text table to from pad some told bytes =
    ap within_limit (map_same (λ byte. get_or table byte 0) (translated (unwrap_or to []) (unwrap_or from all_bytes) (unwrap_or pad 0x20)) text (λ k below. told (get_or text k 0) (bytes k))) ∙
    sym (cond-false (is_none to && (is_none from && is_none pad)) (upper text) (within_limit (map (translated (unwrap_or to []) (unwrap_or from all_bytes) (unwrap_or pad 0x20)) text)) some)
