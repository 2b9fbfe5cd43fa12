-- The texts of tail parts, one after the other, and the length of a tail.
use Rattle.std.proofs.Common.{◌≡◌, ℕ, suc, ◌+◌, ◌-◌, ◌<◌, ◌≤◌, nat_le, Bool, true, false, if◌then◌else◌, List, [], ◌∷◌, ◌++◌, length, Option, Result, Ok, Err, refl, ap, sym, ◌∙◌, append_assoc, arith, length-append}
use Rattle.std.proofs.lemmas.Bool.Decides.{nat_tests}
use Rattle.std.proofs.lemmas.List.{append-nil}
use Rattle.rx_tree.specs.Bytes.{longest}
use Rattle.rx_tree.specs.declared.name.Derived.{Derived}
use Rattle.rx_tree.specs.declared.value.Value.{Value}
use Rattle.rx_tree.specs.declared.name.Derived.TheVariants.{Compound}
use Rattle.rx_tree.specs.declared.name.Part.{Part}
use Rattle.rx_eval.specs.declared.naming.Named.TheVariants.{Known, TooLong}
use Rattle.rx_eval.specs.Reading.{behind_periods, compound, part_text, part_texts, with_text}

-- texts that were found, in front of those that are to come
abbrev pub with_texts : List (List ℕ) → Result (List (List ℕ)) (List ℕ) → Result (List (List ℕ)) (List ℕ)
with_texts found (Ok texts) = Ok (found ++ texts)
with_texts found (Err name) = Err name

pub with_none : (texts : Result (List (List ℕ)) (List ℕ)) → with_texts [] texts ≡ texts
with_none (Ok texts) = refl
with_none (Err name) = refl

one_more : (found : List (List ℕ)) (text : List ℕ) (texts : Result (List (List ℕ)) (List ℕ)) → with_texts (found ++ text ∷ []) texts ≡ with_texts found (with_text (Ok text) texts)
one_more found text (Ok texts) = ap Ok (append_assoc found (text ∷ []) texts)
one_more found text (Err name) = refl

-- one part more has its text
pub texts_next : (novalue : Bool) (value : Derived → Option Value) (parts rest : List Part) (part : Part) (found new : List (List ℕ)) (text : List ℕ) (all : Result (List (List ℕ)) (List ℕ))
    → parts ≡ part ∷ rest → Ok text ≡ part_text novalue value part → new ≡ found ++ text ∷ [] → with_texts found (part_texts novalue value parts) ≡ all → with_texts new (part_texts novalue value rest) ≡ all
texts_next novalue value parts rest part found new text all is t n h =
    ap (λ found. with_texts found (part_texts novalue value rest)) n ∙ one_more found text (part_texts novalue value rest)
    ∙ ap (λ t. with_texts found (with_text t (part_texts novalue value rest))) t
    ∙ ap (λ parts. with_texts found (part_texts novalue value parts)) (sym is) ∙ h

-- a part stands for nothing
pub texts_end : (novalue : Bool) (value : Derived → Option Value) (parts rest : List Part) (part : Part) (found : List (List ℕ)) (name : List ℕ) (all : Result (List (List ℕ)) (List ℕ))
    → parts ≡ part ∷ rest → Err name ≡ part_text novalue value part → with_texts found (part_texts novalue value parts) ≡ all → Err name ≡ all
texts_end novalue value parts rest part found name all is t h =
    ap (λ t. with_texts found (with_text t (part_texts novalue value rest))) t
    ∙ ap (λ parts. with_texts found (part_texts novalue value parts)) (sym is) ∙ h

-- all parts have their texts
pub texts_all : (novalue : Bool) (value : Derived → Option Value) (parts : List Part) (found : List (List ℕ)) (all : Result (List (List ℕ)) (List ℕ))
    → parts ≡ [] → with_texts found (part_texts novalue value parts) ≡ all → Ok found ≡ all
texts_all novalue value parts found all is h =
    ap Ok (sym (append-nil found)) ∙ ap (λ parts. with_texts found (part_texts novalue value parts)) (sym is) ∙ h

-- ---- a tail

pub tail_next : (texts rest : List (List ℕ)) (text tail new all : List ℕ)
    → texts ≡ text ∷ rest → new ≡ tail ++ 0x2E ∷ [] ++ text → tail ++ behind_periods texts ≡ all → new ++ behind_periods rest ≡ all
tail_next texts rest text tail new all is n h =
    ap (λ new. new ++ behind_periods rest) n ∙ append_assoc (tail ++ 0x2E ∷ []) text (behind_periods rest)
    ∙ append_assoc tail (0x2E ∷ []) (text ++ behind_periods rest) ∙ ap (λ texts. tail ++ behind_periods texts) (sym is) ∙ h

pub tail_long : (texts rest : List (List ℕ)) (text tail all : List ℕ) (room : ℕ)
    → texts ≡ text ∷ rest → tail ++ behind_periods texts ≡ all → room < length tail + 1 + length text → room < length all
tail_long texts rest text tail all room is h past =
    let whole : length all ≡ length tail + length (behind_periods texts) = ap length (sym h) ∙ length-append tail (behind_periods texts) in
    let more : length (behind_periods texts) ≡ suc (length (text ++ behind_periods rest)) = ap (λ texts. length (behind_periods texts)) is in
    let parts : length (text ++ behind_periods rest) ≡ length text + length (behind_periods rest) = length-append text (behind_periods rest) in
    omega arith

pub tail_all : (texts : List (List ℕ)) (tail all : List ℕ) → texts ≡ [] → tail ++ behind_periods texts ≡ all → tail ≡ all
tail_all texts tail all is h = sym (append-nil tail) ∙ ap (λ texts. tail ++ behind_periods texts) (sym is) ∙ h

pub too_long : (stem tail : List ℕ) (room : ℕ) → room ≡ longest - length stem → length stem ≤ longest → room < length tail → TooLong ≡ compound stem tail
too_long stem tail room r short past =
    let whole : length (stem ++ tail) ≡ length stem + length tail = length-append stem tail in
    let no : nat_le (length (stem ++ tail)) longest ≡ false = grind (arith, nat_tests) in
    sym (ap (λ b. if b then Known (Compound stem tail) else TooLong) no)

pub has_room : (stem tail : List ℕ) (room : ℕ) → room ≡ longest - length stem → length stem ≤ longest → length tail ≤ room → length (stem ++ tail) ≤ longest
has_room stem tail room r short fits =
    let whole : length (stem ++ tail) ≡ length stem + length tail = length-append stem tail in
    omega arith

pub known : (stem tail : List ℕ) → length (stem ++ tail) ≤ longest → Known (Compound stem tail) ≡ compound stem tail
known stem tail h =
    let yes : nat_le (length (stem ++ tail)) longest ≡ true = grind (arith, nat_tests) in
    sym (ap (λ b. if b then Known (Compound stem tail) else TooLong) yes)
