-- What stripping does to a text that is put together of blanks and other bytes, and how a text is
-- put together of what stripping leaves.
use Rattle.std.proofs.Common.{◌≡◌, ℕ, Bool, true, false, ◌&&◌, List, [], ◌∷◌, ◌++◌, reverse, refl, sym, ap, ◌∙◌}
use Rattle.std.proofs.lemmas.List.{reverse-append, reverse-reverse}
use Rattle.std.proofs.lemmas.List.Folds.{list_all-append}
use Rattle.std.specs.List.{list_all}
use Rattle.rx_text.proofs.BoolLemmas.{and_first, and_second, and_both}
use Rattle.rx_text.specs.Blanks.{is_blank, without_blanks_in_front, without_blanks_at_end}

abbrev pub AllBlank : List ℕ → Type 0
AllBlank text = list_all is_blank text ≡ true

-- ---- blanks in front

pub front-other : (byte : ℕ) (rest : List ℕ) → is_blank byte ≡ false → without_blanks_in_front (byte ∷ rest) ≡ byte ∷ rest
front-other byte rest h = rw h

front-blank : (byte : ℕ) (rest : List ℕ) → is_blank byte ≡ true → without_blanks_in_front (byte ∷ rest) ≡ without_blanks_in_front rest
front-blank byte rest h = rw h

pub front-blanks : (before rest : List ℕ) → AllBlank before → without_blanks_in_front (before ++ rest) ≡ without_blanks_in_front rest
front-blanks [] rest h = refl
front-blanks (byte ∷ before) rest h =
    front-blank byte (before ++ rest) (and_first (is_blank byte) (list_all is_blank before) h) ∙
    front-blanks before rest (and_second (is_blank byte) (list_all is_blank before) h)

-- ---- blanks at the end

pub list_all-reverse : (test : ℕ → Bool) (xs : List ℕ) → list_all test xs ≡ true → list_all test (reverse xs) ≡ true
list_all-reverse test [] h = refl
list_all-reverse test (x ∷ xs) h =
    ap (list_all test) (reverse-append (x ∷ []) xs) ∙
    list_all-append test (reverse xs) (x ∷ []) ∙
    and_both (list_all test (reverse xs)) (test x && true)
    (list_all-reverse test xs (and_second (test x) (list_all test xs) h))
    (and_both (test x) true (and_first (test x) (list_all test xs) h) refl)

pub end-blanks : (rest after : List ℕ) → AllBlank after → without_blanks_at_end (rest ++ after) ≡ without_blanks_at_end rest
end-blanks rest after h =
    ap (λ t. reverse (without_blanks_in_front t)) (reverse-append rest after) ∙
    ap reverse (front-blanks (reverse after) (reverse rest) (list_all-reverse is_blank after h))

-- ---- a text by its parts

pub record FrontParts (text : List ℕ) : Type 0 where
  pub before : List ℕ
  pub blank : AllBlank before
  pub parts : text ≡ before ++ without_blanks_in_front text

pub record EndParts (text : List ℕ) : Type 0 where
  pub after : List ℕ
  pub blank : AllBlank after
  pub parts : text ≡ without_blanks_at_end text ++ after

longer_front : (byte : ℕ) (rest : List ℕ) → is_blank byte ≡ true → FrontParts rest → FrontParts (byte ∷ rest)
longer_front byte rest e further = record {
  before = byte ∷ further.before;
  blank = and_both (is_blank byte) (list_all is_blank further.before) e further.blank;
  parts = ap (λ t. byte ∷ t) further.parts ∙ ap (λ t. byte ∷ (further.before ++ t)) (sym (front-blank byte rest e));
}

no_front : (byte : ℕ) (rest : List ℕ) → is_blank byte ≡ false → FrontParts (byte ∷ rest)
no_front byte rest e = record { before = []; blank = refl; parts = sym (front-other byte rest e) }

by_first : (byte : ℕ) (rest : List ℕ) (test : Bool) → is_blank byte ≡ test → FrontParts rest → FrontParts (byte ∷ rest)
by_first byte rest true e further = longer_front byte rest e further
by_first byte rest false e further = no_front byte rest e

pub front_parts : (text : List ℕ) → FrontParts text
front_parts [] = record { before = []; blank = refl; parts = refl }
front_parts (byte ∷ rest) = by_first byte rest (is_blank byte) refl (front_parts rest)

pub end_parts : (text : List ℕ) → EndParts text
end_parts text =
    let turned = front_parts (reverse text) in
    record {
      after = reverse turned.before;
      blank = list_all-reverse is_blank turned.before turned.blank;
      parts = sym (reverse-reverse text) ∙ ap reverse turned.parts ∙ reverse-append turned.before (without_blanks_in_front (reverse text));
    }
