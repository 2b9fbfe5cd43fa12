-- The first place of a string, by a search of the text behind a place.
use Rattle.std.proofs.Common.{◌≡◌, ◌+◌, ◌-◌, ◌<◌, ℕ, List, length, drop, nat_eq, Some, None, sym, ap, subst, ◌∙◌, arith}
use Rattle.std.proofs.lemmas.Bool.{cond-false, ne_eqb}
use Rattle.memchr.specs.Find.{FindsNeedle}
use Rattle.rx_cutfn.specs.Places.{first_place, stands_at}
use Rattle.rx_cutfn.proofs.PlaceLemmas.{place_found, place_not_found}
use Rattle.rx_template.specs.Sections.{place_of}

-- of a string that isn't empty
of_some : (string text : List ℕ) (from : ℕ) → 0 < length string → place_of string text from ≡ first_place (stands_at string text) from (length text)
of_some string text from some =
    cond-false (nat_eq (length string) 0) 0 (first_place (stands_at string text) from (length text)) (ne_eqb (length string) 0 (λ none. omega arith))

pub place_of-found : (string text rest : List ℕ) (from at : ℕ) → 0 < from → 0 < length string → rest ≡ drop (from - 1) text → FindsNeedle rest string 0 (Some at)
    → from + at ≡ place_of string text from
place_of-found string text rest from at begins some is found =
    let same : from - 1 + 1 ≡ from = omega arith in
    let place : from + at ≡ from - 1 + at + 1 = omega arith in
    place
    ∙ sym (place_found text string (from - 1) at some (subst (λ (t : List ℕ). FindsNeedle t string 0 (Some at)) is found))
    ∙ ap (λ (n : ℕ). first_place (stands_at string text) n (length text)) same
    ∙ sym (of_some string text from some)

pub place_of-not_found : (string text rest : List ℕ) (from : ℕ) → 0 < from → 0 < length string → rest ≡ drop (from - 1) text → FindsNeedle rest string 0 None
    → 0 ≡ place_of string text from
place_of-not_found string text rest from begins some is found =
    let same : from - 1 + 1 ≡ from = omega arith in
    sym (place_not_found text string (from - 1) some (subst (λ (t : List ℕ). FindsNeedle t string 0 None) is found))
    ∙ ap (λ (n : ℕ). first_place (stands_at string text) n (length text)) same
    ∙ sym (of_some string text from some)
