-- The length of words with gaps between them.
use Rattle.std.proofs.Common.{◌≡◌, ℕ, Bool, true, false, if◌then◌else◌, nat_le, List, [], ◌∷◌, ◌++◌, length, replicate, Option, Result, Ok, Err, refl, sym, arith, length-append, ap, ◌∙◌}
use Rattle.std.specs.Prelude.{flat_map, unwrap_or}
use Rattle.std.proofs.lemmas.List.{length-replicate}
use Rattle.rx_wordfn.specs.Functions.{space, spaced}
use Rattle.rx_wordfn.specs.Words.{words}
use Rattle.rx_wordfn.specs.Lines.{led_length, spaced_length}

-- some words with a gap in front of each
abbrev pub led : List ℕ → List (List ℕ) → List ℕ
led gap words = flat_map (λ next. gap ++ next) words

length-led : (gap : List ℕ) (ws : List (List ℕ)) → length (led gap ws) ≡ led_length (length gap) ws
length-led gap [] = refl
length-led gap (w ∷ ws) = omega (arith, length-append (gap ++ w) (led gap ws), length-append gap w, length-led gap ws)

pub length-spaced : (gap : List ℕ) (ws : List (List ℕ)) → length (spaced gap ws) ≡ spaced_length (length gap) ws
length-spaced gap [] = refl
length-spaced gap (w ∷ ws) = omega (arith, length-append w (led gap ws), length-led gap ws)

-- ---- what SPACE comes to by the length of its result

abbrev by_limit : List ℕ → Bool → Result (List ℕ) ℕ
by_limit text fits = if fits then Ok text else Err 5

limit : (n : Option ℕ) (pad gap : ℕ) (text : List ℕ) → gap ≡ unwrap_or n 1 → nat_le (length (spaced (replicate (unwrap_or n 1) pad) (words text))) 16777216 ≡ nat_le (spaced_length gap (words text)) 16777216
limit n pad gap text e =
    ap (λ (k : ℕ). nat_le k 16777216)
    (length-spaced (replicate (unwrap_or n 1) pad) (words text) ∙
    ap (λ (k : ℕ). spaced_length k (words text)) (length-replicate (unwrap_or n 1) pad ∙ sym e))

pub space-long : (n : Option ℕ) (pad gap : ℕ) (text : List ℕ) → gap ≡ unwrap_or n 1 → nat_le (spaced_length gap (words text)) 16777216 ≡ false → space n pad text ≡ Err 5
space-long n pad gap text e h = ap (by_limit (spaced (replicate (unwrap_or n 1) pad) (words text))) (limit n pad gap text e ∙ h)

pub space-fits : (n : Option ℕ) (pad gap : ℕ) (text : List ℕ) → gap ≡ unwrap_or n 1 → nat_le (spaced_length gap (words text)) 16777216 ≡ true → space n pad text ≡ Ok (spaced (replicate gap pad) (words text))
space-fits n pad gap text e h =
    ap (by_limit (spaced (replicate (unwrap_or n 1) pad) (words text))) (limit n pad gap text e ∙ h) ∙
    ap (λ (k : ℕ). Ok (spaced (replicate k pad) (words text))) (sym e)
