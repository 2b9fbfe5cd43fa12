-- Texts that are padded or cut, by the parts that the code writes, and how long they are.
use Rattle.std.proofs.Common.{◌≡◌, ℕ, zero, suc, ◌+◌, ◌-◌, ◌*◌, ◌/◌, ◌≤◌, List, [], ◌∷◌, ◌++◌, length, take, drop, replicate, sym, ap, ◌∙◌, arith, inl, inr, append_assoc}
use Rattle.std.proofs.lemmas.Bool.{cases_lt}
use Rattle.std.proofs.lemmas.List.{append-nil, length-append, length-take, length-take-le, length-drop, length-replicate, take_all, take-append-le, take-replicate, drop-append-le, drop-replicate, replicate_more, nil_from_length}
use Rattle.std.proofs.lemmas.List.Folds.{concat-append}
use Rattle.std.proofs.Math.Nat.{mul-zero}
use Rattle.std.specs.List.{concat}
use Rattle.std.proofs.Math.Seq.{take-append-add, drop-append-add}
use Rattle.rx_cutfn.specs.Cutting.{fitted, fitted_at_end, centered}

-- ---- by parts

pub take_padded : (width pad pads : ℕ) (text : List ℕ) → width ≤ length text + pads → take width (text ++ replicate pads pad) ≡ take width text ++ replicate (width - length text) pad
take_padded width pad pads text enough = elim (cases_lt (length text) width) [
  | inl longer ↦
      let missing = width - length text in
      let split : width ≡ length text + missing = omega arith in
      let all : text ≡ take width text = sym (take_all width text (omega arith)) in
      ap (λ n. take n (text ++ replicate pads pad)) split ∙
      take-append-add text (replicate pads pad) missing ∙
      ap (λ t. text ++ t) (take-replicate missing pads pad (omega arith)) ∙
      ap (λ t. t ++ replicate missing pad) all
  | inr shorter ↦
      let none : 0 ≡ width - length text = omega arith in
      take-append-le width text (replicate pads pad) shorter ∙
      sym (append-nil (take width text)) ∙
      ap (λ n. take width text ++ replicate n pad) none
]

pub fitted_parts : (width pad : ℕ) (text : List ℕ) → fitted width pad text ≡ take width text ++ replicate (width - length text) pad
fitted_parts width pad text = take_padded width pad width text (omega arith)

-- what `push_fitted` leaves
pub fitted_behind : (old : List ℕ) (width pad : ℕ) (text : List ℕ) → (old ++ take width text) ++ replicate (width - length (take width text)) pad ≡ old ++ fitted width pad text
fitted_behind old width pad text =
    let missing : width - length (take width text) ≡ width - length text = omega (arith, length-take width text) in
    ap (λ n. (old ++ take width text) ++ replicate n pad) missing ∙
    append_assoc old (take width text) (replicate (width - length text) pad) ∙
    ap (λ t. old ++ t) (sym (fitted_parts width pad text))

pub fitted_by_resize : (old : List ℕ) (width pad count : ℕ) (text : List ℕ) → count ≡ length (old ++ take width text) → take (count + (width - length (take width text))) (old ++ take width text) ++ replicate (count + (width - length (take width text)) - count) pad ≡ old ++ fitted width pad text
fitted_by_resize old width pad count text e =
    let missing = width - length (take width text) in
    let all = take_all (count + missing) (old ++ take width text) (omega arith) in
    let behind : count + missing - count ≡ missing = omega arith in
    ap (λ t. t ++ replicate (count + missing - count) pad) all ∙
    ap (λ n. (old ++ take width text) ++ replicate n pad) behind ∙
    fitted_behind old width pad text

drop_padded : (width pad count : ℕ) (text : List ℕ) → drop count (replicate width pad ++ text) ≡ replicate (width - count) pad ++ drop (count - width) text
drop_padded width pad count text = elim (cases_lt width count) [
  | inl longer ↦
      let behind = count - width in
      let split : count ≡ length (replicate width pad) + behind = omega (arith, length-replicate width pad) in
      let none : 0 ≡ width - count = omega arith in
      ap (λ n. drop n (replicate width pad ++ text)) split ∙
      drop-append-add (replicate width pad) text behind ∙
      ap (λ n. replicate n pad ++ drop behind text) none
  | inr shorter ↦
      let none : 0 ≡ count - width = omega arith in
      drop-append-le count (replicate width pad) text (omega (arith, length-replicate width pad)) ∙
      ap (λ t. t ++ text) (drop-replicate count width pad) ∙
      ap (λ n. replicate (width - count) pad ++ drop n text) none
]

pub fitted_at_end_parts : (width pad : ℕ) (text : List ℕ) → fitted_at_end width pad text ≡ replicate (width - length text) pad ++ drop (length text - width) text
fitted_at_end_parts width pad text = drop_padded width pad (length text) text

-- pads in front of a text that is made so long
fitted_behind_pads : (width pad front : ℕ) (text : List ℕ) → front ≤ width → fitted width pad (replicate front pad ++ text) ≡ replicate front pad ++ fitted (width - front) pad text
fitted_behind_pads width pad front text within =
    let pads = replicate front pad in
    let long : length pads ≡ front = length-replicate front pad in
    let split : width ≡ length pads + (width - front) = omega arith in
    ap (λ t. take width t) (append_assoc pads text (replicate width pad)) ∙
    ap (λ n. take n (pads ++ (text ++ replicate width pad))) split ∙
    take-append-add pads (text ++ replicate width pad) (width - front) ∙
    ap (λ t. pads ++ t) (take_padded (width - front) pad width text (omega arith) ∙ sym (fitted_parts (width - front) pad text))

pub centered_parts : (width pad : ℕ) (text : List ℕ) → centered width pad text ≡ replicate ((width - length text) / 2) pad ++ fitted (width - (width - length text) / 2) pad (drop ((length text - width) / 2) text)
centered_parts width pad text =
    fitted_behind_pads width pad ((width - length text) / 2) (drop ((length text - width) / 2) text) (omega arith)

-- ---- how long

pub length-fitted : (width pad : ℕ) (text : List ℕ) → length (fitted width pad text) ≡ width
length-fitted width pad text =
    length-take-le width (text ++ replicate width pad) (omega (arith, length-append text (replicate width pad), length-replicate width pad))

pub length-fitted_at_end : (width pad : ℕ) (text : List ℕ) → length (fitted_at_end width pad text) ≡ width
length-fitted_at_end width pad text =
    omega (arith, length-drop (length text) (replicate width pad ++ text), length-append (replicate width pad) text, length-replicate width pad)

-- a text with another one, made so long, behind so many of its bytes
pub length-between : (front width pad other end : ℕ) (text new : List ℕ) → length (fitted front other text ++ (fitted width pad new ++ drop end text)) ≡ front + (width + (length text - end))
length-between front width pad other end text new =
    let a = length-append (fitted front other text) (fitted width pad new ++ drop end text) in
    let b = length-append (fitted width pad new) (drop end text) in
    let c = length-fitted front other text in
    let d = length-fitted width pad new in
    let e = length-drop end text in
    cc

concat_push : (texts : List (List ℕ)) (text : List ℕ) → concat (texts ++ text ∷ []) ≡ concat texts ++ text
concat_push texts text = concat-append texts (text ∷ []) ∙ ap (λ t. concat texts ++ t) (append-nil text)

pub length-copies : (count : ℕ) (text : List ℕ) → length (concat (replicate count text)) ≡ count * length text
length-copies zero text = omega arith
length-copies (suc count) text =
    omega (arith, length-append text (concat (replicate count text)), length-copies count text)

-- one copy more
pub copies_more : (count : ℕ) (text : List ℕ) → concat (replicate count text) ++ text ≡ concat (replicate (count + 1) text)
copies_more count text = sym (concat_push (replicate count text) text) ∙ ap concat (replicate_more count text)

-- no text has bytes in copies of the empty text
pub no_copies : (count : ℕ) (text : List ℕ) → length text ≡ 0 → concat (replicate count text) ≡ []
no_copies count text none =
    nil_from_length (concat (replicate count text))
    (length-copies count text ∙ ap (λ n. count * n) none ∙ mul-zero count)

pub length-centered : (width pad : ℕ) (text : List ℕ) → length (centered width pad text) ≡ width
length-centered width pad text =
    length-fitted width pad (replicate ((width - length text) / 2) pad ++ drop ((length text - width) / 2) text)
