-- The order of two texts, one padded, by the parts that the code compares.
use Rattle.std.proofs.Common.{inl, inr, ◌≡◌, ℕ, ◌+◌, ◌-◌, ◌≤◌, min, max, List, [], ◌∷◌, ◌++◌, length, take, drop, replicate, refl, sym, ap, ◌∙◌, arith, append-nil}
use Rattle.std.proofs.Math.Seq.{take-length, drop-length}
use Rattle.std.proofs.lemmas.Bool.{cases_lt}
use Rattle.std.proofs.Math.Nat.{sub_self}
use Rattle.std.proofs.lemmas.Cmp.{nat_list_cmp_total}
use Rattle.std.specs.Cmp.{then_flip}
use Rattle.std.specs.declared.cmp.Ordering.{Ordering}
use Rattle.std.specs.declared.cmp.Ordering.TheVariants.{Less, Equal, Greater}
use Rattle.std.specs.Ordering.{nat_cmp, ordering_then, ordering_reverse}
use Rattle.rx_text.specs.Order.{strict_order, padded, order_when_padded}

-- the order of a text and as many spaces
abbrev pub order_to_spaces : List ℕ → Ordering
order_to_spaces text = strict_order text (replicate (length text) 0x20)

then_assoc : (p q r : Ordering) → ordering_then p (ordering_then q r) ≡ ordering_then (ordering_then p q) r
then_assoc Less q r = refl
then_assoc Equal q r = refl
then_assoc Greater q r = refl

-- a text and a shorter one with k spaces behind it: first the common length, then the rest
longer : (a b : List ℕ) (k : ℕ) → length b + k ≡ length a → strict_order a (b ++ replicate k 0x20) ≡ ordering_then (strict_order (take (length b) a) b) (order_to_spaces (drop (length b) a))
longer a [] k e = let same : k ≡ length a = omega arith in ap (λ n. strict_order a (replicate n 0x20)) same
longer [] (y ∷ ys) k e = absurd (omega arith)
longer (x ∷ xs) (y ∷ ys) k e =
    ap (ordering_then (nat_cmp x y)) (longer xs ys k (omega arith)) ∙
    then_assoc (nat_cmp x y) (strict_order (take (length ys) xs) ys) (order_to_spaces (drop (length ys) xs))

turned : (a b : List ℕ) → strict_order a b ≡ ordering_reverse (strict_order b a)
turned = nat_list_cmp_total.antisymm

-- the same, with the shorter one first
longer_second : (a b : List ℕ) (k : ℕ) → length a + k ≡ length b → strict_order (a ++ replicate k 0x20) b ≡ ordering_then (strict_order a (take (length a) b)) (ordering_reverse (order_to_spaces (drop (length a) b)))
longer_second a b k e =
    turned (a ++ replicate k 0x20) b ∙
    ap ordering_reverse (longer b a k e) ∙
    sym (then_flip (strict_order (take (length a) b) a) (order_to_spaces (drop (length a) b))) ∙
    ap (λ o. ordering_then o (ordering_reverse (order_to_spaces (drop (length a) b)))) (sym (turned a (take (length a) b)))

-- the order of two texts, one padded, by parts: the common length, and then what is left of either
abbrev parts : ℕ → List ℕ → List ℕ → Ordering
parts n a b = ordering_then (ordering_then (strict_order (take n a) (take n b)) (order_to_spaces (drop n a))) (ordering_reverse (order_to_spaces (drop n b)))

then_equal : (o : Ordering) → ordering_then o Equal ≡ o
then_equal Less = refl
then_equal Equal = refl
then_equal Greater = refl

padded_to_own_length : (text : List ℕ) → padded (length text) text ≡ text
padded_to_own_length text = ap (λ k. text ++ replicate k 0x20) (sub_self (length text)) ∙ append-nil text

parts_longer : (a b : List ℕ) → parts (length b) a b ≡ ordering_then (strict_order (take (length b) a) b) (order_to_spaces (drop (length b) a))
parts_longer a b = simp (take-length, drop-length, then_equal)

parts_shorter : (a b : List ℕ) → parts (length a) a b ≡ ordering_then (strict_order a (take (length a) b)) (ordering_reverse (order_to_spaces (drop (length a) b)))
parts_shorter a b = simp (take-length, drop-length, then_equal)

when_longer : (a b : List ℕ) → length b ≤ length a → order_when_padded a b ≡ parts (min (length a) (length b)) a b
when_longer a b h =
    let width : max (length a) (length b) ≡ length a = omega arith in
    let common : length b ≡ min (length a) (length b) = omega arith in
    ap (λ w. strict_order (padded w a) (padded w b)) width ∙
    ap (λ t. strict_order t (padded (length a) b)) (padded_to_own_length a) ∙
    longer a b (length a - length b) (omega arith) ∙
    sym (parts_longer a b) ∙
    ap (λ n. parts n a b) common

when_shorter : (a b : List ℕ) → length a ≤ length b → order_when_padded a b ≡ parts (min (length a) (length b)) a b
when_shorter a b h =
    let width : max (length a) (length b) ≡ length b = omega arith in
    let common : length a ≡ min (length a) (length b) = omega arith in
    ap (λ w. strict_order (padded w a) (padded w b)) width ∙
    ap (λ t. strict_order (padded (length b) a) t) (padded_to_own_length b) ∙
    longer_second a b (length b - length a) (omega arith) ∙
    sym (parts_shorter a b) ∙
    ap (λ n. parts n a b) common

pub order_by_parts : (a b : List ℕ) → order_when_padded a b ≡ parts (min (length a) (length b)) a b
order_by_parts a b = elim (cases_lt (length a) (length b)) [ inl h ↦ when_shorter a b (omega arith) | inr h ↦ when_longer a b h ]
