-- Whether objects fit.
use Rattle.std.proofs.Common.{◌≡◌, ◌≢◌, ◌⊎◌, inl, inr, ℕ, ◌+◌, ◌<◌, ◌≤◌, Bool, true, false, List, sym, ap, ◌∙◌, subst, arith}
use Rattle.std.specs.Prelude.{Contains, nat_eq}
use Rattle.std.specs.Bool.{OnTrue}
use Rattle.std.proofs.lemmas.Bool.Decides.{eqb_tells}
use Rattle.rx_tree.specs.Object.{Object}
use Rattle.rx_tree.specs.declared.class.ClassDef.{ClassDef}
use Rattle.rx_classes.specs.Classes.{IsClass}
use Rattle.rx_classes.specs.Orders.{order}
use Rattle.rx_heap.specs.declared.kind.Kind.{Kind}
use Rattle.rx_heap.specs.declared.kind.Kind.TheVariants as k
use Rattle.rx_heap.specs.Objects.{class_at}
use Rattle.rx_native.specs.Fitting.{FitsObject}
use Rattle.rx_native.specs.Targets.{kind_at}

-- an object fits where its class and its kind do
pub all-fit : (b : Bool) (classes : List ClassDef) (objects : List Object) (number : ℕ) (found : List ℕ) (kind : Kind) (class : ℕ)
    → class ≡ class_at objects number → found ≡ order classes class → kind ≡ kind_at objects number → IsClass classes class
    → (kind ≡ k.ClassObject → IsClass classes number)
    → OnTrue b (Contains found 3 → kind ≡ k.ClassObject) → OnTrue b (Contains found 5 → kind ≡ k.Array)
    → OnTrue b (Contains found 6 → kind ≡ k.Queue) → OnTrue b (Contains found 7 → kind ≡ k.Directory)
    → OnTrue b (FitsObject classes objects number)
all-fit false classes objects number found kind class class_is found_is kind_is known one as_class as_array as_queue as_directory = tt
all-fit true classes objects number found kind class class_is found_is kind_is known one as_class as_array as_queue as_directory =
    let order_is : order classes (class_at objects number) ≡ found = ap (order classes) (sym class_is) ∙ sym found_is in
    record {
      known = subst (λ (c : ℕ). IsClass classes c) class_is known;
      class_object = λ is. one (kind_is ∙ is);
      of_class = λ among. sym kind_is ∙ as_class (subst (λ (xs : List ℕ). Contains xs 3) order_is among);
      of_array = λ among. sym kind_is ∙ as_array (subst (λ (xs : List ℕ). Contains xs 5) order_is among);
      of_queue = λ among. sym kind_is ∙ as_queue (subst (λ (xs : List ℕ). Contains xs 6) order_is among);
      of_directory = λ among. sym kind_is ∙ as_directory (subst (λ (xs : List ℕ). Contains xs 7) order_is among);
    }

-- one more object fits
pub fits-next : (classes : List ClassDef) (objects : List Object) (place : ℕ) → FitsObject classes objects (place + 1)
    → ((number : ℕ) → 0 < number → number ≤ place → FitsObject classes objects number)
    → (number : ℕ) → 0 < number → number ≤ place + 1 → FitsObject classes objects number
fits-next classes objects place next before number above within = by (eqb_tells number (place + 1))
  where
    by : ((nat_eq number (place + 1) ≡ true) × (number ≡ place + 1)) ⊎ ((nat_eq number (place + 1) ≡ false) × (number ≢ place + 1))
        → FitsObject classes objects number
    by (inl is) = subst (λ (n : ℕ). FitsObject classes objects n) (sym is.1) next
    by (inr isnt) = before number above (omega (arith, within, isnt.1))

-- what holds where a test is true
pub told : (P : Type 0) (b : Bool) → b ≡ true → OnTrue b P → P
told P true is holds = holds
told P false is holds = absurd (let wrong : false ≡ true = is in cc)
