-- Equality of trees, as a test.
use Rattle.std.specs.Prelude.{◌≡◌, Bool, ◌↔◌, IsTrue}
use Rattle.std.specs.Cmp.{IsPartialEquivalence, IsEquivalence, both_ways}
use Rattle.rx_tree.specs.Codes.{same, same-of, same-is, same_equivalence, same_laws}
use Rattle.rx_tree.specs.declared.expr.Expr.{Expr}
use Rattle.rx_tree.specs.contracts.expr.Expr.{the_row}

unfoldable pub equal : Expr → Expr → Bool
equal = same (the_row.coded)

pub equal_laws : IsPartialEquivalence equal
unfolding equal
equal_laws = same_laws (the_row.coded)

pub equal_equivalence : IsEquivalence equal
unfolding equal
equal_equivalence = same_equivalence (the_row.coded)

pub equal-is : (x y : Expr) → IsTrue (equal x y) → x ≡ y
unfolding equal
equal-is = same-is (the_row.coded)

-- a test that holds exactly of equal trees is `equal`
pub equal-by : (r : Bool) (x y : Expr) → (IsTrue r ↔ (x ≡ y)) → r ≡ equal x y
unfolding equal
equal-by r x y h = both_ways r (equal x y) (λ e. same-of (the_row.coded) x y (h.0 e)) (λ e. h.1 (same-is (the_row.coded) x y e))

pub ruleset tests = (equal-is, equal-by)
