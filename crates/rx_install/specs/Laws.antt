-- What holds of installation orders.
use Rattle.std.specs.Prelude.{◌≡◌, ℕ, List, take, slice_get, IsPermutation, Some, None}
use Rattle.rx_tree.specs.declared.class.ClassDef.{ClassDef}
use Rattle.rx_classes.specs.Installing.{missing_name}
use Rattle.rx_install.specs.Installation.{IsInstallationOrder}

-- Classes have at most one installation order.
abbrev pub AtMostOneOrder : Type 0
AtMostOneOrder = (classes order other : List ClassDef) → IsInstallationOrder classes order → IsInstallationOrder classes other → order ≡ other

-- It has each class once.
abbrev pub OrderOfAll : Type 0
OrderOfAll = (classes order : List ClassDef) → IsInstallationOrder classes order → IsPermutation classes order

-- Each class stands behind its superclass and its mixins.
abbrev pub EachInItsTurn : Type 0
EachInItsTurn = (classes order : List ClassDef) → IsInstallationOrder classes order
    → (place : ℕ) (class : ClassDef) → slice_get order place ≡ Some class → missing_name (take place order) class ≡ None
