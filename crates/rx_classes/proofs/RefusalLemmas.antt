-- Which of the refusals of a class applies.
use Rattle.std.proofs.Common.{◌≡◌, ℕ, Bool, true, false, cond, not, Option, None, Some, List, [], refl, sym, ap, ◌∙◌}
use Rattle.std.specs.Prelude.{find, is_none, is_some, option_map}
use Rattle.std.specs.Option.{option_map_or, option_or}
use Rattle.rx_tree.specs.declared.class.ClassDef.{ClassDef}
use Rattle.rx_classes.specs.declared.method.DefineRefused.TheVariants as r
use Rattle.rx_classes.specs.Classes.{class_named}
use Rattle.rx_classes.specs.Orders.{order}
use Rattle.rx_classes.specs.Installing.{baseless_name, closed_name, has_base, is_closed, missing_name, no_mixin_name, refusal, repeated_method, repeated_name}
use Rattle.rx_classes.specs.Kept.{IsCaused}

-- the first refusal of several
abbrev pub first_of_all : {A B : Type 0} → (A → B) → (A → B) → (A → B) → (A → B) → (A → B) → Option A → Option A → Option A → Option A → Option A → Option B
first_of_all f g h i j a b c d e =
    option_or (option_map f a) (option_or (option_map g b) (option_or (option_map h c) (option_or (option_map i d) (option_map j e))))

none-of-all : {A B : Type 0} (f g h i j : A → B) (a b c d e : Option A) → first_of_all f g h i j a b c d e ≡ None
    → (a ≡ None) × (b ≡ None) × (c ≡ None) × (d ≡ None) × (e ≡ None)
none-of-all f g h i j None None None None None is = (refl, refl, refl, refl, refl)
none-of-all f g h i j None None None None (Some x) is = absurd cc
none-of-all f g h i j None None None (Some x) e is = absurd cc
none-of-all f g h i j None None (Some x) d e is = absurd cc
none-of-all f g h i j None (Some x) c d e is = absurd cc
none-of-all f g h i j (Some x) b c d e is = absurd cc

-- a class that isn't refused meets each condition
pub refusal-none : (classes : List ClassDef) (class : ClassDef) → refusal classes class ≡ None
    → (missing_name classes class ≡ None) × (no_mixin_name classes class ≡ None) × (baseless_name classes class ≡ None)
    × (repeated_name classes class ≡ None) × (closed_name classes class ≡ None)
refusal-none classes class is =
    none-of-all r.NoSuchClass r.NotAMixin r.BaseMissing r.Twice r.Closed (missing_name classes class) (no_mixin_name classes class)
    (baseless_name classes class) (repeated_name classes class) (closed_name classes class) is

-- and a class that meets each isn't
pub refusal-fit : (classes : List ClassDef) (class : ClassDef) → missing_name classes class ≡ None → no_mixin_name classes class ≡ None
    → baseless_name classes class ≡ None → repeated_name classes class ≡ None → closed_name classes class ≡ None → refusal classes class ≡ None
refusal-fit classes class a b c d e = rw a (rw b (rw c (rw d (rw e refl))))

pub refusal-missing : (classes : List ClassDef) (class : ClassDef) (name : List ℕ) → missing_name classes class ≡ Some name
    → refusal classes class ≡ Some (r.NoSuchClass name)
refusal-missing classes class name a = rw a refl

pub refusal-no_mixin : (classes : List ClassDef) (class : ClassDef) (name : List ℕ) → missing_name classes class ≡ None
    → no_mixin_name classes class ≡ Some name → refusal classes class ≡ Some (r.NotAMixin name)
refusal-no_mixin classes class name a b = rw a (rw b refl)

pub refusal-baseless : (classes : List ClassDef) (class : ClassDef) (name : List ℕ) → missing_name classes class ≡ None
    → no_mixin_name classes class ≡ None → baseless_name classes class ≡ Some name → refusal classes class ≡ Some (r.BaseMissing name)
refusal-baseless classes class name a b c = rw a (rw b (rw c refl))

pub refusal-repeated : (classes : List ClassDef) (class : ClassDef) (name : List ℕ) → missing_name classes class ≡ None
    → no_mixin_name classes class ≡ None → baseless_name classes class ≡ None → repeated_name classes class ≡ Some name
    → refusal classes class ≡ Some (r.Twice name)
refusal-repeated classes class name a b c d = rw a (rw b (rw c (rw d refl)))

pub refusal-closed : (classes : List ClassDef) (class : ClassDef) (name : List ℕ) → missing_name classes class ≡ None
    → no_mixin_name classes class ≡ None → baseless_name classes class ≡ None → repeated_name classes class ≡ None
    → closed_name classes class ≡ Some name → refusal classes class ≡ Some (r.Closed name)
refusal-closed classes class name a b c d e = rw a (rw b (rw c (rw d (rw e refl))))

-- ---- the conditions one by one

-- whether it is named
pub missing-none : (classes : List ClassDef) (class : ClassDef) (parent : ℕ) → class_named classes class.parent ≡ Some parent
    → find (λ (name : List ℕ). is_none (class_named classes name)) class.inherits ≡ None → missing_name classes class ≡ None
missing-none classes class parent is none =
    ap (λ (o : Option ℕ). cond (is_none o) (Some class.parent) (find (λ (name : List ℕ). is_none (class_named classes name)) class.inherits)) is ∙ none

pub baseless-is : (classes : List ClassDef) (class : ClassDef) (parent : ℕ) (found : Option (List ℕ)) → class_named classes class.parent ≡ Some parent
    → found ≡ find (λ (name : List ℕ). not (has_base classes (order classes parent) name)) class.inherits → found ≡ baseless_name classes class
baseless-is classes class parent found is so =
    so ∙ ap (λ (o : Option ℕ). find (λ (name : List ℕ). not (has_base classes (option_map_or (order classes) o []) name)) class.inherits) (sym is)

pub repeated-class : (classes : List ClassDef) (class : ClassDef) → is_some (class_named classes class.name) ≡ true → repeated_name classes class ≡ Some class.name
repeated-class classes class is = ap (λ (b : Bool). cond b (Some class.name) (repeated_method [] class.methods)) is

pub repeated-methods : (classes : List ClassDef) (class : ClassDef) → is_some (class_named classes class.name) ≡ false
    → repeated_name classes class ≡ repeated_method [] class.methods
repeated-methods classes class is = ap (λ (b : Bool). cond b (Some class.name) (repeated_method [] class.methods)) is

pub closed-is : (classes : List ClassDef) (class : ClassDef) (parent : ℕ) (closed : Bool) → class_named classes class.parent ≡ Some parent → is_closed parent ≡ closed
    → closed_name classes class ≡ cond closed (Some class.parent) None
closed-is classes class parent closed is so =
    ap (λ (o : Option ℕ). cond (option_map_or is_closed o false) (Some class.parent) None) is ∙ ap (λ (b : Bool). cond b (Some class.parent) None) so

-- a refusal that a part has caused
pub caused-by : (part : Option (List ℕ)) (whole : Option r.the_data) (e : r.the_data) → ((name : List ℕ) → part ≡ Some name → whole ≡ Some (r.Twice name))
    → IsCaused (option_map r.Twice part) e → IsCaused whole e
caused-by part whole r.OutOfMemory so is = tt
caused-by None whole (r.NoSuchClass name) so is = absurd cc
caused-by (Some x) whole (r.NoSuchClass name) so is = absurd cc
caused-by None whole (r.NotAMixin name) so is = absurd cc
caused-by (Some x) whole (r.NotAMixin name) so is = absurd cc
caused-by None whole (r.BaseMissing name) so is = absurd cc
caused-by (Some x) whole (r.BaseMissing name) so is = absurd cc
caused-by None whole (r.Twice name) so is = absurd cc
caused-by (Some x) whole (r.Twice name) so is = so x refl ∙ is
caused-by None whole (r.Closed name) so is = absurd cc
caused-by (Some x) whole (r.Closed name) so is = absurd cc
