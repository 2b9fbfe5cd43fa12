-- The methods of a class by their names.
use Rattle.std.proofs.Common.{◌≡◌, ℕ, suc, ◌+◌, ◌<◌, ◌&&◌, ◌||◌, Bool, true, false, cond, Option, None, Some, List, [], ◌∷◌, ◌++◌, length, take, drop, get_or, refl, sym, ap, subst, ◌∙◌, arith}
use Rattle.std.specs.Prelude.{find, is_some, option_map}
use Rattle.std.specs.List.{list_any}
use Rattle.std.specs.Option.{option_or}
use Rattle.std.specs.Str.{bytes_eq}
use Rattle.std.proofs.Math.Seq.{drop-cons}
use Rattle.std.proofs.lemmas.List.{take_more}
use Rattle.std.proofs.lemmas.List.Folds.{find-append}
use Rattle.std.proofs.lemmas.Slice.Eq.{bytes_eq-Decides}
use Rattle.rx_tree.specs.declared.class.MethodDef.{MethodDef}
use Rattle.rx_vars.specs.Tables.{look_up, with_entry}
use Rattle.rx_classes.specs.declared.method.MethodId.{MethodId}
use Rattle.rx_classes.specs.declared.class.Methods.{Methods}
use Rattle.rx_classes.specs.declared.method.DefineRefused.TheVariants as r
use Rattle.rx_classes.specs.Natives.{same_side}
use Rattle.rx_classes.specs.Lookup.{body_of, is_method, method_in}
use Rattle.rx_classes.specs.Installing.{repeated_method}
use Rattle.rx_classes.specs.Kept.{IsGathered, side_of, with_method}

pub same-bytes : (xs ys : List ℕ) → bytes_eq xs ys ≡ true → xs ≡ ys
same-bytes xs ys is = (bytes_eq-Decides xs ys).0 is

swap-bytes : (xs ys : List ℕ) → bytes_eq xs ys ≡ true → bytes_eq ys xs ≡ true
swap-bytes xs ys is = (bytes_eq-Decides ys xs).1 (sym (same-bytes xs ys is))

entry-by : {A : Type 0} (entry : List ℕ × A) (table : List (List ℕ × A)) (key name : List ℕ) (value : A) (here there : Bool)
    → bytes_eq key entry.0 ≡ here → bytes_eq name entry.0 ≡ there
    → look_up (with_entry table key value) name ≡ cond (bytes_eq name key) (Some value) (look_up table name)
    → look_up (cond here ((entry.0, value) ∷ table) (entry ∷ with_entry table key value)) name
    ≡ cond (bytes_eq name key) (Some value) (cond there (Some entry.1) (look_up table name))
entry-by entry table key name value true true a b so =
    let same : bytes_eq name key ≡ true = subst (λ (k : List ℕ). bytes_eq name k ≡ true) (sym (same-bytes key entry.0 a)) b in
    rw b (rw same refl)
entry-by entry table key name value true false a b so =
    let other : bytes_eq name key ≡ false = subst (λ (k : List ℕ). bytes_eq name k ≡ false) (sym (same-bytes key entry.0 a)) b in
    rw b (rw other refl)
entry-by entry table key name value false true a b so =
    rw b (other (bytes_eq name key) refl)
  where
    other : (same : Bool) → bytes_eq name key ≡ same → Some entry.1 ≡ cond same (Some value) (Some entry.1)
    other true is = absurd (no (subst (λ (k : List ℕ). bytes_eq k entry.0 ≡ true) (same-bytes name key is) b))
      where
        no : bytes_eq key entry.0 ≡ true → ⊥
        no is' = cc
    other false is = refl
entry-by entry table key name value false false a b so = rw b so

-- a look-up once this stands under a key
pub look_up-entry : {A : Type 0} (table : List (List ℕ × A)) (key name : List ℕ) (value : A)
    → look_up (with_entry table key value) name ≡ cond (bytes_eq name key) (Some value) (look_up table name)
look_up-entry [] key name value = refl
look_up-entry (entry ∷ table) key name value =
    entry-by entry table key name value (bytes_eq key entry.0) (bytes_eq name entry.0) refl refl (look_up-entry table key name value)

-- ---- a method in its table

some-by : {A B : Type 0} (f : A → B) (x : A) (rest : Option A) (others b : Bool) → is_some (option_map f rest) ≡ others
    → is_some (option_map f (cond b (Some x) rest)) ≡ (b || others)
some-by f x rest others true so = refl
some-by f x rest others false so = so

is_some-find : {A B : Type 0} (f : A → B) (test : A → Bool) (xs : List A) → is_some (option_map f (find test xs)) ≡ list_any test xs
is_some-find f test [] = refl
is_some-find f test (x ∷ xs) = some-by f x (find test xs) (list_any test xs) (test x) (is_some-find f test xs)

add-by : (found : Option MethodDef) (def : MethodDef) (same : Bool) → (same ≡ true → option_map body_of found ≡ None)
    → option_map body_of (option_or found (cond same (Some def) None)) ≡ cond same (Some (body_of def)) (option_map body_of found)
add-by None def true none = refl
add-by None def false none = refl
add-by (Some other) def true none = let no = none refl in absurd cc
add-by (Some other) def false none = refl

add-named : (defs : List MethodDef) (def : MethodDef) (class_side : Bool) (name : List ℕ) (same : Bool) → bytes_eq name def.name ≡ same
    → method_in defs class_side def.name ≡ None → same ≡ true → method_in defs class_side name ≡ None
add-named defs def class_side name same is none yes' =
    subst (λ (n : List ℕ). method_in defs class_side n ≡ None) (sym (same-bytes name def.name (is ∙ yes'))) none

and-true : (a : Bool) → (true && a) ≡ a
and-true a = refl

-- what is found with one more method
found-more : (defs : List MethodDef) (def : MethodDef) (class_side : Bool) (name : List ℕ)
    → method_in (defs ++ def ∷ []) class_side name
    ≡ option_map body_of (option_or (find (is_method class_side name) defs) (cond (is_method class_side name def) (Some def) None))
found-more defs def class_side name = ap (option_map body_of) (find-append (is_method class_side name) defs (def ∷ []))

same-more : (defs : List MethodDef) (def : MethodDef) (class_side : Bool) (name : List ℕ) (table : List (List ℕ × MethodId))
    → same_side def.class_side class_side ≡ true → method_in defs class_side def.name ≡ None → look_up table name ≡ method_in defs class_side name
    → look_up (with_entry table def.name (body_of def)) name ≡ method_in (defs ++ def ∷ []) class_side name
same-more defs def class_side name table side none finds =
    look_up-entry table def.name name (body_of def)
    ∙ ap (λ o. cond (bytes_eq name def.name) (Some (body_of def)) o) finds
    ∙ sym (add-by (find (is_method class_side name) defs) def (bytes_eq name def.name) (add-named defs def class_side name (bytes_eq name def.name) refl none))
    ∙ ap (λ (b : Bool). option_map body_of (option_or (find (is_method class_side name) defs) (cond b (Some def) None))) (sym (ap (λ (b : Bool). b && bytes_eq name def.name) side))
    ∙ sym (found-more defs def class_side name)

other-more : (defs : List MethodDef) (def : MethodDef) (class_side : Bool) (name : List ℕ)
    → same_side def.class_side class_side ≡ false → method_in defs class_side name ≡ method_in (defs ++ def ∷ []) class_side name
other-more defs def class_side name side =
    sym (add-by (find (is_method class_side name) defs) def false (λ e. absurd cc))
    ∙ ap (λ (b : Bool). option_map body_of (option_or (find (is_method class_side name) defs) (cond b (Some def) None))) (sym (ap (λ (b : Bool). b && bytes_eq name def.name) side))
    ∙ sym (found-more defs def class_side name)

side-by : (methods : Methods) (def : MethodDef) (defs : List MethodDef) (own class_side : Bool) (name : List ℕ) → def.class_side ≡ own
    → method_in defs own def.name ≡ None → IsGathered defs methods
    → look_up (side_of (cond own (record methods { of_class = with_entry methods.of_class def.name (body_of def) })
    (record methods { of_instances = with_entry methods.of_instances def.name (body_of def) })) class_side) name
    ≡ method_in (defs ++ def ∷ []) class_side name
side-by methods def defs true true name is none so = same-more defs def true name methods.of_class (ap (λ (b : Bool). same_side b true) is) none (so.finds true name)
side-by methods def defs true false name is none so =
    so.finds false name ∙ other-more defs def false name (ap (λ (b : Bool). same_side b false) is)
side-by methods def defs false true name is none so =
    so.finds true name ∙ other-more defs def true name (ap (λ (b : Bool). same_side b true) is)
side-by methods def defs false false name is none so = same-more defs def false name methods.of_instances (ap (λ (b : Bool). same_side b false) is) none (so.finds false name)

-- a table finds one more method once that is in it
pub gathered-more : (methods : Methods) (def : MethodDef) (defs : List MethodDef) → method_in defs def.class_side def.name ≡ None
    → IsGathered defs methods → IsGathered (defs ++ def ∷ []) (with_method methods def)
gathered-more methods def defs none so = record {
  finds = λ class_side name. side-by methods def defs def.class_side class_side name refl none so;
}

-- ---- a method that stands twice

repeated-step : (defs : List MethodDef) (place : ℕ) (def : MethodDef) → place < length defs → def ≡ get_or defs place def
    → repeated_method (take place defs) (drop place defs)
    ≡ cond (list_any (is_method def.class_side def.name) (take place defs)) (Some def.name) (repeated_method (take place defs ++ def ∷ []) (drop (place + 1) defs))
repeated-step defs place def less at =
    ap (repeated_method (take place defs)) (drop-cons defs place def less ∙ ap (λ (d : MethodDef). d ∷ drop (suc place) defs) (sym at)
    ∙ ap (λ (n : ℕ). def ∷ drop n defs) next)
  where
    next : suc place ≡ place + 1
    next = omega arith

taken : (defs : List MethodDef) (place : ℕ) (def : MethodDef) → place < length defs → def ≡ get_or defs place def
    → take (place + 1) defs ≡ take place defs ++ def ∷ []
taken defs place def less at = take_more defs place def less ∙ ap (λ (d : MethodDef). take place defs ++ d ∷ []) (sym at)

-- it is told
pub repeated-here : (defs : List MethodDef) (place : ℕ) (def : MethodDef) (name : List ℕ) (methods : Methods) → place < length defs → def ≡ get_or defs place def
    → IsGathered (take place defs) methods → is_some (look_up (side_of methods def.class_side) def.name) ≡ true
    → repeated_method [] defs ≡ repeated_method (take place defs) (drop place defs) → name ≡ def.name
    → option_map r.Twice (repeated_method [] defs) ≡ Some (r.Twice name)
repeated-here defs place def name methods less at so there is named =
    ap (option_map r.Twice)
    (is ∙ repeated-step defs place def less at
    ∙ ap (λ (b : Bool). cond b (Some def.name) (repeated_method (take place defs ++ def ∷ []) (drop (place + 1) defs))) any
    ∙ ap (λ (n : List ℕ). Some n) (sym named))
  where
    any : list_any (is_method def.class_side def.name) (take place defs) ≡ true
    any =
        sym (is_some-find body_of (is_method def.class_side def.name) (take place defs))
        ∙ ap is_some (sym (so.finds def.class_side def.name)) ∙ there

pub none-from : {A : Type 0} (found : Option A) → is_some found ≡ false → found ≡ None
none-from None is = refl
none-from (Some x) is = cc

-- and otherwise the next one is tried
pub gathered-next : (defs : List MethodDef) (place : ℕ) (def : MethodDef) (methods new : Methods) → place < length defs → def ≡ get_or defs place def
    → IsGathered (take place defs) methods → is_some (look_up (side_of methods def.class_side) def.name) ≡ false
    → repeated_method [] defs ≡ repeated_method (take place defs) (drop place defs) → new ≡ with_method methods def
    → IsGathered (take (place + 1) defs) new × (repeated_method [] defs ≡ repeated_method (take (place + 1) defs) (drop (place + 1) defs))
gathered-next defs place def methods new less at so absent is added = (
  subst (λ (ds : List MethodDef). IsGathered ds new) (sym (taken defs place def less at))
      (subst (λ (ms : Methods). IsGathered (take place defs ++ def ∷ []) ms) (sym added) (gathered-more methods def (take place defs) none so)),
  is ∙ repeated-step defs place def less at
      ∙ ap (λ (b : Bool). cond b (Some def.name) (repeated_method (take place defs ++ def ∷ []) (drop (place + 1) defs))) any
      ∙ ap (λ (ds : List MethodDef). repeated_method ds (drop (place + 1) defs)) (sym (taken defs place def less at)),
)
  where
    none : method_in (take place defs) def.class_side def.name ≡ None
    none = sym (so.finds def.class_side def.name) ∙ none-from _ absent

    any : list_any (is_method def.class_side def.name) (take place defs) ≡ false
    any =
        sym (is_some-find body_of (is_method def.class_side def.name) (take place defs))
        ∙ ap is_some (sym (so.finds def.class_side def.name)) ∙ absent
