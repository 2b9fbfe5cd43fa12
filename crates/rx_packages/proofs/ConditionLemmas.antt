-- The conditions, one directive after the other.
use Rattle.std.proofs.Common.{◌≡◌, ℕ, Bool, true, false, not, ◌&&◌, ◌||◌, if◌then◌else◌, List, [], ◌∷◌, ◌++◌, Option, Some, None, is_some, refl, ap, sym, ◌∙◌}
use denote.Ref.{Bor}
use Rattle.std.specs.Str.{bytes_eq}
use Rattle.std.specs.Option.{option_copied}
use Rattle.rx_vars.specs.Tables.{look_up, with_entry}
use Rattle.rx_directives.specs.declared.directive.Directive.{Directive}
use Rattle.rx_directives.specs.Packages.{begins_class}
use Rattle.rx_packages.specs.Conditions.{needs_class, are_placed, is_plain_kind, are_plain, is_in, routine_name, are_new, keys}

pub placed_class : (directive : Directive) (directives : List Directive) → begins_class directive.kind ≡ true → are_placed (directive ∷ directives) ≡ true
placed_class directive directives is = rw is

pub placed_needs : (directive : Directive) (directives : List Directive) → begins_class directive.kind ≡ false → needs_class directive.kind ≡ true
    → are_placed (directive ∷ directives) ≡ false
placed_needs directive directives isnt is = rw (isnt, is)

pub placed_more : (directive : Directive) (directives : List Directive) → begins_class directive.kind ≡ false → needs_class directive.kind ≡ false
    → are_placed (directive ∷ directives) ≡ are_placed directives
placed_more directive directives isnt other = rw (isnt, other) refl

pub ruleset placed = (placed_class, placed_needs, placed_more)

not-true : (b : Bool) → not b ≡ true → b ≡ false
not-true true is = cc
not-true false is = refl

pub plain_no : (directive : Directive) (directives : List Directive) → true ≡ not (is_plain_kind directive.kind) → are_plain (directive ∷ directives) ≡ false
plain_no directive directives is = go (is_plain_kind directive.kind) is
  where
    go : (b : Bool) → true ≡ not b → (b && are_plain directives) ≡ false
    go true is = cc
    go false is = refl

pub plain_more : (directive : Directive) (directives : List Directive) → false ≡ not (is_plain_kind directive.kind)
    → are_plain (directive ∷ directives) ≡ are_plain directives
plain_more directive directives is = go (is_plain_kind directive.kind) is
  where
    go : (b : Bool) → false ≡ not b → (b && are_plain directives) ≡ are_plain directives
    go true is = refl
    go false is = cc

pub ruleset plain = (plain_no, plain_more)

-- ---- the names of routines

pub new_no_routine : (earlier : List (List ℕ)) (directive : Directive) (directives : List Directive) → routine_name directive.kind ≡ None
    → are_new earlier (directive ∷ directives) ≡ are_new earlier directives
new_no_routine earlier directive directives is = rw is refl

in-keys : {A : Type 0} (entries : List (List ℕ × A)) (name : List ℕ) → is_in (keys entries) name ≡ is_some (look_up entries name)
in-keys [] name = refl
in-keys (entry ∷ entries) name = go (bytes_eq name entry.0) (in-keys entries name)
  where
    go : (same : Bool) → is_in (keys entries) name ≡ is_some (look_up entries name)
        → (same || is_in (keys entries) name) ≡ is_some (if same then Some entry.1 else look_up entries name)
    go true others = refl
    go false others = others

new-key : {A : Type 0} (entries : List (List ℕ × A)) (name : List ℕ) (value : A) → look_up entries name ≡ None
    → keys (with_entry entries name value) ≡ keys entries ++ name ∷ []
new-key [] name value is = refl
new-key {A = A} (entry ∷ entries) name value is = go (bytes_eq name entry.0) is (new-key entries name value)
  where
    go : (same : Bool) → (if same then Some entry.1 else look_up entries name) ≡ None
        → (look_up entries name ≡ None → keys (with_entry entries name value) ≡ keys entries ++ name ∷ [])
        → keys (if same then (entry.0, value) ∷ entries else entry ∷ with_entry entries name value) ≡ entry.0 ∷ (keys entries ++ name ∷ [])
    go true p others = cc
    go false p others = ap (λ (ks : List (List ℕ)). entry.0 ∷ ks) (others p)

pub old_routine : (earlier : List (List ℕ)) (name : List ℕ) (directive : Directive) (directives : List Directive)
    → routine_name directive.kind ≡ Some name → is_in earlier name ≡ true → are_new earlier (directive ∷ directives) ≡ false
old_routine earlier name directive directives is some = rw (is, some)

pub new_routine : (earlier later : List (List ℕ)) (name : List ℕ) (directive : Directive) (directives : List Directive)
    → routine_name directive.kind ≡ Some name → is_in earlier name ≡ false → later ≡ earlier ++ name ∷ []
    → are_new earlier (directive ∷ directives) ≡ are_new later directives
new_routine earlier later name directive directives is none more = rw (is, none, more) refl

-- what is found through a reference is found
copied-some : {A : Type 0} (found : Option (Bor A)) → is_some (option_copied found) ≡ is_some found
copied-some None = refl
copied-some (Some one) = refl

pub noted_in : {A : Type 0} (entries : List (List ℕ × A)) (name : List ℕ) (found : Option (Bor A)) → option_copied found ≡ look_up entries name
    → is_some found ≡ is_in (keys entries) name
noted_in entries name found is = sym (copied-some found) ∙ ap (λ o. is_some o) is ∙ sym (in-keys entries name)

none-in : {A : Type 0} (found : Option A) → is_some found ≡ false → found ≡ None
none-in None is = refl
none-in (Some one) is = cc

pub noted_more : {A : Type 0} (entries more : List (List ℕ × A)) (name : List ℕ) (value : A) → is_in (keys entries) name ≡ false
    → more ≡ with_entry entries name value → keys more ≡ keys entries ++ name ∷ []
noted_more entries more name value new is =
    ap keys is ∙ new-key entries name value (none-in (look_up entries name) (sym (in-keys entries name) ∙ new))

pub ruleset noted = (noted_in, noted_more)

pub ruleset new_names = (new_no_routine, new_routine, old_routine)
