-- The table of methods by their numbers.
use Rattle.std.proofs.Common.{◌≡◌, ℕ, zero, suc, List, [], ◌∷◌, ◌++◌, Option, None, Some, refl, sym, ap, ◌∙◌}
use Rattle.std.specs.Prelude.{map, option_and_then, option_map, replicate, slice_get}
use Rattle.std.proofs.lemmas.Option.{slice_get-map}
use Rattle.rx_classes.specs.Natives.{NativeMethod, native_methods}
use Rattle.rx_native.specs.declared.method.Method.{Method}
use Rattle.rx_native.specs.Methods.{method_numbered, method_of}

abbrev pub joined : Option (Option Method) → Option Method
joined found = option_and_then (λ (o : Option Method). o) found

joined-map : (found : Option NativeMethod) → joined (option_map method_of found) ≡ option_and_then method_of found
joined-map None = refl
joined-map (Some native) = refl

no-more : (n place : ℕ) → joined (slice_get (replicate {A = Option Method} n None) place) ≡ None
no-more zero place = refl
no-more (suc n) zero = refl
no-more (suc n) (suc place) = no-more n place

joined-table : (table : List Method) (n place : ℕ) → joined (slice_get (map Some table ++ replicate {A = Option Method} n None) place) ≡ slice_get table place
joined-table [] n place = no-more n place
joined-table (method ∷ table) n zero = refl
joined-table (method ∷ table) n (suc place) = joined-table table n place

-- a table that has what the native methods are, but for the last ones, has the method of each number
pub numbered : (table : List Method) (n id : ℕ) (result : Option Method) → result ≡ slice_get table id
    → map Some table ++ replicate {A = Option Method} n None ≡ map method_of native_methods → result ≡ method_numbered id
numbered table n id result is same =
    is ∙ (sym (joined-table table n id)
    ∙ (ap (λ (ms : List (Option Method)). joined (slice_get ms id)) same
    ∙ (ap joined (slice_get-map method_of native_methods id) ∙ joined-map (slice_get native_methods id))))
