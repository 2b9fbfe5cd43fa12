-- The name that a compound symbol stands for.
use Rattle.std.specs.Prelude.{ℕ, List, [], ◌∷◌, ◌++◌, codes, decimal, Option, None, Some}
use Rattle.std.specs.List.{flat_map}
use Rattle.rx_tree.specs.declared.value.Value.{Value}
use Rattle.rx_tree.specs.declared.value.Value.TheVariants.{Str, Ref}
use Rattle.rx_tree.specs.declared.name.Part.{Part}
use Rattle.rx_tree.specs.declared.name.Part.TheVariants.{Fixed, Of}
use Rattle.rx_tree.specs.declared.name.Name.{Name}
use Rattle.rx_tree.specs.declared.name.Name.TheVariants as name
use Rattle.rx_tree.specs.declared.name.Derived.{Derived}
use Rattle.rx_tree.specs.declared.name.Derived.TheVariants as derived
use Rattle.rx_vars.specs.Variables.{Variables}
use Rattle.rx_pools.specs.Pools.{Pools}
use Rattle.rx_names.specs.Homes.{value}

-- What stands in a tail for a variable of this value. One without a value stands for its own name, and an object is told by its
-- number.
abbrev pub text_of : Option Value → List ℕ → List ℕ
text_of None name = name
text_of (Some (Str text)) name = text
text_of (Some (Ref object)) name = codes "object " ++ decimal object

abbrev pub part_text : List Variables → Pools → Part → List ℕ
part_text frames pools (Fixed text) = text
part_text frames pools (Of name) = text_of (value frames pools (derived.Simple name)) name

-- a part behind another, with the period before it
abbrev pub next_text : List Variables → Pools → Part → List ℕ
next_text frames pools part = 46 ∷ part_text frames pools part

abbrev pub tail : List Variables → Pools → List Part → List ℕ
tail frames pools [] = []
tail frames pools (part ∷ parts) = part_text frames pools part ++ flat_map (next_text frames pools) parts

-- The name whose tail parts are replaced by their values.
abbrev pub derive : List Variables → Pools → Name → Derived
derive frames pools (name.Simple text) = derived.Simple text
derive frames pools (name.Stem stem) = derived.Stem stem
derive frames pools (name.Compound stem parts) = derived.Compound stem (tail frames pools parts)

-- a name as it is spelled
abbrev pub spelled : Derived → List ℕ
spelled (derived.Simple text) = text
spelled (derived.Stem stem) = stem
spelled (derived.Compound stem rest) = stem ++ rest
