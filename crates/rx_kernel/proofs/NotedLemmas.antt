-- The variables for which names stand, with their values.
use Rattle.std.proofs.Common.{◌≡◌, ℕ, ◌+◌, ◌<◌, ◌≤◌, false, List, [], ◌∷◌, ◌++◌, map, length, get_or, take, All, Option, Some, None, Ok, refl, ap, sym, ◌∙◌, subst, if◌then◌else◌, le-leb}
use borrow.Author.Tests.{lt-leb}
use Rattle.std.specs.List.{flat_map}
use Rattle.std.proofs.lemmas.List.{map-append, take_more}
use Rattle.std.proofs.lemmas.List.Elements.{All-nil, All-cons, All-contains, All-weaker}
use Rattle.rx_tree.specs.Bytes.{longest}
use Rattle.rx_tree.specs.declared.name.Derived.{Derived}
use Rattle.rx_tree.specs.declared.name.Derived.TheVariants as d
use Rattle.rx_tree.specs.declared.name.Name.{Name}
use Rattle.rx_tree.specs.declared.name.Name.TheVariants as n
use Rattle.rx_tree.specs.declared.name.Part.{Part}
use Rattle.rx_tree.specs.declared.name.Part.TheVariants.{Fixed, Of}
use Rattle.rx_tree.specs.declared.value.Value.{Value}
use Rattle.rx_tree.specs.declared.value.Value.TheVariants.{Str, Ref}
use Rattle.rx_vars.specs.Variables.{Variables}
use Rattle.rx_pools.specs.Pools.{Pools}
use Rattle.rx_names.specs.Deriving.{next_text, part_text, spelled, tail, text_of}
use Rattle.rx_names.specs.Deriving as spelling
use Rattle.rx_names.specs.Homes.{value}
use Rattle.rx_eval.specs.declared.naming.Named.{Named}
use Rattle.rx_eval.specs.declared.naming.Named.TheVariants.{Known, Missing, TooLong}
use Rattle.rx_eval.specs.Names.{derived_names, known}
use Rattle.rx_eval.specs.Noting.{AreNoted}
use Rattle.rx_eval.specs.Reading.{behind_periods, compound, compound_of, derive, or_own, part_texts, with_periods, with_text}
use Rattle.rx_eval.specs.Reading as reading
use Rattle.rx_eval.specs.Values.{Values, read}
use Rattle.rx_eval.proofs.LawLemmas.{IfKnown, Stays, each_known}
use Rattle.rx_eval.proofs.NotingLemmas.{each_read}
use Rattle.rx_kernel.specs.Noted.{AreValued, if_known, valued}

-- ---- derived names

text-same : (found : Option Value) (name : List ℕ) → or_own false name found ≡ Ok (text_of found name)
text-same None name = refl
text-same (Some (Str text)) name = refl
text-same (Some (Ref object)) name = refl

part-same : (frames : List Variables) (pools : Pools) (part : Part) → reading.part_text false (value frames pools) part ≡ Ok (part_text frames pools part)
part-same frames pools (Fixed text) = refl
part-same frames pools (Of name) = text-same (value frames pools (d.Simple name)) name

parts-same : (frames : List Variables) (pools : Pools) (parts : List Part) → part_texts false (value frames pools) parts ≡ Ok (map (part_text frames pools) parts)
parts-same frames pools [] = refl
parts-same frames pools (part ∷ parts) =
    ap (λ text. with_text text (part_texts false (value frames pools) parts)) (part-same frames pools part)
    ∙ ap (with_text (Ok (part_text frames pools part))) (parts-same frames pools parts)

periods-same : (frames : List Variables) (pools : Pools) (parts : List Part) → behind_periods (map (part_text frames pools) parts) ≡ flat_map (next_text frames pools) parts
periods-same frames pools [] = refl
periods-same frames pools (part ∷ parts) = ap (λ (rest : List ℕ). 0x2E ∷ part_text frames pools part ++ rest) (periods-same frames pools parts)

tail-same : (frames : List Variables) (pools : Pools) (parts : List Part) → with_periods (map (part_text frames pools) parts) ≡ tail frames pools parts
tail-same frames pools [] = refl
tail-same frames pools (part ∷ parts) = ap (λ (rest : List ℕ). part_text frames pools part ++ rest) (periods-same frames pools parts)

compound-same : (frames : List Variables) (pools : Pools) (stem : List ℕ) (parts : List Part)
    → derive false (value frames pools) (n.Compound stem parts) ≡ compound stem (tail frames pools parts)
compound-same frames pools stem parts = ap (compound_of stem) (parts-same frames pools parts) ∙ ap (compound stem) (tail-same frames pools parts)

short : (stem rest : List ℕ) → length (stem ++ rest) ≤ longest → compound stem rest ≡ Known (d.Compound stem rest)
short stem rest h = ap (λ is. if is then Known (d.Compound stem rest) else TooLong) (le-leb (length (stem ++ rest)) longest h)

-- A name stands for its derived name, where that isn't too long.
pub derived-known : (frames : List Variables) (pools : Pools) (name : Name) → length (spelled (spelling.derive frames pools name)) ≤ longest
    → derive false (value frames pools) name ≡ Known (spelling.derive frames pools name)
derived-known frames pools (n.Simple name) h = refl
derived-known frames pools (n.Stem stem) h = refl
derived-known frames pools (n.Compound stem parts) h = compound-same frames pools stem parts ∙ short stem (tail frames pools parts) h

too-long : (frames : List Variables) (pools : Pools) (stem : List ℕ) (parts : List Part) → longest < length (stem ++ tail frames pools parts)
    → derive false (value frames pools) (n.Compound stem parts) ≡ TooLong
too-long frames pools stem parts h =
    compound-same frames pools stem parts
    ∙ ap (λ is. if is then Known (d.Compound stem (tail frames pools parts)) else TooLong) (lt-leb (length (stem ++ tail frames pools parts)) longest h)

-- A compound name stands for none, where its derived name is too long.
pub derived-long : (frames : List Variables) (pools : Pools) (name : Name) (stem : List ℕ) (parts : List Part) → name ≡ n.Compound stem parts
    → longest < length (spelled (spelling.derive frames pools name)) → None ≡ if_known (derive false (value frames pools) name)
derived-long frames pools name stem parts is h =
    let long : longest < length (stem ++ tail frames pools parts) = subst (λ name. longest < length (spelled (spelling.derive frames pools name))) is h in
    sym (ap (λ name. if_known (derive false (value frames pools) name)) is ∙ ap if_known (too-long frames pools stem parts long))

-- ---- variables with their values

pub one-known : (value : Derived → Option Value) (named : Named) (name : Derived) → Some name ≡ if_known named → valued value (known named []) ≡ (name, value name) ∷ []
one-known value (Known other) name is = let e : name ≡ other = cc in ap (λ (x : Derived). (x, value x) ∷ []) (sym e)
one-known value (Missing other) name is = cc
one-known value TooLong name is = cc

pub none-known : (value : Derived → Option Value) (named : Named) → None ≡ if_known named → valued value (known named []) ≡ []
none-known value (Known other) is = cc
none-known value (Missing other) is = refl
none-known value TooLong is = refl

known-more : (named : Named) (first second : List Derived) → known named (first ++ second) ≡ known named first ++ second
known-more (Known name) first second = refl
known-more (Missing name) first second = refl
known-more TooLong first second = refl

derived-more : (value : Derived → Option Value) (first second : List Name) → derived_names value (first ++ second) ≡ derived_names value first ++ derived_names value second
derived-more value [] second = refl
derived-more value (name ∷ first) second =
    ap (known (derive false value name)) (derived-more value first second) ∙ known-more (derive false value name) (derived_names value first) (derived_names value second)

-- one name more
pub noted-next : (value : Derived → Option Value) (names : List Name) (place : ℕ) (name : Name) (noted : Values) → place < length names
    → noted ≡ valued value (derived_names value (take place names))
    → noted ++ valued value (known (derive false value (get_or names place name)) []) ≡ valued value (derived_names value (take (place + 1) names))
noted-next value names place name noted within is =
    let next : Name = get_or names place name in
    ap (λ (before : Values). before ++ valued value (known (derive false value next) [])) is
    ∙ sym (map-append (λ (other : Derived). (other, value other)) (derived_names value (take place names)) (known (derive false value next) []))
    ∙ ap (valued value) (sym (derived-more value (take place names) (next ∷ [])))
    ∙ ap (λ (some : List Name). valued value (derived_names value some)) (sym (take_more names place name within))

pub all-valued : (value : Derived → Option Value) (names : List Derived) → AreValued value (valued value names)
all-valued value [] = All-nil (λ entry. entry.1 ≡ value entry.0)
all-valued value (name ∷ names) = All-cons (λ entry. entry.1 ≡ value entry.0) (name, value name) (valued value names) refl (all-valued value names)

-- no variable stands there with another value
pub one-value : (value : Derived → Option Value) (noted : Values) (name : Derived) → AreValued value noted
    → All (λ entry. entry.0 ≡ name → entry.1 ≡ value name) noted
one-value value noted name all =
    All-weaker (λ entry. entry.1 ≡ value entry.0) (λ entry. entry.0 ≡ name → entry.1 ≡ value name) (λ entry is same. is ∙ ap value same) noted all

-- each of the names was read
pub all-noted : (value : Derived → Option Value) (names : List Name) → AreNoted value names (valued value (derived_names value names))
all-noted value names = λ name derived within is.
    let noted : Values = valued value (derived_names value names) in
    subst (IfKnown (λ other. read noted other ≡ value other)) is
    (All-contains (Stays value (read noted)) names name (each_known value (read noted) names (each_read value (derived_names value names))) within)
