-- What an evaluation comes to over the values of the names that code lists.
use Rattle.std.proofs.Common.{◌≡◌, ℕ, Bool, true, false, ◌&&◌, if◌then◌else◌, List, [], ◌∷◌, ◌++◌, map, reverse, take, drop, length, All, Contains, Option, Some, None, refl, ap, sym, ◌∙◌, subst, append_assoc, take-append-drop, arith}
use Rattle.std.specs.Str.{bytes_eq}
use Rattle.std.proofs.lemmas.Bool.{false≢true}
use Rattle.std.proofs.lemmas.List.Elements.{All-nil, All-cons, All-head, All-tail, All-append, All-weaker}
use Rattle.std.proofs.lemmas.Slice.Eq.{bytes_eq-Decides}
use Rattle.rx_tree.specs.declared.name.Derived.{Derived}
use Rattle.rx_tree.specs.declared.name.Derived.TheVariants as d
use Rattle.rx_tree.specs.declared.name.Name.{Name}
use Rattle.rx_tree.specs.declared.name.Name.TheVariants as n
use Rattle.rx_tree.specs.declared.name.Part.{Part}
use Rattle.rx_tree.specs.declared.name.Part.TheVariants.{Fixed, Of}
use Rattle.rx_tree.specs.declared.value.Value.{Value}
use Rattle.rx_eval.specs.declared.code.Instr.{Instr}
use Rattle.rx_eval.specs.declared.code.Instr.TheVariants as i
use Rattle.rx_eval.specs.declared.naming.Named.{Named}
use Rattle.rx_eval.specs.declared.naming.Named.TheVariants.{Known, Missing, TooLong}
use Rattle.rx_eval.specs.Names.{Lists, class_names, derived_names, first_of_each, names_in, names_of_all, names_read, reads, tail_names, tail_of, with_tail}
use Rattle.rx_eval.specs.Noting.{AreNoted, NamesSuffice}
use Rattle.rx_eval.specs.Places.{class_name, partial}
use Rattle.rx_eval.specs.Reading.{derive, is_environment}
use Rattle.rx_eval.specs.Values.{Values, read, same_name}
use Rattle.rx_eval.proofs.LawLemmas.{IfKnown, Stays, all_first, code_same, derive_same, each_known, split_all}
use Rattle.rx_eval.proofs.NameLemmas.{names_at}
use Rattle.rx_eval.proofs.ValueLemmas.{same_is}

-- ---- what is read of variables with their values

both_hold : (a b : Bool) → a ≡ true → b ≡ true → (a && b) ≡ true
both_hold true b p q = q
both_hold false b p q = absurd (false≢true p)

is_same_name : (a : Derived) → same_name a a ≡ true
is_same_name (d.Simple a) = (bytes_eq-Decides a a).1 refl
is_same_name (d.Stem a) = (bytes_eq-Decides a a).1 refl
is_same_name (d.Compound a s) = both_hold (bytes_eq a a) (bytes_eq s s) ((bytes_eq-Decides a a).1 refl) ((bytes_eq-Decides s s).1 refl)

abbrev pub valued : (Derived → Option Value) → List Derived → Values
valued value names = map (λ name. (name, value name)) names

abbrev pub IsRead : (Derived → Option Value) → Values → Derived → Type 0
IsRead value entries name = read entries name ≡ value name

one_before : (value : Derived → Option Value) (other name : Derived) (names : List Derived) (is : Bool) → same_name other name ≡ is → IsRead value (valued value names) name
    → IsRead value (valued value (other ∷ names)) name
one_before value other name names true p h = ap (λ is. if is then value other else read (valued value names) name) p ∙ ap value (same_is other name p)
one_before value other name names false p h = ap (λ is. if is then value other else read (valued value names) name) p ∙ h

-- each variable reads its value among several with theirs
pub each_read : (value : Derived → Option Value) (names : List Derived) → All (IsRead value (valued value names)) names
each_read value [] = All-nil (IsRead value (valued value []))
each_read value (name ∷ names) =
    All-cons (IsRead value (valued value (name ∷ names))) name names
    (ap (λ is. if is then value name else read (valued value names) name) (is_same_name name))
    (All-weaker (IsRead value (valued value names)) (IsRead value (valued value (name ∷ names))) (λ other h. one_before value name other names (same_name name other) refl h) names
    (each_read value names))

-- ---- names that stand for a variable with the same value in two places do so in a third

known_between : (value middle other : Derived → Option Value) (named : Named) → IfKnown (λ name. middle name ≡ value name) named → IfKnown (λ name. other name ≡ value name) named
    → IfKnown (λ name. other name ≡ middle name) named
known_between value middle other (Known name) h k = k ∙ sym h
known_between value middle other (Missing name) h k = tt
known_between value middle other TooLong h k = tt

between : (value middle other : Derived → Option Value) (name : Name) → All (Stays value middle) (tail_of name) → Stays value middle name → Stays value other name → Stays middle other name
between value middle other name t h k =
    subst (IfKnown (λ derived. other derived ≡ middle derived)) (derive_same value middle false name t) (known_between value middle other (derive false value name) h k)

tail_between : (value middle other : Derived → Option Value) (parts : List Part) → All (Stays value middle) (tail_names parts) → All (Stays value other) (tail_names parts)
    → All (Stays middle other) (tail_names parts)
tail_between value middle other [] h k = All-nil (Stays middle other)
tail_between value middle other (Fixed text ∷ parts) h k = tail_between value middle other parts h k
tail_between value middle other (Of name ∷ parts) h k =
    let names : List Name = tail_names parts in
    let one : middle (d.Simple name) ≡ value (d.Simple name) = All-head (Stays value middle) (n.Simple name) names h in
    let two : other (d.Simple name) ≡ value (d.Simple name) = All-head (Stays value other) (n.Simple name) names k in
    All-cons (Stays middle other) (n.Simple name) names (two ∙ sym one)
    (tail_between value middle other parts (All-tail (Stays value middle) (n.Simple name) names h) (All-tail (Stays value other) (n.Simple name) names k))

of_between : (value middle other : Derived → Option Value) (name : Name) → All (Stays value middle) (tail_of name) → All (Stays value other) (tail_of name) → All (Stays middle other) (tail_of name)
of_between value middle other (n.Simple name) h k = All-nil (Stays middle other)
of_between value middle other (n.Stem stem) h k = All-nil (Stays middle other)
of_between value middle other (n.Compound stem parts) h k = tail_between value middle other parts h k

name_between : (value middle other : Derived → Option Value) (name : Name) → All (Stays value middle) (with_tail name) → All (Stays value other) (with_tail name)
    → All (Stays middle other) (with_tail name)
name_between value middle other name h k =
    let one = split_all (Stays value middle) (tail_of name) (name ∷ []) h in
    let two = split_all (Stays value other) (tail_of name) (name ∷ []) k in
    All-append (Stays middle other) (tail_of name) (name ∷ []) (of_between value middle other name one.0 two.0)
    (All-cons (Stays middle other) name []
    (between value middle other name one.0 (All-head (Stays value middle) name [] one.1) (All-head (Stays value other) name [] two.1))
    (All-nil (Stays middle other)))

class_between : (value middle other : Derived → Option Value) (class : List ℕ) (is : Bool)
    → All (Stays value middle) (if is then [] else n.Simple class ∷ []) → All (Stays value other) (if is then [] else n.Simple class ∷ [])
    → All (Stays middle other) (if is then [] else n.Simple class ∷ [])
class_between value middle other class true h k = All-nil (Stays middle other)
class_between value middle other class false h k =
    let one : middle (d.Simple class) ≡ value (d.Simple class) = All-head (Stays value middle) (n.Simple class) [] h in
    let two : other (d.Simple class) ≡ value (d.Simple class) = All-head (Stays value other) (n.Simple class) [] k in
    All-cons (Stays middle other) (n.Simple class) [] (two ∙ sym one) (All-nil (Stays middle other))

above_between : (value middle other : Derived → Option Value) (above : Option (List ℕ)) → All (Stays value middle) (class_names above) → All (Stays value other) (class_names above)
    → All (Stays middle other) (class_names above)
above_between value middle other None h k = All-nil (Stays middle other)
above_between value middle other (Some class) h k = class_between value middle other class (is_environment class) h k

instr_between : (value middle other : Derived → Option Value) (instr : Instr) → All (Stays value middle) (names_read instr) → All (Stays value other) (names_read instr)
    → All (Stays middle other) (names_read instr)
instr_between value middle other (i.Name name) h k = name_between value middle other name h k
instr_between value middle other (i.Send send) h k = above_between value middle other (class_name send.class) h k
instr_between value middle other (i.Const constant) h k = All-nil (Stays middle other)
instr_between value middle other (i.Environment name object) h k = All-nil (Stays middle other)
instr_between value middle other (i.Begin form) h k = All-nil (Stays middle other)
instr_between value middle other (i.Oper oper) h k = All-nil (Stays middle other)
instr_between value middle other (i.Prefix oper) h k = All-nil (Stays middle other)
instr_between value middle other i.Group h k = All-nil (Stays middle other)
instr_between value middle other (i.Function call) h k = All-nil (Stays middle other)
instr_between value middle other i.Wanted h k = All-nil (Stays middle other)

code_between : (value middle other : Derived → Option Value) (code : List Instr) → All (Stays value middle) (names_in code) → All (Stays value other) (names_in code)
    → All (Stays middle other) (names_in code)
code_between value middle other [] h k = All-nil (Stays middle other)
code_between value middle other (instr ∷ code) h k =
    let one = split_all (Stays value middle) (names_read instr) (names_in code) h in
    let two = split_all (Stays value other) (names_read instr) (names_in code) k in
    All-append (Stays middle other) (names_read instr) (names_in code) (instr_between value middle other instr one.0 two.0) (code_between value middle other code one.1 two.1)

-- ---- the names that code lists

in_two : (first second : List Instr) → names_in (first ++ second) ≡ names_in first ++ names_in second
in_two [] second = refl
in_two (instr ∷ first) second = ap (λ names. names_read instr ++ names) (in_two first second) ∙ sym (append_assoc (names_read instr) (names_in first) (names_in second))

listed_from : (names : List Name) (code : List Instr) (place : ℕ) → Lists names code → Lists names (drop place code)
listed_from names code place h =
    (split_all (Contains names) (names_in (take place code)) (names_in (drop place code))
    (subst (All (Contains names)) (ap names_in (sym (take-append-drop place code)) ∙ in_two (take place code) (drop place code)) h)).1

noted_as : (value : Derived → Option Value) (noted : Values) (name : Name) (is : Named) → derive false value name ≡ is
    → ((derived : Derived) → derive false value name ≡ Known derived → read noted derived ≡ value derived) → IfKnown (λ derived. read noted derived ≡ value derived) is
noted_as value noted name (Known derived) p h = h derived p
noted_as value noted name (Missing other) p h = tt
noted_as value noted name TooLong p h = tt

each_noted : (value : Derived → Option Value) (names : List Name) (noted : Values) (code : List Instr) → Lists names code → AreNoted value names noted
    → All (Stays value (read noted)) (names_in code)
each_noted value names noted code h are =
    All-weaker (Contains names) (Stays value (read noted)) (λ name within. noted_as value noted name (derive false value name) refl (λ derived p. are name derived within p)) (names_in code) h

pub names_suffice : NamesSuffice
names_suffice code facts place values value names noted fit placed lists are =
    let trees = partial code.instrs place (reverse values) in
    let rest = drop place code.instrs in
    let all : Values = reads value trees in
    let derived : List Derived = derived_names value (names_of_all trees) in
    let are_read : All (IsRead value all) derived =
    all_first (IsRead value all) derived [] (λ y p. absurd (false≢true p)) (each_read value (first_of_each [] derived)) in
    let from_reads : All (Stays value (read all)) (names_in rest) =
    subst (All (Stays value (read all))) (names_at code.body code.instrs place (reverse values) fit placed) (each_known value (read all) (names_of_all trees) are_read) in
    let from_noted : All (Stays value (read noted)) (names_in rest) = each_noted value names noted rest (listed_from names code.instrs place lists) are in
    sym (code_same code (record facts { reads = all }) (record facts { reads = noted }) (record { frame = refl; novalue = refl }) fit (length code.instrs) place (reverse values)
    (omega arith) placed (code_between value (read all) (read noted) rest from_reads from_noted))
