-- What an evaluation depends on: the variables that are read.
use Rattle.std.proofs.Common.{◌≡◌, ℕ, zero, suc, ◌+◌, ◌≤◌, ⊎_elim, Bool, true, false, if◌then◌else◌, List, [], ◌∷◌, ◌++◌, map, reverse, drop, length, All, Option, Some, None, Result, Ok, Err, refl, ap, sym, ◌∙◌, subst, arith}
use Rattle.std.specs.Str.{bytes_eq}
use Rattle.std.specs.Prelude.{codes}
use Rattle.std.proofs.lemmas.Bool.{false≢true}
use Rattle.std.proofs.lemmas.List.Elements.{All-nil, All-cons, All-head, All-tail}
use Rattle.std.proofs.lemmas.Option.{slice_get_cases}
use Rattle.rx_builtin.specs.Frames.{arg_object}
use Rattle.rx_builtin.specs.Functions.{function_value}
use Rattle.rx_tree.specs.declared.name.Derived.{Derived}
use Rattle.rx_tree.specs.declared.name.Derived.TheVariants as d
use Rattle.rx_tree.specs.declared.name.Name.{Name}
use Rattle.rx_tree.specs.declared.name.Name.TheVariants as n
use Rattle.rx_tree.specs.declared.name.Part.{Part}
use Rattle.rx_tree.specs.declared.name.Part.TheVariants.{Fixed, Of}
use Rattle.rx_tree.specs.declared.value.Value.{Value}
use Rattle.rx_eval.specs.declared.code.Callee.{Callee}
use Rattle.rx_eval.specs.declared.code.Callee.TheVariants as callees
use Rattle.rx_eval.specs.declared.code.Class.{Class}
use Rattle.rx_eval.specs.declared.code.Instr.{Instr}
use Rattle.rx_eval.specs.declared.code.Instr.TheVariants as i
use Rattle.rx_eval.specs.declared.code.Sending.{Sending}
use Rattle.rx_eval.specs.declared.facts.Facts.{Facts}
use Rattle.rx_eval.specs.declared.naming.Named.{Named}
use Rattle.rx_eval.specs.declared.naming.Named.TheVariants.{Known, Missing, TooLong}
use Rattle.rx_eval.specs.declared.reading.Reading.TheVariants as r
use Rattle.rx_eval.specs.Calling.{builtin_value, known_value, object_or, texts_of}
use Rattle.rx_eval.specs.Code.{Code, scene}
use Rattle.rx_eval.specs.Evaluation.{AllFound, evaluate_all}
use Rattle.rx_eval.specs.Laws.{AreAlike, ReadsSuffice}
use Rattle.rx_eval.specs.Machine.{Moved, Next, Raises, Lacks, Calls, Stuck, class_moved, message_moved, move, move_callee, move_prefix, move_send, moved_by, moved_to, pair_moved, popping, scope_moved}
use Rattle.rx_eval.specs.Names.{class_names, derived_names, first_of_each, known, names_in, names_of_all, names_read, stands, tail_names, tail_of}
use Rattle.rx_eval.specs.Places.{IsPlace, class_name, fits, partial}
use Rattle.rx_eval.specs.Reading.{Scene, compound_of, derive, environment, is_environment, named, or_own, or_spelling, part_texts, symbol, value_text, variable, with_text}
use Rattle.rx_eval.specs.Values.{read, same_name}
use Rattle.rx_eval.proofs.At.{IsStepped, cut, ended_at, stepped}
use Rattle.rx_eval.proofs.NameLemmas.{names_at}
use Rattle.rx_eval.proofs.ValueLemmas.{same_is}

-- ---- from the list of variables to each name

one_more : (P : Derived → Type 0) (before : List Derived) (name x : Derived) → P name → ((y : Derived) → stands before y ≡ true → P y)
    → (is : Bool) → same_name name x ≡ is → stands (name ∷ before) x ≡ true → P x
one_more P before name x p s true is h = subst P (same_is name x is) p
one_more P before name x p s false is h = s x (sym (ap (λ b. if b then true else stands before x) is) ∙ h)

first_next : (P : Derived → Type 0) (before : List Derived) (name : Derived) (names : List Derived) → ((y : Derived) → stands before y ≡ true → P y)
    → ((others : List Derived) → ((y : Derived) → stands others y ≡ true → P y) → All P (first_of_each others names) → All P names)
    → (is : Bool) → stands before name ≡ is → All P (if is then first_of_each before names else name ∷ first_of_each (name ∷ before) names) → All P (name ∷ names)
first_next P before name names s rest true is h = All-cons P name names (s name is) (rest before s h)
first_next P before name names s rest false is h =
    let p : P name = All-head P name (first_of_each (name ∷ before) names) h in
    All-cons P name names p
    (rest (name ∷ before) (λ y. one_more P before name y p s (same_name name y) refl) (All-tail P name (first_of_each (name ∷ before) names) h))

pub all_first : (P : Derived → Type 0) (names before : List Derived) → ((y : Derived) → stands before y ≡ true → P y) → All P (first_of_each before names) → All P names
all_first P [] before s h = All-nil P
all_first P (name ∷ names) before s h = first_next P before name names s (all_first P names) (stands before name) refl h

abbrev Same : Facts → Facts → Derived → Type 0
Same f g name = read g.reads name ≡ read f.reads name

abbrev Given : Facts → Derived × Option Value → Type 0
Given g entry = read g.reads entry.0 ≡ entry.1

each_same : (f g : Facts) (names : List Derived) → All (Given g) (map (λ name. (name, read f.reads name)) names) → All (Same f g) names
each_same f g [] h = All-nil (Same f g)
each_same f g (name ∷ names) h =
    let entries : List (Derived × Option Value) = map (λ name. (name, read f.reads name)) names in
    All-cons (Same f g) name names (All-head (Given g) (name, read f.reads name) entries h)
    (each_same f g names (All-tail (Given g) (name, read f.reads name) entries h))

abbrev pub IfKnown : (Derived → Type 0) → Named → Type 0
IfKnown P (Known name) = P name
IfKnown P _ = Unit {0}

known_next : (P : Derived → Type 0) (named : Named) (rest : List Derived) → All P (known named rest) → IfKnown P named × All P rest
known_next P (Known name) rest h = (All-head P name rest h, All-tail P name rest h)
known_next P (Missing name) rest h = (tt, h)
known_next P TooLong rest h = (tt, h)

-- a name stands for a variable that has the same value in both
abbrev pub Stays : (Derived → Option Value) → (Derived → Option Value) → Name → Type 0
Stays value other name = IfKnown (λ derived. other derived ≡ value derived) (derive false value name)

abbrev pub Reads : Facts → Facts → Name → Type 0
Reads f g name = Stays (read f.reads) (read g.reads) name

pub each_known : (value other : Derived → Option Value) (names : List Name) → All (λ derived. other derived ≡ value derived) (derived_names value names) → All (Stays value other) names
each_known value other [] h = All-nil (Stays value other)
each_known value other (name ∷ names) h =
    let both = known_next (λ derived. other derived ≡ value derived) (derive false value name) (derived_names value names) h in
    All-cons (Stays value other) name names both.0 (each_known value other names both.1)

pub split_all : {X : Type 0} (P : X → Type 0) (first second : List X) → All P (first ++ second) → All P first × All P second
split_all P [] second h = (All-nil P, h)
split_all P (x ∷ first) second h =
    let rest = split_all P first second (All-tail P x (first ++ second) h) in
    (All-cons P x first (All-head P x (first ++ second) h) rest.0, rest.1)

-- ---- names with the values of their tails

parts_same : (value other : Derived → Option Value) (novalue : Bool) (parts : List Part) → All (Stays value other) (tail_names parts) → part_texts novalue value parts ≡ part_texts novalue other parts
parts_same value other novalue [] h = refl
parts_same value other novalue (Fixed text ∷ parts) h = ap (with_text (Ok text)) (parts_same value other novalue parts h)
parts_same value other novalue (Of name ∷ parts) h =
    let one : other (d.Simple name) ≡ value (d.Simple name) = All-head (Stays value other) (n.Simple name) (tail_names parts) h in
    ap (λ found. with_text (or_own novalue name found) (part_texts novalue value parts)) (sym one)
    ∙ ap (with_text (or_own novalue name (other (d.Simple name)))) (parts_same value other novalue parts (All-tail (Stays value other) (n.Simple name) (tail_names parts) h))

pub derive_same : (value other : Derived → Option Value) (novalue : Bool) (name : Name) → All (Stays value other) (tail_of name) → derive novalue value name ≡ derive novalue other name
derive_same value other novalue (n.Simple name) h = refl
derive_same value other novalue (n.Stem stem) h = refl
derive_same value other novalue (n.Compound stem parts) h = ap (compound_of stem) (parts_same value other novalue parts h)

-- where NOVALUE is trapped, what is known is known without it

text_ok : (text : List ℕ) (trapped free : Result (List (List ℕ)) (List ℕ)) → ((texts : List (List ℕ)) → trapped ≡ Ok texts → free ≡ Ok texts)
    → (texts : List (List ℕ)) → with_text (Ok text) trapped ≡ Ok texts → with_text (Ok text) free ≡ Ok texts
text_ok text (Ok found) free h texts p = ap (with_text (Ok text)) (h found refl) ∙ p
text_ok text (Err name) free h texts p = absurd (cc)

own_ok : (name : List ℕ) (value : Option Value) (trapped free : Result (List (List ℕ)) (List ℕ)) → ((texts : List (List ℕ)) → trapped ≡ Ok texts → free ≡ Ok texts)
    → (texts : List (List ℕ)) → with_text (or_own true name value) trapped ≡ Ok texts → with_text (or_own false name value) free ≡ Ok texts
own_ok name (Some value) trapped free h texts p = text_ok (value_text value) trapped free h texts p
own_ok name None trapped free h texts p = absurd (cc)

texts_ok : (value : Derived → Option Value) (parts : List Part) (texts : List (List ℕ)) → part_texts true value parts ≡ Ok texts → part_texts false value parts ≡ Ok texts
texts_ok value [] texts p = p
texts_ok value (Fixed text ∷ parts) texts p = text_ok text (part_texts true value parts) (part_texts false value parts) (texts_ok value parts) texts p
texts_ok value (Of name ∷ parts) texts p = own_ok name (value (d.Simple name)) (part_texts true value parts) (part_texts false value parts) (texts_ok value parts) texts p

compound_known : (value : Derived → Option Value) (stem : List ℕ) (parts : List Part) (name : Derived) (texts : Result (List (List ℕ)) (List ℕ)) → part_texts true value parts ≡ texts
    → compound_of stem texts ≡ Known name → compound_of stem (part_texts false value parts) ≡ Known name
compound_known value stem parts name (Ok texts) p h = ap (compound_of stem) (texts_ok value parts texts p) ∙ h
compound_known value stem parts name (Err other) p h = absurd (cc)

known_untrapped : (value : Derived → Option Value) (novalue : Bool) (name : Name) (derived : Derived) → derive novalue value name ≡ Known derived → derive false value name ≡ Known derived
known_untrapped value novalue (n.Simple name) derived h = h
known_untrapped value novalue (n.Stem stem) derived h = h
known_untrapped value false (n.Compound stem parts) derived h = h
known_untrapped value true (n.Compound stem parts) derived h = compound_known value stem parts derived (part_texts true value parts) refl h

named_same : (f g : Facts) → AreAlike f g → (name : Name) → Reads f g name → (is : Named) → derive f.novalue (read f.reads) name ≡ is → named f is ≡ named g is
named_same f g a name h (Known derived) p =
    let same : read g.reads derived ≡ read f.reads derived = subst (IfKnown (Same f g)) (known_untrapped (read f.reads) f.novalue name derived p) h in
    ap (λ novalue. or_spelling novalue derived (read f.reads derived)) a.novalue ∙ ap (or_spelling g.novalue derived) (sym same)
named_same f g a name h (Missing other) p = refl
named_same f g a name h TooLong p = refl

variable_same : (f g : Facts) → AreAlike f g → (name : Name) → All (Reads f g) (tail_of name) → Reads f g name → variable f name ≡ variable g name
variable_same f g a name t h =
    named_same f g a name h (derive f.novalue (read f.reads) name) refl
    ∙ ap (named g) (derive_same (read f.reads) (read g.reads) f.novalue name t ∙ ap (λ novalue. derive novalue (read g.reads) name) a.novalue)

symbol_by : (f g : Facts) → AreAlike f g → (name : List ℕ) (object : Option ℕ) (is : Bool) → is_environment name ≡ is
    → All (Reads f g) (if is then [] else n.Simple name ∷ []) → symbol f name object ≡ symbol g name object
symbol_by f g a name object true p h =
    ap (λ is. if is then r.Gives (environment name object) else variable f (n.Simple name)) p
    ∙ sym (ap (λ is. if is then r.Gives (environment name object) else variable g (n.Simple name)) p)
symbol_by f g a name object false p h =
    ap (λ is. if is then r.Gives (environment name object) else variable f (n.Simple name)) p
    ∙ variable_same f g a (n.Simple name) (All-nil (Reads f g)) (All-head (Reads f g) (n.Simple name) [] h)
    ∙ sym (ap (λ is. if is then r.Gives (environment name object) else variable g (n.Simple name)) p)

-- ---- instructions

popping_same : (shape : List Bool) (values : List Value) (args : List (Option Value)) (go other : List (Option Value) → List Value → Moved)
    → ((args : List (Option Value)) (values : List Value) → go args values ≡ other args values) → popping shape values args go ≡ popping shape values args other
popping_same [] values args go other h = h args values
popping_same (false ∷ shape) values args go other h = popping_same shape values (None ∷ args) go other h
popping_same (true ∷ shape) [] args go other h = refl
popping_same (true ∷ shape) (value ∷ values) args go other h = popping_same shape values (Some value ∷ args) go other h

builtin_same : (f g : Facts) → AreAlike f g → (name : List ℕ) (args : List (Option Value)) → builtin_value f name args ≡ builtin_value g name args
unfolding builtin_value
builtin_same f g a name args =
    ap (λ frame. object_or (if bytes_eq name (codes "ARG") then arg_object (texts_of args) frame else None) (known_value (function_value name (texts_of args) frame))) a.frame

callee_same : (f g : Facts) → AreAlike f g → (callee : Callee) (name : List ℕ) (args : List (Option Value)) (values : List Value) → move_callee f callee name args values ≡ move_callee g callee name args values
callee_same f g a callees.Label name args values = refl
callee_same f g a callees.Builtin name args values = ap (moved_by values) (builtin_same f g a name args)
callee_same f g a callees.Routine name args values = refl

scope_same : (f g : Facts) → AreAlike f g → (class : Option Class) (go : Option ℕ → Moved) → All (Reads f g) (class_names (class_name class)) → scope_moved f class go ≡ scope_moved g class go
scope_same f g a None go h = refl
scope_same f g a (Some class) go h = ap (λ reading. class_moved reading go) (symbol_by f g a class.name class.object (is_environment class.name) refl h)

send_same : (f g : Facts) → AreAlike f g → (send : Sending) → All (Reads f g) (class_names (class_name send.class)) → (args : List (Option Value)) (values : List Value)
    → move_send f send args values ≡ move_send g send args values
send_same f g a send h args [] = refl
send_same f g a send h args (target ∷ values) = scope_same f g a send.class (message_moved send args target values) h

move_same : (f g : Facts) → AreAlike f g → (instr : Instr) (values : List Value) → All (Reads f g) (names_read instr) → move f instr values ≡ move g instr values
move_same f g a (i.Const value) values h = refl
move_same f g a (i.Name name) values h =
    let both = split_all (Reads f g) (tail_of name) (name ∷ []) h in
    ap (moved_to values) (variable_same f g a name both.0 (All-head (Reads f g) name [] both.1))
move_same f g a (i.Environment name object) values h = refl
move_same f g a (i.Begin form) values h = refl
move_same f g a (i.Oper oper) values h = ap (λ frame. pair_moved frame.digits oper values) a.frame
move_same f g a (i.Prefix oper) [] h = refl
move_same f g a (i.Prefix oper) (right ∷ values) h = ap (λ frame. move_prefix frame.digits oper right values) a.frame
move_same f g a i.Group values h = refl
move_same f g a (i.Function call) values h =
    popping_same call.shape values [] (move_callee f call.callee call.name) (move_callee g call.callee call.name) (callee_same f g a call.callee call.name)
move_same f g a (i.Send send) values h = popping_same send.shape values [] (move_send f send) (move_send g send) (send_same f g a send h)
move_same f g a i.Wanted [] h = refl
move_same f g a i.Wanted (value ∷ values) h = refl

-- ---- code

step_same : (one other : Scene) (code : List Instr) (at : ℕ) (all same : AllFound) (moved : Moved) → IsStepped one code at all moved → IsStepped other code at same moved
    → ((values : List Value) → IsPlace code (at + 1) values → evaluate_all one (partial code (at + 1) values) ≡ evaluate_all other (partial code (at + 1) values)) → all ≡ same
step_same one other code at all same (Next values) h k rest = h.1 ∙ rest values h.0 ∙ sym k.1
step_same one other code at all same (Raises number) h k rest = h ∙ sym k
step_same one other code at all same (Lacks name) h k rest = h ∙ sym k
step_same one other code at all same (Calls sent again values) h k rest = h.1 ∙ sym k.1
step_same one other code at all same Stuck h k rest = absurd h

step_both : (one other : Scene) (code : List Instr) (at : ℕ) (all same : AllFound) (moved also : Moved) → moved ≡ also → IsStepped one code at all moved → IsStepped other code at same also
    → ((values : List Value) → IsPlace code (at + 1) values → evaluate_all one (partial code (at + 1) values) ≡ evaluate_all other (partial code (at + 1) values)) → all ≡ same
step_both one other code at all same moved also is h k rest = step_same one other code at all same moved h (subst (IsStepped other code at same) (sym is) k) rest

pub code_same : (code : Code) (f g : Facts) → AreAlike f g → fits code.body code.instrs [] ≡ true → (more at : ℕ) (values : List Value) → length code.instrs ≤ at + more
    → IsPlace code.instrs at values → All (Reads f g) (names_in (drop at code.instrs))
    → evaluate_all (scene code f) (partial code.instrs at values) ≡ evaluate_all (scene code g) (partial code.instrs at values)
code_same code f g a fit zero at values within place h =
    ended_at (scene code f) code.instrs at values (omega arith) place ∙ sym (ended_at (scene code g) code.instrs at values (omega arith) place)
code_same code f g a fit (suc more) at values within place h =
    ⊎_elim
    (λ t.
    let here = cut code.instrs at t.0 t.2 in
    let split = split_all (Reads f g) (names_read t.0) (names_in (drop (at + 1) code.instrs)) (subst (λ rest. All (Reads f g) (names_in rest)) here.0 h) in
    let one = stepped (scene code f) code.instrs at t.0 values fit t.2 place in
    let other = stepped (scene code g) code.instrs at t.0 values fit t.2 place in
    step_both (scene code f) (scene code g) code.instrs at (evaluate_all (scene code f) (partial code.instrs at values)) (evaluate_all (scene code g) (partial code.instrs at values))
    (move f t.0 values) (move g t.0 values) (move_same f g a t.0 values split.0) one other
    (λ next placed. code_same code f g a fit more (at + 1) next (omega arith) placed split.1))
    (λ t. ended_at (scene code f) code.instrs at values t.0 place ∙ sym (ended_at (scene code g) code.instrs at values t.0 place))
    (slice_get_cases code.instrs at).1

pub suffices : ReadsSuffice
suffices code f g place values fit placed a h =
    let names = names_of_all (partial code.instrs place (reverse values)) in
    let each : All (Reads f g) names =
    each_known (read f.reads) (read g.reads) names (all_first (Same f g) (derived_names (read f.reads) names) [] (λ y p. absurd (false≢true p)) (each_same f g (first_of_each [] (derived_names (read f.reads) names)) h)) in
    code_same code f g a fit (length code.instrs) place (reverse values) (omega arith) placed
    (subst (All (Reads f g)) (names_at code.body code.instrs place (reverse values) fit placed) each)
