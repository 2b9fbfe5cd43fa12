-- What stands in a program has room in its source.
use Rattle.std.proofs.Common.{◌≡◌, ℕ, ◌+◌, ◌*◌, ◌<◌, ◌≤◌, Bool, true, false, if◌then◌else◌, List, [], ◌∷◌, ◌++◌, length, Option, Some, None, ap, arith}
use Rattle.std.specs.Prelude.{codes}
use Rattle.std.proofs.lemmas.List.Sorted.{length_permutation}
use Rattle.rx_tree.specs.declared.name.Name.{Name}
use Rattle.rx_tree.specs.declared.value.Value.TheVariants.{Str}
use Rattle.rx_tree.specs.declared.expr.Expr.{Expr}
use Rattle.rx_tree.specs.declared.expr.Expr.TheVariants as e
use Rattle.rx_tree.specs.declared.class.MethodDef.{MethodDef}
use Rattle.rx_tree.specs.declared.class.ClassDef.{ClassDef}
use Rattle.rx_tree.specs.Operators.{Tokens}
use Rattle.rx_clause_tree.specs.declared.simple.Simple.{Simple}
use Rattle.rx_clause_tree.specs.declared.simple.Simple.TheVariants as c
use Rattle.rx_clause_tree.specs.declared.clause.Body.{Body}
use Rattle.rx_clause_tree.specs.declared.clause.ClauseKind.TheVariants as x
use Rattle.rx_clause_tree.specs.declared.package.Package.{Package}
use Rattle.rx_clause_tree.specs.ClauseWords.{is_word, behind_end}
use Rattle.rx_directives.specs.declared.directive.Options.{Options}
use Rattle.rx_directives.specs.declared.directive.Access.{Access}
use Rattle.rx_directives.specs.declared.directive.Access.TheVariants.{Get, Set}
use Rattle.rx_directives.specs.declared.directive.ClassHead.{ClassHead}
use Rattle.rx_directives.specs.declared.directive.Directive.{Directive}
use Rattle.rx_directives.specs.declared.directive.DirectiveKind.{DirectiveKind}
use Rattle.rx_directives.specs.declared.directive.DirectiveKind.TheVariants as d
use Rattle.rx_directives.specs.Directives as g
use Rattle.rx_directives.specs.Directives.{AreOptions, AreMixins, AreClassOptions, IsValue, behind_public, IsKind, AreDirectives, directive}
use Rattle.rx_directives.specs.Reader.{no_names}
use Rattle.rx_directives.specs.Packages.{on_line, expose, value_name, use_value, getter, setter, giver, generated, attribute_body, attribute_bodies, kind_bodies, bodies_of, body_count, methods_of, kind_classes, classes_of}
use Rattle.rx_install.proofs.OrderLemmas.{order-of_all}
use Rattle.rx_packages.specs.Sizes.{in_expr, in_simple, in_clause, in_clauses, in_bodies, in_program, most_parts, most_classes}
use Rattle.rx_packages.specs.Programs.{longest_source, IsWritten, IsProgram}
use Rattle.rx_packages.proofs.SizeLemmas.{name_size, const_size, prefix_size, simple_size, clause_size}
use Rattle.rx_packages.proofs.Widths.{room, wide, wide-colons, source-room}
use Rattle.rx_packages.proofs.ClauseRooms.{end-room}
use Rattle.rx_packages.proofs.BodyRooms.{body-room}

-- ---- parts of directives

options-room : {read whole : Options} {tokens rest : Tokens} → AreOptions read whole tokens rest → room rest < room tokens
options-room (g.no_option {rest = rest} t is) = let w = wide t rest in omega arith
options-room (g.option {tokens = tokens} t is with_ others) = let h = options-room others in let w = wide t tokens in omega arith

mixins-room : {names : List (List ℕ)} {tokens rest : Tokens} → AreMixins names tokens rest → room rest ≤ room tokens
mixins-room (g.no_mixin t is) = omega arith
mixins-room (g.mixin {tokens = tokens} t isnt is others) = let h = mixins-room others in let w = wide t tokens in omega arith

class-room : {read whole : ClassHead} {tokens rest : Tokens} → AreClassOptions read whole tokens rest → room rest < room tokens
class-room (g.no_class_option {rest = rest} t is) = let w = wide t rest in omega arith
class-room (g.subclass {tokens = tokens} t u is none no_names named others) =
    let h = class-room others in let v = wide u tokens in let w = wide t (u ∷ tokens) in omega arith
class-room (g.mixinclass {tokens = tokens} t u is none no_names named others) =
    let h = class-room others in let v = wide u tokens in let w = wide t (u ∷ tokens) in omega arith
class-room (g.inherit {tokens = tokens} t is no_names list some others) =
    let h = class-room others in let m = mixins-room list in let w = wide t tokens in omega arith
class-room (g.public {tokens = tokens} t is not_yet others) = let h = class-room others in let w = wide t tokens in omega arith

value-room : {value : Expr} {tokens rest : Tokens} → IsValue value tokens rest → in_expr value + room rest < room tokens
value-room (g.plain {text = text} {rest = rest} t is) = let none = const_size (Str text) in let w = wide t rest in omega arith
value-room (g.signed {sign = sign} {digits = digits} {rest = rest} t u is number) =
    let all = prefix_size (sign ∷ []) (e.Const (Str digits)) in let none = const_size (Str digits) in
    let v = wide u rest in let w = wide t (u ∷ rest) in omega arith

public-room : (tokens rest : Tokens) → behind_public tokens ≡ Some rest → room rest < room tokens
public-room [] rest is = cc
public-room (t ∷ others) rest is = go (is_word (codes "PUBLIC") t.kind) is
  where
    go : (test : Bool) → (if test then behind_end others else behind_end (t ∷ others)) ≡ Some rest → room rest < room (t ∷ others)
    go true same = let h = end-room others rest same in let w = wide t others in omega arith
    go false same = end-room (t ∷ others) rest same

-- ---- bodies that are made

line-size : (line : ℕ) (simple : Simple) → in_clause (on_line line simple) ≡ 1 + in_simple simple
line-size line simple = let c = clause_size line (x.Simple simple) in let s = simple_size simple in omega arith

getter-size : (line : ℕ) (name : Name) → in_clauses (getter line name).clauses ≡ 4
getter-size line name =
    let a = line-size line (expose name) in let b = line-size line (c.Return (Some (e.Name name))) in let one = name_size name in omega arith

setter-size : (line : ℕ) (name : Name) → in_clauses (setter line name).clauses ≡ 7
setter-size line name =
    let a = line-size line (expose name) in let b = line-size line use_value in
    let d = line-size line (c.Assign name (e.Name value_name)) in let one = name_size value_name in omega arith

giver-size : (line : ℕ) (value : Expr) → in_clauses (giver line value).clauses ≡ 1 + in_expr value
giver-size line value = let a = line-size line (c.Return (Some value)) in omega arith

generated-size : (line : ℕ) (name : Name) (access : Access) → in_clauses (generated line name access).clauses ≤ 7
generated-size line name Get = let h = getter-size line name in omega arith
generated-size line name Set = let h = setter-size line name in omega arith

attribute-size : (line : ℕ) (name : Name) (access : Access) (body : Body)
    → in_clauses (attribute_body line name access body).clauses ≤ in_clauses body.clauses + 7
attribute-size line name access body = go (no_names body.clauses)
  where
    go : (test : Bool) → in_clauses (if test then generated line name access else body).clauses ≤ in_clauses body.clauses + 7
    go true = let h = generated-size line name access in omega arith
    go false = omega arith

attributes-size : (line : ℕ) (name : Name) (access : Option Access) (body : Body)
    → in_bodies (attribute_bodies line name access body) ≤ in_clauses body.clauses + 11
attributes-size line name None body = let g = getter-size line name in let s = setter-size line name in omega arith
attributes-size line name (Some access) body = let h = attribute-size line name access body in omega arith

-- ---- directives

-- What a directive makes has room three times in its tokens, with two colons before them.
kind-room : {kind : DirectiveKind} {tokens rest : Tokens} (line : ℕ) → IsKind kind tokens rest
    → in_bodies (kind_bodies line kind) + 3 * room rest ≤ 3 * room tokens + 3
kind-room line (g.class {tokens = tokens} t u is named options) =
    let h = class-room options in let v = wide u tokens in let w = wide t (u ∷ tokens) in omega arith
kind-room line (g.method {tokens = tokens} t u is named options none stands) =
    let h = options-room options in let b = body-room stands in let v = wide u tokens in let w = wide t (u ∷ tokens) in omega arith
kind-room line (g.attribute {variable = variable} {options = options} {body = one} {tokens = tokens} t u is named spelled said stands may) =
    let s = attributes-size line variable options.access one in
    let h = options-room said in let b = body-room stands in let v = wide u tokens in let w = wide t (u ∷ tokens) in omega arith
kind-room line (g.constant {value = value} {tokens = tokens} {behind = behind} {rest = rest} t u is named number end) =
    let s = giver-size line value in
    let h = value-room number in let b = end-room behind rest end in let v = wide u tokens in let w = wide t (u ∷ tokens) in omega arith
kind-room line (g.routine {tokens = tokens} {behind = behind} t u is named public stands) =
    let h = public-room tokens behind public in let b = body-room stands in let v = wide u tokens in let w = wide t (u ∷ tokens) in omega arith

-- A directive has three tokens at least behind its colons.
three-room : {kind : DirectiveKind} {tokens rest : Tokens} → IsKind kind tokens rest → room rest + 3 ≤ room tokens
three-room (g.class {tokens = tokens} t u is named options) =
    let h = class-room options in let v = wide u tokens in let w = wide t (u ∷ tokens) in omega arith
three-room (g.method {tokens = tokens} t u is named options none stands) =
    let h = options-room options in let b = body-room stands in let v = wide u tokens in let w = wide t (u ∷ tokens) in omega arith
three-room (g.attribute {tokens = tokens} t u is named spelled said stands may) =
    let h = options-room said in let b = body-room stands in let v = wide u tokens in let w = wide t (u ∷ tokens) in omega arith
three-room (g.constant {tokens = tokens} {behind = behind} {rest = rest} t u is named number end) =
    let h = value-room number in let b = end-room behind rest end in let v = wide u tokens in let w = wide t (u ∷ tokens) in omega arith
three-room (g.routine {tokens = tokens} {behind = behind} t u is named public stands) =
    let h = public-room tokens behind public in let b = body-room stands in let v = wide u tokens in let w = wide t (u ∷ tokens) in omega arith

bodies-append : (bodies others : List Body) → in_bodies (bodies ++ others) ≡ in_bodies bodies + in_bodies others
bodies-append [] others = omega arith
bodies-append (body ∷ bodies) others = let h = bodies-append bodies others in omega arith

-- Directives take five bytes each at least.
pub directives-room : {directives : List Directive} {tokens : Tokens} → AreDirectives directives tokens → 5 * length directives ≤ room tokens
directives-room g.no_directive = omega arith
directives-room (g.one_directive {directives = directives} {tokens = tokens} s colons is others) =
    let h = three-room is in let r = directives-room others in let w = wide-colons s tokens colons in omega arith

bodies-room : {directives : List Directive} {tokens : Tokens} → AreDirectives directives tokens → in_bodies (bodies_of directives) ≤ 3 * room tokens
bodies-room g.no_directive = omega arith
bodies-room (g.one_directive {kind = kind} {directives = directives} {tokens = tokens} s colons is others) =
    let all = bodies-append (kind_bodies s.line kind) (bodies_of directives) in
    let h = kind-room s.line is in let r = bodies-room others in let w = wide-colons s tokens colons in omega arith

-- ---- programs

written-room : (source : List ℕ) (main : Body) (directives : List Directive) (written : IsWritten source main directives)
    → room written.tokens ≤ longest_source + 1
written-room source main directives written =
    let h = source-room source written.tokens written.spelled in let s = written.short in omega arith

fifth-directives : (source : List ℕ) (main : Body) (directives : List Directive) → IsWritten source main directives
    → 5 * length directives ≤ longest_source + 1
fifth-directives source main directives written =
    let h = written-room source main directives written in let b = body-room written.main_is in
    let r = directives-room written.directives_are in omega arith

-- There are no more directives than a source may have bytes.
pub few_directives : (source : List ℕ) (main : Body) (directives : List Directive) → IsWritten source main directives
    → length directives ≤ longest_source
few_directives source main directives written = let h = fifth-directives source main directives written in omega arith

pub few-parts : (source : List ℕ) (program : Package) → IsProgram source program → in_program program ≤ most_parts
few-parts source program is =
    let h = written-room source program.main is.directives is.written in let b = body-room is.written.main_is in
    let r = bodies-room is.written.directives_are in let same = ap in_bodies is.bodies in omega arith

-- There are no more classes than directives.

kind-count : (line : ℕ) (kind : DirectiveKind) (methods : List MethodDef) (others : List ClassDef)
    → length (kind_classes line kind methods ++ others) ≤ length others + 1
kind-count line (d.Class head) methods others = omega arith
kind-count line (d.Method name options body) methods others = omega arith
kind-count line (d.Attribute named options body) methods others = omega arith
kind-count line (d.Constant name value) methods others = omega arith
kind-count line (d.Routine name body) methods others = omega arith

pub class-count : (n : ℕ) (directives : List Directive) → length (classes_of n directives) ≤ length directives
class-count n [] = omega arith
class-count n (directive ∷ directives) =
    let others : length (classes_of (n + body_count directive.kind) directives) ≤ length directives =
    class-count (n + body_count directive.kind) directives in
    let first = kind-count directive.line directive.kind (methods_of n directives) (classes_of (n + body_count directive.kind) directives) in
    let more : length (directive ∷ directives) ≡ length directives + 1 = omega arith in
    omega arith

pub few-classes : (source : List ℕ) (program : Package) → IsProgram source program → length program.classes ≤ most_classes
few-classes source program is =
    let h = fifth-directives source program.main is.directives is.written in let r = class-count 0 is.directives in
    let same = length_permutation (classes_of 0 is.directives) program.classes (order-of_all (classes_of 0 is.directives) program.classes is.order) in
    omega arith
