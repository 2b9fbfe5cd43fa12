-- What stands in a clause that holds no other clause has room in its tokens, and one more.
use Rattle.std.proofs.Common.{◌≡◌, ℕ, ◌+◌, ◌<◌, ◌≤◌, Bool, true, false, if◌then◌else◌, List, [], ◌∷◌, ◌++◌, length, Option, Some, ap, arith}
use Rattle.rx_tree.specs.declared.activity.Condition.{Condition}
use Rattle.rx_tree.specs.declared.name.Name.{Name}
use Rattle.rx_tree.specs.declared.value.Value.TheVariants.{Str}
use Rattle.rx_tree.specs.declared.token.Oper.{Oper}
use Rattle.rx_tree.specs.declared.token.Token.{Token}
use Rattle.rx_tree.specs.declared.expr.Expr.{Expr}
use Rattle.rx_tree.specs.declared.expr.Expr.TheVariants as e
use Rattle.rx_tree.specs.declared.expr.SendPart.{SendPart}
use Rattle.rx_tree.specs.Operators.{Tokens}
use Rattle.rx_clause_tree.specs.declared.instruction.Forward.{Forward}
use Rattle.rx_clause_tree.specs.declared.instruction.Parameter.{Parameter}
use Rattle.rx_clause_tree.specs.declared.loops.Bound.{Bound}
use Rattle.rx_clause_tree.specs.declared.loops.Header.{Header}
use Rattle.rx_clause_tree.specs.declared.loops.Test.{Test}
use Rattle.rx_clause_tree.specs.declared.simple.Simple.{Simple}
use Rattle.rx_clause_tree.specs.declared.template.Distance.{Distance}
use Rattle.rx_clause_tree.specs.declared.template.TemplatePart.{TemplatePart}
use Rattle.rx_clause_tree.specs.declared.template.Template.{Template}
use Rattle.rx_clause_tree.specs.declared.template.ParseFrom.{ParseFrom}
use Rattle.rx_clause_tree.specs.declared.template.Parse.{Parse}
use Rattle.rx_clause_tree.specs.ClauseWords.{is_clause_end, behind_end, skip}
use Rattle.rx_clause_tree.specs.Assignments as a
use Rattle.rx_clause_tree.specs.Assignments.{IsLastExpression, IsGiven, IsAssignment, IsAssignedTerm, IsSendAssign, IsLabel, IsMessage, with_operator, with_messages}
use Rattle.rx_clause_tree.specs.Instructions as n
use Rattle.rx_clause_tree.specs.Instructions.{AreNames, IsCondition, IsTrapLabel, IsParameter, AreParameters, IsGroup, IsErrorNumber, IsRaiseOption, IsGuardTest, IsPlainInstruction}
use Rattle.rx_clause_tree.specs.Forwards as f
use Rattle.rx_clause_tree.specs.Forwards.{IsOperand, AreOptions, IsForward}
use Rattle.rx_clause_tree.specs.Templates as m
use Rattle.rx_clause_tree.specs.Templates.{IsInParentheses, IsNumber, IsDistance, IsTemplatePart, AreTemplateParts, AreTemplates, IsParseFrom, IsParse}
use Rattle.rx_clause_tree.specs.Loops as l
use Rattle.rx_clause_tree.specs.Loops.{Loops, IsBound, AreBounds, IsHeader, IsTest, IsLoopName, IsLoopInstruction}
use Rattle.rx_clause_tree.specs.Clauses as i
use Rattle.rx_clause_tree.specs.Clauses.{IsSimple}
use Rattle.rx_clauses.proofs.Words.{end-found}
use Rattle.rx_packages.specs.Sizes.{in_expr, in_part, in_given, in_args, in_name, in_parameters, in_forwarded, in_forward, in_distance, in_template_part, in_template_parts, in_templates, in_parse_from, in_parse, in_simple, in_bound, in_bounds, in_header, in_test}
use Rattle.rx_packages.proofs.SizeLemmas.{name_size, const_size, group_size, chain_size, in_parts, sends_size}
use Rattle.rx_packages.proofs.Widths.{room, wide}
use Rattle.rx_packages.proofs.Rooms.{args-room, spelt-room, fits-room}

pub end-room : (tokens rest : Tokens) → behind_end tokens ≡ Some rest → room rest < room tokens
end-room tokens rest is = let g = end-found tokens rest is in let same = ap room g.is in let t = wide g.token rest in omega arith

pub skip-room : (tokens : Tokens) → room (skip tokens) ≤ room tokens
skip-room [] = omega arith
skip-room (t ∷ rest) = go (is_clause_end t.kind)
  where
    go : (test : Bool) → room (if test then rest else t ∷ rest) ≤ room (t ∷ rest)
    go true = let w = wide t rest in omega arith
    go false = omega arith

-- ---- parts of clauses

last-room : {expr : Expr} {tokens rest : Tokens} → IsLastExpression expr tokens rest → in_expr expr + room rest < room tokens
last-room (a.to_end {rest = rest} t fits is) = let h = fits-room fits in let w = wide t rest in omega arith

given-room : {given : Option Expr} {tokens rest : Tokens} → IsGiven given tokens rest → in_given given + room rest < room tokens
given-room (a.no_expression {rest = rest} t is) = let w = wide t rest in omega arith
given-room (a.expression last) = last-room last

assigned-size : (name : Name) (oper : Oper) (expr : Expr) → in_expr (with_operator name oper expr) ≡ 1 + in_expr expr
assigned-size name oper expr =
    let chain = chain_size (e.Name name) ((oper, e.Group expr) ∷ []) in let one = name_size name in let group = group_size expr in omega arith

pub assignment-room : {one : Simple} {tokens rest : Tokens} → IsAssignment one tokens rest → in_simple one + room rest < room tokens
assignment-room (a.assign {tokens = tokens} t u named equal last) =
    let h = last-room last in let v = wide u tokens in let w = wide t (u ∷ tokens) in omega arith
assignment-room (a.assign_with {name = name} {oper = oper} {expr = expr} {tokens = tokens} t u v named by equal close last) =
    let h = last-room last in let same = assigned-size name oper expr in
    let x = wide v tokens in let y = wide u (v ∷ tokens) in let z = wide t (u ∷ (v ∷ tokens)) in omega arith

parts-append : (parts : List SendPart) (last : SendPart) → in_parts (parts ++ last ∷ []) ≡ in_parts parts + in_part last
parts-append [] last = omega arith
parts-append (part ∷ parts) last = let h = parts-append parts last in omega arith

before-size : (receiver : Expr) (parts : List SendPart) → in_expr (with_messages receiver parts) ≡ in_expr receiver + in_parts parts
before-size receiver [] = omega arith
before-size receiver (part ∷ parts) = sends_size receiver (part ∷ parts)

term-room : {receiver : Expr} {part : SendPart} {tokens rest : Tokens} → IsAssignedTerm receiver part tokens rest
    → (in_expr receiver + in_part part) + room rest ≤ room tokens
term-room (a.assigned {rest = rest} receiver before last u spelt plain equal) =
    let h = spelt-room spelt in let all = sends_size receiver (before ++ last ∷ []) in let parts = parts-append before last in
    let front = before-size receiver before in let w = wide u rest in omega arith

pub send-room : {one : Simple} {tokens rest : Tokens} → IsSendAssign one tokens rest → in_simple one + room rest < room tokens
send-room (a.send_assign term last) = let h = term-room term in let g = last-room last in omega arith

pub label-room : {one : Simple} {tokens rest : Tokens} → IsLabel one tokens rest → in_simple one + room rest < room tokens
label-room (a.label {rest = rest} t u name named colon) =
    let h = skip-room rest in let v = wide u rest in let w = wide t (u ∷ rest) in omega arith

pub message-room : {one : Simple} {tokens rest : Tokens} → IsMessage one tokens rest → in_simple one + room rest < room tokens
message-room (a.message last loose) = last-room last

pub names-room : {names : List Name} {tokens rest : Tokens} → AreNames names tokens rest → length names + room rest < room tokens
names-room (n.no_name {rest = rest} t is) = let w = wide t rest in omega arith
names-room (n.name {tokens = tokens} t is others) = let h = names-room others in let w = wide t tokens in omega arith

condition-room : {one : Condition} {tokens rest : Tokens} → IsCondition one tokens rest → room rest < room tokens
condition-room (n.syntax_condition {rest = rest} t is) = let w = wide t rest in omega arith
condition-room (n.novalue {rest = rest} t is) = let w = wide t rest in omega arith
condition-room (n.nomethod {rest = rest} t is) = let w = wide t rest in omega arith
condition-room (n.user {rest = rest} t u name is named) = let v = wide u rest in let w = wide t (u ∷ rest) in omega arith

trap-room : {one : Condition} {label : List ℕ} {tokens rest : Tokens} → IsTrapLabel one label tokens rest → room rest < room tokens
trap-room (n.own_label {rest = rest} t is) = let w = wide t rest in omega arith
trap-room (n.other_label {rest = rest} t u v label is named end) =
    let x = wide v rest in let y = wide u (v ∷ rest) in let z = wide t (u ∷ (v ∷ rest)) in omega arith

parameter-room : {one : Parameter} {tokens rest : Tokens} → IsParameter one tokens rest → (1 + in_given one.default) + room rest ≤ room tokens
parameter-room (n.required {rest = rest} t is) = let w = wide t rest in omega arith
parameter-room (n.with_default {tokens = tokens} t u is equal fits) =
    let h = fits-room fits in let v = wide u tokens in let w = wide t (u ∷ tokens) in omega arith

parameters-room : {list : List Parameter} {tokens rest : Tokens} → AreParameters list tokens rest → in_parameters list + room rest < room tokens
parameters-room (n.last_parameter {rest = rest} t one is) = let h = parameter-room one in let w = wide t rest in omega arith
parameters-room (n.next_parameter {behind = behind} t one is others) =
    let h = parameter-room one in let g = parameters-room others in let w = wide t behind in omega arith

group-room : {expr : Expr} {tokens rest : Tokens} → IsGroup expr tokens rest → in_expr expr + room rest < room tokens
group-room (n.group {expr = expr} {tokens = tokens} {rest = rest} t u left fits right) =
    let h = fits-room fits in let same = group_size expr in let v = wide u rest in let w = wide t tokens in omega arith

number-room : {expr : Expr} {tokens rest : Tokens} → IsErrorNumber expr tokens rest → in_expr expr + room rest < room tokens
number-room (n.constant_number {rest = rest} t text is) = let none = const_size (Str text) in let w = wide t rest in omega arith
number-room (n.group_number is) = group-room is

option-room : {spelling : List ℕ} {one : Option Expr} {tokens rest : Tokens} → IsRaiseOption spelling one tokens rest
    → in_given one + room rest ≤ room tokens
option-room (n.no_option is) = omega arith
option-room (n.option {tokens = tokens} t is fits) = let h = fits-room fits in let w = wide t tokens in omega arith

guard-room : {one : Option Expr} {tokens rest : Tokens} → IsGuardTest one tokens rest → in_given one + room rest < room tokens
guard-room (n.no_guard_test {rest = rest} t is) = let w = wide t rest in omega arith
guard-room (n.guard_test {tokens = tokens} t is last) = let h = last-room last in let w = wide t tokens in omega arith

-- ---- instructions that hold no other clause

-- one token before some that have room, and two
past : (amount : ℕ) (t : Token) (tokens rest : Tokens) → amount + room rest < room tokens → amount + room rest < room (t ∷ tokens)
past amount t tokens rest h = let w = wide t tokens in omega arith

past-two : (amount : ℕ) (t u : Token) (tokens rest : Tokens) → amount + room rest < room tokens → amount + room rest < room (t ∷ (u ∷ tokens))
past-two amount t u tokens rest h = past amount t (u ∷ tokens) rest (past amount u tokens rest h)

plain-room : {one : Simple} {tokens rest : Tokens} → IsPlainInstruction one tokens rest → in_simple one + room rest < room tokens
plain-room (n.say {given = given} {tokens = tokens} {rest = rest} t is one) = past (in_given given) t tokens rest (given-room one)
plain-room (n.nop {tokens = tokens} {rest = rest} t is end) = let h = end-room tokens rest end in let w = wide t tokens in omega arith
plain-room (n.call {args = args} {tokens = tokens} {rest = rest} t u name is no_on no_off named list) =
    past-two (in_args args) t u tokens rest (args-room list)
plain-room (n.call_on {tokens = tokens} {rest = rest} t u is on condition label) =
    let h = condition-room condition in let g = trap-room label in let v = wide u tokens in let w = wide t (u ∷ tokens) in omega arith
plain-room (n.call_off {tokens = tokens} {behind = behind} {rest = rest} t u is off condition end) =
    let h = condition-room condition in let g = end-room behind rest end in let v = wide u tokens in let w = wide t (u ∷ tokens) in omega arith
plain-room (n.return_ {given = given} {tokens = tokens} {rest = rest} t is one) = past (in_given given) t tokens rest (given-room one)
plain-room (n.exit {given = given} {tokens = tokens} {rest = rest} t is one) = past (in_given given) t tokens rest (given-room one)
plain-room (n.signal {rest = rest} t u v label is no_on no_off named end) = let x = wide v rest in let y = wide u (v ∷ rest) in let z = wide t (u ∷ (v ∷ rest)) in omega arith
plain-room (n.signal_on {tokens = tokens} {rest = rest} t u is on condition label) =
    let h = condition-room condition in let g = trap-room label in let v = wide u tokens in let w = wide t (u ∷ tokens) in omega arith
plain-room (n.signal_off {tokens = tokens} {behind = behind} {rest = rest} t u is off condition end) =
    let h = condition-room condition in let g = end-room behind rest end in let v = wide u tokens in let w = wide t (u ∷ tokens) in omega arith
plain-room (n.drop_names {names = names} {tokens = tokens} {rest = rest} t is list some) = past (length names) t tokens rest (names-room list)
plain-room (n.use_arg {parameters = parameters} {tokens = tokens} {rest = rest} t u is arg list) =
    past-two (in_parameters parameters) t u tokens rest (parameters-room list)
plain-room (n.use_strict {parameters = parameters} {tokens = tokens} {rest = rest} t u v is strict arg list) =
    past-two (in_parameters parameters) t u (v ∷ tokens) rest (past (in_parameters parameters) v tokens rest (parameters-room list))
plain-room (n.push {given = given} {tokens = tokens} {rest = rest} t is one) = past (in_given given) t tokens rest (given-room one)
plain-room (n.queue {given = given} {tokens = tokens} {rest = rest} t is one) = past (in_given given) t tokens rest (given-room one)
plain-room (n.digits {given = given} {tokens = tokens} {rest = rest} t u is digits one) = past-two (in_given given) t u tokens rest (given-room one)
plain-room (n.guard_on {test = test} {tokens = tokens} {rest = rest} t u is on one) = past-two (in_given test) t u tokens rest (guard-room one)
plain-room (n.guard_off {test = test} {tokens = tokens} {rest = rest} t u is off one) = past-two (in_given test) t u tokens rest (guard-room one)
plain-room (n.reply {given = given} {tokens = tokens} {rest = rest} t is one) = past (in_given given) t tokens rest (given-room one)
plain-room (n.raise_syntax {number = number} {text = text} {tokens = tokens} {others = others} {rest = rest} t u is syntax first option end) =
    past-two (in_expr number + in_given text) t u tokens rest
    (let h = number-room first in let g = option-room option in let f = end-room others rest end in omega arith)
plain-room (n.raise_user {text = text} {value = value} {tokens = tokens} {others = others} {rest = rest} t u v name is user named first second end) =
    past-two (in_given text + in_given value) t u (v ∷ tokens) rest (past (in_given text + in_given value) v tokens rest
    (let h = option-room first in let g = option-room second in let f = end-room others rest end in omega arith))
plain-room (n.trace {tokens = tokens} {rest = rest} t u is setting end) = let h = end-room tokens rest end in let v = wide u tokens in let w = wide t (u ∷ tokens) in omega arith

-- ---- loops

bound-room : {one : Bound} {tokens rest : Tokens} → IsBound one tokens rest → in_bound one + room rest ≤ room tokens
bound-room (l.to {tokens = tokens} t is fits) = let h = fits-room fits in let w = wide t tokens in omega arith
bound-room (l.by {tokens = tokens} t is fits) = let h = fits-room fits in let w = wide t tokens in omega arith
bound-room (l.for {tokens = tokens} t is fits) = let h = fits-room fits in let w = wide t tokens in omega arith

bounds-append : (list : List Bound) (one : Bound) → in_bounds (list ++ one ∷ []) ≡ in_bounds list + in_bound one
bounds-append [] one = omega arith
bounds-append (bound ∷ list) one = let h = bounds-append list one in omega arith

bounds-room : {list all : List Bound} {tokens rest : Tokens} → AreBounds list all tokens rest → in_bounds all + room rest ≤ in_bounds list + room tokens
bounds-room (l.no_bound none) = omega arith
bounds-room (l.bound {one = one} {read = read} is new others) =
    let h = bound-room is in let g = bounds-room others in let same = bounds-append read one in omega arith

pub header-room : {one : Header} {tokens rest : Tokens} → IsHeader one tokens rest → in_header one + room rest ≤ room tokens
header-room (l.counts {tokens = tokens} t u named equal first bounds) =
    let h = fits-room first in let g = bounds-room bounds in let v = wide u tokens in let w = wide t (u ∷ tokens) in omega arith
header-room (l.over {tokens = tokens} t u named over fits) =
    let h = fits-room fits in let v = wide u tokens in let w = wide t (u ∷ tokens) in omega arith
header-room (l.forever {rest = rest} t none is) = let w = wide t rest in omega arith
header-room (l.bare none is) = omega arith
header-room (l.times none no_forever no_test fits) = fits-room fits

pub test-room : {one : Test} {tokens rest : Tokens} → IsTest one tokens rest → in_test one + room rest ≤ room tokens
test-room (l.no_test {rest = rest} t is) = let w = wide t rest in omega arith
test-room (l.while {tokens = tokens} {rest = rest} t u is fits end) =
    let h = fits-room fits in let v = wide u rest in let w = wide t tokens in omega arith
test-room (l.until {tokens = tokens} {rest = rest} t u is fits end) =
    let h = fits-room fits in let v = wide u rest in let w = wide t tokens in omega arith

meant-room : {one : Option Name} {tokens rest : Tokens} → IsLoopName one tokens rest → in_name one + room rest < room tokens
meant-room (l.no_loop_name {rest = rest} t is) = let w = wide t rest in omega arith
meant-room (l.loop_name {rest = rest} t u named end) = let v = wide u rest in let w = wide t (u ∷ rest) in omega arith

looping-room : {loops : Loops} {one : Simple} {tokens rest : Tokens} → IsLoopInstruction loops one tokens rest → in_simple one + room rest < room tokens
looping-room (l.leave {name = name} {tokens = tokens} {rest = rest} t is one around) = past (in_name name) t tokens rest (meant-room one)
looping-room (l.iterate {name = name} {tokens = tokens} {rest = rest} t is one around) = past (in_name name) t tokens rest (meant-room one)

-- ---- templates

parentheses-room : {name : Name} {tokens rest : Tokens} → IsInParentheses name tokens rest → 1 + room rest ≤ room tokens
parentheses-room (m.in_parentheses {rest = rest} t u v left named right) =
    let x = wide v rest in let y = wide u (v ∷ rest) in let z = wide t (u ∷ (v ∷ rest)) in omega arith

digits-room : {text : List ℕ} {tokens rest : Tokens} → IsNumber text tokens rest → room rest ≤ room tokens
digits-room (m.number {rest = rest} t text is) = let w = wide t rest in omega arith

distance-room : {one : Distance} {tokens rest : Tokens} → IsDistance one tokens rest → in_distance one + room rest ≤ room tokens
distance-room (m.by_number is) = let h = digits-room is in omega arith
distance-room (m.by_value is) = parentheses-room is

part-room : {one : TemplatePart} {tokens rest : Tokens} → IsTemplatePart one tokens rest → in_template_part one + room rest ≤ room tokens
part-room (m.target {rest = rest} t is) = let w = wide t rest in omega arith
part-room (m.period {rest = rest} t is) = let w = wide t rest in omega arith
part-room (m.literal {rest = rest} t text is) = let w = wide t rest in omega arith
part-room (m.pattern_of is) = parentheses-room is
part-room (m.at_number is) = let h = digits-room is in omega arith
part-room (m.at_distance {tokens = tokens} t is distance) = let h = distance-room distance in let w = wide t tokens in omega arith
part-room (m.forward_by {tokens = tokens} t is distance) = let h = distance-room distance in let w = wide t tokens in omega arith
part-room (m.backward_by {tokens = tokens} t is distance) = let h = distance-room distance in let w = wide t tokens in omega arith

parts-room : {list : List TemplatePart} {tokens rest : Tokens} → AreTemplateParts list tokens rest → in_template_parts list + room rest ≤ room tokens
parts-room (m.no_template_part t is) = omega arith
parts-room (m.template_part one others) = let h = part-room one in let g = parts-room others in omega arith

templates-room : {list : List Template} {tokens rest : Tokens} → AreTemplates list tokens rest → in_templates list + room rest < room tokens
templates-room (m.last_template {rest = rest} t parts end) = let h = parts-room parts in let w = wide t rest in omega arith
templates-room (m.next_template {behind = behind} t parts comma others) =
    let h = parts-room parts in let g = templates-room others in let w = wide t behind in omega arith

from-room : {one : ParseFrom} {tokens rest : Tokens} → IsParseFrom one tokens rest → in_parse_from one + room rest ≤ room tokens
from-room (m.from_arg {rest = rest} t is) = let w = wide t rest in omega arith
from-room (m.from_pull {rest = rest} t is) = let w = wide t rest in omega arith
from-room (m.from_linein {rest = rest} t is) = let w = wide t rest in omega arith
from-room (m.from_variable {rest = rest} t u is named) = let v = wide u rest in let w = wide t (u ∷ rest) in omega arith
from-room (m.from_value {tokens = tokens} {rest = rest} t u is fits with_) =
    let h = fits-room fits in let v = wide u rest in let w = wide t tokens in omega arith

parse-room : {one : Parse} {tokens rest : Tokens} → IsParse one tokens rest → in_parse one + room rest < room tokens
parse-room (m.parse {tokens = tokens} t is from list has) =
    let h = from-room from in let g = templates-room list in let w = wide t tokens in omega arith
parse-room (m.parse_upper {tokens = tokens} t u is upper from list has) =
    let h = from-room from in let g = templates-room list in let v = wide u tokens in let w = wide t (u ∷ tokens) in omega arith
parse-room (m.arg {tokens = tokens} t is list) = let g = templates-room list in let w = wide t tokens in omega arith
parse-room (m.pull {tokens = tokens} t is list) = let g = templates-room list in let w = wide t tokens in omega arith

-- ---- FORWARD

operand-room : {one : Expr} {tokens rest : Tokens} → IsOperand one tokens rest → in_expr one + room rest ≤ room tokens
operand-room (f.string_operand {rest = rest} t text is) = let none = const_size (Str text) in let w = wide t rest in omega arith
operand-room (f.variable_operand {name = name} {rest = rest} t is) = let one = name_size name in let w = wide t rest in omega arith
operand-room (f.group_operand is) = let h = group-room is in omega arith

options-room : {read whole : Forward} {tokens rest : Tokens} → AreOptions read whole tokens rest → in_forward whole + room rest < in_forward read + room tokens
options-room (f.no_option {rest = rest} t is) = let w = wide t rest in omega arith
options-room (f.to {tokens = tokens} t is none operand others) =
    let n = ap in_given none in let h = operand-room operand in let g = options-room others in let w = wide t tokens in omega arith
options-room (f.class {tokens = tokens} t is none operand others) =
    let n = ap in_given none in let h = operand-room operand in let g = options-room others in let w = wide t tokens in omega arith
options-room (f.message {tokens = tokens} t is none operand others) =
    let n = ap in_given none in let h = operand-room operand in let g = options-room others in let w = wide t tokens in omega arith
options-room (f.arguments {tokens = tokens} t is none operand others) =
    let n = ap in_forwarded none in let h = operand-room operand in let g = options-room others in let w = wide t tokens in omega arith
options-room (f.array {tokens = tokens} t u is left none args others) =
    let n = ap in_forwarded none in let h = args-room args in let g = options-room others in
    let v = wide u tokens in let w = wide t (u ∷ tokens) in omega arith
options-room (f.continue {tokens = tokens} t is none others) = let g = options-room others in let w = wide t tokens in omega arith

forward-room : {whole : Forward} {tokens rest : Tokens} → IsForward whole tokens rest → in_forward whole + room rest < room tokens
forward-room (f.forward {tokens = tokens} t is options) = let g = options-room options in let w = wide t tokens in omega arith

pub simple-room : {loops : Loops} {one : Simple} {tokens rest : Tokens} → IsSimple loops one tokens rest → in_simple one + room rest < room tokens
simple-room (i.plain is) = plain-room is
simple-room (i.looping is) = looping-room is
simple-room (i.forwarding is) = forward-room is
simple-room (i.parsing is) = parse-room is
