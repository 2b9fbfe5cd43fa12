-- The tokens that a body is written with stand in front of the rest.
use Rattle.std.proofs.Common.{◌≡◌, ℕ, Bool, true, false, if◌then◌else◌, List, [], ◌∷◌, ◌++◌, Option, Some, None, refl, sym, ◌∙◌, ap, subst}
use Rattle.std.specs.Prelude.{codes}
use Rattle.rx_tree.specs.declared.activity.Condition.{Condition}
use Rattle.rx_tree.specs.declared.name.Name.{Name}
use Rattle.rx_tree.specs.declared.token.Token.{Token}
use Rattle.rx_tree.specs.declared.token.TokenKind.{TokenKind}
use Rattle.rx_tree.specs.declared.token.TokenKind.TheVariants as k
use Rattle.rx_tree.specs.declared.expr.Expr.{Expr}
use Rattle.rx_tree.specs.declared.expr.SendPart.{SendPart}
use Rattle.rx_tree.specs.declared.stops.Stops.{Stops}
use Rattle.rx_tree.specs.Operators.{Tokens}
use Rattle.rx_tree.specs.Expressions as p
use Rattle.rx_tree.specs.Expressions.{IsSpelt, AreArgs, AreListed, IsArg, Fits}
use Rattle.rx_exprs.proofs.Fronts.{Front, front}
use Rattle.rx_exprs.proofs.Tables.{some-is}
use Rattle.rx_clause_tree.specs.declared.instruction.Forward.{Forward}
use Rattle.rx_clause_tree.specs.declared.instruction.Parameter.{Parameter}
use Rattle.rx_clause_tree.specs.declared.loops.Bound.{Bound}
use Rattle.rx_clause_tree.specs.declared.loops.Header.{Header}
use Rattle.rx_clause_tree.specs.declared.loops.Test.{Test}
use Rattle.rx_clause_tree.specs.declared.simple.Simple.{Simple}
use Rattle.rx_clause_tree.specs.declared.template.Distance.{Distance}
use Rattle.rx_clause_tree.specs.declared.template.TemplatePart.{TemplatePart}
use Rattle.rx_clause_tree.specs.declared.template.Template.{Template}
use Rattle.rx_clause_tree.specs.declared.template.ParseFrom.{ParseFrom}
use Rattle.rx_clause_tree.specs.declared.template.Parse.{Parse}
use Rattle.rx_clause_tree.specs.declared.clause.Before.{Before}
use Rattle.rx_clause_tree.specs.declared.clause.Body.{Body}
use Rattle.rx_clause_tree.specs.declared.clause.Clause.{Clause}
use Rattle.rx_clause_tree.specs.declared.clause.ClauseKind.{ClauseKind}
use Rattle.rx_clause_tree.specs.declared.clause.When.{When}
use Rattle.rx_clause_tree.specs.ClauseWords.{variable_of, is_word, same_name, is_clause_end, behind_end, skip, behind_word}
use Rattle.rx_clause_tree.specs.Assignments as a
use Rattle.rx_clause_tree.specs.Assignments.{IsLastExpression, IsGiven, IsAssignment, IsAssignedTerm, IsSendAssign, IsLabel, IsMessage}
use Rattle.rx_clause_tree.specs.Instructions as n
use Rattle.rx_clause_tree.specs.Instructions.{AreNames, IsCondition, IsTrapLabel, IsParameter, AreParameters, IsGroup, IsErrorNumber, IsRaiseOption, IsGuardTest, IsPlainInstruction}
use Rattle.rx_clause_tree.specs.Forwards as f
use Rattle.rx_clause_tree.specs.Forwards.{IsOperand, AreOptions, IsForward}
use Rattle.rx_clause_tree.specs.Templates as m
use Rattle.rx_clause_tree.specs.Templates.{IsInParentheses, IsNumber, IsDistance, IsTemplatePart, AreTemplateParts, AreTemplates, IsParseFrom, IsParse}
use Rattle.rx_clause_tree.specs.Loops as l
use Rattle.rx_clause_tree.specs.Loops.{Loops, IsBound, AreBounds, IsHeader, IsTest, IsLoopName, IsLoopInstruction, control_of, behind_name, behind_control, behind_block}
use Rattle.rx_clause_tree.specs.Clauses as i
use Rattle.rx_clause_tree.specs.Clauses.{IsSimple, behind_then, IsClause, IsInstruction, IsElse, AreWhens, IsOtherwise, AreClauses}
use Rattle.rx_clause_tree.specs.Bodies as d
use Rattle.rx_clause_tree.specs.Bodies.{IsExpose, IsProcedure, AreBodyClauses, IsBody}
use Rattle.rx_clauses.proofs.Words.{end-found}

-- the rest is the tokens without some at their front
pub data Behind : Tokens → Tokens → Type 0 where
  here : {tokens : Tokens} → Behind tokens tokens
  past : {tokens rest : Tokens} (t : Token) → Behind tokens rest → Behind (t ∷ tokens) rest

both : {a b c : Tokens} → Behind a b → Behind b c → Behind a c
both here g = g
both (past t h) g = past t (both h g)

behind-append : (before rest : Tokens) → Behind (before ++ rest) rest
behind-append [] rest = here
behind-append (t ∷ before) rest = past t (behind-append before rest)

pub front-of : {tokens rest : Tokens} → Behind tokens rest → Front tokens rest
front-of here = ([], refl)
front-of (past t h) = let g = front-of h in (t ∷ g.0, ap (λ ts. t ∷ ts) g.1)

spelt-behind : {stops : Stops} {expr : Expr} {tokens rest : Tokens} → IsSpelt stops expr tokens rest → Behind tokens rest
spelt-behind {rest = rest} spelt = let g = front spelt in subst (λ (ts : Tokens). Behind ts rest) (sym g.1) (behind-append g.0 rest)

fits-behind : {stops : Stops} {expr : Expr} {tokens rest : Tokens} → Fits stops tokens expr rest → Behind tokens rest
fits-behind fits = spelt-behind fits.spelt

-- behind a token that is taken
off : {tokens rest : Tokens} {t : Token} → Behind tokens (t ∷ rest) → Behind tokens rest
off {t = t} h = both h (past t here)

-- ---- tables

end-behind : (tokens rest : Tokens) → behind_end tokens ≡ Some rest → Behind tokens rest
end-behind tokens rest is = let g = end-found tokens rest is in subst (λ (ts : Tokens). Behind ts rest) (sym g.is) (past g.token here)

skip-behind : (tokens : Tokens) → Behind tokens (skip tokens)
skip-behind [] = here
skip-behind (t ∷ rest) = go (is_clause_end t.kind)
  where
    go : (test : Bool) → Behind (t ∷ rest) (if test then rest else t ∷ rest)
    go true = past t here
    go false = here

word-behind : (spelling : List ℕ) (tokens rest : Tokens) → behind_word spelling tokens ≡ Some rest → Behind tokens rest
word-behind spelling [] rest is = cc
word-behind spelling (t ∷ others) rest is = go (is_word spelling t.kind) is
  where
    go : (test : Bool) → (if test then Some (skip others) else None) ≡ Some rest → Behind (t ∷ others) rest
    go true same = subst (λ (ts : Tokens). Behind (t ∷ others) ts) (some-is same) (past t (skip-behind others))
    go false same = cc

then-behind : (tokens rest : Tokens) → behind_then tokens ≡ Some rest → Behind tokens rest
then-behind [] rest is = cc
then-behind (t ∷ others) rest is = go (is_clause_end t.kind) is
  where
    go : (test : Bool) → (if test then behind_word (codes "THEN") others else behind_word (codes "THEN") (t ∷ others)) ≡ Some rest → Behind (t ∷ others) rest
    go true same = past t (word-behind (codes "THEN") others rest same)
    go false same = word-behind (codes "THEN") (t ∷ others) rest same

name-behind : (control other : Option Name) (tokens rest : Tokens) → behind_name control other tokens ≡ Some rest → Behind tokens rest
name-behind (Some name) (Some other) tokens rest is = go (same_name name other) is
  where
    go : (test : Bool) → (if test then behind_end tokens else None) ≡ Some rest → Behind tokens rest
    go true same = end-behind tokens rest same
    go false same = cc
name-behind None other tokens rest is = cc
name-behind (Some name) None tokens rest is = cc

control-behind : (control : Option Name) (tokens rest : Tokens) → behind_control control tokens ≡ Some rest → Behind tokens rest
control-behind control [] rest is = cc
control-behind control (t ∷ others) rest is = go (is_clause_end t.kind) is
  where
    go : (test : Bool) → (if test then Some others else behind_name control (variable_of t.kind) others) ≡ Some rest → Behind (t ∷ others) rest
    go true same = subst (λ (ts : Tokens). Behind (t ∷ others) ts) (some-is same) (past t here)
    go false same = past t (name-behind control (variable_of t.kind) others rest same)

block-behind : (control : Option Name) (tokens rest : Tokens) → behind_block control tokens ≡ Some rest → Behind tokens rest
block-behind control [] rest is = cc
block-behind control (t ∷ others) rest is = go (is_word (codes "END") t.kind) is
  where
    go : (test : Bool) → (if test then behind_control control others else None) ≡ Some rest → Behind (t ∷ others) rest
    go true same = past t (control-behind control others rest same)
    go false same = cc

-- ---- parts of clauses

last-behind : {expr : Expr} {tokens rest : Tokens} → IsLastExpression expr tokens rest → Behind tokens rest
last-behind (a.to_end t fits is) = off (fits-behind fits)

given-behind : {given : Option Expr} {tokens rest : Tokens} → IsGiven given tokens rest → Behind tokens rest
given-behind (a.no_expression t is) = past t here
given-behind (a.expression last) = last-behind last

assignment-behind : {one : Simple} {tokens rest : Tokens} → IsAssignment one tokens rest → Behind tokens rest
assignment-behind (a.assign t u named equal last) = past t (past u (last-behind last))
assignment-behind (a.assign_with t u v named by equal close last) = past t (past u (past v (last-behind last)))

term-behind : {receiver : Expr} {part : SendPart} {tokens rest : Tokens} → IsAssignedTerm receiver part tokens rest → Behind tokens rest
term-behind (a.assigned receiver before last u spelt plain equal) = off (spelt-behind spelt)

send-behind : {one : Simple} {tokens rest : Tokens} → IsSendAssign one tokens rest → Behind tokens rest
send-behind (a.send_assign term last) = both (term-behind term) (last-behind last)

label-behind : {one : Simple} {tokens rest : Tokens} → IsLabel one tokens rest → Behind tokens rest
label-behind (a.label {rest = rest} t u name named colon) = past t (past u (skip-behind rest))

message-behind : {one : Simple} {tokens rest : Tokens} → IsMessage one tokens rest → Behind tokens rest
message-behind (a.message last loose) = last-behind last

names-behind : {names : List Name} {tokens rest : Tokens} → AreNames names tokens rest → Behind tokens rest
names-behind (n.no_name t is) = past t here
names-behind (n.name t is others) = past t (names-behind others)

condition-behind : {one : Condition} {tokens rest : Tokens} → IsCondition one tokens rest → Behind tokens rest
condition-behind (n.syntax_condition t is) = past t here
condition-behind (n.novalue t is) = past t here
condition-behind (n.nomethod t is) = past t here
condition-behind (n.user t u name is named) = past t (past u here)

trap-behind : {one : Condition} {label : List ℕ} {tokens rest : Tokens} → IsTrapLabel one label tokens rest → Behind tokens rest
trap-behind (n.own_label t is) = past t here
trap-behind (n.other_label t u v label is named end) = past t (past u (past v here))

parameter-behind : {one : Parameter} {tokens rest : Tokens} → IsParameter one tokens rest → Behind tokens rest
parameter-behind (n.required t is) = past t here
parameter-behind (n.with_default t u is equal fits) = past t (past u (fits-behind fits))

parameters-behind : {list : List Parameter} {tokens rest : Tokens} → AreParameters list tokens rest → Behind tokens rest
parameters-behind (n.last_parameter t one is) = off (parameter-behind one)
parameters-behind (n.next_parameter t one is others) = both (off (parameter-behind one)) (parameters-behind others)

group-behind : {expr : Expr} {tokens rest : Tokens} → IsGroup expr tokens rest → Behind tokens rest
group-behind (n.group t u left fits right) = past t (off (fits-behind fits))

arg-behind : {one : Option Expr} {tokens rest : Tokens} → IsArg one tokens rest → Behind tokens rest
arg-behind p.omitted = here
arg-behind (p.given spelt) = spelt-behind spelt

listed-behind : {close : TokenKind} {list : List (Option Expr)} {tokens rest : Tokens} → AreListed close list tokens rest → Behind tokens rest
listed-behind (p.last_arg t one is) = off (arg-behind one)
listed-behind (p.next_arg t one is others) = both (off (arg-behind one)) (listed-behind others)

args-behind : {close : TokenKind} {list : List (Option Expr)} {tokens rest : Tokens} → AreArgs close list tokens rest → Behind tokens rest
args-behind (p.no_args t is) = past t here
args-behind (p.some_args list some) = listed-behind list

number-behind : {expr : Expr} {tokens rest : Tokens} → IsErrorNumber expr tokens rest → Behind tokens rest
number-behind (n.constant_number t text is) = past t here
number-behind (n.group_number is) = group-behind is

option-behind : {spelling : List ℕ} {one : Option Expr} {tokens rest : Tokens} → IsRaiseOption spelling one tokens rest → Behind tokens rest
option-behind (n.no_option is) = here
option-behind (n.option t is fits) = past t (fits-behind fits)

guard-behind : {one : Option Expr} {tokens rest : Tokens} → IsGuardTest one tokens rest → Behind tokens rest
guard-behind (n.no_guard_test t is) = past t here
guard-behind (n.guard_test t is last) = past t (last-behind last)

-- ---- instructions that hold no other clause

plain-behind : {one : Simple} {tokens rest : Tokens} → IsPlainInstruction one tokens rest → Behind tokens rest
plain-behind (n.say t is given) = past t (given-behind given)
plain-behind (n.nop {tokens = tokens} {rest = rest} t is end) = past t (end-behind tokens rest end)
plain-behind (n.call t u name is no_on no_off named args) = past t (past u (args-behind args))
plain-behind (n.call_on t u is on condition label) = past t (past u (both (condition-behind condition) (trap-behind label)))
plain-behind (n.call_off {behind = behind} {rest = rest} t u is off condition end) = past t (past u (both (condition-behind condition) (end-behind behind rest end)))
plain-behind (n.return_ t is given) = past t (given-behind given)
plain-behind (n.exit t is given) = past t (given-behind given)
plain-behind (n.signal t u v label is no_on no_off named end) = past t (past u (past v here))
plain-behind (n.signal_on t u is on condition label) = past t (past u (both (condition-behind condition) (trap-behind label)))
plain-behind (n.signal_off {behind = behind} {rest = rest} t u is off condition end) = past t (past u (both (condition-behind condition) (end-behind behind rest end)))
plain-behind (n.drop_names t is names some) = past t (names-behind names)
plain-behind (n.use_arg t u is arg list) = past t (past u (parameters-behind list))
plain-behind (n.use_strict t u v is strict arg list) = past t (past u (past v (parameters-behind list)))
plain-behind (n.push t is given) = past t (given-behind given)
plain-behind (n.queue t is given) = past t (given-behind given)
plain-behind (n.digits t u is digits given) = past t (past u (given-behind given))
plain-behind (n.guard_on t u is on test) = past t (past u (guard-behind test))
plain-behind (n.guard_off t u is off test) = past t (past u (guard-behind test))
plain-behind (n.reply t is given) = past t (given-behind given)
plain-behind (n.raise_syntax {others = others} {rest = rest} t u is syntax number text end) =
    past t (past u (both (number-behind number) (both (option-behind text) (end-behind others rest end))))
plain-behind (n.raise_user {others = others} {rest = rest} t u v name is user named text value end) =
    past t (past u (past v (both (option-behind text) (both (option-behind value) (end-behind others rest end)))))
plain-behind (n.trace {tokens = tokens} {rest = rest} t u is setting end) = past t (past u (end-behind tokens rest end))

-- ---- loops

bound-behind : {one : Bound} {tokens rest : Tokens} → IsBound one tokens rest → Behind tokens rest
bound-behind (l.to t is fits) = past t (fits-behind fits)
bound-behind (l.by t is fits) = past t (fits-behind fits)
bound-behind (l.for t is fits) = past t (fits-behind fits)

bounds-behind : {list all : List Bound} {tokens rest : Tokens} → AreBounds list all tokens rest → Behind tokens rest
bounds-behind (l.no_bound none) = here
bounds-behind (l.bound one new others) = both (bound-behind one) (bounds-behind others)

header-behind : {one : Header} {tokens rest : Tokens} → IsHeader one tokens rest → Behind tokens rest
header-behind (l.counts t u named equal first bounds) = past t (past u (both (fits-behind first) (bounds-behind bounds)))
header-behind (l.over t u named over fits) = past t (past u (fits-behind fits))
header-behind (l.forever t none is) = past t here
header-behind (l.bare none is) = here
header-behind (l.times none no_forever no_test fits) = fits-behind fits

test-behind : {one : Test} {tokens rest : Tokens} → IsTest one tokens rest → Behind tokens rest
test-behind (l.no_test t is) = past t here
test-behind (l.while t u is fits end) = past t (off (fits-behind fits))
test-behind (l.until t u is fits end) = past t (off (fits-behind fits))

meant-behind : {one : Option Name} {tokens rest : Tokens} → IsLoopName one tokens rest → Behind tokens rest
meant-behind (l.no_loop_name t is) = past t here
meant-behind (l.loop_name t u named end) = past t (past u here)

looping-behind : {loops : Loops} {one : Simple} {tokens rest : Tokens} → IsLoopInstruction loops one tokens rest → Behind tokens rest
looping-behind (l.leave t is name around) = past t (meant-behind name)
looping-behind (l.iterate t is name around) = past t (meant-behind name)

-- ---- templates

parentheses-behind : {name : Name} {tokens rest : Tokens} → IsInParentheses name tokens rest → Behind tokens rest
parentheses-behind (m.in_parentheses t u v left named right) = past t (past u (past v here))

digits-behind : {text : List ℕ} {tokens rest : Tokens} → IsNumber text tokens rest → Behind tokens rest
digits-behind (m.number t text is) = past t here

distance-behind : {one : Distance} {tokens rest : Tokens} → IsDistance one tokens rest → Behind tokens rest
distance-behind (m.by_number is) = digits-behind is
distance-behind (m.by_value is) = parentheses-behind is

part-behind : {one : TemplatePart} {tokens rest : Tokens} → IsTemplatePart one tokens rest → Behind tokens rest
part-behind (m.target t is) = past t here
part-behind (m.period t is) = past t here
part-behind (m.literal t text is) = past t here
part-behind (m.pattern_of is) = parentheses-behind is
part-behind (m.at_number is) = digits-behind is
part-behind (m.at_distance t is distance) = past t (distance-behind distance)
part-behind (m.forward_by t is distance) = past t (distance-behind distance)
part-behind (m.backward_by t is distance) = past t (distance-behind distance)

parts-behind : {list : List TemplatePart} {tokens rest : Tokens} → AreTemplateParts list tokens rest → Behind tokens rest
parts-behind (m.no_template_part t is) = here
parts-behind (m.template_part one others) = both (part-behind one) (parts-behind others)

templates-behind : {list : List Template} {tokens rest : Tokens} → AreTemplates list tokens rest → Behind tokens rest
templates-behind (m.last_template t parts end) = off (parts-behind parts)
templates-behind (m.next_template t parts comma others) = both (off (parts-behind parts)) (templates-behind others)

from-behind : {one : ParseFrom} {tokens rest : Tokens} → IsParseFrom one tokens rest → Behind tokens rest
from-behind (m.from_arg t is) = past t here
from-behind (m.from_pull t is) = past t here
from-behind (m.from_linein t is) = past t here
from-behind (m.from_variable t u is named) = past t (past u here)
from-behind (m.from_value t u is fits with_) = past t (off (fits-behind fits))

parse-behind : {one : Parse} {tokens rest : Tokens} → IsParse one tokens rest → Behind tokens rest
parse-behind (m.parse t is from list has) = past t (both (from-behind from) (templates-behind list))
parse-behind (m.parse_upper t u is upper from list has) = past t (past u (both (from-behind from) (templates-behind list)))
parse-behind (m.arg t is list) = past t (templates-behind list)
parse-behind (m.pull t is list) = past t (templates-behind list)

-- ---- FORWARD

operand-behind : {one : Expr} {tokens rest : Tokens} → IsOperand one tokens rest → Behind tokens rest
operand-behind (f.string_operand t text is) = past t here
operand-behind (f.variable_operand t is) = past t here
operand-behind (f.group_operand is) = group-behind is

options-behind : {read whole : Forward} {tokens rest : Tokens} → AreOptions read whole tokens rest → Behind tokens rest
options-behind (f.no_option t is) = past t here
options-behind (f.to t is none operand others) = past t (both (operand-behind operand) (options-behind others))
options-behind (f.class t is none operand others) = past t (both (operand-behind operand) (options-behind others))
options-behind (f.message t is none operand others) = past t (both (operand-behind operand) (options-behind others))
options-behind (f.arguments t is none operand others) = past t (both (operand-behind operand) (options-behind others))
options-behind (f.array t u is left none args others) = past t (past u (both (args-behind args) (options-behind others)))
options-behind (f.continue t is none others) = past t (options-behind others)

forward-behind : {whole : Forward} {tokens rest : Tokens} → IsForward whole tokens rest → Behind tokens rest
forward-behind (f.forward t is options) = past t (options-behind options)

-- ---- clauses

simple-behind : {loops : Loops} {one : Simple} {tokens rest : Tokens} → IsSimple loops one tokens rest → Behind tokens rest
simple-behind (i.plain is) = plain-behind is
simple-behind (i.looping is) = looping-behind is
simple-behind (i.forwarding is) = forward-behind is
simple-behind (i.parsing is) = parse-behind is

mutual
  clause-behind : {loops : Loops} {room : ℕ} {first : Clause} {tokens rest : Tokens} → IsClause loops room first tokens rest → Behind tokens rest
  clause-behind (i.assignment t is) = assignment-behind is
  clause-behind (i.by_message t isnt is) = send-behind is
  clause-behind (i.instruction t other is) = instruction-behind is
  clause-behind (i.message t other isnt is) = message-behind is

  instruction-behind : {loops : Loops} {room : ℕ} {kind : ClauseKind} {tokens rest : Tokens} → IsInstruction loops room kind tokens rest → Behind tokens rest
  instruction-behind (i.simple is) = simple-behind is
  instruction-behind (i.choice {behind = behind} {inside = inside} t is fits then_ first other) =
      past t (both (fits-behind fits) (both (then-behind behind inside then_) (both (clause-behind first) (else-behind other))))
  instruction-behind (i.select {tokens = tokens} {inside = inside} {others = others} {rest = rest} t is end list some other ends) =
      past t (both (end-behind tokens inside end) (both (whens-behind list) (both (otherwise-behind other) (block-behind None others rest ends))))
  instruction-behind (i.group {tokens = tokens} {inside = inside} {behind = behind} {rest = rest} t is end list ends) =
      past t (both (end-behind tokens inside end) (both (clauses-behind list) (block-behind None behind rest ends)))
  instruction-behind (i.loop {header = found} {others = others} {rest = rest} t is isnt head tested list ends) =
      past t (both (header-behind head) (both (test-behind tested) (both (clauses-behind list) (block-behind (control_of found) others rest ends))))

  else-behind : {loops : Loops} {room : ℕ} {other : Option Clause} {tokens rest : Tokens} → IsElse loops room other tokens rest → Behind tokens rest
  else-behind (i.no_else none) = here
  else-behind (i.else_here {tokens = tokens} {inside = inside} is first) = both (word-behind (codes "ELSE") tokens inside is) (clause-behind first)

  whens-behind : {loops : Loops} {room : ℕ} {list : List When} {tokens rest : Tokens} → AreWhens loops room list tokens rest → Behind tokens rest
  whens-behind (i.no_when none) = here
  whens-behind (i.when_here {behind = behind} {inside = inside} t is fits then_ first others) =
      past t (both (fits-behind fits) (both (then-behind behind inside then_) (both (clause-behind first) (whens-behind others))))

  otherwise-behind : {loops : Loops} {room : ℕ} {other : Option (List Clause)} {tokens rest : Tokens} → IsOtherwise loops room other tokens rest → Behind tokens rest
  otherwise-behind (i.no_otherwise none) = here
  otherwise-behind (i.otherwise_here {tokens = tokens} {inside = inside} is list) = both (word-behind (codes "OTHERWISE") tokens inside is) (clauses-behind list)

  clauses-behind : {loops : Loops} {room : ℕ} {list : List Clause} {tokens rest : Tokens} → AreClauses loops room list tokens rest → Behind tokens rest
  clauses-behind (i.no_clause ends) = here
  clauses-behind (i.one_clause isnt first others) = both (clause-behind first) (clauses-behind others)

-- ---- bodies

expose-behind : {one : Simple} {tokens rest : Tokens} → IsExpose one tokens rest → Behind tokens rest
expose-behind (d.expose t is names some) = past t (names-behind names)

procedure-behind : {one : Simple} {tokens rest : Tokens} → IsProcedure one tokens rest → Behind tokens rest
procedure-behind (d.procedure {tokens = tokens} {rest = rest} t is end) = past t (end-behind tokens rest end)
procedure-behind (d.procedure_expose t u is exposes names some) = past t (past u (names-behind names))

list-behind : {before : Before} {list : List Clause} {tokens rest : Tokens} → AreBodyClauses before list tokens rest → Behind tokens rest
list-behind (d.no_body_clause ends) = here
list-behind (d.label t is others) = both (label-behind is) (list-behind others)
list-behind (d.expose t other is others) = both (expose-behind is) (list-behind others)
list-behind (d.procedure t other is others) = both (procedure-behind is) (list-behind others)
list-behind (d.other isnt is others) = both (clause-behind is) (list-behind others)

pub body-front : (one : Body) (tokens rest : Tokens) → IsBody one tokens rest → Front tokens rest
body-front one tokens rest (d.body list) = front-of (list-behind list)
