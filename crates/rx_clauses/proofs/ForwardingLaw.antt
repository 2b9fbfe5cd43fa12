-- FORWARD: what is written is read, and what is read is written.
use Rattle.std.proofs.Common.{◌≡◌, ℕ, zero, suc, ◌+◌, ◌*◌, ◌<◌, Bool, false, List, [], ◌∷◌, length, Option, Some, None, is_some, Ok, refl, sym, ◌∙◌, ap, subst, arith}
use Rattle.std.specs.Prelude.{codes}
use Rattle.rx_tree.specs.declared.name.Name.{Name}
use Rattle.rx_tree.specs.declared.token.TokenKind.{TokenKind}
use Rattle.rx_tree.specs.declared.token.TokenKind.TheVariants as k
use Rattle.rx_tree.specs.declared.value.Value.TheVariants.{Str}
use Rattle.rx_tree.specs.declared.expr.Expr.{Expr}
use Rattle.rx_tree.specs.declared.expr.Expr.TheVariants as e
use Rattle.rx_tree.specs.Operators.{Tokens}
use Rattle.rx_tree.specs.Expressions.{AreArgs, looseness}
use Rattle.rx_exprs.specs.declared.operators.Bracketed.{Bracketed}
use Rattle.rx_exprs.specs.declared.operators.Bracketed.TheVariants.{Round}
use Rattle.rx_exprs.specs.Marks.{closing}
use Rattle.rx_exprs.specs.Reader.{loosest}
use Rattle.rx_exprs.specs.Forms.{args_form}
use Rattle.rx_exprs.proofs.Steps.{step}
use Rattle.rx_exprs.proofs.Levels.{levelled, raise, spelt}
use Rattle.rx_exprs.proofs.Written as w
use Rattle.rx_exprs.proofs.Tables.{some-is, end-close, close-end, end-comma, comma-end}
use Rattle.rx_tree.specs.Expressions as x
use Rattle.rx_exprs.proofs.Taking.{args-read}
use Rattle.rx_exprs.proofs.Giving.{args-taken}
use Rattle.rx_exprs.proofs.Shorter.{args_shorter}
use Rattle.rx_clause_tree.specs.declared.instruction.Forward.{Forward}
use Rattle.rx_clause_tree.specs.declared.instruction.Forwarded.{Forwarded}
use Rattle.rx_clause_tree.specs.declared.instruction.Forwarded.TheVariants as f
use Rattle.rx_clause_tree.specs.ClauseWords.{variable_of}
use Rattle.rx_clause_tree.specs.Instructions.{IsGroup}
use Rattle.rx_clause_tree.specs.Instructions as g
use Rattle.rx_clause_tree.specs.Forwards as i
use Rattle.rx_clause_tree.specs.Forwards.{IsOperand, AreOptions, IsForward}
use Rattle.rx_clauses.specs.Forwarding as r
use Rattle.rx_clauses.proofs.Sure.{Sure, sure-then, sure-some, sure-if, sure-as, as-read, refused, outcome, found}
use Rattle.rx_clauses.proofs.Words.{First, left-found}
use Rattle.rx_clauses.proofs.Opens.{expression-read, fits-shorter}
use Rattle.rx_clauses.proofs.PartsLaw.{group-sure, at-end}
use Rattle.rx_clauses.proofs.PlainLaw.{at-word}

-- ---- arguments in parentheses

arg-levelled : {arg : Option Expr} {tokens rest : Tokens} → x.IsArg arg tokens rest → w.Arg arg tokens rest
arg-levelled x.omitted = w.omitted
arg-levelled (x.given {expr = expr} inner) = let i = levelled inner in let h = i.small in w.given (raise (looseness expr) loosest i.written (omega arith))

list-levelled : {close : TokenKind} {list : List (Option Expr)} {tokens rest : Tokens} → x.AreListed close list tokens rest → close ≡ k.RightParen → w.Listed Round list tokens rest
list-levelled (x.last_arg t arg a) is = w.last_arg t (arg-levelled arg) (end-close Round t.kind (a ∙ is))
list-levelled (x.next_arg t arg a others) is = w.next_arg t (arg-levelled arg) (end-comma Round t.kind a) (list-levelled others is)

args-levelled : {close : TokenKind} {list : List (Option Expr)} {tokens rest : Tokens} → AreArgs close list tokens rest → close ≡ k.RightParen → w.Args Round list tokens rest
args-levelled (x.no_args t a) is = w.no_args t (end-close Round t.kind (a ∙ is))
args-levelled (x.some_args list some) is = w.some_args (list-levelled list is) some

arg-spelt : {arg : Option Expr} {tokens rest : Tokens} → w.Arg arg tokens rest → x.IsArg arg tokens rest
arg-spelt w.omitted = x.omitted
arg-spelt (w.given inner) = x.given (spelt inner).spelt

list-spelt : {bracketed : Bracketed} {list : List (Option Expr)} {tokens rest : Tokens} → w.Listed bracketed list tokens rest → x.AreListed (closing bracketed) list tokens rest
list-spelt (w.last_arg {bracketed = b} t arg a) = x.last_arg t (arg-spelt arg) (close-end b t.kind a)
list-spelt (w.next_arg {bracketed = b} t arg a others) = x.next_arg t (arg-spelt arg) (comma-end b t.kind a) (list-spelt others)

args-spelt : {bracketed : Bracketed} {list : List (Option Expr)} {tokens rest : Tokens} → w.Args bracketed list tokens rest → AreArgs (closing bracketed) list tokens rest
args-spelt (w.no_args {bracketed = b} t a) = x.no_args t (close-end b t.kind a)
args-spelt (w.some_args list some) = x.some_args (list-spelt list) some

args-read-as : {list : List (Option Expr)} {tokens rest : Tokens} → AreArgs k.RightParen list tokens rest → args_form Round tokens ≡ Ok (list, rest)
unfolding args_form
args-read-as {tokens = tokens} are = args-read (args-levelled are refl) (16 * length tokens + 14) (omega arith)

args-as-read : (tokens : Tokens) (list : List (Option Expr)) (rest : Tokens) → args_form Round tokens ≡ Ok (list, rest) → AreArgs k.RightParen list tokens rest
unfolding args_form
args-as-read tokens list rest is = args-spelt (args-taken (16 * length tokens + 14) Round tokens list rest is)

args-sure : (tokens : Tokens) → Sure (λ list rest. AreArgs k.RightParen list tokens rest) (args_form Round tokens)
args-sure tokens = as-read (args_form Round tokens) (args-as-read tokens)

-- ---- operands

operand-variable : (kind : TokenKind) (name : Name) (here behind : Tokens) → variable_of kind ≡ Some name → r.operand_of kind here behind ≡ Ok (e.Name name, behind)
operand-variable (k.Quoted text) name here behind is = cc
operand-variable (k.Simple one) name here behind is = ap (λ (y : Name). outcome (e.Name y) behind) (some-is is)
operand-variable (k.Stem one) name here behind is = ap (λ (y : Name). outcome (e.Name y) behind) (some-is is)
operand-variable (k.Compound one tail) name here behind is = ap (λ (y : Name). outcome (e.Name y) behind) (some-is is)
operand-variable _ name here behind is = cc

pub operand-read : {one : Expr} {tokens rest : Tokens} → IsOperand one tokens rest → r.operand tokens ≡ Ok (one, rest)
operand-read (i.string_operand t text is) = rw is
operand-read (i.variable_operand {name = name} {rest = rest} t is) = operand-variable t.kind name (t ∷ rest) rest is
operand-read (i.group_operand (g.group t u left fits right)) = rw (left, expression-read fits, right)

pub operand-shorter : {one : Expr} {tokens rest : Tokens} → IsOperand one tokens rest → length rest < length tokens
operand-shorter (i.string_operand t text is) = omega arith
operand-shorter (i.variable_operand t is) = omega arith
operand-shorter (i.group_operand (g.group t u left fits right)) = let h = fits-shorter fits in omega arith

pub operand-sure : (tokens : Tokens) → Sure (λ one rest. IsOperand one tokens rest) (r.operand tokens)
operand-sure [] = refused _
operand-sure (t ∷ behind) = go t.kind refl
  where
    by-variable : (kind : TokenKind) (name : Option Name) → t.kind ≡ kind → variable_of kind ≡ name
        → Sure (λ one rest. IsOperand one (t ∷ behind) rest) (r.variable_or name (t ∷ behind) behind)
    by-variable kind None same is = sure-as _ (λ one rest grouped. i.group_operand grouped) (group-sure 19 (t ∷ behind))
    by-variable kind (Some name) same is = found (e.Name name) behind (i.variable_operand t (ap variable_of same ∙ is))

    go : (kind : TokenKind) → t.kind ≡ kind → Sure (λ one rest. IsOperand one (t ∷ behind) rest) (r.operand_of kind (t ∷ behind) behind)
    go (k.Quoted text) same = found (e.Const (Str text)) behind (i.string_operand t text same)
    go kind same = by-variable kind (variable_of kind) same refl

-- ---- options

pub options-read : {read whole : Forward} {tokens rest : Tokens} → AreOptions read whole tokens rest → (n : ℕ) → length tokens < n → r.options n read tokens ≡ Ok (whole, rest)
options-read (i.no_option {read = read} {rest = rest} t end) n enough =
    step (λ n. r.options n read (t ∷ rest) ≡ Ok (read, rest)) n (omega arith) (λ m also. rw end)
options-read (i.to {read = read} {whole = whole} {tokens = tokens} {rest = rest} t is none operand others) n enough =
    step (λ n. r.options n read (t ∷ tokens) ≡ Ok (whole, rest)) n (omega arith) (λ m also.
    let h = operand-shorter operand in rw (is, none, operand-read operand, options-read others m (omega arith)))
options-read (i.class {read = read} {whole = whole} {tokens = tokens} {rest = rest} t is none operand others) n enough =
    step (λ n. r.options n read (t ∷ tokens) ≡ Ok (whole, rest)) n (omega arith) (λ m also.
    let h = operand-shorter operand in rw (is, none, operand-read operand, options-read others m (omega arith)))
options-read (i.message {read = read} {whole = whole} {tokens = tokens} {rest = rest} t is none operand others) n enough =
    step (λ n. r.options n read (t ∷ tokens) ≡ Ok (whole, rest)) n (omega arith) (λ m also.
    let h = operand-shorter operand in rw (is, none, operand-read operand, options-read others m (omega arith)))
options-read (i.arguments {read = read} {whole = whole} {tokens = tokens} {rest = rest} t is none operand others) n enough =
    step (λ n. r.options n read (t ∷ tokens) ≡ Ok (whole, rest)) n (omega arith) (λ m also.
    let h = operand-shorter operand in rw (is, none, operand-read operand, options-read others m (omega arith)))
options-read (i.array {read = read} {whole = whole} {args = list} {tokens = tokens} {behind = behind} {rest = rest} t u is left none are others) n enough =
    step (λ n. r.options n read (t ∷ (u ∷ tokens)) ≡ Ok (whole, rest)) n (omega arith) (λ m also.
    let was = args-read-as are in
    let h = args_shorter Round tokens list behind was in rw (is, none, left, was, options-read others m (omega arith)))
options-read (i.continue {read = read} {whole = whole} {tokens = tokens} {rest = rest} t is none others) n enough =
    step (λ n. r.options n read (t ∷ tokens) ≡ Ok (whole, rest)) n (omega arith) (λ m also.
    rw (is, none, options-read others m (omega arith)))

pub options-shorter : {read whole : Forward} {tokens rest : Tokens} → AreOptions read whole tokens rest → length rest < length tokens
options-shorter (i.no_option t end) = omega arith
options-shorter (i.to t is none operand others) = let h = operand-shorter operand in let j = options-shorter others in omega arith
options-shorter (i.class t is none operand others) = let h = operand-shorter operand in let j = options-shorter others in omega arith
options-shorter (i.message t is none operand others) = let h = operand-shorter operand in let j = options-shorter others in omega arith
options-shorter (i.arguments t is none operand others) = let h = operand-shorter operand in let j = options-shorter others in omega arith
options-shorter (i.array {args = list} {tokens = tokens} {behind = behind} t u is left none are others) =
    let h = args_shorter Round tokens list behind (args-read-as are) in let j = options-shorter others in omega arith
options-shorter (i.continue t is none others) = let j = options-shorter others in omega arith

no-some : {A : Type 0} (x : Option A) → is_some x ≡ false → x ≡ None
no-some None is = refl
no-some (Some a) is = cc

no-args : (x : Forwarded) → r.has_args x ≡ false → x ≡ f.Own
no-args f.Own is = refl
no-args _ is = cc

-- what an option adds stands in front of every further list
abbrev Goes : Forward → Tokens → Forward → Tokens → Type 0
Goes read tokens now behind = (whole : Forward) (rest : Tokens) → AreOptions now whole behind rest → AreOptions read whole tokens rest

option-of-sure : (read : Forward) (make : Expr → Forward) (stood : Bool) (tokens behind : Tokens)
    → (stood ≡ false → (expr : Expr) (rest : Tokens) → IsOperand expr behind rest → Goes read tokens (make expr) rest)
    → Sure (λ now rest. Goes read tokens now rest) (r.option_of make stood tokens behind)
option-of-sure read make stood tokens behind go =
    sure-then {Is = λ expr rest. (stood ≡ false) × IsOperand expr behind rest} _ _
    (sure-if _ _ _ (λ twice. refused _) (λ new. sure-as _ (λ expr rest is. (new, is)) (operand-sure behind)))
    (λ expr rest is. found (make expr) rest (go is.0 expr rest is.1))

record IsArray (stood : Bool) (behind : Tokens) (list : List (Option Expr)) (rest : Tokens) : Type 0 where
  pub new : stood ≡ false
  pub inside : Tokens
  pub first : First (λ t. t.kind ≡ k.LeftParen) behind inside
  pub are : AreArgs k.RightParen list inside rest

array-once-sure : (stood : Bool) (here behind : Tokens) → Sure (λ list rest. IsArray stood behind list rest) (r.array_once stood here behind)
array-once-sure stood here behind =
    sure-if _ _ _ (λ twice. refused _) (λ new.
    sure-some _ _ _ (λ none. refused _) (λ inside left.
    sure-as _ (λ list rest are. record { new = new; inside = inside; first = left-found behind inside left; are = are }) (args-sure inside)))

option-sure : (read : Forward) (tokens : Tokens) → Sure (λ now behind. Goes read tokens now behind) (r.option read tokens)
option-sure read tokens =
    sure-some _ _ _ (λ no_to.
    sure-some _ _ _ (λ no_class.
    sure-some _ _ _ (λ no_message.
    sure-some _ _ _ (λ no_arguments.
    sure-some _ _ _ (λ no_array.
    sure-some _ _ _ (λ no_continue. refused _)
    (λ behind is. sure-if _ _ _ (λ twice. refused _) (λ new.
    found _ behind (λ whole rest others. at-word (λ ts. AreOptions read whole ts rest) (codes "CONTINUE") tokens behind is (λ t w. i.continue t w new others)))))
    (λ behind is. sure-then _ _ (array-once-sure (r.has_args read.args) tokens behind) (λ list rest array.
    found _ rest (λ whole last others.
    let u = array.first in
    at-word (λ ts. AreOptions read whole ts last) (codes "ARRAY") tokens behind is (λ t w.
    subst (λ (ts : Tokens). AreOptions read whole (t ∷ ts) last) (sym u.is) (i.array t u.token w u.fact (no-args read.args array.new) array.are others))))))
    (λ behind is. option-of-sure read (λ expr. record read { args = f.Arguments expr }) (r.has_args read.args) tokens behind (λ new expr rest operand whole last others.
    at-word (λ ts. AreOptions read whole ts last) (codes "ARGUMENTS") tokens behind is (λ t w. i.arguments t w (no-args read.args new) operand others))))
    (λ behind is. option-of-sure read (λ expr. record read { message = Some expr }) (is_some read.message) tokens behind (λ new expr rest operand whole last others.
    at-word (λ ts. AreOptions read whole ts last) (codes "MESSAGE") tokens behind is (λ t w. i.message t w (no-some read.message new) operand others))))
    (λ behind is. option-of-sure read (λ expr. record read { class = Some expr }) (is_some read.class) tokens behind (λ new expr rest operand whole last others.
    at-word (λ ts. AreOptions read whole ts last) (codes "CLASS") tokens behind is (λ t w. i.class t w (no-some read.class new) operand others))))
    (λ behind is. option-of-sure read (λ expr. record read { to = Some expr }) (is_some read.to) tokens behind (λ new expr rest operand whole last others.
    at-word (λ ts. AreOptions read whole ts last) (codes "TO") tokens behind is (λ t w. i.to t w (no-some read.to new) operand others)))

pub options-sure : (n : ℕ) (read : Forward) (tokens : Tokens) → Sure (λ whole rest. AreOptions read whole tokens rest) (r.options n read tokens)
options-sure zero read tokens = refused _
options-sure (suc m) read tokens =
    sure-some _ _ _
    (λ none. sure-then _ _ (option-sure read tokens) (λ now behind goes. sure-as _ (λ whole rest others. goes whole rest others) (options-sure m now behind)))
    (λ rest is. found read rest (at-end (λ whole ts last. AreOptions read whole ts last) read tokens rest is (λ t end. i.no_option t end)))
