-- Instructions that hold no other clause, by their words.
use Rattle.std.proofs.Common.{◌≡◌, ℕ, ◌+◌, ◌<◌, Bool, true, false, List, [], ◌∷◌, length, Option, Some, None, Ok, refl, sym, ◌∙◌, ap, subst, arith}
use Rattle.std.specs.Prelude.{codes}
use Rattle.rx_tree.specs.declared.activity.Condition.{Condition}
use Rattle.rx_tree.specs.declared.name.Name.{Name}
use Rattle.rx_tree.specs.declared.token.Token.{Token}
use Rattle.rx_tree.specs.declared.expr.Expr.{Expr}
use Rattle.rx_tree.specs.Operators.{Tokens}
use Rattle.rx_tree.specs.Terms.{name_of, is_string}
use Rattle.rx_exprs.specs.Reader.{Outcome}
use Rattle.rx_clause_tree.specs.declared.simple.Simple.{Simple}
use Rattle.rx_clause_tree.specs.declared.simple.Simple.TheVariants as c
use Rattle.rx_clause_tree.specs.declared.template.Template.{Template}
use Rattle.rx_clause_tree.specs.declared.template.Parse.{Parse}
use Rattle.rx_clause_tree.specs.declared.template.ParseFrom.{ParseFrom}
use Rattle.rx_clause_tree.specs.declared.template.ParseFrom.TheVariants as f
use Rattle.rx_clause_tree.specs.ClauseWords.{word, is_word, symbol_of, behind_end}
use Rattle.rx_clause_tree.specs.Assignments.{IsGiven, no_expression, expression}
use Rattle.rx_clause_tree.specs.Instructions as i
use Rattle.rx_clause_tree.specs.Instructions.{IsPlainInstruction, AreParameters, setting_of}
use Rattle.rx_clause_tree.specs.Forwards as j
use Rattle.rx_clause_tree.specs.Templates as p
use Rattle.rx_clause_tree.specs.Templates.{IsParseFrom, AreTemplates, IsParse, has_templates}
use Rattle.rx_clause_tree.specs.Loops as l
use Rattle.rx_clause_tree.specs.Loops.{Loops, are_around, IsLoopInstruction}
use Rattle.rx_clause_tree.specs.Clauses.{IsSimple, plain, looping, forwarding, parsing}
use Rattle.rx_clauses.specs.declared.keyword.Keyword.TheVariants as w
use Rattle.rx_clauses.specs.declared.keyword.Word.{Word}
use Rattle.rx_clauses.specs.declared.keyword.Word.TheVariants as o
use Rattle.rx_clauses.specs.Keywords.{keyword_of}
use Rattle.rx_clauses.specs.Parts.{behind_symbol, to_end}
use Rattle.rx_clauses.specs.Plain as r
use Rattle.rx_clauses.specs.Looping as m
use Rattle.rx_clauses.specs.Parsing as n
use Rattle.rx_clauses.specs.Reader.{simple, with_given, parsed}
use Rattle.rx_clauses.proofs.Sure.{Sure, sure-then, sure-some, sure-if, sure-as, refused, found}
use Rattle.rx_clauses.proofs.Words.{end-found, end-shorter, word-is}
use Rattle.rx_clauses.proofs.KeywordLemmas.{keyword-is}
use Rattle.rx_clauses.proofs.PartsLaw.{Tabled, symbol-sure, to-end-sure, last-shorter, given-read, given-sure, some-names-read, some-names-sure, names-shorter, arguments-read, arguments-sure, arguments-shorter}
use Rattle.rx_clauses.proofs.PlainLaw.{at-word, at-token, user-read, IsUser, user-sure, condition-read, condition-sure, label-read, label-sure, parameters-read, parameters-sure, parameters-shorter, number-read, number-sure, number-shorter, option-read, option-sure, option-shorter, guard-read, guard-sure, guard-shorter, setting-sure, condition-shorter, label-shorter}
use Rattle.rx_clauses.proofs.LoopingLaw.{loop-name-read, loop-name-shorter, loop-name-sure}
use Rattle.rx_clauses.proofs.ForwardingLaw.{options-read, options-shorter, options-sure}
use Rattle.rx_clauses.proofs.ParsingLaw.{by-read, by-sure, text-sure, from-read, from-shorter, templates-shorter}

-- ---- what is written is read

-- an instruction at its word: it is read behind it, and takes tokens
pub record IsRead (loops : Loops) (one : Simple) (t : Token) (tokens rest : Tokens) : Type 0 where
  pub by : Word
  pub keyword : keyword_of t.kind ≡ Some (w.Other by)
  pub reads : simple loops by tokens ≡ Ok (one, rest)
  pub shorter : length rest < length tokens + 1

pub record AtWord (loops : Loops) (one : Simple) (here rest : Tokens) : Type 0 where
  pub token : Token
  pub behind : Tokens
  pub is : here ≡ token ∷ behind
  pub read : IsRead loops one token behind rest

given-shorter : {one : Option Expr} {tokens rest : Tokens} → IsGiven one tokens rest → length rest < length tokens
given-shorter (no_expression t is) = omega arith
given-shorter (expression last) = last-shorter last

at : {loops : Loops} {one : Simple} (t : Token) (tokens rest : Tokens) (by : Word) → keyword_of t.kind ≡ Some (w.Other by) → simple loops by tokens ≡ Ok (one, rest)
    → length rest < length tokens + 1 → AtWord loops one (t ∷ tokens) rest
at t tokens rest by keyword reads shorter =
    record { token = t; behind = tokens; is = refl; read = record { by = by; keyword = keyword; reads = reads; shorter = shorter } }

plain-read : {one : Simple} {tokens rest : Tokens} (loops : Loops) → IsPlainInstruction one tokens rest → AtWord loops one tokens rest
unfolding simple
plain-read loops (i.say {tokens = ts} {rest = rest} t is g) = let h = given-shorter g in at t ts rest o.Say (ap keyword_of is) (rw (given-read g)) (omega arith)
plain-read loops (i.nop {tokens = ts} {rest = rest} t is end) = let h = end-shorter ts rest end in at t ts rest o.Nop (ap keyword_of is) (rw end) (omega arith)
plain-read loops (i.call {tokens = ts} {rest = rest} t u name is no_on no_off named args) =
    let h = arguments-shorter args in at t (u ∷ ts) rest o.Call (ap keyword_of is) (rw (no_on, no_off, named, arguments-read args)) (omega arith)
plain-read loops (i.call_on {tokens = ts} {rest = rest} t u is on trapped label) =
    let h = condition-shorter trapped in let g = label-shorter label in
    at t (u ∷ ts) rest o.Call (ap keyword_of is) (rw (on, user-read trapped, label-read label)) (omega arith)
plain-read loops (i.call_off {tokens = ts} {behind = behind} {rest = rest} t u is off trapped end) =
    let h = condition-shorter trapped in let g = end-shorter behind rest end in
    at t (u ∷ ts) rest o.Call (ap keyword_of is) (rw (off, user-read trapped, end)) (omega arith)
plain-read loops (i.return_ {tokens = ts} {rest = rest} t is g) = let h = given-shorter g in at t ts rest o.Return (ap keyword_of is) (rw (given-read g)) (omega arith)
plain-read loops (i.exit {tokens = ts} {rest = rest} t is g) = let h = given-shorter g in at t ts rest o.Exit (ap keyword_of is) (rw (given-read g)) (omega arith)
plain-read loops (i.signal {rest = rest} t u v label is no_on no_off named end) =
    at t (u ∷ (v ∷ rest)) rest o.Signal (ap keyword_of is) (rw (no_on, no_off, named, end)) (omega arith)
plain-read loops (i.signal_on {tokens = ts} {rest = rest} t u is on trapped label) =
    let h = condition-shorter trapped in let g = label-shorter label in
    at t (u ∷ ts) rest o.Signal (ap keyword_of is) (rw (on, condition-read trapped, label-read label)) (omega arith)
plain-read loops (i.signal_off {tokens = ts} {behind = behind} {rest = rest} t u is off trapped end) =
    let h = condition-shorter trapped in let g = end-shorter behind rest end in
    at t (u ∷ ts) rest o.Signal (ap keyword_of is) (rw (off, condition-read trapped, end)) (omega arith)
plain-read loops (i.drop_names {tokens = ts} {rest = rest} t is are some) =
    let h = names-shorter are in at t ts rest o.Drop (ap keyword_of is) (rw (some-names-read are some)) (omega arith)
plain-read loops (i.use_arg {tokens = ts} {rest = rest} t u is arg are) =
    let h = parameters-shorter are in at t (u ∷ ts) rest o.Use (ap keyword_of is) (rw (arg, parameters-read are (length ts + 1) (omega arith))) (omega arith)
plain-read loops (i.use_strict {tokens = ts} {rest = rest} t u v is strict arg are) =
    let h = parameters-shorter are in at t (u ∷ (v ∷ ts)) rest o.Use (ap keyword_of is) (rw (strict, arg, parameters-read are (length ts + 1) (omega arith))) (omega arith)
plain-read loops (i.push {tokens = ts} {rest = rest} t is g) = let h = given-shorter g in at t ts rest o.Push (ap keyword_of is) (rw (given-read g)) (omega arith)
plain-read loops (i.queue {tokens = ts} {rest = rest} t is g) = let h = given-shorter g in at t ts rest o.Queue (ap keyword_of is) (rw (given-read g)) (omega arith)
plain-read loops (i.digits {tokens = ts} {rest = rest} t u is digits g) =
    let h = given-shorter g in at t (u ∷ ts) rest o.Numeric (ap keyword_of is) (rw (digits, given-read g)) (omega arith)
plain-read loops (i.guard_on {tokens = ts} {rest = rest} t u is on g) =
    let h = guard-shorter g in at t (u ∷ ts) rest o.Guard (ap keyword_of is) (rw (on, guard-read g)) (omega arith)
plain-read loops (i.guard_off {tokens = ts} {rest = rest} t u is off g) =
    let h = guard-shorter g in at t (u ∷ ts) rest o.Guard (ap keyword_of is) (rw (off, guard-read g)) (omega arith)
plain-read loops (i.reply {tokens = ts} {rest = rest} t is g) = let h = given-shorter g in at t ts rest o.Reply (ap keyword_of is) (rw (given-read g)) (omega arith)
plain-read loops (i.raise_syntax {tokens = ts} {others = others} {rest = rest} t u is syntax number text end) =
    let a = number-shorter number in let b = option-shorter text in let g = end-shorter others rest end in
    at t (u ∷ ts) rest o.Raise (ap keyword_of is) (rw (syntax, number-read number, option-read text, end)) (omega arith)
plain-read loops (i.raise_user {tokens = ts} {others = others} {rest = rest} t u v name is user named text value end) =
    let a = option-shorter text in let b = option-shorter value in let g = end-shorter others rest end in
    at t (u ∷ (v ∷ ts)) rest o.Raise (ap keyword_of is) (rw (user, named, option-read text, option-read value, end)) (omega arith)
plain-read loops (i.trace {tokens = ts} {rest = rest} t u is setting end) =
    let g = end-shorter ts rest end in at t (u ∷ ts) rest o.Trace (ap keyword_of is) (rw (setting, end)) (omega arith)

looping-read : {loops : Loops} {one : Simple} {tokens rest : Tokens} → IsLoopInstruction loops one tokens rest → AtWord loops one tokens rest
unfolding simple
looping-read (l.leave {tokens = ts} {rest = rest} t is name around) =
    let h = loop-name-shorter name in at t ts rest o.Leave (ap keyword_of is) (rw (loop-name-read name, around)) (omega arith)
looping-read (l.iterate {tokens = ts} {rest = rest} t is name around) =
    let h = loop-name-shorter name in at t ts rest o.Iterate (ap keyword_of is) (rw (loop-name-read name, around)) (omega arith)

from-no-upper : {one : ParseFrom} {tokens rest : Tokens} → IsParseFrom one tokens rest → behind_symbol (codes "UPPER") tokens ≡ None
from-no-upper (p.from_arg t is) = rw is
from-no-upper (p.from_pull t is) = rw is
from-no-upper (p.from_linein t is) = rw is
from-no-upper (p.from_variable t u is named) = rw is
from-no-upper (p.from_value t u is fits with_) = rw is

parsing-read : {one : Parse} {tokens rest : Tokens} (loops : Loops) → IsParse one tokens rest → AtWord loops (c.Parse one) tokens rest
unfolding simple
parsing-read loops (p.parse {from = from} {tokens = ts} {rest = rest} t is origin are has) =
    let a = from-shorter origin in let b = templates-shorter are in
    at t ts rest o.Parse (ap keyword_of is) (rw (from-no-upper origin, from-read origin, by-read false from are has)) (omega arith)
parsing-read loops (p.parse_upper {from = from} {tokens = ts} {rest = rest} t u is upper origin are has) =
    let a = from-shorter origin in let b = templates-shorter are in
    at t (u ∷ ts) rest o.Parse (ap keyword_of is) (rw (upper, from-read origin, by-read true from are has)) (omega arith)
parsing-read loops (p.arg {tokens = ts} {rest = rest} t is are) =
    let b = templates-shorter are in at t ts rest o.Arg (ap keyword_of is) (rw (by-read true f.Arg are refl)) (omega arith)
parsing-read loops (p.pull {tokens = ts} {rest = rest} t is are) =
    let b = templates-shorter are in at t ts rest o.Pull (ap keyword_of is) (rw (by-read true f.Pull are refl)) (omega arith)

pub simple-read : {loops : Loops} {one : Simple} {tokens rest : Tokens} → IsSimple loops one tokens rest → AtWord loops one tokens rest
unfolding simple
simple-read {loops = loops} (plain is) = plain-read loops is
simple-read (looping is) = looping-read is
simple-read (forwarding (j.forward {tokens = ts} {rest = rest} t is options)) =
    let h = options-shorter options in at t ts rest o.Forward (ap keyword_of is) (rw (options-read options (length ts + 1) (omega arith))) (omega arith)
simple-read {loops = loops} (parsing is) = parsing-read loops is

-- ---- what is read is written

abbrev IsAt : Loops → Token → Tokens → Simple → Tokens → Type 0
IsAt loops t tokens one rest = IsSimple loops one (t ∷ tokens) rest

given-plain : (loops : Loops) (t : Token) (tokens : Tokens) (make : Option Expr → Simple)
    → ((one : Option Expr) (rest : Tokens) → IsGiven one tokens rest → IsPlainInstruction (make one) (t ∷ tokens) rest)
    → Sure (λ one rest. IsAt loops t tokens one rest) (with_given make tokens)
given-plain loops t tokens make go = sure-then _ _ (given-sure tokens) (λ one rest is. found (make one) rest (plain (go one rest is)))

call-sure : (loops : Loops) (t : Token) (tokens : Tokens) → t.kind ≡ word (codes "CALL") → Sure (λ one rest. IsAt loops t tokens one rest) (r.call tokens)
call-sure loops t [] is = refused _
call-sure loops t (u ∷ tokens) is =
    sure-if _ _ _
    (λ on. sure-then _ _ (user-sure tokens) (λ trapped behind user.
    sure-then _ _ (label-sure trapped behind) (λ label rest labelled.
    found _ rest (plain (as-call-on trapped behind label rest user (word-is (codes "ON") u.kind on) labelled)))))
    (λ no_on. sure-if _ _ _
    (λ off. sure-then _ _ (user-sure tokens) (λ trapped behind user.
    sure-as _ (λ one rest end. as-call-off trapped behind one rest user (word-is (codes "OFF") u.kind off) end) (to-end-sure (c.CallOff trapped) behind)))
    (λ no_off. go no_on no_off (name_of u.kind) refl))
  where
    as-call-on : (trapped : Condition) (behind : Tokens) (label : List ℕ) (rest : Tokens) → IsUser trapped tokens behind → u.kind ≡ word (codes "ON")
        → i.IsTrapLabel trapped label behind rest → IsPlainInstruction (c.CallOn (record { condition = trapped; label = label })) (t ∷ (u ∷ tokens)) rest
    as-call-on trapped behind label rest user on labelled =
        subst (λ (x : Condition). IsPlainInstruction (c.CallOn (record { condition = x; label = label })) (t ∷ (u ∷ tokens)) rest) (sym user.is)
        (i.call_on t u is on user.fact (subst (λ (x : Condition). i.IsTrapLabel x label behind rest) user.is labelled))

    as-call-off : (trapped : Condition) (behind : Tokens) (one : Simple) (rest : Tokens) → IsUser trapped tokens behind → u.kind ≡ word (codes "OFF")
        → (one ≡ c.CallOff trapped) × (behind_end behind ≡ Some rest) → IsSimple loops one (t ∷ (u ∷ tokens)) rest
    as-call-off trapped behind one rest user off end =
        subst (λ (x : Simple). IsSimple loops x (t ∷ (u ∷ tokens)) rest) (sym (end.0 ∙ ap c.CallOff user.is)) (plain (i.call_off t u is off user.fact end.1))

    go : is_word (codes "ON") u.kind ≡ false → is_word (codes "OFF") u.kind ≡ false → (name : Option (List ℕ)) → name_of u.kind ≡ name
        → Sure (λ one rest. IsAt loops t (u ∷ tokens) one rest) (r.call_named (is_string u.kind) name (u ∷ tokens) tokens)
    go no_on no_off None named = refused _
    go no_on no_off (Some name) named =
        sure-then _ _ (arguments-sure tokens) (λ args rest are. found _ rest (plain (i.call t u name is no_on no_off named are)))

abbrev head-of : Token → Tokens → Token
head-of other [] = other
head-of other (t ∷ rest) = t

abbrev tail-of : Tokens → Tokens
tail-of [] = []
tail-of (t ∷ rest) = rest

signal-sure : (loops : Loops) (t : Token) (tokens : Tokens) → t.kind ≡ word (codes "SIGNAL") → Sure (λ one rest. IsAt loops t tokens one rest) (r.signal tokens)
signal-sure loops t [] is = refused _
signal-sure loops t (u ∷ tokens) is =
    sure-if _ _ _
    (λ on. sure-then _ _ (condition-sure tokens) (λ trapped behind so.
    sure-then _ _ (label-sure trapped behind) (λ label rest labelled.
    found _ rest (plain (i.signal_on t u is (word-is (codes "ON") u.kind on) so labelled)))))
    (λ no_on. sure-if _ _ _
    (λ off. sure-then _ _ (condition-sure tokens) (λ trapped behind so.
    sure-as _ (λ one rest end. subst (λ (x : Simple). IsSimple loops x (t ∷ (u ∷ tokens)) rest) (sym end.0)
    (plain (i.signal_off t u is (word-is (codes "OFF") u.kind off) so end.1))) (to-end-sure (c.SignalOff trapped) behind)))
    (λ no_off. sure-then _ _ (symbol-sure (u ∷ tokens)) (λ label behind named.
    sure-as _ (λ one rest end. as-label label behind one rest no_on no_off named end) (to-end-sure (c.Signal label) behind))))
  where
    as-label : (label : List ℕ) (behind : Tokens) (one : Simple) (rest : Tokens) → is_word (codes "ON") u.kind ≡ false → is_word (codes "OFF") u.kind ≡ false
        → Tabled symbol_of label (u ∷ tokens) behind → (one ≡ c.Signal label) × (behind_end behind ≡ Some rest) → IsSimple loops one (t ∷ (u ∷ tokens)) rest
    as-label label behind one rest no_on no_off named end =
        let v = end-found behind rest end.1 in
        let same : u ≡ named.token = ap (head-of u) named.is in
        let others : tokens ≡ behind = ap tail-of named.is in
        subst (λ (x : Simple). IsSimple loops x (t ∷ (u ∷ tokens)) rest) (sym end.0)
        (subst (λ (ts : Tokens). IsSimple loops (c.Signal label) (t ∷ (u ∷ ts)) rest) (sym (others ∙ v.is))
        (plain (i.signal t u v.token label is no_on no_off (ap (λ (x : Token). symbol_of x.kind) same ∙ named.fact) v.fact)))

use-sure : (loops : Loops) (t : Token) (tokens : Tokens) → t.kind ≡ word (codes "USE") → Sure (λ one rest. IsAt loops t tokens one rest) (r.use_ tokens)
use-sure loops t tokens is =
    sure-some _ _ _
    (λ no_strict. sure-some _ _ _ (λ none. refused _) (λ behind arg.
    sure-then _ _ (parameters-sure (length behind + 1) behind) (λ list rest are.
    found _ rest (plain (at-word (λ ts. IsPlainInstruction (c.UseArg false list) (t ∷ ts) rest) (codes "ARG") tokens behind arg (λ u v. i.use_arg t u is v are))))))
    (λ after strict. sure-some _ _ _ (λ none. refused _) (λ behind arg.
    sure-then _ _ (parameters-sure (length behind + 1) behind) (λ list rest are.
    found _ rest (plain (at-word (λ ts. IsPlainInstruction (c.UseArg true list) (t ∷ ts) rest) (codes "STRICT") tokens after strict (λ u x.
    at-word (λ ts. IsPlainInstruction (c.UseArg true list) (t ∷ (u ∷ ts)) rest) (codes "ARG") after behind arg (λ v z. i.use_strict t u v is x z are)))))))

guarding-sure : (loops : Loops) (t : Token) (tokens : Tokens) → t.kind ≡ word (codes "GUARD") → Sure (λ one rest. IsAt loops t tokens one rest) (r.guard tokens)
guarding-sure loops t tokens is =
    sure-some _ _ _
    (λ no_on. sure-some _ _ _ (λ none. refused _) (λ behind off.
    sure-then _ _ (guard-sure behind) (λ test rest so.
    found _ rest (plain (at-word (λ ts. IsPlainInstruction (c.GuardOff test) (t ∷ ts) rest) (codes "OFF") tokens behind off (λ u v. i.guard_off t u is v so))))))
    (λ behind on. sure-then _ _ (guard-sure behind) (λ test rest so.
    found _ rest (plain (at-word (λ ts. IsPlainInstruction (c.GuardOn test) (t ∷ ts) rest) (codes "ON") tokens behind on (λ u v. i.guard_on t u is v so)))))

ending : (loops : Loops) (one : Simple) (here others : Tokens) → ((rest : Tokens) → behind_end others ≡ Some rest → IsPlainInstruction one here rest)
    → Sure (λ same rest. IsSimple loops same here rest) (to_end one others)
ending loops one here others go =
    sure-as _ (λ same rest end. subst (λ (x : Simple). IsSimple loops x here rest) (sym end.0) (plain (go rest end.1))) (to-end-sure one others)

raise-sure : (loops : Loops) (t : Token) (tokens : Tokens) → t.kind ≡ word (codes "RAISE") → Sure (λ one rest. IsAt loops t tokens one rest) (r.raise tokens)
raise-sure loops t tokens is =
    sure-some _ _ _
    (λ no_syntax. sure-some _ _ _ (λ none. refused _) (λ behind user.
    sure-then _ _ (symbol-sure behind) (λ name others named.
    sure-then _ _ (option-sure (codes "DESCRIPTION") others) (λ text more described.
    sure-then _ _ (option-sure (codes "RETURN") more) (λ value last given.
    ending loops _ (t ∷ tokens) last (λ rest end.
    at-word (λ ts. IsPlainInstruction (c.RaiseUser name text value) (t ∷ ts) rest) (codes "USER") tokens behind user (λ u x.
    at-token (λ ts. IsPlainInstruction (c.RaiseUser name text value) (t ∷ (u ∷ ts)) rest) named (λ v z. i.raise_user t u v name is x z described given end))))))))
    (λ behind syntax. sure-then _ _ (number-sure behind) (λ number others numbered.
    sure-then _ _ (option-sure (codes "DESCRIPTION") others) (λ text last described.
    ending loops _ (t ∷ tokens) last (λ rest end.
    at-word (λ ts. IsPlainInstruction (c.RaiseSyntax number text) (t ∷ ts) rest) (codes "SYNTAX") tokens behind syntax (λ u x. i.raise_syntax t u is x numbered described end)))))

digits-sure : (loops : Loops) (t : Token) (tokens : Tokens) → t.kind ≡ word (codes "NUMERIC") → Sure (λ one rest. IsAt loops t tokens one rest) (r.digits tokens)
digits-sure loops t tokens is =
    sure-some _ _ _ (λ none. refused _) (λ behind digits.
    sure-then _ _ (given-sure behind) (λ one rest given.
    found _ rest (plain (at-word (λ ts. IsPlainInstruction (c.Digits one) (t ∷ ts) rest) (codes "DIGITS") tokens behind digits (λ u v. i.digits t u is v given)))))

trace-sure : (loops : Loops) (t : Token) (tokens : Tokens) → t.kind ≡ word (codes "TRACE") → Sure (λ one rest. IsAt loops t tokens one rest) (r.trace tokens)
trace-sure loops t tokens is =
    sure-then _ _ (setting-sure tokens) (λ setting behind so.
    ending loops _ (t ∷ tokens) behind (λ rest end.
    at-token (λ ts. IsPlainInstruction (c.Trace setting) (t ∷ ts) rest) so (λ u v. i.trace t u is v end)))

loop-sure : (loops : Loops) (t : Token) (tokens : Tokens) (make : Option Name → Simple)
    → ((name : Option Name) (rest : Tokens) → l.IsLoopName name tokens rest → are_around name loops ≡ true → IsLoopInstruction loops (make name) (t ∷ tokens) rest)
    → Sure (λ one rest. IsAt loops t tokens one rest) (m.looping loops make tokens)
loop-sure loops t tokens make go =
    sure-then _ _ (loop-name-sure tokens) (λ name rest is.
    sure-if _ _ _ (λ around. found (make name) rest (looping (go name rest is around))) (λ other. refused _))

parsed-sure : (loops : Loops) (t : Token) (tokens : Tokens) (outcome : Outcome Parse) → Sure (λ one rest. IsParse one (t ∷ tokens) rest) outcome
    → Sure (λ one rest. IsAt loops t tokens one rest) (parsed outcome)
parsed-sure loops t tokens outcome is = sure-then _ _ is (λ one rest so. found (c.Parse one) rest (parsing so))

text-as : (upper : Bool) (here : Tokens) (behind : Tokens) (P : Parse → Tokens → Type 0)
    → ((from : ParseFrom) (list : List Template) (others rest : Tokens) → IsParseFrom from behind others → AreTemplates list others rest → has_templates from list ≡ true
    → P (record { upper = upper; from = from; templates = list }) rest)
    → Sure P (n.parse_text upper behind)
text-as upper here behind P go =
    sure-as _ (λ one rest x. subst (λ (q : Parse). P q rest) (sym x.is) (go x.from x.templates x.behind rest x.is_from x.are x.has)) (text-sure upper behind)

parse-sure : (t : Token) (tokens : Tokens) → t.kind ≡ word (codes "PARSE") → Sure (λ one rest. IsParse one (t ∷ tokens) rest) (n.parse tokens)
parse-sure t tokens is =
    sure-some _ _ _
    (λ no_upper. text-as false (t ∷ tokens) tokens (λ one rest. IsParse one (t ∷ tokens) rest) (λ from list others rest origin are has. p.parse t is origin are has))
    (λ behind upper. text-as true (t ∷ tokens) behind (λ one rest. IsParse one (t ∷ tokens) rest) (λ from list others rest origin are has.
    at-word (λ ts. IsParse (record { upper = true; from = from; templates = list }) (t ∷ ts) rest) (codes "UPPER") tokens behind upper (λ u v. p.parse_upper t u is v origin are has)))

arg-sure : (t : Token) (tokens : Tokens) → t.kind ≡ word (codes "ARG") → Sure (λ one rest. IsParse one (t ∷ tokens) rest) (n.parse_by true f.Arg tokens)
arg-sure t tokens is =
    sure-as _ (λ one rest x. subst (λ (q : Parse). IsParse q (t ∷ tokens) rest) (sym x.1) (p.arg t is x.2)) (by-sure true f.Arg tokens)

pull-one : (t : Token) (tokens : Tokens) (list : List Template) (rest : Tokens) → t.kind ≡ word (codes "PULL") → AreTemplates list tokens rest → has_templates f.Pull list ≡ true
    → IsParse (record { upper = true; from = f.Pull; templates = list }) (t ∷ tokens) rest
pull-one t tokens [] rest is are has = cc
pull-one t tokens (template ∷ []) rest is are has = p.pull t is are
pull-one t tokens (template ∷ (next ∷ others)) rest is are has = cc

pull-sure : (t : Token) (tokens : Tokens) → t.kind ≡ word (codes "PULL") → Sure (λ one rest. IsParse one (t ∷ tokens) rest) (n.parse_by true f.Pull tokens)
pull-sure t tokens is =
    sure-as _ (λ one rest x. subst (λ (q : Parse). IsParse q (t ∷ tokens) rest) (sym x.1) (pull-one t tokens x.0 rest is x.2 x.3)) (by-sure true f.Pull tokens)

pub simple-sure : (loops : Loops) (by : Word) (t : Token) (tokens : Tokens) → keyword_of t.kind ≡ Some (w.Other by)
    → Sure (λ one rest. IsSimple loops one (t ∷ tokens) rest) (simple loops by tokens)
unfolding simple
simple-sure loops o.Say t tokens is = given-plain loops t tokens c.Say (λ one rest g. i.say t (keyword-is t.kind (w.Other o.Say) is) g)
simple-sure loops o.Leave t tokens is = loop-sure loops t tokens c.Leave (λ name rest so around. l.leave t (keyword-is t.kind (w.Other o.Leave) is) so around)
simple-sure loops o.Iterate t tokens is = loop-sure loops t tokens c.Iterate (λ name rest so around. l.iterate t (keyword-is t.kind (w.Other o.Iterate) is) so around)
simple-sure loops o.Nop t tokens is = ending loops c.Nop (t ∷ tokens) tokens (λ rest end. i.nop t (keyword-is t.kind (w.Other o.Nop) is) end)
simple-sure loops o.Call t tokens is = call-sure loops t tokens (keyword-is t.kind (w.Other o.Call) is)
simple-sure loops o.Return t tokens is = given-plain loops t tokens c.Return (λ one rest g. i.return_ t (keyword-is t.kind (w.Other o.Return) is) g)
simple-sure loops o.Exit t tokens is = given-plain loops t tokens c.Exit (λ one rest g. i.exit t (keyword-is t.kind (w.Other o.Exit) is) g)
simple-sure loops o.Signal t tokens is = signal-sure loops t tokens (keyword-is t.kind (w.Other o.Signal) is)
simple-sure loops o.Use t tokens is = use-sure loops t tokens (keyword-is t.kind (w.Other o.Use) is)
simple-sure loops o.Parse t tokens is = parsed-sure loops t tokens _ (parse-sure t tokens (keyword-is t.kind (w.Other o.Parse) is))
simple-sure loops o.Arg t tokens is = parsed-sure loops t tokens _ (arg-sure t tokens (keyword-is t.kind (w.Other o.Arg) is))
simple-sure loops o.Pull t tokens is = parsed-sure loops t tokens _ (pull-sure t tokens (keyword-is t.kind (w.Other o.Pull) is))
simple-sure loops o.Push t tokens is = given-plain loops t tokens c.Push (λ one rest g. i.push t (keyword-is t.kind (w.Other o.Push) is) g)
simple-sure loops o.Queue t tokens is = given-plain loops t tokens c.Queue (λ one rest g. i.queue t (keyword-is t.kind (w.Other o.Queue) is) g)
simple-sure loops o.Drop t tokens is =
    sure-then _ _ (some-names-sure tokens) (λ list rest are. found _ rest (plain (i.drop_names t (keyword-is t.kind (w.Other o.Drop) is) are.0 are.1)))
simple-sure loops o.Numeric t tokens is = digits-sure loops t tokens (keyword-is t.kind (w.Other o.Numeric) is)
simple-sure loops o.Guard t tokens is = guarding-sure loops t tokens (keyword-is t.kind (w.Other o.Guard) is)
simple-sure loops o.Reply t tokens is = given-plain loops t tokens c.Reply (λ one rest g. i.reply t (keyword-is t.kind (w.Other o.Reply) is) g)
simple-sure loops o.Forward t tokens is =
    sure-then _ _ (options-sure (length tokens + 1) j.no_options tokens) (λ one rest so. found _ rest (forwarding (j.forward t (keyword-is t.kind (w.Other o.Forward) is) so)))
simple-sure loops o.Raise t tokens is = raise-sure loops t tokens (keyword-is t.kind (w.Other o.Raise) is)
simple-sure loops o.Trace t tokens is = trace-sure loops t tokens (keyword-is t.kind (w.Other o.Trace) is)
