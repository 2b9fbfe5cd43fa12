-- What is read is taken away.
use Rattle.std.proofs.Common.{◌≡◌, ℕ, suc, zero, ◌+◌, ◌*◌, ◌<◌, ◌≤◌, Bool, true, false, if◌then◌else◌, List, [], ◌∷◌, length, Option, Some, None, Ok, Err, ap, arith}
use Rattle.rx_tree.specs.declared.token.Oper.{Oper}
use Rattle.rx_tree.specs.declared.expr.Expr.{Expr}
use Rattle.rx_tree.specs.declared.expr.SendPart.{SendPart}
use Rattle.rx_tree.specs.declared.stops.Stops.{Stops}
use Rattle.rx_tree.specs.declared.stops.Stops.TheVariants as s
use Rattle.rx_tree.specs.StopWords.{is_stop}
use Rattle.rx_tree.specs.Operators.{Tokens}
use Rattle.rx_tree.specs.Terms.{call_at}
use Rattle.rx_tree.specs.Expressions.{part}
use Rattle.rx_exprs.specs.declared.operators.Opening.{Opening}
use Rattle.rx_exprs.specs.declared.operators.Opening.TheVariants.{Tilde, Bracket}
use Rattle.rx_exprs.specs.declared.operators.Bracketed.{Bracketed}
use Rattle.rx_exprs.specs.declared.operators.Bracketed.TheVariants.{Square}
use Rattle.rx_exprs.specs.declared.operators.End.{End}
use Rattle.rx_exprs.specs.declared.words.Word.{Word}
use Rattle.rx_exprs.specs.Marks.{is_left, left_at, opened_at, end_at}
use Rattle.rx_exprs.specs.Reader.{and_then, refusal, signs, operator_of, name_at, above_at, loosest, one_part, call_args, args}
use Rattle.rx_exprs.specs.Words.{word_of, worded, word_at}
use Rattle.rx_exprs.specs.Forms.{level_form, parts_form, part_form, args_form, argument_form}
use Rattle.rx_exprs.proofs.Tables.{some-is, ok-is, found-is, here-operator}
use Rattle.rx_exprs.proofs.Heads.{call-shorter, signed-shorter, above-shorter, shorter, sent-shorter, called-shorter, args-shorter}
use Rattle.rx_exprs.proofs.Parts.{came, either, opened-is, name-is, above-is, end-found, signed-all}
use Rattle.rx_exprs.proofs.Giving.{outcome, taken, parts-taken, call-taken, args-taken}

rest-is : {A : Type 0} (x y : A) (rest others : Tokens) → outcome x rest ≡ outcome y others → length others ≤ length rest
rest-is x y rest others is = let e = ap (λ p. length p.1) (ok-is is) in omega arith

pub part-shorter : (f : ℕ) (opening : Opening) (tokens : Tokens) (one : SendPart) (rest : Tokens) → one_part f opening tokens ≡ Ok (one, rest)
    → length rest ≤ length tokens
part-shorter zero opening tokens one rest is = cc
part-shorter (suc m) (Tilde back) tokens one rest is =
    let a = came (name_at tokens) (λ name behind.
    and_then (above_at behind) (λ class others. and_then (call_args m others) (λ list rest. Ok (part name class list back false, rest)))) (one, rest) is in
    let b = came (above_at a.behind) (λ class others. and_then (call_args m others) (λ list rest. Ok (part a.first class list back false, rest))) (one, rest) a.went in
    let d = came (call_args m b.behind) (λ list rest. Ok (part a.first b.first list back false, rest)) (one, rest) b.went in
    let x = ap length (name-is tokens a.first a.behind a.was).is in
    let y = above-shorter (above-is a.behind b.first b.behind b.was) in
    let z = called-shorter (call-taken m b.behind d.first d.behind d.was) in
    let g = rest-is (part a.first b.first d.first back false) one d.behind rest d.went in
    omega arith
part-shorter (suc m) Bracket tokens one rest is =
    let a = came (args m Square tokens) (λ list rest. Ok (part [] None list false true, rest)) (one, rest) is in
    let x = args-shorter (args-taken m Square tokens a.first a.behind a.was) in
    let g = rest-is (part [] None a.first false true) one a.behind rest a.went in
    omega arith

pub level_shorter : (stops : Stops) (n : ℕ) (tokens : Tokens) (expr : Expr) (rest : Tokens) → n < 10 → level_form stops n tokens ≡ Ok (expr, rest)
    → length rest < length tokens
unfolding level_form
level_shorter stops n tokens expr rest small is = shorter (taken (16 * length tokens + n + 2) stops n tokens expr rest small is).written

pub parts_shorter : (found : List SendPart) (tokens : Tokens) (all : List SendPart) (rest : Tokens) → parts_form found tokens ≡ Ok (all, rest) → length rest ≤ length tokens
unfolding parts_form
parts_shorter found tokens all rest is = sent-shorter (parts-taken (16 * length tokens + 1) found tokens all rest is).fact.0

pub part_shorter : (opening : Opening) (tokens rest : Tokens) (one : SendPart) → part_form opening tokens ≡ Ok (one, rest) → length rest ≤ length tokens
unfolding part_form
part_shorter opening tokens rest one is = part-shorter (16 * length tokens + 15) opening tokens one rest is

pub args_shorter : (bracketed : Bracketed) (tokens : Tokens) (all : List (Option Expr)) (rest : Tokens) → args_form bracketed tokens ≡ Ok (all, rest) → length rest < length tokens
unfolding args_form
args_shorter bracketed tokens all rest is = args-shorter (args-taken (16 * length tokens + 14) bracketed tokens all rest is)

pub operator_shorter : (stops : Stops) (n : ℕ) (tokens behind : Tokens) (oper : Oper) → operator_of stops n tokens ≡ Some (oper, behind) → length behind ≤ length tokens
operator_shorter stops n tokens behind oper is = (found-is stops tokens (oper, behind) (here-operator stops n tokens (oper, behind) is).0).behind

pub signs_shorter : (tokens : Tokens) → length (signs tokens).1 ≤ length tokens
signs_shorter tokens = signed-shorter (signed-all tokens)

pub opened_shorter : (tokens behind : Tokens) (opening : Opening) → opened_at tokens ≡ Some (opening, behind) → length behind < length tokens
opened_shorter tokens behind opening is = let e = ap length (opened-is tokens (opening, behind) is).is in omega arith

pub name_shorter : (tokens behind : Tokens) (name : List ℕ) → name_at tokens ≡ Ok (name, behind) → length behind < length tokens
name_shorter tokens behind name is = let e = ap length (name-is tokens name behind is).is in omega arith

pub above_shorter : (tokens behind : Tokens) (class : Option (List ℕ)) → above_at tokens ≡ Ok (class, behind) → length behind ≤ length tokens
above_shorter tokens behind class is = above-shorter (above-is tokens class behind is)

pub end_shorter : (bracketed : Bracketed) (tokens behind : Tokens) (end : End) → end_at bracketed tokens ≡ Some (end, behind) → length behind < length tokens
end_shorter bracketed tokens behind end is = let e = ap length (end-found bracketed tokens (end, behind) is).is in omega arith

pub call_shorter : (tokens behind : Tokens) → call_at tokens ≡ Some behind → length behind < length tokens
call_shorter = call-shorter

cut-if : (test : Bool) (there behind : Tokens) → (if test then Some there else None) ≡ Some behind → there ≡ behind
cut-if true there behind is = some-is is
cut-if false there behind is = cc

pub left_shorter : (tokens behind : Tokens) → left_at tokens ≡ Some behind → length behind < length tokens
left_shorter [] behind is = cc
left_shorter (t ∷ others) behind is = let e = ap length (cut-if (is_left t.kind) others behind is) in omega arith

word-behind : (stop : Bool) (found : Option Word) (here there behind : Tokens) (word : Word)
    → (if stop then Err (refusal 35 here) else worded found here there) ≡ outcome word behind → there ≡ behind
word-behind true found here there behind word is = cc
word-behind false None here there behind word is = cc
word-behind false (Some other) here there behind word is = ap (λ p. p.1) (ok-is is)

pub word_shorter : (stops : Stops) (tokens behind : Tokens) (word : Word) → word_at stops tokens ≡ Ok (word, behind) → length behind < length tokens
word_shorter stops [] behind word is = cc
word_shorter stops (t ∷ others) behind word is =
    let e = ap length (word-behind (is_stop stops t.kind) (word_of t.kind) (t ∷ others) others behind word is) in omega arith

pub argument_shorter : (bracketed : Bracketed) (tokens rest : Tokens) (arg : Option Expr) → argument_form bracketed tokens ≡ Ok (arg, rest) → length rest ≤ length tokens
unfolding argument_form
argument_shorter bracketed tokens rest arg is =
    either (end_at bracketed tokens) (and_then (level_form s.Nothing loosest tokens) (λ expr rest. Ok (Some expr, rest))) (λ _. Ok (None, tokens)) (arg, rest) is
    (λ none same.
    let a = came (level_form s.Nothing loosest tokens) (λ expr rest. Ok (Some expr, rest)) (arg, rest) same in
    let h = level_shorter s.Nothing loosest tokens a.first a.behind (omega arith) a.was in
    let g = rest-is (Some a.first) arg a.behind rest a.went in omega arith)
    (λ end some same. rest-is None arg tokens rest same)
