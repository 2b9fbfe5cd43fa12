-- Each way through a function that reads, as a fact of its own.
use Rattle.std.proofs.Common.{◌≡◌, ℕ, ◌+◌, ◌<◌, Bool, true, false, if◌then◌else◌, List, [], ◌∷◌, ◌++◌, Option, Some, None, Ok, Err, refl, ◌∙◌}
use Rattle.rx_tree.specs.declared.token.Oper.{Oper}
use Rattle.rx_tree.specs.declared.token.TokenKind.{TokenKind}
use Rattle.rx_tree.specs.declared.token.TokenKind.TheVariants as k
use Rattle.rx_tree.specs.declared.expr.Expr.{Expr}
use Rattle.rx_tree.specs.declared.expr.Expr.TheVariants as e
use Rattle.rx_tree.specs.declared.expr.SendPart.{SendPart}
use Rattle.rx_tree.specs.declared.stops.Stops.{Stops}
use Rattle.rx_tree.specs.declared.stops.Stops.TheVariants as s
use Rattle.rx_tree.specs.StopWords.{is_stop}
use Rattle.rx_tree.specs.Operators.{Tokens}
use Rattle.rx_tree.specs.Terms.{term_of, name_of, is_string, call_at}
use Rattle.rx_tree.specs.Expressions.{part}
use Rattle.rx_exprs.specs.declared.refused.Fault.{Fault}
use Rattle.rx_exprs.specs.declared.operators.Opening.{Opening}
use Rattle.rx_exprs.specs.declared.operators.Opening.TheVariants.{Tilde, Bracket}
use Rattle.rx_exprs.specs.declared.operators.Bracketed.{Bracketed}
use Rattle.rx_exprs.specs.declared.operators.Bracketed.TheVariants.{Round, Square}
use Rattle.rx_exprs.specs.declared.operators.End.{End}
use Rattle.rx_exprs.specs.declared.operators.End.TheVariants.{Comma, Close}
use Rattle.rx_exprs.specs.declared.words.Word.{Word}
use Rattle.rx_exprs.specs.Marks.{is_left, left_at, closed_at, opened_at, end_at, ended_at, is_there}
use Rattle.rx_exprs.specs.Reader.{Outcome, and_then, on_some, refusal, with_parts, with_signs, with_terms, signs, operator_of, name_at, above_at, loosest}
use Rattle.rx_exprs.specs.Words.{word_of, worded, word_at, word_term, word_function}
use Rattle.rx_exprs.specs.Forms.{level_form, terms_form, parts_form, part_form, call_form, args_form, listed_form, argument_form, next_form}
use Rattle.rx_exprs.proofs.Shorter.{level_shorter, parts_shorter, part_shorter, args_shorter, operator_shorter, signs_shorter, opened_shorter, name_shorter, above_shorter, end_shorter, call_shorter, left_shorter, word_shorter, argument_shorter}
use Rattle.rx_exprs.proofs.Steady.{level_0, level_1, level_2, level_n, terms_n, parts_next, part_tilde, part_bracket, call_next, args_next, listed_next}

-- ---- levels of operators

pub chain_ok : (stops : Stops) (n : ℕ) (tokens behind rest : Tokens) (first : Expr) (found : List (Oper × Expr)) → n < 7
    → level_form stops (n + 2) tokens ≡ Ok (first, behind) → terms_form stops n [] behind ≡ Ok (found, rest)
    → level_form stops (n + 3) tokens ≡ Ok (with_terms first found, rest)
chain_ok stops n tokens behind rest first found small p q = rw (level_n stops n tokens small, p, q)

pub chain_bad_first : (stops : Stops) (n : ℕ) (tokens : Tokens) (fault : Fault) → n < 7 → level_form stops (n + 2) tokens ≡ Err fault
    → level_form stops (n + 3) tokens ≡ Err fault
chain_bad_first stops n tokens fault small p = rw (level_n stops n tokens small, p)

pub chain_bad_terms : (stops : Stops) (n : ℕ) (tokens behind : Tokens) (first : Expr) (fault : Fault) → n < 7
    → level_form stops (n + 2) tokens ≡ Ok (first, behind) → terms_form stops n [] behind ≡ Err fault → level_form stops (n + 3) tokens ≡ Err fault
chain_bad_terms stops n tokens behind first fault small p q = rw (level_n stops n tokens small, p, q)

pub terms_end : (stops : Stops) (n : ℕ) (found : List (Oper × Expr)) (tokens : Tokens) → n < 7 → operator_of stops (n + 3) tokens ≡ None
    → terms_form stops n found tokens ≡ Ok (found, tokens)
terms_end stops n found tokens small p = rw (terms_n stops n found tokens small, p)

pub terms_more : (stops : Stops) (n : ℕ) (found : List (Oper × Expr)) (tokens behind rest : Tokens) (oper : Oper) (expr : Expr) → n < 7
    → operator_of stops (n + 3) tokens ≡ Some (oper, behind) → level_form stops (n + 2) behind ≡ Ok (expr, rest)
    → terms_form stops n found tokens ≡ terms_form stops n (found ++ (oper, expr) ∷ []) rest
terms_more stops n found tokens behind rest oper expr small p q = rw (terms_n stops n found tokens small, p, q)

pub terms_bad : (stops : Stops) (n : ℕ) (found : List (Oper × Expr)) (tokens behind : Tokens) (oper : Oper) (fault : Fault) → n < 7
    → operator_of stops (n + 3) tokens ≡ Some (oper, behind) → level_form stops (n + 2) behind ≡ Err fault → terms_form stops n found tokens ≡ Err fault
terms_bad stops n found tokens behind oper fault small p q = rw (terms_n stops n found tokens small, p, q)

-- ---- prefixes and messages

pub prefix_ok : (stops : Stops) (tokens rest : Tokens) (term : Expr) → level_form stops 1 (signs tokens).1 ≡ Ok (term, rest)
    → level_form stops 2 tokens ≡ Ok (with_signs (signs tokens).0 term, rest)
prefix_ok stops tokens rest term q = rw (level_2 stops tokens, q)

pub prefix_bad : (stops : Stops) (tokens : Tokens) (fault : Fault) → level_form stops 1 (signs tokens).1 ≡ Err fault → level_form stops 2 tokens ≡ Err fault
prefix_bad stops tokens fault q = rw (level_2 stops tokens, q)

pub message_ok : (stops : Stops) (tokens behind rest : Tokens) (receiver : Expr) (found : List SendPart) → level_form stops 0 tokens ≡ Ok (receiver, behind)
    → parts_form [] behind ≡ Ok (found, rest) → level_form stops 1 tokens ≡ Ok (with_parts receiver found, rest)
message_ok stops tokens behind rest receiver found p q = rw (level_1 stops tokens, p, q)

pub message_bad_first : (stops : Stops) (tokens : Tokens) (fault : Fault) → level_form stops 0 tokens ≡ Err fault → level_form stops 1 tokens ≡ Err fault
message_bad_first stops tokens fault p = rw (level_1 stops tokens, p)

pub message_bad_parts : (stops : Stops) (tokens behind : Tokens) (receiver : Expr) (fault : Fault) → level_form stops 0 tokens ≡ Ok (receiver, behind)
    → parts_form [] behind ≡ Err fault → level_form stops 1 tokens ≡ Err fault
message_bad_parts stops tokens behind receiver fault p q = rw (level_1 stops tokens, p, q)

pub parts_end : (found : List SendPart) (tokens : Tokens) → opened_at tokens ≡ None → parts_form found tokens ≡ Ok (found, tokens)
parts_end found tokens p = rw (parts_next found tokens, p)

pub parts_more : (found : List SendPart) (tokens behind rest : Tokens) (opening : Opening) (one : SendPart) → opened_at tokens ≡ Some (opening, behind)
    → part_form opening behind ≡ Ok (one, rest) → parts_form found tokens ≡ parts_form (found ++ one ∷ []) rest
parts_more found tokens behind rest opening one p q = rw (parts_next found tokens, p, q)

pub parts_bad : (found : List SendPart) (tokens behind : Tokens) (opening : Opening) (fault : Fault) → opened_at tokens ≡ Some (opening, behind)
    → part_form opening behind ≡ Err fault → parts_form found tokens ≡ Err fault
parts_bad found tokens behind opening fault p q = rw (parts_next found tokens, p, q)

pub tilde_ok : (tokens behind others rest : Tokens) (name : List ℕ) (class : Option (List ℕ)) (list : List (Option Expr)) (back : Bool)
    → name_at tokens ≡ Ok (name, behind) → above_at behind ≡ Ok (class, others) → call_form others ≡ Ok (list, rest)
    → part_form (Tilde back) tokens ≡ Ok (part name class list back false, rest)
tilde_ok tokens behind others rest name class list back p q r = rw (part_tilde back tokens, p, q, r)

pub tilde_bad_name : (tokens : Tokens) (back : Bool) (fault : Fault) → name_at tokens ≡ Err fault → part_form (Tilde back) tokens ≡ Err fault
tilde_bad_name tokens back fault p = rw (part_tilde back tokens, p)

pub tilde_bad_above : (tokens behind : Tokens) (name : List ℕ) (back : Bool) (fault : Fault) → name_at tokens ≡ Ok (name, behind) → above_at behind ≡ Err fault
    → part_form (Tilde back) tokens ≡ Err fault
tilde_bad_above tokens behind name back fault p q = rw (part_tilde back tokens, p, q)

pub tilde_bad_call : (tokens behind others : Tokens) (name : List ℕ) (class : Option (List ℕ)) (back : Bool) (fault : Fault)
    → name_at tokens ≡ Ok (name, behind) → above_at behind ≡ Ok (class, others) → call_form others ≡ Err fault → part_form (Tilde back) tokens ≡ Err fault
tilde_bad_call tokens behind others name class back fault p q r = rw (part_tilde back tokens, p, q, r)

pub bracket_ok : (tokens rest : Tokens) (list : List (Option Expr)) → args_form Square tokens ≡ Ok (list, rest)
    → part_form Bracket tokens ≡ Ok (part [] None list false true, rest)
bracket_ok tokens rest list r = rw (part_bracket tokens, r)

pub bracket_bad : (tokens : Tokens) (fault : Fault) → args_form Square tokens ≡ Err fault → part_form Bracket tokens ≡ Err fault
bracket_bad tokens fault r = rw (part_bracket tokens, r)

pub call_none : (tokens : Tokens) → call_at tokens ≡ None → call_form tokens ≡ Ok ([], tokens)
call_none tokens p = rw (call_next tokens, p)

pub call_some : (tokens inside : Tokens) → call_at tokens ≡ Some inside → call_form tokens ≡ args_form Round inside
call_some tokens inside p = rw (call_next tokens, p)

-- ---- arguments

pub args_none : (bracketed : Bracketed) (tokens rest : Tokens) → ended_at bracketed tokens ≡ Some rest → args_form bracketed tokens ≡ Ok ([], rest)
args_none bracketed tokens rest p = rw (args_next bracketed tokens, p)

pub args_some : (bracketed : Bracketed) (tokens : Tokens) → ended_at bracketed tokens ≡ None → args_form bracketed tokens ≡ listed_form bracketed [] tokens
args_some bracketed tokens p = rw (args_next bracketed tokens, p)

pub listed_close : (bracketed : Bracketed) (found : List (Option Expr)) (tokens behind rest : Tokens) (arg : Option Expr)
    → argument_form bracketed tokens ≡ Ok (arg, behind) → end_at bracketed behind ≡ Some (Close, rest)
    → listed_form bracketed found tokens ≡ Ok (found ++ arg ∷ [], rest)
unfolding next_form
listed_close bracketed found tokens behind rest arg p q = rw (listed_next bracketed found tokens, p, q)

pub listed_comma : (bracketed : Bracketed) (found : List (Option Expr)) (tokens behind rest : Tokens) (arg : Option Expr)
    → argument_form bracketed tokens ≡ Ok (arg, behind) → end_at bracketed behind ≡ Some (Comma, rest)
    → listed_form bracketed found tokens ≡ listed_form bracketed (found ++ arg ∷ []) rest
unfolding next_form
listed_comma bracketed found tokens behind rest arg p q = rw (listed_next bracketed found tokens, p, q)

pub listed_open : (bracketed : Bracketed) (found : List (Option Expr)) (tokens behind : Tokens) (arg : Option Expr) (fault : Fault)
    → argument_form bracketed tokens ≡ Ok (arg, behind) → end_at bracketed behind ≡ None → fault ≡ refusal 36 behind
    → listed_form bracketed found tokens ≡ Err fault
listed_open bracketed found tokens behind arg fault p q r = rw (r, listed_next bracketed found tokens, p, q)

pub listed_bad : (bracketed : Bracketed) (found : List (Option Expr)) (tokens : Tokens) (fault : Fault) → argument_form bracketed tokens ≡ Err fault
    → listed_form bracketed found tokens ≡ Err fault
listed_bad bracketed found tokens fault p = rw (listed_next bracketed found tokens, p)

pub argument_none : (bracketed : Bracketed) (tokens : Tokens) → is_there (end_at bracketed tokens) ≡ true → argument_form bracketed tokens ≡ Ok (None, tokens)
unfolding argument_form
argument_none bracketed tokens is = go (end_at bracketed tokens) is
  where
    go : (end : Option (End × Tokens)) → is_there end ≡ true
        → on_some end (and_then (level_form s.Nothing loosest tokens) (λ expr rest. Ok (Some expr, rest))) (λ _. Ok (None, tokens)) ≡ Ok (None, tokens)
    go None p = cc
    go (Some end) p = refl

not-there : {A : Type 0} (x : Option A) → is_there x ≡ false → x ≡ None
not-there None is = refl
not-there (Some a) is = cc

pub argument_some : (bracketed : Bracketed) (tokens rest : Tokens) (expr : Expr) → is_there (end_at bracketed tokens) ≡ false
    → level_form s.Nothing loosest tokens ≡ Ok (expr, rest) → argument_form bracketed tokens ≡ Ok (Some expr, rest)
unfolding argument_form
argument_some bracketed tokens rest expr p q = rw (not-there (end_at bracketed tokens) p, q)

pub argument_bad : (bracketed : Bracketed) (tokens : Tokens) (fault : Fault) → is_there (end_at bracketed tokens) ≡ false
    → level_form s.Nothing loosest tokens ≡ Err fault → argument_form bracketed tokens ≡ Err fault
unfolding argument_form
argument_bad bracketed tokens fault p q = rw (not-there (end_at bracketed tokens) p, q)

-- ---- terms without messages

abbrev by_word : Stops → Tokens → Outcome Expr
by_word stops tokens =
    on_some (left_at tokens)
    (and_then (word_at stops tokens) (λ word behind.
    on_some (call_at behind) (Ok (word_term word, behind)) (λ inside. and_then (args_form Round inside) (λ found rest. Ok (word_function word found, rest)))))
    (λ behind. and_then (level_form s.Nothing loosest behind) (λ expr others. on_some (closed_at others) (Err (refusal 36 others)) (λ rest. Ok (e.Group expr, rest))))

abbrev with_kind : TokenKind → Bool → Tokens → Tokens → Outcome Expr
with_kind kind stop here behind =
    if is_left kind then
    and_then (level_form s.Nothing loosest behind) (λ expr others. on_some (closed_at others) (Err (refusal 36 others)) (λ rest. Ok (e.Group expr, rest)))
    else (if stop then Err (refusal 35 here) else
    on_some (call_at behind) (on_some (term_of kind) (Err (refusal 35 here)) (λ expr. Ok (expr, behind)))
    (λ tokens. on_some (name_of kind) (Err (refusal 35 here)) (λ name. and_then (args_form Round tokens) (λ found rest. Ok (e.Function name (is_string kind) found, rest)))))

abbrev by_kind : TokenKind → Bool → Tokens → Tokens → Outcome Expr
by_kind kind stop here behind =
    on_some (if is_left kind then Some behind else None)
    (and_then (if stop then Err (refusal 35 here) else worded (word_of kind) here behind) (λ word behind.
    on_some (call_at behind) (Ok (word_term word, behind)) (λ inside. and_then (args_form Round inside) (λ found rest. Ok (word_function word found, rest)))))
    (λ behind. and_then (level_form s.Nothing loosest behind) (λ expr others. on_some (closed_at others) (Err (refusal 36 others)) (λ rest. Ok (e.Group expr, rest))))

same-either : {A B : Type 0} (x : Option A) (y : Outcome B) (f : A → Outcome B) → ((a : A) → f a ≡ y) → on_some x y f ≡ y
same-either None y f h = refl
same-either (Some a) y f h = h a

kind-word : (kind : TokenKind) (stop : Bool) (here behind : Tokens) → with_kind kind stop here behind ≡ by_kind kind stop here behind
kind-word (k.Simple name) true here behind = refl
kind-word (k.Simple name) false here behind = refl
kind-word (k.Stem stem) true here behind = refl
kind-word (k.Stem stem) false here behind = refl
kind-word (k.Compound stem tail) true here behind = refl
kind-word (k.Compound stem tail) false here behind = refl
kind-word (k.Constant text) true here behind = refl
kind-word (k.Constant text) false here behind = refl
kind-word (k.Environment name) true here behind = refl
kind-word (k.Environment name) false here behind = refl
kind-word (k.Quoted text) true here behind = refl
kind-word (k.Quoted text) false here behind = refl
kind-word k.LeftParen stop here behind = refl
kind-word _ true here behind = refl
kind-word _ false here behind = same-either (call_at behind) _ _ (λ _. refl)

level_word : (stops : Stops) (tokens : Tokens) → level_form stops 0 tokens ≡ by_word stops tokens
level_word stops [] = level_0 stops []
level_word stops (t ∷ behind) = level_0 stops (t ∷ behind) ∙ kind-word t.kind (is_stop stops t.kind) (t ∷ behind) behind

pub group_ok : (stops : Stops) (tokens inside others rest : Tokens) (expr : Expr) → left_at tokens ≡ Some inside
    → level_form s.Nothing loosest inside ≡ Ok (expr, others) → closed_at others ≡ Some rest → level_form stops 0 tokens ≡ Ok (e.Group expr, rest)
group_ok stops tokens inside others rest expr p q r = level_word stops tokens ∙ rw (p, q, r)

pub group_open : (stops : Stops) (tokens inside others : Tokens) (expr : Expr) (fault : Fault) → left_at tokens ≡ Some inside
    → level_form s.Nothing loosest inside ≡ Ok (expr, others) → closed_at others ≡ None → fault ≡ refusal 36 others → level_form stops 0 tokens ≡ Err fault
group_open stops tokens inside others expr fault p q r same = level_word stops tokens ∙ rw (same, p, q, r)

pub group_bad : (stops : Stops) (tokens inside : Tokens) (fault : Fault) → left_at tokens ≡ Some inside
    → level_form s.Nothing loosest inside ≡ Err fault → level_form stops 0 tokens ≡ Err fault
group_bad stops tokens inside fault p q = level_word stops tokens ∙ rw (p, q)

pub word_bad : (stops : Stops) (tokens : Tokens) (fault : Fault) → left_at tokens ≡ None → word_at stops tokens ≡ Err fault → level_form stops 0 tokens ≡ Err fault
word_bad stops tokens fault p q = level_word stops tokens ∙ rw (p, q)

pub word_ok : (stops : Stops) (tokens behind : Tokens) (word : Word) → left_at tokens ≡ None → word_at stops tokens ≡ Ok (word, behind)
    → call_at behind ≡ None → level_form stops 0 tokens ≡ Ok (word_term word, behind)
word_ok stops tokens behind word p q r = level_word stops tokens ∙ rw (p, q, r)

pub function_ok : (stops : Stops) (tokens behind inside rest : Tokens) (word : Word) (found : List (Option Expr)) → left_at tokens ≡ None
    → word_at stops tokens ≡ Ok (word, behind) → call_at behind ≡ Some inside → args_form Round inside ≡ Ok (found, rest)
    → level_form stops 0 tokens ≡ Ok (word_function word found, rest)
function_ok stops tokens behind inside rest word found p q r t = level_word stops tokens ∙ rw (p, q, r, t)

pub function_bad : (stops : Stops) (tokens behind inside : Tokens) (word : Word) (fault : Fault) → left_at tokens ≡ None
    → word_at stops tokens ≡ Ok (word, behind) → call_at behind ≡ Some inside → args_form Round inside ≡ Err fault
    → level_form stops 0 tokens ≡ Err fault
function_bad stops tokens behind inside word fault p q r t = level_word stops tokens ∙ rw (p, q, r, t)

pub ruleset chains = (chain_ok, chain_bad_first, chain_bad_terms, terms_end, terms_more, terms_bad, level_shorter, operator_shorter)

pub ruleset prefixes = (prefix_ok, prefix_bad, signs_shorter)

pub ruleset messages = (message_ok, message_bad_first, message_bad_parts, parts_end, parts_more, parts_bad, tilde_ok, tilde_bad_name, tilde_bad_above, tilde_bad_call, bracket_ok, bracket_bad, call_none, call_some, level_shorter, args_shorter, opened_shorter, name_shorter, above_shorter, call_shorter, part_shorter)

pub ruleset primaries = (group_ok, group_open, group_bad, word_bad, word_ok, function_ok, function_bad, left_shorter, word_shorter, call_shorter)

pub ruleset lists = (args_none, args_some, listed_close, listed_comma, listed_open, listed_bad, argument_none, argument_some, argument_bad, argument_shorter, end_shorter)
