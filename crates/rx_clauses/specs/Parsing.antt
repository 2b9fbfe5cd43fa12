-- The reader of PARSE, ARG and PULL, behind their keywords.
use Rattle.std.specs.Prelude.{ℕ, zero, suc, ◌+◌, Bool, true, false, if◌then◌else◌, List, [], ◌∷◌, length, Ok, Err, codes}
use Rattle.rx_tree.specs.declared.name.Name.{Name}
use Rattle.rx_tree.specs.declared.name.Name.TheVariants as n
use Rattle.rx_tree.specs.declared.token.Oper.{Oper}
use Rattle.rx_tree.specs.declared.token.Oper.TheVariants as o
use Rattle.rx_tree.specs.declared.token.TokenKind.{TokenKind}
use Rattle.rx_tree.specs.declared.token.TokenKind.TheVariants as k
use Rattle.rx_tree.specs.declared.stops.Stops.TheVariants as s
use Rattle.rx_tree.specs.Operators.{Tokens}
use Rattle.rx_exprs.specs.Marks.{is_right}
use Rattle.rx_exprs.specs.Reader.{Outcome, and_then, on_some, lack, refusal, no_turns, expression}
use Rattle.rx_clause_tree.specs.declared.template.Distance.{Distance}
use Rattle.rx_clause_tree.specs.declared.template.Distance.TheVariants as d
use Rattle.rx_clause_tree.specs.declared.template.TemplatePart.{TemplatePart}
use Rattle.rx_clause_tree.specs.declared.template.TemplatePart.TheVariants as p
use Rattle.rx_clause_tree.specs.declared.template.Template.{Template}
use Rattle.rx_clause_tree.specs.declared.template.ParseFrom.{ParseFrom}
use Rattle.rx_clause_tree.specs.declared.template.ParseFrom.TheVariants as f
use Rattle.rx_clause_tree.specs.declared.template.Parse.{Parse}
use Rattle.rx_clause_tree.specs.Templates.{ends_template, has_templates}
use Rattle.rx_clauses.specs.Parts.{variable_at, behind_symbol, separated}

-- ---- parts of templates

-- what closes behind a variable in parentheses
abbrev pub closing : Name → Tokens → Outcome Name
closing name [] = Err (lack 38 [])
closing name (v ∷ rest) = if is_right v.kind then Ok (name, rest) else Err (lack 38 (v ∷ rest))

-- a variable and a closing parenthesis
abbrev pub in_parentheses : Tokens → Outcome Name
in_parentheses tokens = and_then (variable_at tokens) (λ name behind. closing name behind)

abbrev pub distance_of : TokenKind → Tokens → Tokens → Outcome Distance
distance_of (k.Constant text) here behind = Ok (d.Number text, behind)
distance_of k.LeftParen here behind = and_then (in_parentheses behind) (λ name rest. Ok (d.Value name, rest))
distance_of _ here behind = Err (lack 38 here)

-- how far: a number, or a variable in parentheses
abbrev pub distance : Tokens → Outcome Distance
distance [] = Err (lack 38 [])
distance (t ∷ behind) = distance_of t.kind (t ∷ behind) behind

abbrev pub by_operator : Oper → Tokens → Tokens → Outcome TemplatePart
by_operator o.Equal here behind = and_then (distance behind) (λ far rest. Ok (p.At far, rest))
by_operator o.Plus here behind = and_then (distance behind) (λ far rest. Ok (p.Forward far, rest))
by_operator o.Minus here behind = and_then (distance behind) (λ far rest. Ok (p.Backward far, rest))
by_operator _ here behind = Err (lack 38 here)

abbrev pub part_of : TokenKind → Tokens → Tokens → Outcome TemplatePart
part_of (k.Simple name) here behind = Ok (p.Target (n.Simple name), behind)
part_of (k.Stem stem) here behind = Ok (p.Target (n.Stem stem), behind)
part_of (k.Compound stem tail) here behind = Ok (p.Target (n.Compound stem tail), behind)
part_of k.Period here behind = Ok (p.Period, behind)
part_of (k.Quoted text) here behind = Ok (p.Literal text, behind)
part_of (k.Constant text) here behind = Ok (p.At (d.Number text), behind)
part_of k.LeftParen here behind = and_then (in_parentheses behind) (λ name rest. Ok (p.Pattern name, rest))
part_of (k.Operator oper) here behind = by_operator oper here behind
part_of _ here behind = Err (lack 38 here)

abbrev pub part : Tokens → Outcome TemplatePart
part [] = Err (lack 38 [])
part (t ∷ behind) = part_of t.kind (t ∷ behind) behind

-- ---- templates

abbrev pub ends : Tokens → Bool
ends [] = false
ends (t ∷ rest) = ends_template t.kind

-- parts side by side, up to a comma or the end of the clause
abbrev pub parts : ℕ → Tokens → Outcome (List TemplatePart)
parts zero tokens = no_turns
parts (suc more) tokens =
    if ends tokens then Ok ([], tokens)
    else and_then (part tokens) (λ one behind. and_then (parts more behind) (λ others rest. Ok (one ∷ others, rest)))

abbrev pub template_of : List TemplatePart → Template
template_of parts = record { parts = parts }

abbrev pub template_at : Tokens → Outcome Template
template_at tokens = and_then (parts (length tokens + 1) tokens) (λ list rest. Ok (template_of list, rest))

-- templates with commas between them, and the end of the clause
abbrev pub templates : ℕ → Tokens → Outcome (List Template)
templates more tokens = separated 38 (λ ts. template_at ts) more tokens

-- ---- where the texts come from

abbrev pub from_value : Tokens → Outcome ParseFrom
from_value tokens =
    and_then (expression s.With tokens) (λ expr behind.
    on_some (behind_symbol (codes "WITH") behind) (Err (refusal 38 behind)) (λ rest. Ok (f.Value expr, rest)))

abbrev pub from_variable : Tokens → Outcome ParseFrom
from_variable tokens = and_then (variable_at tokens) (λ name rest. Ok (f.Var name, rest))

abbrev pub parse_from : Tokens → Outcome ParseFrom
parse_from tokens =
    on_some (behind_symbol (codes "ARG") tokens)
    (on_some (behind_symbol (codes "PULL") tokens)
    (on_some (behind_symbol (codes "LINEIN") tokens)
    (on_some (behind_symbol (codes "VAR") tokens)
    (on_some (behind_symbol (codes "VALUE") tokens) (Err (lack 25 tokens))
    (λ behind. from_value behind))
    (λ behind. from_variable behind))
    (λ rest. Ok (f.LineIn, rest)))
    (λ rest. Ok (f.Pull, rest)))
    (λ rest. Ok (f.Arg, rest))

-- the templates of a text
abbrev pub parse_by : Bool → ParseFrom → Tokens → Outcome Parse
parse_by upper from tokens =
    and_then (templates (length tokens + 1) tokens) (λ list rest.
    if has_templates from list then Ok (record { upper = upper; from = from; templates = list }, rest) else Err (lack 38 tokens))

abbrev pub parse_text : Bool → Tokens → Outcome Parse
parse_text upper tokens = and_then (parse_from tokens) (λ from behind. parse_by upper from behind)

abbrev pub parse : Tokens → Outcome Parse
parse tokens = on_some (behind_symbol (codes "UPPER") tokens) (parse_text false tokens) (λ behind. parse_text true behind)
