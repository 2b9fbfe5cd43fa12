-- What single tokens are where a clause is read.
use Rattle.std.specs.Prelude.{ℕ, Bool, true, false, ◌&&◌, ◌||◌, not, if◌then◌else◌, List, [], ◌∷◌, Option, Some, None, is_some, codes}
use Rattle.std.specs.Str.{bytes_eq}
use Rattle.rx_tree.specs.declared.name.Part.{Part}
use Rattle.rx_tree.specs.declared.name.Part.TheVariants.{Fixed, Of}
use Rattle.rx_tree.specs.declared.name.Name.{Name}
use Rattle.rx_tree.specs.declared.name.Name.TheVariants as n
use Rattle.rx_tree.specs.declared.token.Oper.{Oper}
use Rattle.rx_tree.specs.declared.token.Oper.TheVariants as o
use Rattle.rx_tree.specs.declared.token.Token.{Token}
use Rattle.rx_tree.specs.declared.token.TokenKind.{TokenKind}
use Rattle.rx_tree.specs.declared.token.TokenKind.TheVariants as k
use Rattle.rx_tree.specs.Operators.{Tokens}
use Rattle.rx_tree.specs.Terms.{name_of, is_string, is_colon}

-- ---- symbols and words

-- the symbol of a fixed word
abbrev pub word : List ℕ → TokenKind
word spelling = k.Simple spelling

-- whether a token is the symbol of this word
abbrev pub is_word : List ℕ → TokenKind → Bool
is_word spelling (k.Simple name) = bytes_eq spelling name
is_word spelling _ = false

-- whether the symbol of this word stands here
abbrev pub begins_word : List ℕ → Tokens → Bool
begins_word spelling [] = false
begins_word spelling (t ∷ behind) = is_word spelling t.kind

-- the variable that a symbol names
abbrev pub variable_of : TokenKind → Option Name
variable_of (k.Simple name) = Some (n.Simple name)
variable_of (k.Stem stem) = Some (n.Stem stem)
variable_of (k.Compound stem tail) = Some (n.Compound stem tail)
variable_of _ = None

-- a symbol by its text
abbrev pub symbol_of : TokenKind → Option (List ℕ)
symbol_of kind = if is_string kind then None else name_of kind

-- ---- whether two names are the same

abbrev pub same_part : Part → Part → Bool
same_part (Fixed a) (Fixed b) = bytes_eq a b
same_part (Of a) (Of b) = bytes_eq a b
same_part _ _ = false

abbrev pub same_tail : List Part → List Part → Bool
same_tail [] [] = true
same_tail (a ∷ x) (b ∷ y) = same_part a b && same_tail x y
same_tail _ _ = false

abbrev pub same_name : Name → Name → Bool
same_name (n.Simple a) (n.Simple b) = bytes_eq a b
same_name (n.Stem a) (n.Stem b) = bytes_eq a b
same_name (n.Compound a x) (n.Compound b y) = bytes_eq a b && same_tail x y
same_name _ _ = false

-- ---- the ends of clauses

abbrev pub is_clause_end : TokenKind → Bool
is_clause_end k.ClauseEnd = true
is_clause_end _ = false

-- what stands behind the end of a clause here
abbrev pub behind_end : Tokens → Option Tokens
behind_end [] = None
behind_end (t ∷ rest) = if is_clause_end t.kind then Some rest else None

-- without an optional clause end
abbrev pub skip : Tokens → Tokens
skip [] = []
skip (t ∷ rest) = if is_clause_end t.kind then rest else t ∷ rest

-- what stands behind a word and an optional clause end
abbrev pub behind_word : List ℕ → Tokens → Option Tokens
behind_word spelling [] = None
behind_word spelling (t ∷ rest) = if is_word spelling t.kind then Some (skip rest) else None

-- ---- what a clause begins with

abbrev pub is_equal : TokenKind → Bool
is_equal (k.Operator o.Equal) = true
is_equal _ = false

-- the operators of assignments with an operator
abbrev pub assigning_of : TokenKind → Option Oper
assigning_of (k.Operator o.Plus) = Some o.Plus
assigning_of (k.Operator o.Minus) = Some o.Minus
assigning_of (k.Operator o.Times) = Some o.Times
assigning_of (k.Operator o.Divide) = Some o.Divide
assigning_of (k.Operator o.Quotient) = Some o.Quotient
assigning_of (k.Operator o.Remainder) = Some o.Remainder
assigning_of (k.Operator o.Concat) = Some o.Concat
assigning_of (k.Operator o.And) = Some o.And
assigning_of (k.Operator o.Or) = Some o.Or
assigning_of (k.Operator o.ExclusiveOr) = Some o.ExclusiveOr
assigning_of (k.Operator o.Power) = Some o.Power
assigning_of _ = None

-- an operator, and `=` directly behind it
abbrev pub is_assigning : Token → Tokens → Bool
is_assigning u [] = false
is_assigning u (v ∷ behind) = is_some (assigning_of u.kind) && (is_equal v.kind && not v.blank)

-- an assignment: a variable, and `=`, or an operator with `=` directly behind it
abbrev pub begins_assignment : Tokens → Bool
begins_assignment [] = false
begins_assignment (t ∷ []) = false
begins_assignment (t ∷ (u ∷ behind)) = is_some (variable_of t.kind) && (is_equal u.kind || is_assigning u behind)

-- a label: a symbol, and a colon
abbrev pub begins_label : Tokens → Bool
begins_label [] = false
begins_label (t ∷ []) = false
begins_label (t ∷ (u ∷ behind)) = is_some (symbol_of t.kind) && is_colon u.kind

-- the words that instructions begin with
abbrev pub keywords : List (List ℕ)
keywords =
    codes "SAY" ∷ (codes "IF" ∷ (codes "SELECT" ∷ (codes "DO" ∷ (codes "LOOP" ∷ (codes "LEAVE" ∷ (codes "ITERATE" ∷ (codes "NOP" ∷
    (codes "CALL" ∷ (codes "RETURN" ∷ (codes "EXIT" ∷ (codes "SIGNAL" ∷ (codes "PROCEDURE" ∷ (codes "EXPOSE" ∷ (codes "USE" ∷
    (codes "PARSE" ∷ (codes "ARG" ∷ (codes "PULL" ∷ (codes "PUSH" ∷ (codes "QUEUE" ∷ (codes "DROP" ∷ (codes "NUMERIC" ∷
    (codes "GUARD" ∷ (codes "REPLY" ∷ (codes "FORWARD" ∷ (codes "RAISE" ∷ (codes "TRACE" ∷ []))))))))))))))))))))))))))

abbrev pub is_among : List (List ℕ) → TokenKind → Bool
is_among [] kind = false
is_among (spelling ∷ others) kind = is_word spelling kind || is_among others kind

abbrev pub begins_keyword : Tokens → Bool
begins_keyword [] = false
begins_keyword (t ∷ behind) = is_among keywords t.kind
