-- A source has room for its tokens: two colons take two bytes, and each other token one at least, but for the last.
use Rattle.std.proofs.Common.{◌≡◌, ◌==◌, ℕ, ◌+◌, ◌-◌, ◌<◌, ◌≤◌, Bool, true, false, cond, not, ◌&&◌, if◌then◌else◌, IsTrue, List, [], ◌∷◌, length, Option, Some, None, refl, ◌∙◌, ap, arith, inl, inr, length-append}
use Rattle.std.specs.Prelude.{position, take, drop}
use Rattle.std.specs.Str.{bytes_eq, str_to_ascii_uppercase}
use Rattle.std.proofs.lemmas.Slice.Eq.{bytes_eq-Decides}
use Rattle.std.proofs.lemmas.Bool.{eqb-true}
use Rattle.rx_tree.specs.declared.token.Token.{Token}
use Rattle.rx_tree.specs.declared.token.TokenKind.{TokenKind}
use Rattle.rx_tree.specs.declared.token.TokenKind.TheVariants as k
use Rattle.rx_tree.specs.Operators.{Tokens}
use Rattle.rx_tree.specs.Letters.{begins, is_period, is_symbol_byte}
use Rattle.rx_tree.specs.Symbols.{IsSymbol, symbol_of, begins_constant, with_period, variable_of, with_tail}
use Rattle.rx_tree.specs.Strings.{IsString, IsMeant}
use Rattle.rx_tree.specs.Marks.{IsMark, mark_of, beside, marks}
use Rattle.rx_tree.specs.Pieces.{PieceKind, Blank, Nothing, LineEnd, Semicolon, Written, Piece, IsPiece, AreCut}
use Rattle.rx_tree.specs.Spelling.{Spells, Place, first_place, token_at, clause_end_at, token_of, place_behind, before_others, ends_line, feeds, tokens_of, may_continue}

abbrev pub width : TokenKind → ℕ
width k.TwoColons = 2
width _ = 1

abbrev pub room : Tokens → ℕ
room [] = 0
room (t ∷ rest) = width t.kind + room rest

some-width : (kind : TokenKind) → 0 < width kind
some-width k.TwoColons = omega arith
some-width _ = omega arith

-- Behind a token there is less room.
pub wide : (t : Token) (rest : Tokens) → room rest < room (t ∷ rest)
wide t rest = let h = some-width t.kind in omega arith

-- Behind two colons there is less by two.
pub wide-colons : (t : Token) (rest : Tokens) → t.kind ≡ k.TwoColons → room rest + 2 ≤ room (t ∷ rest)
wide-colons t rest is = let h : width t.kind ≡ 2 = ap width is in omega arith

-- ---- tokens in bytes

tail-width : (stem tail : List ℕ) → width (with_tail stem tail) ≡ 1
tail-width stem [] = refl
tail-width stem (b ∷ tail) = refl

variable-width : (name : List ℕ) (at : Option ℕ) → width (variable_of name at) ≡ 1
variable-width name None = refl
variable-width name (Some at) = tail-width (take (at + 1) name) (drop (at + 1) name)

period-width : (name : List ℕ) → width (with_period name) ≡ 1
period-width [] = refl
period-width (b ∷ []) = refl
period-width (b ∷ (c ∷ bytes)) = refl

symbol-width : (symbol : List ℕ) → width (symbol_of symbol) ≡ 1
symbol-width symbol = go (begins_constant symbol) (begins is_period symbol)
  where
    go : (constant period : Bool)
        → width (if constant then k.Constant symbol else (if period then with_period symbol else variable_of symbol (position is_period symbol))) ≡ 1
    go true period = refl
    go false true = period-width symbol
    go false false = variable-width symbol (position is_period symbol)

some-begin : (P : ℕ → Bool) (bytes : List ℕ) → IsTrue (begins P bytes) → 0 < length bytes
some-begin P [] is = cc
some-begin P (b ∷ bytes) is = omega arith

symbol-fits : (kind : TokenKind) (written rest : List ℕ) → IsSymbol kind written rest → width kind ≤ length written
symbol-fits kind written rest is =
    let one : width kind ≡ 1 = ap width is.is ∙ symbol-width (str_to_ascii_uppercase written) in
    let some = some-begin is_symbol_byte written is.some in
    omega arith

meant-width : (kind : TokenKind) (text suffix rest : List ℕ) → IsMeant kind text suffix rest → width kind ≡ 1
meant-width kind text [] rest is = ap width is.1
meant-width kind text (b ∷ []) rest is = ap width is.3
meant-width kind text (b ∷ (c ∷ suffix)) rest is = absurd is

string-fits : (kind : TokenKind) (written rest : List ℕ) → IsString kind written rest → width kind ≤ length written
string-fits kind written rest is =
    let one = meant-width kind is.text is.suffix rest is.meant in
    let long = ap (λ (bs : List ℕ). length bs) is.is in
    omega arith

-- whether the bytes of each entry of a table have the width of its token
abbrev all_fit : List (List ℕ × TokenKind) → Bool
all_fit [] = true
all_fit (entry ∷ table) = (width entry.1 - length entry.0 == 0) && all_fit table

entry-fits : (bytes : List ℕ) (kind : TokenKind) (entry : List ℕ × TokenKind) (table : List (List ℕ × TokenKind)) (here fits later : Bool)
    → bytes_eq bytes entry.0 ≡ here → (width entry.1 - length entry.0 == 0) ≡ fits → all_fit table ≡ later → (fits && later) ≡ true
    → (later ≡ true → beside bytes table ≡ Some kind → width kind ≤ length bytes)
    → cond here (Some entry.1) (beside bytes table) ≡ Some kind → width kind ≤ length bytes
entry-fits bytes kind entry table true true true tested fit all both go is =
    let same : length bytes ≡ length entry.0 = ap (λ (bs : List ℕ). length bs) ((bytes_eq-Decides bytes entry.0).0 tested) in
    let said : entry.1 ≡ kind = cc in
    let wide : width entry.1 ≡ width kind = ap width said in
    let short : width entry.1 - length entry.0 ≡ 0 = eqb-true (width entry.1 - length entry.0) 0 fit in
    omega arith
entry-fits bytes kind entry table false fits true tested fit all both go is = go refl is
entry-fits bytes kind entry table here false later tested fit all both go is = cc
entry-fits bytes kind entry table here true false tested fit all both go is = cc

table-fits : (bytes : List ℕ) (kind : TokenKind) (table : List (List ℕ × TokenKind)) → all_fit table ≡ true → beside bytes table ≡ Some kind
    → width kind ≤ length bytes
table-fits bytes kind [] all is = cc
table-fits bytes kind (entry ∷ table) all is =
    entry-fits bytes kind entry table (bytes_eq bytes entry.0) (width entry.1 - length entry.0 == 0) (all_fit table) refl refl refl all
    (table-fits bytes kind table) is

mark-fits : (kind : TokenKind) (written rest : List ℕ) → IsMark kind written rest → width kind ≤ length written
unfolding mark_of
mark-fits kind written rest is = table-fits written kind marks refl is.mark

written-fits : (kind : TokenKind) (written rest : List ℕ) → IsPiece (Written kind) written rest → width kind ≤ length written
written-fits kind written rest (inl is) = symbol-fits kind written rest is
written-fits kind written rest (inr (inl is)) = string-fits kind written rest is
written-fits kind written rest (inr (inr is)) = mark-fits kind written rest is

-- ---- tokens of pieces

-- the room that the token of a piece takes, if it is one
abbrev taken : Option Token → ℕ
taken None = 0
taken (Some token) = width token.kind

before-room : (token : Option Token) (others : List Token) → room (before_others token others) ≡ taken token + room others
before-room None others = omega arith
before-room (Some token) others = refl

end-taken : (place : Place) (ends : Bool) → taken (clause_end_at place ends) ≤ 1
end-taken place true = omega arith
end-taken place false = omega arith

written-taken : (place : Place) (kind : TokenKind) (test : Bool) → taken (if test then None else Some (token_at place kind)) ≤ width kind
written-taken place kind true = omega arith
written-taken place kind false = omega arith

piece-taken : (place : Place) (kind : PieceKind) (ends : Bool) (written rest : List ℕ) → IsPiece kind written rest
    → taken (token_of place kind ends) ≤ length written
piece-taken place Blank ends written rest is = omega arith
piece-taken place Nothing ends written rest is = omega arith
piece-taken place LineEnd ends written rest is =
    let long = ap (λ (bs : List ℕ). length bs) is in let one = end-taken place (place.has_token && not place.continued) in omega arith
piece-taken place Semicolon ends written rest is =
    let long = ap (λ (bs : List ℕ). length bs) is in let one = end-taken place place.has_token in omega arith
piece-taken place (Written kind) ends written rest is =
    let fits = written-fits kind written rest is in let one = written-taken place kind (may_continue kind && ends) in omega arith

pieces-room : (place : Place) (pieces : List Piece) (bytes : List ℕ) → AreCut pieces bytes → room (tokens_of place pieces) ≤ length bytes + 1
pieces-room place [] bytes cut =
    let all = before-room (clause_end_at place place.has_token) [] in let one = end-taken place place.has_token in omega arith
pieces-room place (piece ∷ after) bytes cut =
    let token = token_of place piece.kind (ends_line after) in
    let next = place_behind place piece.kind (feeds piece.written) token in
    let all = before-room token (tokens_of next after) in
    let first = piece-taken place piece.kind (ends_line after) piece.written cut.rest cut.fits in
    let others = pieces-room next after cut.rest cut.others in
    let long = ap (λ (bs : List ℕ). length bs) cut.is ∙ length-append piece.written cut.rest in
    omega arith

-- The tokens of a source take no more room than its bytes, and one more.
pub source-room : (source : List ℕ) (tokens : Tokens) → Spells source tokens → room tokens ≤ length source + 1
source-room source tokens spelled =
    let same = ap room spelled.tokens_are in
    let all = pieces-room first_place spelled.pieces source spelled.cut in
    omega arith
