-- Facts about single tokens.
use Rattle.std.proofs.Common.{◌≡◌, ℕ, ◌<◌, ◌≤◌, Bool, true, false, if◌then◌else◌, List, [], ◌∷◌, length, Option, Some, None, refl, sym, ◌∙◌, ap, arith}
use Rattle.std.specs.Str.{bytes_eq}
use Rattle.std.proofs.lemmas.Slice.Eq.{bytes_eq-Decides}
use Rattle.rx_tree.specs.declared.token.Token.{Token}
use Rattle.rx_tree.specs.declared.token.TokenKind.{TokenKind}
use Rattle.rx_tree.specs.declared.token.TokenKind.TheVariants as k
use Rattle.rx_tree.specs.Operators.{Tokens}
use Rattle.rx_exprs.specs.Marks.{is_left, is_right, left_at, closed_at}
use Rattle.rx_clause_tree.specs.ClauseWords.{word, is_word, begins_word, is_clause_end, behind_end, skip, behind_word}
use Rattle.rx_clauses.specs.Parts.{behind_symbol, is_comma}
use Rattle.rx_exprs.proofs.Tables.{some-is}

pub bytes-same : (a b : List ℕ) → bytes_eq a b ≡ true → a ≡ b
bytes-same a b is = (bytes_eq-Decides a b).0 is

pub same-bytes : (a : List ℕ) → bytes_eq a a ≡ true
same-bytes a = (bytes_eq-Decides a a).1 refl

pub word-is : (spelling : List ℕ) (kind : TokenKind) → is_word spelling kind ≡ true → kind ≡ word spelling
word-is spelling (k.Simple name) is = ap k.Simple (sym (bytes-same spelling name is))
word-is spelling _ is = cc

pub is-word : (spelling : List ℕ) (kind : TokenKind) → kind ≡ word spelling → is_word spelling kind ≡ true
is-word spelling kind is = ap (is_word spelling) is ∙ same-bytes spelling

pub end-is : (kind : TokenKind) → is_clause_end kind ≡ true → kind ≡ k.ClauseEnd
end-is k.ClauseEnd is = refl
end-is _ is = cc

pub comma-is : (kind : TokenKind) → is_comma kind ≡ true → kind ≡ k.Comma
comma-is k.Comma is = refl
comma-is _ is = cc

pub right-is : (kind : TokenKind) → is_right kind ≡ true → kind ≡ k.RightParen
right-is k.RightParen is = refl
right-is _ is = cc

-- ---- what stands at the front

-- the tokens begin with one of which this holds
pub record First (Is : Token → Type 0) (tokens rest : Tokens) : Type 0 where
  pub token : Token
  pub is : tokens ≡ token ∷ rest
  pub fact : Is token

cut-if : (test : Bool) (there rest : Tokens) → (if test then Some there else None) ≡ Some rest → (test ≡ true) × (there ≡ rest)
cut-if true there rest is = (refl, some-is is)
cut-if false there rest is = cc

pub end-found : (tokens rest : Tokens) → behind_end tokens ≡ Some rest → First (λ t. is_clause_end t.kind ≡ true) tokens rest
end-found [] rest is = cc
end-found (t ∷ behind) rest is = let c = cut-if (is_clause_end t.kind) behind rest is in record { token = t; is = ap (λ r. t ∷ r) c.1; fact = c.0 }

pub symbol-found : (spelling : List ℕ) (tokens rest : Tokens) → behind_symbol spelling tokens ≡ Some rest → First (λ t. t.kind ≡ word spelling) tokens rest
symbol-found spelling [] rest is = cc
symbol-found spelling (t ∷ behind) rest is =
    let c = cut-if (is_word spelling t.kind) behind rest is in record { token = t; is = ap (λ r. t ∷ r) c.1; fact = word-is spelling t.kind c.0 }

pub left-found : (tokens rest : Tokens) → left_at tokens ≡ Some rest → First (λ t. t.kind ≡ k.LeftParen) tokens rest
left-found [] rest is = cc
left-found (t ∷ behind) rest is =
    let c = cut-if (is_left t.kind) behind rest is in record { token = t; is = ap (λ r. t ∷ r) c.1; fact = left-is t.kind c.0 }
  where
    left-is : (kind : TokenKind) → is_left kind ≡ true → kind ≡ k.LeftParen
    left-is k.LeftParen is = refl
    left-is _ is = cc

pub closed-found : (tokens rest : Tokens) → closed_at tokens ≡ Some rest → First (λ t. t.kind ≡ k.RightParen) tokens rest
closed-found [] rest is = cc
closed-found (t ∷ behind) rest is =
    let c = cut-if (is_right t.kind) behind rest is in record { token = t; is = ap (λ r. t ∷ r) c.1; fact = right-is t.kind c.0 }

pub no-symbol : (spelling : List ℕ) (tokens : Tokens) → begins_word spelling tokens ≡ false → behind_symbol spelling tokens ≡ None
no-symbol spelling [] is = refl
no-symbol spelling (t ∷ behind) is = rw is

none-if : (test : Bool) (there : Tokens) → (let x : Option Tokens = if test then Some there else None in x ≡ None) → test ≡ false
none-if true there is = cc
none-if false there is = refl

pub symbol-no : (spelling : List ℕ) (tokens : Tokens) → behind_symbol spelling tokens ≡ None → begins_word spelling tokens ≡ false
symbol-no spelling [] is = refl
symbol-no spelling (t ∷ behind) is = none-if (is_word spelling t.kind) behind is

-- ---- lengths

pub end-shorter : (tokens rest : Tokens) → behind_end tokens ≡ Some rest → length rest < length tokens
end-shorter tokens rest is = let f = end-found tokens rest is in let e = ap length f.is in omega arith

pub symbol-shorter : (spelling : List ℕ) (tokens rest : Tokens) → behind_symbol spelling tokens ≡ Some rest → length rest < length tokens
symbol-shorter spelling tokens rest is = let f = symbol-found spelling tokens rest is in let e = ap length f.is in omega arith

pub skip-shorter : (tokens : Tokens) → length (skip tokens) ≤ length tokens
skip-shorter [] = omega arith
skip-shorter (t ∷ rest) = go (is_clause_end t.kind)
  where
    go : (test : Bool) → length (if test then rest else t ∷ rest) ≤ length (t ∷ rest)
    go true = omega arith
    go false = omega arith

pub word-shorter : (spelling : List ℕ) (tokens rest : Tokens) → behind_word spelling tokens ≡ Some rest → length rest < length tokens
word-shorter spelling [] rest is = cc
word-shorter spelling (t ∷ behind) rest is =
    let c = cut-if (is_word spelling t.kind) (skip behind) rest is in
    let e = ap length c.1 in
    let h = skip-shorter behind in omega arith
