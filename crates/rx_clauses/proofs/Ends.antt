-- The end of a block, each way through it.
use Rattle.std.proofs.Common.{◌≡◌, ℕ, Bool, true, false, if◌then◌else◌, List, [], ◌∷◌, Option, Some, None, refl, ◌∙◌, ap}
use Rattle.std.specs.Prelude.{codes}
use Rattle.rx_tree.specs.declared.name.Name.{Name}
use Rattle.rx_tree.specs.declared.token.Token.{Token}
use Rattle.rx_tree.specs.Operators.{Tokens}
use Rattle.rx_exprs.proofs.Tables.{some-is}
use Rattle.rx_clause_tree.specs.ClauseWords.{variable_of, same_name, is_word, is_clause_end, behind_end}
use Rattle.rx_clause_tree.specs.Loops.{is_name, behind_name, behind_control, behind_block}
use Rattle.rx_clauses.specs.Parts.{behind_symbol}
use Rattle.rx_clauses.specs.Forms.{behind_variable}

-- the end of the clause behind some tokens, where there are some
abbrev then_end : Option Tokens → Option Tokens
then_end None = None
then_end (Some rest) = behind_end rest

named-end : (control : Option Name) (t : Token) (rest : Tokens) → behind_name control (variable_of t.kind) rest ≡ then_end (behind_variable control (t ∷ rest))
named-end None t rest = refl
named-end (Some name) t rest = go (variable_of t.kind)
  where
    by-test : (test : Bool) → (if test then behind_end rest else None) ≡ then_end (if test then Some rest else None)
    by-test true = refl
    by-test false = refl

    go : (other : Option Name) → behind_name (Some name) other rest ≡ then_end (if is_name name other then Some rest else None)
    go None = refl
    go (Some other) = by-test (same_name name other)

control-end : (control : Option Name) (tokens : Tokens) → behind_end tokens ≡ None → behind_control control tokens ≡ then_end (behind_variable control tokens)
control-end None [] is = refl
control-end (Some name) [] is = refl
control-end control (t ∷ rest) is = go (is_clause_end t.kind) is
  where
    go : (test : Bool) → (let x : Option Tokens = if test then Some rest else None in x ≡ None)
        → (if test then Some rest else behind_name control (variable_of t.kind) rest) ≡ then_end (behind_variable control (t ∷ rest))
    go true same = cc
    go false same = named-end control t rest

block-end : (control : Option Name) (tokens others : Tokens) → behind_symbol (codes "END") tokens ≡ Some others → behind_block control tokens ≡ behind_control control others
block-end control [] others is = cc
block-end control (t ∷ rest) others is = go (is_word (codes "END") t.kind) is
  where
    go : (test : Bool) → (if test then Some rest else None) ≡ Some others → (if test then behind_control control rest else None) ≡ behind_control control others
    go true same = ap (behind_control control) (some-is same)
    go false same = cc

control-last : (control : Option Name) (tokens rest : Tokens) → behind_end tokens ≡ Some rest → behind_control control tokens ≡ Some rest
control-last control [] rest is = cc
control-last control (t ∷ others) rest is = go (is_clause_end t.kind) is
  where
    go : (test : Bool) → (if test then Some others else None) ≡ Some rest → (if test then Some others else behind_name control (variable_of t.kind) others) ≡ Some rest
    go true same = same
    go false same = cc

pub block_none : (control : Option Name) (tokens : Tokens) → behind_symbol (codes "END") tokens ≡ None → behind_block control tokens ≡ None
block_none control [] is = refl
block_none control (t ∷ rest) is = go (is_word (codes "END") t.kind) is
  where
    go : (test : Bool) → (let x : Option Tokens = if test then Some rest else None in x ≡ None) → (if test then behind_control control rest else None) ≡ None
    go true same = cc
    go false same = refl

pub block_last : (control : Option Name) (tokens others rest : Tokens) → behind_symbol (codes "END") tokens ≡ Some others → behind_end others ≡ Some rest
    → behind_block control tokens ≡ Some rest
block_last control tokens others rest is ends = block-end control tokens others is ∙ control-last control others rest ends

pub block_unnamed : (control : Option Name) (tokens others : Tokens) → behind_symbol (codes "END") tokens ≡ Some others → behind_end others ≡ None
    → behind_variable control others ≡ None → behind_block control tokens ≡ None
block_unnamed control tokens others is none other = block-end control tokens others is ∙ control-end control others none ∙ ap then_end other

pub block_open : (control : Option Name) (tokens others behind : Tokens) → behind_symbol (codes "END") tokens ≡ Some others → behind_end others ≡ None
    → behind_variable control others ≡ Some behind → behind_end behind ≡ None → behind_block control tokens ≡ None
block_open control tokens others behind is none named open_ = block-end control tokens others is ∙ control-end control others none ∙ ap then_end named ∙ open_

pub block_named : (control : Option Name) (tokens others behind rest : Tokens) → behind_symbol (codes "END") tokens ≡ Some others → behind_end others ≡ None
    → behind_variable control others ≡ Some behind → behind_end behind ≡ Some rest → behind_block control tokens ≡ Some rest
block_named control tokens others behind rest is none named ends = block-end control tokens others is ∙ control-end control others none ∙ ap then_end named ∙ ends
