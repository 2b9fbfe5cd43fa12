-- The variable that a string spells.
use Rattle.std.proofs.Common.{◌≡◌, ℕ, zero, suc, ◌+◌, cond, Bool, true, false, ◌&&◌, ◌==◌, if◌then◌else◌, List, [], ◌∷◌, length, take, drop, Option, Some, None, refl, sym, ◌∙◌, ap, arith}
use Rattle.std.proofs.lemmas.Bool.{eqb-true}
use Rattle.std.specs.List.{list_all, prefix_len}
use Rattle.std.specs.Str.{str_to_ascii_uppercase}
use Rattle.rx_tree.specs.declared.name.Name.{Name}
use Rattle.rx_tree.specs.declared.token.TokenKind.{TokenKind}
use Rattle.rx_tree.specs.Letters.{begins, is_symbol_byte}
use Rattle.rx_tree.specs.Symbols.{symbol_of}
use Rattle.rx_clause_tree.specs.ClauseWords.{variable_of}
use Rattle.rx_scan.specs.Reader.{symbol_at}
use Rattle.rx_directives.specs.DirectiveWords.{spelled_variable}

-- what stands in front of the first byte that isn't so
record Front (p : ℕ → Bool) (bytes : List ℕ) : Type 0 where
  all : drop (prefix_len p bytes) bytes ≡ [] → (take (prefix_len p bytes) bytes ≡ bytes) × (list_all p bytes ≡ true)
  some : (b : ℕ) (rest : List ℕ) → drop (prefix_len p bytes) bytes ≡ b ∷ rest → list_all p bytes ≡ false

not-none : {b : ℕ} {bytes : List ℕ} → b ∷ bytes ≡ [] → ⊥
not-none is = cc

front : (p : ℕ → Bool) (bytes : List ℕ) → Front p bytes
front p [] = record { all = λ is. (refl, refl); some = λ b rest is. cc }
front p (b ∷ bytes) = go (p b) refl (front p bytes)
  where
    one : 1 + prefix_len p bytes ≡ suc (prefix_len p bytes)
    one = omega arith

    same : (test : Bool) → test ≡ true → drop (cond test (1 + prefix_len p bytes) 0) (b ∷ bytes) ≡ drop (prefix_len p bytes) bytes
    same true is = ap (λ n. drop n (b ∷ bytes)) one
    same false is = cc

    whole : (test : Bool) → test ≡ true → take (prefix_len p bytes) bytes ≡ bytes → take (cond test (1 + prefix_len p bytes) 0) (b ∷ bytes) ≡ b ∷ bytes
    whole true is g = ap (λ n. take n (b ∷ bytes)) one ∙ ap (λ (bs : List ℕ). b ∷ bs) g
    whole false is g = cc

    first : p b ≡ false → drop (prefix_len p (b ∷ bytes)) (b ∷ bytes) ≡ b ∷ bytes
    first is = rw is refl

    go : (test : Bool) → p b ≡ test → Front p bytes → Front p (b ∷ bytes)
    go true is h = record {
      all = λ none. let g = h.all (sym (same (p b) is) ∙ none) in (whole (p b) is g.0, rw is g.1);
      some = λ c rest more. let g = h.some c rest (sym (same (p b) is) ∙ more) in rw is g;
    }
    go false is h = record { all = λ none. absurd (not-none (sym (first is) ∙ none)); some = λ c rest more. rw is refl }

none-left : (bytes : List ℕ) → (length bytes == 0) ≡ true → bytes ≡ []
none-left [] is = refl
none-left (b ∷ bytes) is = let h = eqb-true (length (b ∷ bytes)) 0 is in absurd (omega arith)

begins-all : (p : ℕ → Bool) (bytes : List ℕ) → (length bytes == 0) ≡ false → list_all p bytes ≡ true → begins p bytes ≡ true
begins-all p [] some all = cc
begins-all p (b ∷ bytes) some all = go (p b) all
  where
    go : (test : Bool) → (test && list_all p bytes) ≡ true → test ≡ true
    go true is = refl
    go false is = cc

pub spelled_yes : (text behind : List ℕ) (kind : TokenKind) → (kind, behind) ≡ symbol_at text → (length behind == 0) ≡ true → (length text == 0) ≡ false
    → spelled_variable text ≡ variable_of kind
spelled_yes text behind kind is none some =
    let n = prefix_len is_symbol_byte text in
    let named : kind ≡ symbol_of (str_to_ascii_uppercase (take n text)) = ap (λ (p : TokenKind × List ℕ). p.0) is in
    let left : drop n text ≡ [] = sym (ap (λ (p : TokenKind × List ℕ). p.1) is) ∙ none-left behind none in
    let whole = (front is_symbol_byte text).all left in
    rw (named, whole.0, whole.1, begins-all is_symbol_byte text some whole.1) refl

not-false : (length {A = ℕ} [] == 0) ≡ false → ⊥
not-false is = cc

pub spelled_no : (text behind : List ℕ) (kind : TokenKind) → (kind, behind) ≡ symbol_at text → (length behind == 0) ≡ false → spelled_variable text ≡ None
spelled_no text [] kind is some = absurd (not-false some)
spelled_no text (b ∷ behind) kind is some =
    let n = prefix_len is_symbol_byte text in
    let left : drop n text ≡ b ∷ behind = sym (ap (λ (p : TokenKind × List ℕ). p.1) is) in
    let other = (front is_symbol_byte text).some b behind left in
    go (begins is_symbol_byte text) other
  where
    go : (test : Bool) → list_all is_symbol_byte text ≡ false
        → (if test && list_all is_symbol_byte text then variable_of (symbol_of (str_to_ascii_uppercase text)) else None) ≡ None
    go true other = rw other
    go false other = refl

pub spelled_empty : (text : List ℕ) → (length text == 0) ≡ true → spelled_variable text ≡ None
spelled_empty [] is = refl
spelled_empty (b ∷ text) is = let h = eqb-true (length (b ∷ text)) 0 is in absurd (omega arith)

pub ruleset spelled = (spelled_yes, spelled_no, spelled_empty)
