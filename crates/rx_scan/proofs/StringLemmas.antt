-- The token of a string is what `IsString` means.
use Rattle.std.proofs.Common.{◌≡◌, ◌==◌, ℕ, Bool, true, false, not, cond, List, [], ◌∷◌, ◌++◌, Option, None, Some, refl, sym, ◌∙◌, ap, subst, append_assoc}
use Rattle.std.specs.Prelude.{IsTrue}
use Rattle.std.specs.List.{list_all}
use Rattle.std.proofs.lemmas.Bool.{eqb-true, cond-true, cond-false, or_cases}
use Rattle.std.proofs.Common.{inl, inr}
use Rattle.rx_tree.specs.declared.token.TokenKind.{TokenKind}
use Rattle.rx_tree.specs.declared.token.TokenKind.TheVariants.{Quoted}
use Rattle.rx_tree.specs.Letters.{is_feed, is_quote, begins}
use Rattle.rx_tree.specs.Strings.{doubled, is_binary, takes_suffix, packed, IsMeant, IsString}
use Rattle.rx_tree.specs.Pieces.{PieceKind, Written}
use Rattle.rx_scan.specs.Reader.{string_from, quoted, suffixed, string_with, string_at}
use Rattle.rx_scan.proofs.TextLemmas.{Closes, string_from-closes, string_from-doubled}

pub some-pair : (k kind : PieceKind) (r rest : List ℕ) (G : PieceKind → List ℕ → Type 0)
    → ◌≡◌ {A = Option (PieceKind × List ℕ)} (Some (k, r)) (Some (kind, rest)) → G k r → G kind rest
some-pair k kind r rest G is g =
    let pair : ◌≡◌ {A = PieceKind × List ℕ} (k, r) (kind, rest) = cc in subst (λ (t : PieceKind × List ℕ). G t.0 t.1) pair g

-- A string that is written at the front is the token that is read.

plain-meant : (text rest : List ℕ) → takes_suffix rest ≡ false → suffixed text rest ≡ Some (Written (Quoted text), rest)
plain-meant text [] plain = refl
plain-meant text (b ∷ rest) plain = cond-false _ _ _ plain

suffix-meant : (kind : TokenKind) (text suffix rest : List ℕ) → IsMeant kind text suffix rest → suffixed text (suffix ++ rest) ≡ Some (Written kind, rest)
suffix-meant kind text [] rest meant = plain-meant text rest meant.0 ∙ ap (λ (k : TokenKind). Some (Written k, rest)) (sym meant.1)
suffix-meant kind text (b ∷ []) rest meant =
    cond-true _ _ _ meant.1 ∙ ap (λ p. quoted p rest) meant.2 ∙ ap (λ (k : TokenKind). Some (Written k, rest)) (sym meant.3)
suffix-meant kind text (b ∷ (c ∷ suffix)) rest meant = absurd meant

pub string_at-is : (quote : ℕ) (kind : TokenKind) (text suffix rest : List ℕ) → IsTrue (list_all (λ b. not (is_feed b)) text)
    → begins (λ b. b == quote) (suffix ++ rest) ≡ false → IsMeant kind text suffix rest
    → string_at quote ((doubled quote text ++ (quote ∷ suffix)) ++ rest) ≡ Some (Written kind, rest)
string_at-is quote kind text suffix rest one_line ends meant =
    ap (λ xs. string_with (string_from quote [] xs)) (append_assoc (doubled quote text) (quote ∷ suffix) rest)
    ∙ ap string_with (string_from-doubled quote [] text (suffix ++ rest) one_line ends)
    ∙ suffix-meant kind text suffix rest meant

-- The token that is read is written at the front.

-- what stands behind a closing quote
record Behind (kind : PieceKind) (text bytes rest : List ℕ) : Type 0 where
  pub suffix : List ℕ
  pub token : TokenKind
  pub kind_is : kind ≡ Written token
  pub is : bytes ≡ suffix ++ rest
  pub meant : IsMeant token text suffix rest

quoted-some : (found : Option (List ℕ)) (bytes rest : List ℕ) (kind : PieceKind) → quoted found bytes ≡ Some (kind, rest)
    → (text : List ℕ) × (found ≡ Some text) × (kind ≡ Written (Quoted text)) × (bytes ≡ rest)
quoted-some None bytes rest kind is = cc
quoted-some (Some text) bytes rest kind is =
    let pair : (Written (Quoted text), bytes) ≡ (kind, rest) = let all : Some (Written (Quoted text), bytes) ≡ Some (kind, rest) = is in cc in
    (text, refl, ap (λ (t : PieceKind × List ℕ). t.0) (sym pair), ap (λ (t : PieceKind × List ℕ). t.1) pair)

behind-plain : (text bytes rest : List ℕ) (kind : PieceKind) → takes_suffix bytes ≡ false → quoted (Some text) bytes ≡ Some (kind, rest) → Behind kind text bytes rest
behind-plain text bytes rest kind plain is =
    let found : (t : List ℕ) × (Some text ≡ Some t) × (kind ≡ Written (Quoted t)) × (bytes ≡ rest) = quoted-some (Some text) bytes rest kind is in
    let same : found.0 ≡ text = cc in
    record {
      suffix = [];
      token = Quoted text;
      kind_is = found.2 ∙ ap (λ (t : List ℕ). Written (Quoted t)) same;
      is = found.3;
      meant = (ap takes_suffix (sym found.3) ∙ plain, refl);
    }

behind-suffix : (b : ℕ) (text bytes rest : List ℕ) (kind : PieceKind) (takes : Bool) → takes_suffix (b ∷ bytes) ≡ takes
    → cond takes (quoted (packed (is_binary b) text) bytes) (quoted (Some text) (b ∷ bytes)) ≡ Some (kind, rest) → Behind kind text (b ∷ bytes) rest
behind-suffix b text bytes rest kind true tested is =
    let found : (t : List ℕ) × (packed (is_binary b) text ≡ Some t) × (kind ≡ Written (Quoted t)) × (bytes ≡ rest) =
    quoted-some (packed (is_binary b) text) bytes rest kind is in
    record {
      suffix = b ∷ [];
      token = Quoted found.0;
      kind_is = found.2;
      is = ap (λ xs. b ∷ xs) found.3;
      meant = (found.0, ap (λ xs. takes_suffix (b ∷ xs)) (sym found.3) ∙ tested, found.1, refl);
    }
behind-suffix b text bytes rest kind false tested is = behind-plain text (b ∷ bytes) rest kind tested is

behind-quote : (text bytes rest : List ℕ) (kind : PieceKind) → suffixed text bytes ≡ Some (kind, rest) → Behind kind text bytes rest
behind-quote text [] rest kind is = behind-plain text [] rest kind refl is
behind-quote text (b ∷ bytes) rest kind is = behind-suffix b text bytes rest kind (takes_suffix (b ∷ bytes)) refl is

-- the bytes begin with a string, in front of the rest
pub record HasString (kind : PieceKind) (rest bytes : List ℕ) : Type 0 where
  pub token : TokenKind
  pub kind_is : kind ≡ Written token
  pub written : List ℕ
  pub is : bytes ≡ written ++ rest
  pub string : IsString token written rest

string-read : (quote : ℕ) (bytes rest : List ℕ) (kind : PieceKind) (found : Option (List ℕ × List ℕ)) → is_quote quote ≡ true → is_feed quote ≡ false
    → string_from quote [] bytes ≡ found → string_with found ≡ Some (kind, rest) → HasString kind rest (quote ∷ bytes)
string-read quote bytes rest kind None quotes stays read is = cc
string-read quote bytes rest kind (Some found) quotes stays read is =
    let closes : Closes quote [] bytes found = string_from-closes quote [] bytes found stays read in
    let behind : Behind kind found.0 found.1 rest = behind-quote found.0 found.1 rest kind is in
    record {
      token = behind.token;
      kind_is = behind.kind_is;
      written = quote ∷ (doubled quote found.0 ++ (quote ∷ behind.suffix));
      is = ap (λ xs. quote ∷ xs) (closes.is ∙ ap (λ xs. doubled quote xs ++ (quote ∷ found.1)) (sym closes.whole)
          ∙ ap (λ xs. doubled quote found.0 ++ (quote ∷ xs)) behind.is ∙ sym (append_assoc (doubled quote found.0) (quote ∷ behind.suffix) rest));
      string = record {
        quote = quote;
        text = found.0;
        suffix = behind.suffix;
        quotes = quotes;
        one_line = ap (list_all (λ b. not (is_feed b))) closes.whole ∙ closes.one_line;
        is = refl;
        ends = ap (begins (λ b. b == quote)) (sym behind.is) ∙ closes.ends;
        meant = behind.meant;
      };
    }

-- a quote is no line feed
quote-stays : (b : ℕ) → is_quote b ≡ true → is_feed b ≡ false
quote-stays b is = elim (or_cases (b == 39) (b == 34) is) [
  | inl single ↦ ap is_feed (eqb-true b 39 single)
  | inr double ↦ ap is_feed (eqb-true b 34 double)
]

pub string_at-written : (quote : ℕ) (bytes rest : List ℕ) (kind : PieceKind) → is_quote quote ≡ true → string_at quote bytes ≡ Some (kind, rest)
    → HasString kind rest (quote ∷ bytes)
string_at-written quote bytes rest kind quotes is =
    string-read quote bytes rest kind (string_from quote [] bytes) quotes (quote-stays quote quotes) refl is
