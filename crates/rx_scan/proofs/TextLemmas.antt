-- The text of a string behind its opening quote is what `doubled` writes.
use Rattle.std.proofs.Common.{◌≡◌, ◌==◌, ℕ, Bool, true, false, not, cond, List, [], ◌∷◌, ◌++◌, None, Some, refl, sym, ◌∙◌, ap, subst, append_assoc}
use Rattle.std.proofs.lemmas.List.{append-nil}
use Rattle.std.proofs.lemmas.Bool.{eqb-true, eq-eqb, not-true}
use Rattle.std.specs.Cmp.{first_so, second_so}
use Rattle.std.specs.List.{list_all}
use Rattle.rx_tree.specs.Letters.{is_feed, begins}
use Rattle.rx_tree.specs.Strings.{doubled}
use Rattle.rx_scan.specs.Reader.{string_from, string_at_quote}
use Rattle.rx_scan.proofs.Prefixes.{both_so}

-- a string's text behind its opening quote, as it is written, in front of the rest
pub record Closes (quote : ℕ) (text bytes : List ℕ) (read : List ℕ × List ℕ) : Type 0 where
  pub more : List ℕ
  pub whole : read.0 ≡ text ++ more
  pub is : bytes ≡ doubled quote more ++ (quote ∷ read.1)
  pub one_line : list_all (λ b. not (is_feed b)) more ≡ true
  pub ends : begins (λ b. b == quote) read.1 ≡ false

doubled-other : (quote b : ℕ) (text : List ℕ) → (b == quote) ≡ false → doubled quote (b ∷ text) ≡ b ∷ doubled quote text
doubled-other quote b text is = ap (λ t. cond t (quote ∷ (quote ∷ doubled quote text)) (b ∷ doubled quote text)) is

doubled-quote : (quote : ℕ) (text : List ℕ) → doubled quote (quote ∷ text) ≡ quote ∷ (quote ∷ doubled quote text)
doubled-quote quote text = ap (λ t. cond t (quote ∷ (quote ∷ doubled quote text)) (quote ∷ doubled quote text)) (eq-eqb quote quote refl)

-- one byte more of the text was read
closes-more : (quote b : ℕ) (text bytes front : List ℕ) (read : List ℕ × List ℕ) → is_feed b ≡ false
    → ((more : List ℕ) → doubled quote (b ∷ more) ≡ front ++ doubled quote more)
    → Closes quote (text ++ b ∷ []) bytes read → Closes quote text (front ++ bytes) read
closes-more quote b text bytes front read stays writes rest = record {
  more = b ∷ rest.more;
  whole = rest.whole ∙ append_assoc text (b ∷ []) rest.more;
  is = ap (λ xs. front ++ xs) rest.is ∙ sym (append_assoc front (doubled quote rest.more) (quote ∷ read.1)) ∙ ap (λ xs. xs ++ (quote ∷ read.1)) (sym (writes rest.more));
  one_line = both_so (not (is_feed b)) _ (ap not stays) rest.one_line;
  ends = rest.ends;
}

-- no text more was read
closes-here : (quote : ℕ) (text rest : List ℕ) (read : List ℕ × List ℕ)
    → begins (λ b. b == quote) rest ≡ false → Some (text, rest) ≡ Some read → Closes quote text (quote ∷ rest) read
closes-here quote text rest read ends is =
    let same : read ≡ (text, rest) = cc in
    record {
      more = [];
      whole = ap (λ (r : List ℕ × List ℕ). r.0) same ∙ sym (append-nil text);
      is = ap (λ (r : List ℕ × List ℕ). quote ∷ r.1) (sym same);
      one_line = refl;
      ends = ap (λ (r : List ℕ × List ℕ). begins (λ b. b == quote) r.1) same ∙ ends;
    }

closes-other : (quote b : ℕ) (text bytes : List ℕ) (read : List ℕ × List ℕ) (feed : Bool) → (b == quote) ≡ false
    → is_feed b ≡ feed → cond feed None (string_from quote (text ++ b ∷ []) bytes) ≡ Some read
    → (string_from quote (text ++ b ∷ []) bytes ≡ Some read → Closes quote (text ++ b ∷ []) bytes read)
    → Closes quote text (b ∷ bytes) read
closes-other quote b text bytes read true other tested is from = cc
closes-other quote b text bytes read false other tested is from =
    closes-more quote b text bytes (b ∷ []) read tested (λ more. doubled-other quote b more other) (from is)

closes-byte : (quote b : ℕ) (text bytes : List ℕ) (read : List ℕ × List ℕ) (test : Bool)
    → (b == quote) ≡ test
    → cond test (string_at_quote quote text bytes) (cond (is_feed b) None (string_from quote (text ++ b ∷ []) bytes)) ≡ Some read
    → (string_at_quote quote text bytes ≡ Some read → Closes quote text (quote ∷ bytes) read)
    → (string_from quote (text ++ b ∷ []) bytes ≡ Some read → Closes quote (text ++ b ∷ []) bytes read)
    → Closes quote text (b ∷ bytes) read
closes-byte quote b text bytes read true tested is at_quote from =
    subst (λ (x : ℕ). Closes quote text (x ∷ bytes) read) (sym (eqb-true b quote tested)) (at_quote is)
closes-byte quote b text bytes read false tested is at_quote from =
    closes-other quote b text bytes read (is_feed b) tested refl is from

closes-quote : (quote b : ℕ) (text bytes : List ℕ) (read : List ℕ × List ℕ) (test : Bool) → is_feed quote ≡ false
    → (b == quote) ≡ test → cond test (string_from quote (text ++ quote ∷ []) bytes) (Some (text, b ∷ bytes)) ≡ Some read
    → (string_from quote (text ++ quote ∷ []) bytes ≡ Some read → Closes quote (text ++ quote ∷ []) bytes read)
    → Closes quote text (quote ∷ (b ∷ bytes)) read
closes-quote quote b text bytes read true stays tested is from =
    subst (λ (x : ℕ). Closes quote text (quote ∷ (x ∷ bytes)) read) (sym (eqb-true b quote tested))
    (closes-more quote quote text bytes (quote ∷ (quote ∷ [])) read stays (doubled-quote quote) (from is))
closes-quote quote b text bytes read false stays tested is from = closes-here quote text (b ∷ bytes) read tested is

mutual
  pub string_from-closes : (quote : ℕ) (text bytes : List ℕ) (read : List ℕ × List ℕ) → is_feed quote ≡ false
      → string_from quote text bytes ≡ Some read → Closes quote text bytes read
  string_from-closes quote text [] read stays is = cc
  string_from-closes quote text (b ∷ bytes) read stays is =
      closes-byte quote b text bytes read (b == quote) refl is (at_quote-closes quote text bytes read stays)
      (string_from-closes quote (text ++ b ∷ []) bytes read stays)

  at_quote-closes : (quote : ℕ) (text bytes : List ℕ) (read : List ℕ × List ℕ) → is_feed quote ≡ false
      → string_at_quote quote text bytes ≡ Some read → Closes quote text (quote ∷ bytes) read
  at_quote-closes quote text [] read stays is = closes-here quote text [] read refl is
  at_quote-closes quote text (b ∷ bytes) read stays is =
      closes-quote quote b text bytes read (b == quote) stays refl is (string_from-closes quote (text ++ quote ∷ []) bytes read stays)

-- the reader is at a quote
at-quote : (quote : ℕ) (text bytes : List ℕ) → string_from quote text (quote ∷ bytes) ≡ string_at_quote quote text bytes
at-quote quote text bytes =
    ap (λ t. cond t (string_at_quote quote text bytes) (cond (is_feed quote) None (string_from quote (text ++ quote ∷ []) bytes))) (eq-eqb quote quote refl)

at-end : (quote : ℕ) (text rest : List ℕ) → begins (λ b. b == quote) rest ≡ false → string_at_quote quote text rest ≡ Some (text ++ [], rest)
at-end quote text [] ends = ap (λ xs. Some (xs, [])) (sym (append-nil text))
at-end quote text (b ∷ rest) ends =
    ap (λ t. cond t (string_from quote (text ++ quote ∷ []) rest) (Some (text, b ∷ rest))) ends ∙ ap (λ xs. Some (xs, b ∷ rest)) (sym (append-nil text))

-- the text goes on by a byte, written so
goes-on : (quote b : ℕ) (text more rest : List ℕ) (test : Bool) → is_feed b ≡ false → (b == quote) ≡ test
    → string_from quote (text ++ b ∷ []) (doubled quote more ++ (quote ∷ rest)) ≡ Some ((text ++ b ∷ []) ++ more, rest)
    → string_from quote text (cond test (quote ∷ (quote ∷ doubled quote more)) (b ∷ doubled quote more) ++ (quote ∷ rest)) ≡ Some (text ++ (b ∷ more), rest)
goes-on quote b text more rest true stays tested later =
    let same : b ≡ quote = eqb-true b quote tested in
    let bytes : List ℕ = doubled quote more ++ (quote ∷ rest) in
    at-quote quote text (quote ∷ bytes)
    ∙ ap (λ t. cond t (string_from quote (text ++ quote ∷ []) bytes) (Some (text, quote ∷ bytes))) (eq-eqb quote quote refl)
    ∙ ap (λ x. string_from quote (text ++ x ∷ []) bytes) (sym same)
    ∙ later ∙ ap (λ xs. Some (xs, rest)) (append_assoc text (b ∷ []) more)
goes-on quote b text more rest false stays tested later =
    let bytes : List ℕ = doubled quote more ++ (quote ∷ rest) in
    ap (λ t. cond t (string_at_quote quote text bytes) (cond (is_feed b) None (string_from quote (text ++ b ∷ []) bytes))) tested
    ∙ ap (λ t. cond t None (string_from quote (text ++ b ∷ []) bytes)) stays
    ∙ later ∙ ap (λ xs. Some (xs, rest)) (append_assoc text (b ∷ []) more)

pub string_from-doubled : (quote : ℕ) (text more rest : List ℕ) → list_all (λ b. not (is_feed b)) more ≡ true → begins (λ b. b == quote) rest ≡ false
    → string_from quote text (doubled quote more ++ (quote ∷ rest)) ≡ Some (text ++ more, rest)
string_from-doubled quote text [] rest one_line ends = at-quote quote text rest ∙ at-end quote text rest ends
string_from-doubled quote text (b ∷ more) rest one_line ends =
    goes-on quote b text more rest (b == quote) (not-true (is_feed b) (first_so (not (is_feed b)) _ one_line)) refl
    (string_from-doubled quote (text ++ b ∷ []) more rest (second_so (not (is_feed b)) _ one_line) ends)
