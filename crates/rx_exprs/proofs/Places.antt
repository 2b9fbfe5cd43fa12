-- What is read behind a place of some tokens, by places among all of them.
use Rattle.std.proofs.Common.{◌≡◌, ◌≢◌, ℕ, ◌+◌, ◌-◌, ◌<◌, ◌≤◌, ◌++◌, length, take, drop, Ok, Err, refl, sym, ◌∙◌, ap, subst, arith}
use Rattle.std.proofs.Math.Seq.{take-length}
use Rattle.std.proofs.lemmas.List.{length-append, length-drop, drop-drop, drop_at}
use Rattle.rx_tree.specs.declared.expr.Expr.{Expr}
use Rattle.rx_tree.specs.declared.stops.Stops.{Stops}
use Rattle.rx_tree.specs.Operators.{Tokens}
use Rattle.rx_tree.specs.Expressions.{Fits}
use Rattle.rx_exprs.specs.declared.refused.Refused.{Refused}
use Rattle.rx_exprs.specs.declared.refused.Refused.TheVariants as r
use Rattle.rx_exprs.specs.Reader.{loosest}
use Rattle.rx_exprs.specs.Forms.{level_form}
use Rattle.rx_exprs.specs.Reads.{fault_of}
use Rattle.rx_exprs.specs.Parsed.{IsRefused, placed}
use Rattle.rx_exprs.proofs.Fronts.{front}
use Rattle.rx_exprs.proofs.Shorter.{level_shorter}
use Rattle.rx_exprs.proofs.Law.{form_fits, form_refuses, none_fits}

-- the tokens of a slice from a place on
pub slice-is : (from : ℕ) (tokens : Tokens) → take (length tokens - from) (drop from tokens) ≡ drop from tokens
slice-is from tokens = ap (λ n. take n (drop from tokens)) (sym (length-drop from tokens)) ∙ take-length (drop from tokens)

pub place-behind : (from : ℕ) (tokens front rest : Tokens) → from ≤ length tokens → drop from tokens ≡ front ++ rest → drop (length tokens - length rest) tokens ≡ rest
place-behind from tokens front rest within is =
    let whole : length tokens - from ≡ length front + length rest = sym (length-drop from tokens) ∙ ap length is ∙ length-append front rest in
    let place : length tokens - length rest ≡ from + length front = omega arith in
    ap (λ n. drop n tokens) place ∙ sym (drop-drop (length front) from tokens) ∙ ap (drop (length front)) is ∙ drop_at front rest (length front) refl

pub record IsFound (stops : Stops) (tokens : Tokens) (from : ℕ) (expr : Expr) (left : ℕ) : Type 0 where
  pub fits : Fits stops (drop from tokens) expr (drop (length tokens - left) tokens)
  pub behind : from < length tokens - left
  pub few : left ≤ length tokens

pub found : (stops : Stops) (tokens : Tokens) (from : ℕ) (expr : Expr) (rest : Tokens) → from ≤ length tokens
    → level_form stops loosest (drop from tokens) ≡ Ok (expr, rest) → IsFound stops tokens from expr (length rest)
found stops tokens from expr rest within is =
    let fits = form_fits stops (drop from tokens) expr rest is in
    let before = front fits.spelt in
    let same = place-behind from tokens before.0 rest within before.1 in
    let short = level_shorter stops loosest (drop from tokens) expr rest (omega arith) is in
    let all = length-drop from tokens in
    record {
      fits = subst (λ (ts : Tokens). Fits stops (drop from tokens) expr ts) (sym same) fits;
      behind = omega arith;
      few = omega arith;
    }

pub refused : (stops : Stops) (tokens : Tokens) (from : ℕ) (refusal : Refused)
    → (refusal ≢ r.OutOfMemory → level_form stops loosest (drop from tokens) ≡ Err (fault_of refusal)) → IsRefused stops tokens from (placed (length tokens) refusal)
refused stops tokens from (r.Bad fault) is =
    let read = form_refuses stops (drop from tokens) fault (is (λ same. cc)) in
    (none_fits stops (drop from tokens) fault read, record { left = fault.left; number_is = read; at_is = refl })
refused stops tokens from r.OutOfMemory is = tt
