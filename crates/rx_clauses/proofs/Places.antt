-- What is read behind a place of some tokens, by places among all of them.
use Rattle.std.proofs.Common.{◌≡◌, ◌≢◌, ℕ, ◌+◌, ◌-◌, ◌≤◌, List, ◌++◌, length, take, drop, Ok, Err, refl, sym, ◌∙◌, ap, subst, arith}
use Rattle.std.proofs.lemmas.List.{length-append, length-drop}
use Rattle.rx_tree.specs.Operators.{Tokens}
use Rattle.rx_exprs.specs.declared.refused.Fault.{Fault}
use Rattle.rx_exprs.specs.declared.refused.Refused.{Refused}
use Rattle.rx_exprs.specs.declared.refused.Refused.TheVariants as r
use Rattle.rx_exprs.specs.Reader.{Outcome}
use Rattle.rx_exprs.specs.Reads.{fault_of}
use Rattle.rx_exprs.specs.Parsed.{placed}
use Rattle.rx_exprs.proofs.Places.{place-behind}
use Rattle.rx_clause_tree.specs.declared.clause.Before.TheVariants.{Nothing}
use Rattle.rx_clause_tree.specs.declared.clause.Body.{Body}
use Rattle.rx_clause_tree.specs.declared.clause.Clause.{Clause}
use Rattle.rx_clause_tree.specs.Bodies.{IsBody}
use Rattle.rx_clauses.specs.Reader.{in_body, body}
use Rattle.rx_clauses.specs.Forms.{body_form}
use Rattle.rx_clauses.specs.Parsed.{NoneFits, IsRefused}
use Rattle.rx_clauses.proofs.BodiesLaw.{body-read, body-written}
use Rattle.rx_clauses.proofs.BodyForms.{body_of}
use Rattle.rx_clauses.proofs.Fronts.{body-front}

pub record IsFound (tokens : Tokens) (from : ℕ) (one : Body) (left : ℕ) : Type 0 where
  pub fits : IsBody one (drop from tokens) (drop (length tokens - left) tokens)
  pub behind : from ≤ length tokens - left
  pub few : left ≤ length tokens

pub found : (tokens : Tokens) (from : ℕ) (list : List Clause) (rest : Tokens) → from ≤ length tokens
    → body_form Nothing (drop from tokens) ≡ Ok (list, rest) → IsFound tokens from (in_body list) (length rest)
found tokens from list rest within is =
    let fits = body-written (drop from tokens) (in_body list) rest (body_of (drop from tokens) ∙ rw is refl) in
    let before = body-front (in_body list) (drop from tokens) rest fits in
    let same = place-behind from tokens before.0 rest within before.1 in
    let whole : length tokens - from ≡ length before.0 + length rest = sym (length-drop from tokens) ∙ ap length before.1 ∙ length-append before.0 rest in
    record {
      fits = subst (λ (ts : Tokens). IsBody (in_body list) (drop from tokens) ts) (sym same) fits;
      behind = omega arith;
      few = omega arith;
    }

err-ok : (fault : Fault) (one : Body) (rest : Tokens) → (let refused : Outcome Body = Err fault in refused ≡ Ok (one, rest)) → ⊥
err-ok fault one rest is = cc

none-fits : (tokens : Tokens) (fault : Fault) → body tokens ≡ Err fault → NoneFits tokens
none-fits tokens fault is one rest fits = err-ok fault one rest (sym is ∙ body-read tokens one rest fits)

pub refused : (tokens : Tokens) (from : ℕ) (refusal : Refused)
    → (refusal ≢ r.OutOfMemory → body_form Nothing (drop from tokens) ≡ Err (fault_of refusal)) → IsRefused tokens from (placed (length tokens) refusal)
refused tokens from (r.Bad fault) is =
    let read : body (drop from tokens) ≡ Err fault = body_of (drop from tokens) ∙ rw (is (λ same. cc)) refl in
    (none-fits (drop from tokens) fault read, record { left = fault.left; number_is = read; at_is = refl })
refused tokens from r.OutOfMemory is = tt
