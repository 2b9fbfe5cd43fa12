-- What is read behind a place of some tokens, by places among all of them.
use Rattle.std.proofs.Common.{◌≡◌, ◌≢◌, ℕ, ◌-◌, List, [], length, drop, Ok, Err, refl, sym, ◌∙◌, ap}
use Rattle.rx_tree.specs.Operators.{Tokens}
use Rattle.rx_exprs.specs.declared.refused.Fault.{Fault}
use Rattle.rx_exprs.specs.declared.refused.Refused.{Refused}
use Rattle.rx_exprs.specs.declared.refused.Refused.TheVariants as r
use Rattle.rx_exprs.specs.Reader.{Outcome}
use Rattle.rx_exprs.specs.Reads.{fault_of}
use Rattle.rx_exprs.specs.Parsed.{placed}
use Rattle.rx_exprs.proofs.Tables.{ok-is}
use Rattle.rx_clauses.proofs.Sure.{so-read}
use Rattle.rx_directives.specs.declared.directive.Directive.{Directive}
use Rattle.rx_directives.specs.Directives.{AreDirectives}
use Rattle.rx_directives.specs.Reader.{directives_form}
use Rattle.rx_directives.specs.Parsed.{NoneFit, IsRefused}
use Rattle.rx_directives.proofs.Law.{form-read, form-sure}

pub written : (tokens rest : Tokens) (list : List Directive) → directives_form tokens ≡ Ok (list, rest) → AreDirectives list tokens
written tokens rest list is = so-read {Is = λ list rest. AreDirectives list tokens} (directives_form tokens) list rest (form-sure tokens) is

err-ok : (fault : Fault) (list : List Directive) → (let refused : Outcome (List Directive) = Err fault in refused ≡ Ok (list, [])) → ⊥
err-ok fault list is = cc

none-fit : (tokens : Tokens) (fault : Fault) → directives_form tokens ≡ Err fault → NoneFit tokens
none-fit tokens fault is list fits = err-ok fault list (sym is ∙ form-read fits)

pub refused : (tokens : Tokens) (from : ℕ) (refusal : Refused)
    → (refusal ≢ r.OutOfMemory → directives_form (drop from tokens) ≡ Err (fault_of refusal)) → IsRefused tokens from (placed (length tokens) refusal)
refused tokens from (r.Bad fault) is =
    let read : directives_form (drop from tokens) ≡ Err fault = is (λ same. cc) in
    (none-fit (drop from tokens) fault read, record { left = fault.left; number_is = read; at_is = refl })
refused tokens from r.OutOfMemory is = tt

pub one : (tokens : Tokens) (found other : List Directive) → AreDirectives found tokens → AreDirectives other tokens → found ≡ other
one tokens found other p q = ap (λ (z : List Directive × Tokens). z.0) (ok-is (sym (form-read p) ∙ form-read q))
