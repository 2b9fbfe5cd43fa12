-- The reader takes exactly the tokens that fit an expression, and at most one expression fits.
use Rattle.std.proofs.Common.{◌≡◌, Ok, Err, sym, ◌∙◌, ap, arith}
use Rattle.rx_tree.specs.declared.expr.Expr.{Expr}
use Rattle.rx_tree.specs.declared.stops.Stops.{Stops}
use Rattle.rx_tree.specs.Operators.{Tokens}
use Rattle.rx_tree.specs.Expressions.{Fits}
use Rattle.rx_exprs.specs.declared.refused.Fault.{Fault}
use Rattle.rx_exprs.specs.Reader.{Outcome, loosest, turns, expression}
use Rattle.rx_exprs.specs.Forms.{level_form}
use Rattle.rx_exprs.specs.Parsed.{NoneFits}
use Rattle.rx_exprs.proofs.Tables.{ok-is}
use Rattle.rx_exprs.proofs.Levels.{whole-of, of-whole}
use Rattle.rx_exprs.proofs.Taking.{reads}
use Rattle.rx_exprs.proofs.Giving.{taken}
use Rattle.rx_exprs.proofs.Steady.{whole}

pub fits_read : (stops : Stops) (tokens : Tokens) (expr : Expr) (rest : Tokens) → Fits stops tokens expr rest → expression stops tokens ≡ Ok (expr, rest)
unfolding expression
fits_read stops tokens expr rest is = let w = whole-of stops tokens expr rest is in reads w.written (turns tokens) w.longest (omega arith)

pub read_fits : (stops : Stops) (tokens : Tokens) (expr : Expr) (rest : Tokens) → expression stops tokens ≡ Ok (expr, rest) → Fits stops tokens expr rest
unfolding expression
read_fits stops tokens expr rest is =
    let t = taken (turns tokens) stops loosest tokens expr rest (omega arith) is in
    of-whole stops tokens expr rest (record { written = t.written; longest = t.longest })

pub one_fits : (stops : Stops) (tokens : Tokens) (expr other : Expr) (rest others : Tokens) → Fits stops tokens expr rest → Fits stops tokens other others
    → (expr ≡ other) × (rest ≡ others)
one_fits stops tokens expr other rest others a b =
    let same : (expr, rest) ≡ (other, others) = ok-is (sym (fits_read stops tokens expr rest a) ∙ fits_read stops tokens other others b) in
    (ap (λ z. z.0) same, ap (λ z. z.1) same)

err-ok : (fault : Fault) (expr : Expr) (rest : Tokens) → (let refused : Outcome Expr = Err fault in refused ≡ Ok (expr, rest)) → ⊥
err-ok fault expr rest is = cc

pub none_fits : (stops : Stops) (tokens : Tokens) (fault : Fault) → expression stops tokens ≡ Err fault → NoneFits stops tokens
none_fits stops tokens fault is expr rest fits = err-ok fault expr rest (sym is ∙ fits_read stops tokens expr rest fits)

pub form_fits : (stops : Stops) (tokens : Tokens) (expr : Expr) (rest : Tokens) → level_form stops loosest tokens ≡ Ok (expr, rest) → Fits stops tokens expr rest
form_fits stops tokens expr rest is = read_fits stops tokens expr rest (whole stops tokens ∙ is)

pub form_refuses : (stops : Stops) (tokens : Tokens) (fault : Fault) → level_form stops loosest tokens ≡ Err fault → expression stops tokens ≡ Err fault
form_refuses stops tokens fault is = whole stops tokens ∙ is
