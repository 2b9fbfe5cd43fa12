use Rattle.std.proofs.Common.{◌≡◌, subst, sym}
use Rattle.rx_eval.specs.Names.{Lists}
use Rattle.rx_eval.proofs.NumberLemmas.{code_listed}
use Rattle.rx_eval.proofs.listing.Listing.names.Goals as goal

pub returns : goal.returns
returns c =
    let is : c.args.self.now ≡ c.self.inside.instrs = sym c.self.view_is in
    subst (λ names. Lists names c.args.self.now) (sym c.as_slice.ensures)
    (subst (Lists c.self.inside.names) (sym is) (code_listed c.self.inside.names c.self.inside.instrs c.self.inside.numbers c.self.invariant))
