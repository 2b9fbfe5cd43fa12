use Rattle.std.proofs.Common.{◌≡◌, ap, subst}
use Rattle.rx_eval.specs.Names.{Lists}
use Rattle.rx_eval.proofs.postfix.Postfix.names.Goals as goal

pub returns-clause-listed : goal.returns-clause-listed
returns-clause-listed c =
    let is : c.self.inside.code ≡ c.args.self.now.instrs = ap (λ code. code.instrs) c.self.view_is in
    subst (Lists c.names.result.now) is c.names.ensures
