use Rattle.rx_install.proofs.NextLemmas.{goes-no_further, goes-on, outcome-ordered, refused-caused}
use Rattle.rx_install.proofs.installation.installation_order.Goals as goal

pub loop-state-preserved : goal.loop-state-preserved
loop-state-preserved c =
    goes-on c.args.classes c.loop-state.state c.install_next.new.self c.in_ok-install_next.field-0 c.if-branch.true c.in_ok-install_next.ensures
    c.loop-state.invariant.1

pub returns-clause-order : goal.returns-clause-order
returns-clause-order c =
    let end =
    goes-no_further c.args.classes c.loop-state.state c.install_next.new.self c.in_ok-install_next.field-0 c.if-branch.false c.in_ok-install_next.ensures
    c.loop-state.invariant.1 in
    outcome-ordered c.args.classes c.install_next.new.self c.finish.result end.0 c.finish.ensures

pub returns-clause-refused : goal.returns-clause-refused
returns-clause-refused c =
    let end =
    goes-no_further c.args.classes c.loop-state.state c.install_next.new.self c.in_ok-install_next.field-0 c.if-branch.false c.in_ok-install_next.ensures
    c.loop-state.invariant.1 in
    refused-caused c.args.classes c.install_next.new.self c.finish.result end.0 end.1 c.finish.ensures
