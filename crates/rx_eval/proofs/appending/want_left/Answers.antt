use Rattle.std.proofs.Common.{sym, ◌∙◌}
use Rattle.rx_eval.proofs.Built.{want_join}
use Rattle.rx_eval.proofs.appending.want_left.Goals as goal

pub returns-in_ok-push : goal.returns-in_ok-push
returns-in_ok-push c = λ body. want_join body c.args.oper c.args.code.now c.push.new.self c.in_ok-push.ensures.ok (sym c.is_join.ensures.join ∙ c.if-is_join.true)
