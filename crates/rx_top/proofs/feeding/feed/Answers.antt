use Rattle.std.proofs.lemmas.Result.{IfOk-weaker}
use Rattle.rx_top.specs.Feeding.{IsFed, IsGiven}
use Rattle.rx_top.proofs.FeedLemmas.{fed-by}
use Rattle.rx_top.proofs.feeding.feed.Goals as goal

pub returns-clause-fed : goal.returns-clause-fed
returns-clause-fed g c =
    IfOk-weaker c.give.result (IsGiven c.args.kernel.now c.give.new.kernel c.read_line-read.result)
    (IsFed c.args.kernel.now c.give.new.kernel (g.I.Source.left c.args.input.now) (g.I.Source.left c.read_line-read.new.input))
    (λ one is. fed-by c.args.kernel.now c.give.new.kernel (g.I.Source.left c.args.input.now) (g.I.Source.left c.read_line-read.new.input)
    c.read_line-read.result one c.read_line-read.ensures.line is)
    c.give.ensures
