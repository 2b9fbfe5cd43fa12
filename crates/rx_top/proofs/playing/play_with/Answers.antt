use Rattle.std.proofs.lemmas.Result.{IfOk-weaker}
use Rattle.rx_top.specs.Runs.{IsCourseTold, IsPlayed}
use Rattle.rx_top.proofs.Plays.{played}
use Rattle.rx_top.proofs.playing.play_with.Goals as goal

pub returns-clause-played : goal.returns-clause-played
returns-clause-played g c =
    IfOk-weaker c.tell_course.result (IsCourseTold c.run_serial.new.kernel c.in_ok-course.course)
    (IsPlayed c.args.program c.args.argument c.args.budget (g.I.Source.left c.args.input.now) (g.I.Source.faults c.args.input.now)
    (g.I.Source.left c.run_serial.new.input) (g.I.Source.faults c.run_serial.new.input))
    (λ told is. played c.args.program c.args.argument c.args.budget c.in_ok-kernel.kernel c.run_serial.new.kernel
    (g.I.Source.left c.args.input.now) (g.I.Source.left c.run_serial.new.input) (g.I.Source.faults c.args.input.now) (g.I.Source.faults c.run_serial.new.input)
    c.in_ok-course.course told c.in_ok-kernel.ensures c.in_ok-course.ensures.course is (λ starved. c.in_ok-course.ensures.cause.rose starved))
    c.tell_course.ensures
