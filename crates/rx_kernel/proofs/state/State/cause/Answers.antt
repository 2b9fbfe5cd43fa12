use Rattle.std.proofs.Common.{Option, Some, refl, sym, ◌∙◌, ap, ℕ}
use Rattle.std.specs.Prelude.{slice_get}
use Rattle.rx_frames.specs.declared.activity.Look.TheVariants as look
use Rattle.rx_frames.specs.declared.parts.Own.{Own}
use Rattle.rx_frames.specs.Activities.{frames_at}
use Rattle.rx_machine.specs.Enabled.{holder_from}
use Rattle.rx_machine.specs.End.{cause_by}
use Rattle.rx_kernel.specs.Readings.{reading}
use Rattle.rx_kernel.specs.States.{world_of}
use Rattle.rx_kernel.specs.Waiting.{own_if}
use Rattle.rx_kernel.proofs.WaitLemmas.{cause-by, cause-none}
use Rattle.rx_kernel.proofs.state.State.cause.Goals as goal

pub returns-in_default-holder : goal.returns-in_default-holder
returns-in_default-holder c =
    sym (cause-none c.args.self.now.program.classes (own_if (slice_get (frames_at c.args.self.now.parts.stacks c.args.a) 0))
    (holder_from 1 (world_of c.args.self.now).activities c.args.a c.in-Asks.pool) c.in_default-holder.ensures)
    ∙ cause-by (world_of c.args.self.now) c.args.a (reading c.args.self.now.program) c.args.self.now.parts.stacks (look.Asks c.in-Asks.pool) refl c.in-Asks.ensures

pub returns : goal.returns
returns c =
    ap (λ one. Some one) c.in_ok-pool_cause.ensures
    ∙ ap (λ (own : Option Own). cause_by c.args.self.now.program.classes own (Some c.in-Some.holder)) c.in-Some-top_own.ensures
    ∙ ap (λ (holder : Option ℕ). cause_by c.args.self.now.program.classes (own_if (slice_get (frames_at c.args.self.now.parts.stacks c.args.a) 0)) holder) c.in-Some.ensures
    ∙ cause-by (world_of c.args.self.now) c.args.a (reading c.args.self.now.program) c.args.self.now.parts.stacks (look.Asks c.in-Asks.pool) refl c.in-Asks.ensures
