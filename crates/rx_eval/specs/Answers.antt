-- Jobs with what they come to.
use Rattle.std.specs.Prelude.{reverse}
use Rattle.std.specs.Arc.{arc_value}
use Rattle.rx_eval.specs.declared.computing.Computed.{Computed}
use Rattle.rx_eval.specs.declared.job.Job.{Job}
use Rattle.rx_eval.specs.Code.{Code, evaluation}
use Rattle.rx_eval.specs.Computed.{IsComputed}
use Rattle.rx_eval.specs.Places.{IsPlace}

-- a job, with what it came to
pub record Answered : Type 0 where
  pub job : Job
  pub result : Computed

-- the code of a job
abbrev pub code_of : Job → Code
code_of job = arc_value job.code

-- whether a job's values stand at its place
abbrev pub IsPlaced : Job → Type 0
IsPlaced job = IsPlace (code_of job).instrs job.place (reverse job.values)

-- whether what a job came to is what its trees come to, or want of memory
abbrev pub IsAnswer : Answered → Type 0
IsAnswer answered =
    let job = answered.job in
    IsComputed (code_of job).instrs (evaluation (code_of job) job.facts job.place job.values) answered.result
