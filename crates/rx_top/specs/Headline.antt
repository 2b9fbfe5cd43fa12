-- The headline: what a call of the interpreter answers, writes and gives back.
use Rattle.std.specs.Prelude.{◌≡◌, ◌<◌, ◌⊎◌, ℕ, List, [], None}
use Rattle.std.specs.Io.KnownBytes.{Appends}
use Rattle.rx_ports.specs.Sinks.{AppendsPrefix}
use Rattle.rx_packages.specs.Refusals.{IsDeep}
use Rattle.rx_packages.specs.Checking.{IsSomeProgram}
use Rattle.rx_top.specs.declared.conclusion.Conclusion.{Conclusion}
use Rattle.rx_top.specs.Words.{request}
use Rattle.rx_top.specs.Ports.{Ports, SinkRose, Unread}
use Rattle.rx_top.specs.Loading.{IsLong, IsBadAt}
use Rattle.rx_top.specs.Conclusions.{Ran, RanUnfed, AsksFor, AsksUnbuilt, ChecksOne, ShelfFailed, IsConclusion, line_ok, line_bad, unbuilt, line_243, line_244, line_long, line_deep}

-- A call tells what it has to tell whole: standard output and standard error have accepted it.
pub record IsTold (before now : Ports) (told : Conclusion) : Type 0 where
  pub wrote : Appends before.out now.out told.output.items
  pub reported : Appends before.err now.err told.report.items

-- A call could tell only the first bytes of it.
pub record IsTornOff (before now : Ports) (told : Conclusion) : Type 0 where
  pub wrote : AppendsPrefix before.out now.out told.output.items
  pub reported : AppendsPrefix before.err now.err told.report.items

-- How the telling went: whole, with the status of what was told; or a sink failed, with 246; or memory was wanted, with
-- 247.
pub data Tells (before now : Ports) (told : Conclusion) (status : ℕ) : Type 0 where
  Whole : status ≡ told.status → IsTold before now told → Tells before now told status
  AtFault : status ≡ 246 → SinkRose before now → IsTornOff before now told → Tells before now told status
  AtWant : status ≡ 247 → IsTornOff before now told → Tells before now told status

-- What a call answers: it gives back the steps and the schedule of what it had to tell, and told that.
pub record IsAnswer (words : List (List ℕ)) (before now : Ports) (status steps : ℕ) (schedule : List ℕ) : Type 0 where
  pub told : Conclusion
  pub conclusion : IsConclusion words before.supplies now.supplies told
  pub gives_steps : steps ≡ told.steps
  pub gives_schedule : schedule ≡ told.schedule.items
  pub tells : Tells before now told status

-- the statuses of a run that was carried to its end and told whole
abbrev pub IsRunStatus : ℕ → Type 0
IsRunStatus status = (status < 240) ⊎ ((status ≡ 241) ⊎ ((status ≡ 242) ⊎ (status ≡ 249)))

-- what was to be told was told whole, with its steps and its schedule
pub record ToldWhole (before now : Ports) (steps : ℕ) (schedule : List ℕ) (told : Conclusion) : Type 0 where
  pub gives_steps : steps ≡ told.steps
  pub gives_schedule : schedule ≡ told.schedule.items
  pub written : IsTold before now told

-- a run was told whole, with its status
pub record ToldRun (words : List (List ℕ)) (before now : Ports) (status steps : ℕ) (schedule : List ℕ) : Type 0 where
  pub told : Conclusion
  pub ran : Ran words before.supplies now.supplies told
  pub gives_status : status ≡ told.status
  pub whole : ToldWhole before now steps schedule told

-- a run was told that wanted a line of input, which couldn't be read
pub record ToldUnfed (words : List (List ℕ)) (before now : Ports) (steps : ℕ) (schedule : List ℕ) : Type 0 where
  pub told : Conclusion
  pub ran : RanUnfed words before.supplies now.supplies told
  pub whole : ToldWhole before now steps schedule told

-- nothing was run, and these texts were told whole
pub record ToldTexts (before now : Ports) (output report : List ℕ) (steps : ℕ) (schedule : List ℕ) : Type 0 where
  pub no_steps : steps ≡ 0
  pub no_schedule : schedule ≡ []
  pub unread : Unread before.supplies now.supplies
  pub wrote : Appends before.out now.out output
  pub reported : Appends before.err now.err report

-- a source that is a program was checked, and that was told
abbrev pub ToldFine : List (List ℕ) → Ports → Ports → ℕ → ℕ → List ℕ → Type 0
ToldFine words before now status steps schedule =
    (status ≡ 0) × ChecksOne words before.supplies IsSomeProgram × ToldTexts before now line_ok [] steps schedule

-- a source that is no program was to be run or checked, and that was told
pub record ToldBad (words : List (List ℕ)) (before now : Ports) (steps : ℕ) (schedule : List ℕ) : Type 0 where
  pub line : ℕ
  pub number : ℕ
  pub asks : AsksFor words before.supplies (IsBadAt line number)
  pub told : ToldTexts before now [] (line_bad line number) steps schedule

-- a program was to be run not all of which runs yet, and that was told
pub record ToldUnbuilt (words : List (List ℕ)) (before now : Ports) (steps : ℕ) (schedule : List ℕ) : Type 0 where
  pub line : ℕ
  pub asks : AsksUnbuilt words before.supplies line
  pub told : ToldTexts before now [] (line_bad line unbuilt) steps schedule

-- the statuses besides those of a run
abbrev pub IsOtherStatus : ℕ → Type 0
IsOtherStatus status =
    (status ≡ 240) ⊎ ((status ≡ 243) ⊎ ((status ≡ 244) ⊎ ((status ≡ 245) ⊎ ((status ≡ 246) ⊎ ((status ≡ 247) ⊎ (status ≡ 250))))))

-- Each status, with its cause and with what was told.
pub record ByStatus (words : List (List ℕ)) (before now : Ports) (status steps : ℕ) (schedule : List ℕ) : Type 0 where
  pub listed : IsRunStatus status ⊎ IsOtherStatus status
  pub of_run : IsRunStatus status → ToldRun words before now status steps schedule ⊎ ToldFine words before now status steps schedule
  pub at_240 : status ≡ 240 → ToldUnbuilt words before now steps schedule ⊎ ToldBad words before now steps schedule
  pub at_243 : status ≡ 243 → (request words ≡ None) × ToldTexts before now [] line_243 steps schedule
  pub at_244 : status ≡ 244 → ShelfFailed words before.supplies now.supplies × ToldTexts before now [] line_244 steps schedule
  pub at_245 : status ≡ 245 → ToldUnfed words before now steps schedule
  pub at_246 : status ≡ 246 → SinkRose before now
  pub at_250 : status ≡ 250
      → (AsksFor words before.supplies IsLong × ToldTexts before now [] line_long steps schedule)
      ⊎ (AsksFor words before.supplies IsDeep × ToldTexts before now [] line_deep steps schedule)
