-- How a call ends, from what its parts say.
use Rattle.std.proofs.Common.{lit<, ◌≡◌, ◌<◌, ◌≤◌, inl, inr, ℕ, List, [], Option, None, Some, refl, sym, ◌∙◌, subst, arith, ℤ, pos, negsuc, Bool, true, false, nat_le, leb-true}
use Rattle.std.specs.Prelude.{if◌then◌else◌}
use Rattle.std.specs.Io.KnownBytes.{Appends}
use Rattle.rx_clause_tree.specs.declared.package.Package.{Package}
use Rattle.rx_tree.specs.declared.value.Value.{Value}
use Rattle.rx_tree.specs.declared.value.Value.TheVariants.{Str, Ref}
use Rattle.rx_machine.specs.World.{World, Ending, NoValue, Given, Failed as FailedBy}
use Rattle.rx_machine.specs.declared.end.End.{End}
use Rattle.rx_machine.specs.declared.end.End.TheVariants.{Going, Finished, Stuck, Spent}
use Rattle.rx_machine.specs.End.{end, status_at, status_finished, status_number, status_value}
use Rattle.rx_whole.specs.Number.{num}
use Rattle.rx_ports.specs.Causes.{Rose}
use Rattle.rx_ports.specs.declared.sink.Accepted.{Accepted}
use Rattle.rx_ports.specs.declared.sink.Accepted.TheVariants.{All, Failed, NoMemory}
use Rattle.rx_packages.specs.declared.refused.SourceRefused.{SourceRefused}
use Rattle.rx_packages.specs.declared.refused.SourceRefused.TheVariants as refused
use Rattle.rx_top.specs.declared.words.Request.{Request}
use Rattle.rx_top.specs.declared.conclusion.Conclusion.{Conclusion}
use Rattle.rx_top.specs.declared.words.Request.TheVariants.{Run, Check}
use Rattle.rx_top.specs.Words.{request, ToRun}
use Rattle.rx_top.specs.Loading.{HasSource, HasRefused, IsRunnable, IsUnbuiltAt}
use Rattle.rx_top.specs.Ports.{Ports, Supplies, Unread}
use Rattle.rx_top.specs.Runs.{IsPlayed}
use Rattle.rx_top.specs.Conclusions.{Ran, RanNothing, IsConclusion, OfRun, OfUnfed, OfUnbuilt, OfFine, OfBad, OfLong, OfDeep, OfNoRequest, OfShelf, OfMemory, Fulfils, RunsFile, ChecksFile, IsRefusal, line_ok, line_bad, unbuilt, line_243, line_244, line_long, line_deep}
use Rattle.rx_top.specs.Headline.{IsTold, Tells, Whole, AtFault, AtWant, IsAnswer, IsRunStatus, ToldTexts, ByStatus}
use Rattle.rx_top.specs.Telling.{TellsBoth}

-- ---- what running a file comes to

-- A program was found, and run.
pub runs-found : (before now : Supplies) (program : Package) (name : List ℕ) (steps : ℕ) (argument : Option (List ℕ)) (told : Conclusion)
    → HasSource before.files name (IsRunnable program)
    → IsPlayed program argument steps before.input before.input_faults now.input now.input_faults told → RunsFile name steps argument before now told
runs-found before now program name steps argument told has (inl run) = λ words asked. OfRun (record {
  asks = record { name = name; budget = steps; argument = argument; asked = asked; program = program; has_program = has };
  run = run;
})
runs-found before now program name steps argument told has (inr cut) = λ words asked. OfUnfed (record {
  asks = record { name = name; budget = steps; argument = argument; asked = asked; program = program; has_program = has };
  run = cut.0;
  rose = cut.1;
})

-- The file has a program not all of which runs.
pub runs-unbuilt : (before now : Supplies) (name : List ℕ) (line steps : ℕ) (argument : Option (List ℕ)) (told : Conclusion)
    → HasSource before.files name (IsUnbuiltAt line) → Unread before now → RanNothing 240 [] (line_bad line unbuilt) told
    → RunsFile name steps argument before now told
runs-unbuilt before now name line steps argument told has unread ran = λ words asked. OfUnbuilt line ran unread (record {
  name = name;
  budget = steps;
  argument = argument;
  asked = asked;
  has = has;
})

-- The source is refused.
pub runs-refused : (before now : Supplies) (name : List ℕ) (steps : ℕ) (argument : Option (List ℕ)) (one : SourceRefused) (told : Conclusion)
    → HasRefused before.files name one → Unread before now → IsRefusal one told → RunsFile name steps argument before now told
runs-refused before now name steps argument refused.Long told has unread ran =
    λ words asked. OfLong ran unread (record { name = name; asked = ToRun steps argument asked; has = has })
runs-refused before now name steps argument refused.Deep told has unread ran =
    λ words asked. OfDeep ran unread (record { name = name; asked = ToRun steps argument asked; has = has })
runs-refused before now name steps argument (refused.Bad line number) told has unread ran =
    λ words asked. OfBad line number ran unread (record { name = name; asked = ToRun steps argument asked; has = has })
runs-refused before now name steps argument refused.OutOfMemory told has unread ran = absurd ran

same-report : (number : ℕ) (output line other : List ℕ) (told : Conclusion) → line ≡ other → RanNothing number output line told
    → RanNothing number output other told
same-report number output line other told is ran = subst (λ (l : List ℕ). RanNothing number output l told) is ran

-- The shelf has failed.
no-file : (words : List (List ℕ)) (asks : Request) (before now : Supplies) (line : List ℕ) (told : Conclusion) → request words ≡ Some asks
    → Rose before.shelf_faults now.shelf_faults → Unread before now → line ≡ line_244 → RanNothing 244 [] line told → IsConclusion words before now told
no-file words asks before now line told asked rose unread is ran =
    OfShelf (same-report 244 [] line line_244 told is ran) unread (record { asks = asks; asked = asked; rose = rose })

pub runs-no-file : (before now : Supplies) (name line : List ℕ) (steps : ℕ) (argument : Option (List ℕ)) (told : Conclusion)
    → Rose before.shelf_faults now.shelf_faults → Unread before now → line ≡ line_244 → RanNothing 244 [] line told
    → RunsFile name steps argument before now told
runs-no-file before now name line steps argument told rose unread is ran = λ words asked.
    no-file words (Run asked.workers steps asked.schedule name argument) before now line told asked.asked rose unread is ran

pub checks-no-file : (before now : Supplies) (name line : List ℕ) (told : Conclusion)
    → Rose before.shelf_faults now.shelf_faults → Unread before now → line ≡ line_244 → RanNothing 244 [] line told → ChecksFile name before now told
checks-no-file before now name line told rose unread is ran = λ words asked.
    no-file words (Check name) before now line told asked rose unread is ran

-- What running a file comes to is what the request for it comes to, and so is what checking it comes to.
pub fulfils-run : (workers steps : ℕ) (schedule : Option (List ℕ)) (name : List ℕ) (argument : Option (List ℕ)) (before now : Supplies)
    (told : Conclusion) → RunsFile name steps argument before now told → Fulfils (Run workers steps schedule name argument) before now told
fulfils-run workers steps schedule name argument before now told runs = λ words asked.
    runs words (record { workers = workers; schedule = schedule; asked = asked })

pub fulfils-check : (name : List ℕ) (before now : Supplies) (told : Conclusion) → ChecksFile name before now told → Fulfils (Check name) before now told
fulfils-check name before now told checks = λ words asked. checks words asked

-- ---- statuses

-- the status of a world is one of a run
small : (n : ℕ) (test : Bool) → nat_le n 239 ≡ test → (if test then n else 0) < 240
small n true is = let least : n ≤ 239 = leb-true n 239 is in omega (arith, least)
small n false is = lit< tt

status-number : (number : Option ℤ) → status_number number < 240
status-number None = lit< tt
status-number (Some (pos n)) = small n (nat_le n 239) refl
status-number (Some (negsuc n)) = lit< tt

status-value : (value : Value) → status_value value < 240
status-value (Str text) = status-number (num text)
status-value (Ref object) = lit< tt

status-finished : (ending : Ending) → IsRunStatus (status_finished ending)
status-finished NoValue = inl (lit< tt)
status-finished (Given value) = inl (status-value value)
status-finished (FailedBy number) = inr (inr (inr refl))

status-run : (w : World) (e : End) → IsRunStatus (status_at w e)
status-run w Going = inl (lit< tt)
status-run w Finished = status-finished w.main
status-run w Stuck = inr (inl refl)
status-run w Spent = inr (inr (inl refl))

run-status : (words : List (List ℕ)) (before now : Supplies) (told : Conclusion) → Ran words before now told → IsRunStatus told.status
run-status words before now told ran = subst IsRunStatus (sym ran.run.run.status) (status-run ran.run.run.world (end ran.run.run.world))

not-run : (n : ℕ) → 239 < n → (n ≡ 241 → ⊥) → (n ≡ 242 → ⊥) → (n ≡ 249 → ⊥) → IsRunStatus n → ⊥
not-run n above a b c (inl low) = omega arith
not-run n above a b c (inr (inl is)) = a is
not-run n above a b c (inr (inr (inl is))) = b is
not-run n above a b c (inr (inr (inr is))) = c is

run-is-not : (n k : ℕ) → IsRunStatus n → (IsRunStatus k → ⊥) → n ≡ k → ⊥
run-is-not n k run other is = other (subst IsRunStatus is run)

no-240 : IsRunStatus 240 → ⊥
no-240 = not-run 240 (omega arith) (λ e. omega arith) (λ e. omega arith) (λ e. omega arith)

no-243 : IsRunStatus 243 → ⊥
no-243 = not-run 243 (omega arith) (λ e. omega arith) (λ e. omega arith) (λ e. omega arith)

no-244 : IsRunStatus 244 → ⊥
no-244 = not-run 244 (omega arith) (λ e. omega arith) (λ e. omega arith) (λ e. omega arith)

no-245 : IsRunStatus 245 → ⊥
no-245 = not-run 245 (omega arith) (λ e. omega arith) (λ e. omega arith) (λ e. omega arith)

no-246 : IsRunStatus 246 → ⊥
no-246 = not-run 246 (omega arith) (λ e. omega arith) (λ e. omega arith) (λ e. omega arith)

no-247 : IsRunStatus 247 → ⊥
no-247 = not-run 247 (omega arith) (λ e. omega arith) (λ e. omega arith) (λ e. omega arith)

no-250 : IsRunStatus 250 → ⊥
no-250 = not-run 250 (omega arith) (λ e. omega arith) (λ e. omega arith) (λ e. omega arith)

told-texts : (before now : Ports) (number : ℕ) (output report : List ℕ) (told : Conclusion) (steps : ℕ) (schedule : List ℕ)
    → RanNothing number output report told → Unread before.supplies now.supplies → IsTold before now told → steps ≡ told.steps
    → schedule ≡ told.schedule.items → ToldTexts before now output report steps schedule
told-texts before now number output report told steps schedule ran unread is is_steps is_schedule = record {
  no_steps = is_steps ∙ ran.steps;
  no_schedule = is_schedule ∙ ran.schedule;
  unread = unread;
  wrote = subst (λ (bytes : List ℕ). Appends before.out now.out bytes) ran.wrote is.wrote;
  reported = subst (λ (bytes : List ℕ). Appends before.err now.err bytes) ran.reported is.reported;
}

-- what was told whole, by its status
told-by-status : (words : List (List ℕ)) (before now : Ports) (status steps : ℕ) (schedule : List ℕ) (told : Conclusion)
    → IsConclusion words before.supplies now.supplies told → IsTold before now told
    → status ≡ told.status → steps ≡ told.steps → schedule ≡ told.schedule.items → ByStatus words before now status steps schedule
told-by-status words before now status steps schedule told (OfRun ran) is is_status is_steps is_schedule =
    let runs : IsRunStatus status = subst IsRunStatus (sym is_status) (run-status words before.supplies now.supplies told ran) in
    record {
      listed = inl runs;
      of_run = λ r. inl (record {
        told = told;
        ran = ran;
        gives_status = is_status;
        whole = record { gives_steps = is_steps; gives_schedule = is_schedule; written = is };
      });
      at_240 = λ e. absurd (run-is-not status 240 runs no-240 e);
      at_243 = λ e. absurd (run-is-not status 243 runs no-243 e);
      at_244 = λ e. absurd (run-is-not status 244 runs no-244 e);
      at_245 = λ e. absurd (run-is-not status 245 runs no-245 e);
      at_246 = λ e. absurd (run-is-not status 246 runs no-246 e);
      at_250 = λ e. absurd (run-is-not status 250 runs no-250 e);
    }
told-by-status words before now status steps schedule told (OfUnfed ran) is is_status is_steps is_schedule =
    let number : status ≡ 245 = is_status ∙ ran.run.run.status in
    record {
      listed = inr (inr (inr (inr (inl number))));
      of_run = λ r. absurd (run-is-not status 245 r no-245 number);
      at_240 = λ e. absurd (omega (arith, number, e));
      at_243 = λ e. absurd (omega (arith, number, e));
      at_244 = λ e. absurd (omega (arith, number, e));
      at_245 = λ e. record { told = told; ran = ran; whole = record { gives_steps = is_steps; gives_schedule = is_schedule; written = is } };
      at_246 = λ e. absurd (omega (arith, number, e));
      at_250 = λ e. absurd (omega (arith, number, e));
    }
told-by-status words before now status steps schedule told (OfUnbuilt line ran unread asks) is is_status is_steps is_schedule =
    let number : status ≡ 240 = is_status ∙ ran.status in
    record {
      listed = inr (inl number);
      of_run = λ r. absurd (run-is-not status 240 r no-240 number);
      at_240 = λ e. inl (record { line = line; asks = asks; told = told-texts before now 240 [] (line_bad line unbuilt) told steps schedule ran unread is is_steps is_schedule });
      at_243 = λ e. absurd (omega (arith, number, e));
      at_244 = λ e. absurd (omega (arith, number, e));
      at_245 = λ e. absurd (omega (arith, number, e));
      at_246 = λ e. absurd (omega (arith, number, e));
      at_250 = λ e. absurd (omega (arith, number, e));
    }
told-by-status words before now status steps schedule told (OfFine ran unread checks) is is_status is_steps is_schedule =
    let number : status ≡ 0 = is_status ∙ ran.status in
    record {
      listed = inl (subst IsRunStatus (sym number) (inl (lit< tt)));
      of_run = λ r. inr (number, checks, told-texts before now 0 line_ok [] told steps schedule ran unread is is_steps is_schedule);
      at_240 = λ e. absurd (omega (arith, number, e));
      at_243 = λ e. absurd (omega (arith, number, e));
      at_244 = λ e. absurd (omega (arith, number, e));
      at_245 = λ e. absurd (omega (arith, number, e));
      at_246 = λ e. absurd (omega (arith, number, e));
      at_250 = λ e. absurd (omega (arith, number, e));
    }
told-by-status words before now status steps schedule told (OfBad line code ran unread asks) is is_status is_steps is_schedule =
    let number : status ≡ 240 = is_status ∙ ran.status in
    record {
      listed = inr (inl number);
      of_run = λ r. absurd (run-is-not status 240 r no-240 number);
      at_240 = λ e. inr (record { line = line; number = code; asks = asks; told = told-texts before now 240 [] (line_bad line code) told steps schedule ran unread is is_steps is_schedule });
      at_243 = λ e. absurd (omega (arith, number, e));
      at_244 = λ e. absurd (omega (arith, number, e));
      at_245 = λ e. absurd (omega (arith, number, e));
      at_246 = λ e. absurd (omega (arith, number, e));
      at_250 = λ e. absurd (omega (arith, number, e));
    }
told-by-status words before now status steps schedule told (OfLong ran unread asks) is is_status is_steps is_schedule =
    let number : status ≡ 250 = is_status ∙ ran.status in
    record {
      listed = inr (inr (inr (inr (inr (inr (inr number))))));
      of_run = λ r. absurd (run-is-not status 250 r no-250 number);
      at_240 = λ e. absurd (omega (arith, number, e));
      at_243 = λ e. absurd (omega (arith, number, e));
      at_244 = λ e. absurd (omega (arith, number, e));
      at_245 = λ e. absurd (omega (arith, number, e));
      at_246 = λ e. absurd (omega (arith, number, e));
      at_250 = λ e. inl (asks, told-texts before now 250 [] line_long told steps schedule ran unread is is_steps is_schedule);
    }
told-by-status words before now status steps schedule told (OfDeep ran unread asks) is is_status is_steps is_schedule =
    let number : status ≡ 250 = is_status ∙ ran.status in
    record {
      listed = inr (inr (inr (inr (inr (inr (inr number))))));
      of_run = λ r. absurd (run-is-not status 250 r no-250 number);
      at_240 = λ e. absurd (omega (arith, number, e));
      at_243 = λ e. absurd (omega (arith, number, e));
      at_244 = λ e. absurd (omega (arith, number, e));
      at_245 = λ e. absurd (omega (arith, number, e));
      at_246 = λ e. absurd (omega (arith, number, e));
      at_250 = λ e. inr (asks, told-texts before now 250 [] line_deep told steps schedule ran unread is is_steps is_schedule);
    }
told-by-status words before now status steps schedule told (OfNoRequest ran unread none) is is_status is_steps is_schedule =
    let number : status ≡ 243 = is_status ∙ ran.status in
    record {
      listed = inr (inr (inl number));
      of_run = λ r. absurd (run-is-not status 243 r no-243 number);
      at_240 = λ e. absurd (omega (arith, number, e));
      at_243 = λ e. (none, told-texts before now 243 [] line_243 told steps schedule ran unread is is_steps is_schedule);
      at_244 = λ e. absurd (omega (arith, number, e));
      at_245 = λ e. absurd (omega (arith, number, e));
      at_246 = λ e. absurd (omega (arith, number, e));
      at_250 = λ e. absurd (omega (arith, number, e));
    }
told-by-status words before now status steps schedule told (OfShelf ran unread failed) is is_status is_steps is_schedule =
    let number : status ≡ 244 = is_status ∙ ran.status in
    record {
      listed = inr (inr (inr (inl number)));
      of_run = λ r. absurd (run-is-not status 244 r no-244 number);
      at_240 = λ e. absurd (omega (arith, number, e));
      at_243 = λ e. absurd (omega (arith, number, e));
      at_244 = λ e. (failed, told-texts before now 244 [] line_244 told steps schedule ran unread is is_steps is_schedule);
      at_245 = λ e. absurd (omega (arith, number, e));
      at_246 = λ e. absurd (omega (arith, number, e));
      at_250 = λ e. absurd (omega (arith, number, e));
    }
told-by-status words before now status steps schedule told (OfMemory ran) is is_status is_steps is_schedule =
    let number : status ≡ 247 = is_status ∙ ran.status in
    record {
      listed = inr (inr (inr (inr (inr (inr (inl number))))));
      of_run = λ r. absurd (run-is-not status 247 r no-247 number);
      at_240 = λ e. absurd (omega (arith, number, e));
      at_243 = λ e. absurd (omega (arith, number, e));
      at_244 = λ e. absurd (omega (arith, number, e));
      at_245 = λ e. absurd (omega (arith, number, e));
      at_246 = λ e. absurd (omega (arith, number, e));
      at_250 = λ e. absurd (omega (arith, number, e));
    }

tells-by-status : (words : List (List ℕ)) (before now : Ports) (status steps : ℕ) (schedule : List ℕ) (told : Conclusion)
    → IsConclusion words before.supplies now.supplies told → Tells before now told status
    → steps ≡ told.steps → schedule ≡ told.schedule.items → ByStatus words before now status steps schedule
tells-by-status words before now status steps schedule told why (Whole is_status is) is_steps is_schedule =
    told-by-status words before now status steps schedule told why is is_status is_steps is_schedule
tells-by-status words before now status steps schedule told why (AtFault number rose torn) is_steps is_schedule = record {
  listed = inr (inr (inr (inr (inr (inl number)))));
  of_run = λ r. absurd (run-is-not status 246 r no-246 number);
  at_240 = λ e. absurd (omega (arith, number, e));
  at_243 = λ e. absurd (omega (arith, number, e));
  at_244 = λ e. absurd (omega (arith, number, e));
  at_245 = λ e. absurd (omega (arith, number, e));
  at_246 = λ e. rose;
  at_250 = λ e. absurd (omega (arith, number, e));
}
tells-by-status words before now status steps schedule told why (AtWant number torn) is_steps is_schedule = record {
  listed = inr (inr (inr (inr (inr (inr (inl number))))));
  of_run = λ r. absurd (run-is-not status 247 r no-247 number);
  at_240 = λ e. absurd (omega (arith, number, e));
  at_243 = λ e. absurd (omega (arith, number, e));
  at_244 = λ e. absurd (omega (arith, number, e));
  at_245 = λ e. absurd (omega (arith, number, e));
  at_246 = λ e. absurd (omega (arith, number, e));
  at_250 = λ e. absurd (omega (arith, number, e));
}

-- An answer, by its status.
pub by-status : (words : List (List ℕ)) (before now : Ports) (status steps : ℕ) (schedule : List ℕ)
    → IsAnswer words before now status steps schedule → ByStatus words before now status steps schedule
by-status words before now status steps schedule is =
    tells-by-status words before now status steps schedule is.told is.conclusion is.tells is.gives_steps is.gives_schedule

-- How the telling went, by what the sinks answered to these bytes.
abbrev pub TellsPorts : Ports → Ports → List ℕ → List ℕ → Accepted → Type 0
TellsPorts before now output report accepted =
    TellsBoth before.out now.out before.out_faults now.out_faults before.err now.err before.err_faults now.err_faults output report accepted

-- the same for what is told, once the sinks answered so
tells-told : (before now : Ports) (told : Conclusion) (output report : List ℕ) (accepted is : Accepted)
    → TellsPorts before now output report accepted → output ≡ told.output.items → report ≡ told.report.items → accepted ≡ is
    → TellsPorts before now told.output.items told.report.items is
tells-told before now told output report accepted is tells is_output is_report same =
    subst (λ (a : Accepted). TellsPorts before now told.output.items told.report.items a) same
    (subst (λ (bytes : List ℕ). TellsPorts before now told.output.items bytes accepted) is_report
    (subst (λ (bytes : List ℕ). TellsPorts before now bytes report accepted) is_output tells))

pub tells-all : (before now : Ports) (told : Conclusion) (output report : List ℕ) (accepted : Accepted) (status : ℕ)
    → TellsPorts before now output report accepted → output ≡ told.output.items → report ≡ told.report.items
    → accepted ≡ All → status ≡ told.status → Tells before now told status
tells-all before now told output report accepted status tells is_output is_report is is_status =
    let both : TellsPorts before now told.output.items told.report.items All = tells-told before now told output report accepted All tells is_output is_report is in
    Whole is_status (record { wrote = both.0; reported = both.1 })

pub tells-failed : (before now : Ports) (told : Conclusion) (output report : List ℕ) (accepted : Accepted) (status : ℕ)
    → TellsPorts before now output report accepted → output ≡ told.output.items → report ≡ told.report.items
    → accepted ≡ Failed → status ≡ 246 → Tells before now told status
tells-failed before now told output report accepted status tells is_output is_report is is_status =
    let both : TellsPorts before now told.output.items told.report.items Failed = tells-told before now told output report accepted Failed tells is_output is_report is in
    AtFault is_status both.0 (record { wrote = both.1; reported = both.2 })

pub tells-nothing : (before now : Ports) (told : Conclusion) (output report : List ℕ) (accepted : Accepted) (status : ℕ)
    → TellsPorts before now output report accepted → output ≡ told.output.items → report ≡ told.report.items
    → accepted ≡ NoMemory → status ≡ 247 → Tells before now told status
tells-nothing before now told output report accepted status tells is_output is_report is is_status =
    let both : TellsPorts before now told.output.items told.report.items NoMemory = tells-told before now told output report accepted NoMemory tells is_output is_report is in
    AtWant is_status (record { wrote = both.0; reported = both.1 })
