use Rattle.std.proofs.Common.{refl}
use Rattle.rx_top.proofs.Endings.{by-status, tells-all, tells-failed, tells-nothing}
use Rattle.rx_top.proofs.top.rexx_plain.Goals as goal
use Rattle.rx_top.proofs.top.rexx_plain.Goals.{in-All, in-Failed, in-NoMemory}

pub returns-clause-answer : goal.returns-clause-answer
returns-clause-answer g c = record {
  told = c.conclude-told.result;
  conclusion = rw c.as_slice.ensures.value at c.conclude-told.ensures.conclusion;
  gives_steps = refl;
  gives_schedule = c.into_schedule.ensures;
  tells = elim c.match-tell.branch [
    | in-All w ↦ tells-all _ _ c.conclude-told.result c.as_slice-2.result.now c.as_slice-3.result.now c.tell.result c.match-tell.status
        c.tell.ensures c.as_slice-2.ensures.value c.as_slice-3.ensures.value w.in-All.is w.status-is
    | in-Failed w ↦ tells-failed _ _ c.conclude-told.result c.as_slice-2.result.now c.as_slice-3.result.now c.tell.result c.match-tell.status
        c.tell.ensures c.as_slice-2.ensures.value c.as_slice-3.ensures.value w.in-Failed.is w.status-is
    | in-NoMemory w ↦ tells-nothing _ _ c.conclude-told.result c.as_slice-2.result.now c.as_slice-3.result.now c.tell.result c.match-tell.status
        c.tell.ensures c.as_slice-2.ensures.value c.as_slice-3.ensures.value w.in-NoMemory.is w.status-is
  ];
}

pub returns-clause-by_status : goal.returns-clause-by_status
returns-clause-by_status g c = by-status _ _ _ _ _ _ (returns-clause-answer g c)
