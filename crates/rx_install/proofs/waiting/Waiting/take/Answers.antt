use Rattle.std.proofs.Common.{ap, subst, ◌∙◌}
use Rattle.rx_vars.specs.Tables.{table_of}
use Rattle.rx_install.specs.Waiting.{Changes, waiters}
use Rattle.rx_install.proofs.WaitingLemmas.{changes-none, changes-written, waiters-absent, waiters-found}
use Rattle.rx_install.proofs.waiting.Waiting.take.Goals as goal
use Rattle.rx_install.proofs.waiting.Waiting.take.Goals.{in-Some, in-None}

pub returns-clause-taken : goal.returns-clause-taken
returns-clause-taken c =
    let entries = c.self.inside.lists.entries in
    elim c.match-get_mut.branch [
      | in-Some w ↦ w.result-is ∙ w.replace.ensures.value ∙ waiters-found entries c.args.self.now c.args.name.now c.self.view_is w.in-Some.list.now w.in-Some.ensures.value
      | in-None w ↦ w.result-is ∙ c.new-none.ensures ∙ waiters-absent entries c.args.self.now c.args.name.now c.self.view_is w.in-None.ensures.value
    ]

pub returns-clause-rest : goal.returns-clause-rest
returns-clause-rest c =
    let entries = c.self.inside.lists.entries in
    let old = c.args.self.now in
    let name = c.args.name.now in
    elim c.match-get_mut.branch [
      | in-Some w ↦
          let new = (c.get_mut.follows.lender w.replace.new.dest).entries in
          let written = changes-written entries old name c.self.view_is new w.in-Some.list.now w.replace.new.dest w.in-Some.ensures.value (c.get_mut.follows.holds w.replace.new.dest).0 in
          let cleared = subst (Changes old (table_of new) name) (w.replace.ensures.after ∙ c.new-none.ensures) written in
          λ other. ap (λ inside. waiters (table_of inside.lists.entries) other) w.self-inside-is ∙ cleared other
      | in-None w ↦
          changes-none old (table_of c.match-get_mut.self-inside.lists.entries) name
          (ap (λ inside. table_of inside.lists.entries) w.self-inside-is ∙ ap (λ lists. table_of lists.entries) c.get_mut.follows.holds-at-none ∙ c.self.view_is)
          (waiters-absent entries old name c.self.view_is w.in-None.ensures.value)
    ]
