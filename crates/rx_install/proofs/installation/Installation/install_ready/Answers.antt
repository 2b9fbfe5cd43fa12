use Rattle.std.proofs.Common.{[], ap, arith, refl, subst, ◌∙◌}
use Rattle.std.specs.Prelude.{slice_set}
use Rattle.std.proofs.lemmas.Option.{slice_get_within}
use Rattle.rx_install.specs.Waiting.{Changes, waiters}
use Rattle.rx_install.proofs.NextLemmas.{end-lacks, no-keys, some-taken, taken-here, taken-next}
use Rattle.rx_install.proofs.installation.Installation.install_ready.Goals as goal

pub returns-in_default : goal.returns-in_default
returns-in_default c = record {
  same = record { installed = refl; left = refl };
  waiting = end-lacks c.args.self.now c.requires (no-keys c.args.self.now.ready.keys c.pop_first.result c.in_default.is c.pop_first.ensures.variant.1);
}

pub index_mut-requires : goal.index_mut-requires
index_mut-requires c =
    let is = c.requires.ready c.in-Some.place c.in-Some.ensures.member in
    let within = slice_get_within c.args.self.now.left.items c.in-Some.place _ is.1 in
    omega (arith, within, c.args.self.now.left.ok.0)

pub unwrap-class-requires : goal.unwrap-class-requires
unwrap-class-requires c =
    let is = c.requires.ready c.in-Some.place c.in-Some.ensures.member in
    some-taken c.args.self.now.left.items c.in-Some.place c.index_mut.result.now c.take.result is.0 is.1 c.index_mut.ensures.value c.take.ensures.value

pub returns : goal.returns
returns c =
    let old = c.args.self.now in
    let place = c.in-Some.place in
    let is = c.requires.ready place c.in-Some.ensures.member in
    taken-next old _ place c.unwrap-class.result c.take-woken.result c.requires
    (record {
      here =
          taken-here old.left.items place c.index_mut.result.now c.take.result c.unwrap-class.result (slice_get_within old.left.items place _ is.1)
          c.index_mut.ensures.value c.take.ensures.value c.unwrap-class.ensures;
      there = c.in-Some.ensures.member;
      least = c.in-Some.ensures.least;
      installed = c.in_ok-push.ensures.ok;
      left = ap (λ taken. slice_set old.left.items place taken) c.take.ensures.after;
      ready = c.in-Some.ensures.updates;
      waiting = subst (λ name. Changes old.waiting c.take-woken.new.self name []) c.bytes.ensures.bytes c.take-woken.ensures.rest;
      woken = c.take-woken.ensures.taken ∙ ap (waiters old.waiting) c.bytes.ensures.bytes;
    })
