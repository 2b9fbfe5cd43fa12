use Rattle.std.proofs.Common.{ap, refl, arith, ◌∙◌}
use Rattle.rx_install.specs.States.{left_of}
use Rattle.rx_install.proofs.OrderLemmas.{left_of-all}
use Rattle.rx_install.proofs.StateLemmas.{begins-more, begins-sound}
use Rattle.rx_install.proofs.installation.Installation.begin.Goals as goal

pub loop-place-init : goal.loop-place-init
loop-place-init c = (
  begins-sound _ c.args.classes c.len-count.result c.in_ok-left.ensures (c.len-count.ensures ∙ c.in_ok-left.left.ok.0) c.new-2.ensures.empty c.new-3.ensures,
  c.new.ensures,
  ap left_of c.in_ok-left.ensures ∙ left_of-all c.args.classes,
)

pub look_at-requires : goal.look_at-requires
look_at-requires c = c.loop-place.invariant.0.looked_for (record { place = c.loop-place.place; there = 0 }) (omega arith, omega arith, refl)

pub loop-place-preserved : goal.loop-place-preserved
loop-place-preserved c =
    let same = c.in_ok-look_at.ensures.0 in (
      begins-more c.loop-place.state c.look_at.new.self c.loop-place.place c.len-count.result c.loop-place.invariant.0 c.in_ok-look_at.ensures,
      same.installed ∙ c.loop-place.invariant.1,
      ap left_of same.left ∙ c.loop-place.invariant.2,
    )
