use Rattle.std.proofs.Common.{◌≡◌, ◌+◌, ◌∙◌, arith}
use Rattle.rx_frames.specs.Activities.{frames_at}
use Rattle.rx_names.specs.Homes.{home, variables_at}
use Rattle.rx_names.proofs.HomeLemmas.{lives-here, lives-in_pool, lives-lower}
use Rattle.rx_names.proofs.home.home_of.Goals as goal

pub returns-in-Here : goal.returns-in-Here
returns-in-Here c =
    lives-here (frames_at c.args.stacks.now c.args.a) c.loop-down.down c.args.name.now (home (variables_at c.args.stacks.now c.args.a) c.args.name.now)
    c.loop-down.invariant.walked c.in-Here.ensures

pub returns-in-Pool : goal.returns-in-Pool
returns-in-Pool c =
    lives-in_pool (frames_at c.args.stacks.now c.args.a) c.loop-down.down c.args.name.now (home (variables_at c.args.stacks.now c.args.a) c.args.name.now) c.in-Pool.pool
    c.loop-down.invariant.walked c.in-Pool.ensures

pub loop-down-preserved : goal.loop-down-preserved
loop-down-preserved c = record {
  within = omega (arith, c.height-height.ensures.height, c.shared-down.ensures.within);
  walked =
      lives-lower (frames_at c.args.stacks.now c.args.a) c.loop-down.down c.shared-down.result c.args.name.now (home (variables_at c.args.stacks.now c.args.a) c.args.name.now)
      c.loop-down.invariant.walked c.in-Below.ensures c.shared-down.ensures.shared c.shared-down.ensures.within;
}
