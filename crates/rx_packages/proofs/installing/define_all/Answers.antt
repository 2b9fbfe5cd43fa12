use Rattle.rx_packages.proofs.InstallLemmas.{can_more, table_more}
use Rattle.rx_packages.proofs.installing.define_all.Goals as goal

pub loop-class-preserved : goal.loop-class-preserved
loop-class-preserved c = record {
  table = table_more c.args.classes.now c.loop-class.table c.define.new.self c.loop-class.class-index c.class-item.result c.in_ok-share_class.field-0
      c.loop-class.invariant.table c.in-Ok.ensures.defined c.in_ok-share_class.ensures c.loop-class-test.true c.class-item.is;
  can = can_more c.loop-class.table c.define.new.self c.in_ok-share_class.field-0 c.in-Ok.ensures.defined c.in-Ok.ensures.fits c.loop-class.invariant.can;
}
