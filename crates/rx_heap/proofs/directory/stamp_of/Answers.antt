use Rattle.std.proofs.Common.{◌∙◌}
use Rattle.rx_vars.proofs.TableLemmas.{look_up-entries}
use Rattle.rx_heap.proofs.directory.stamp_of.Goals as goal

pub returns : goal.returns
returns c = c.copied.ensures ∙ c.get.ensures.value ∙ look_up-entries c.args.stamps.now.entries c.args.name.now
