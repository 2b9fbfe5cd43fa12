use Rattle.std.proofs.Common.{◌∙◌, sym}
use Rattle.rx_builtin.proofs.NumeralLemmas.{all_within-more}
use Rattle.rx_builtin.proofs.number.value.Goals as goal

pub made_of-requires : goal.made_of-requires
made_of-requires c = record {
  short = all_within-more c.args.a.now c.args.digits c.requires.at_most_18 (sym c.are_within.ensures ∙ c.if-not-are_within.false);
}
