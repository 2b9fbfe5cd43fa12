use Rattle.rx_builtin.proofs.NameLemmas.{option_map-if}
use Rattle.rx_builtin.proofs.function.function_named.Goals as goal

pub returns : goal.returns
returns c = simp option_map-if at c.beside.ensures
