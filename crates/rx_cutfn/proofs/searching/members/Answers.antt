use Rattle.std.proofs.Common.{false, refl}
use Rattle.std.proofs.lemmas.List.{get_or-replicate}
use Rattle.rx_cutfn.proofs.searching.members.Goals as goal

pub loop-byte-init : goal.loop-byte-init
loop-byte-init c = record { long = refl; told = λ byte below. get_or-replicate 256 byte false false below }
