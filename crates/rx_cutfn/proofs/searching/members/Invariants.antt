use Rattle.std.proofs.Common.{◌≡◌, length, take}
use Rattle.rx_cutfn.specs.Searching.{TellsMembers}
use Rattle.rx_cutfn.proofs.searching.members.Given as goal

abbrev pub invariant-loop-byte : goal.invariant-loop-byte
invariant-loop-byte l = record {
  long : length l.members ≡ 256;
  told : TellsMembers l.members (take l.byte-index l.reference);
}
