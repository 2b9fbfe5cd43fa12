use Rattle.std.proofs.Common.{◌≡◌, length, drop}
use Rattle.rx_cutfn.specs.Letters.{IsTable}
use Rattle.rx_cutfn.proofs.letters.table.Given as goal

abbrev pub invariant-loop-place : goal.invariant-loop-place
invariant-loop-place l = record {
  long : length l.table ≡ 256;
  told : IsTable l.table (drop l.place l.output) (drop l.place l.input) l.pad;
}
