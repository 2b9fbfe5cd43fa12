use Rattle.std.proofs.Common.{◌≡◌, ◌<◌, ◌^◌}
use Rattle.rx_whole.proofs.powers.power_below.Given as goal

abbrev pub invariant-loop : goal.invariant-loop
invariant-loop l = record {
  so_far : l.power ≡ l.base ^ l.counter;
  below_limit : l.power < l.limit;
}
