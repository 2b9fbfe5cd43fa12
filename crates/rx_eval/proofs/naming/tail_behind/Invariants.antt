use Rattle.std.proofs.Common.{◌≡◌, ◌≤◌, ◌++◌, drop, length}
use Rattle.rx_eval.specs.Reading.{behind_periods}
use Rattle.rx_eval.proofs.naming.tail_behind.Given as goal

abbrev pub invariant-loop-text : goal.invariant-loop-text
invariant-loop-text l = record {
  same : l.tail.items ++ behind_periods (drop l.text-index l.texts) ≡ l.first ++ behind_periods l.texts;
  fits : length l.tail.items ≤ l.room;
}
