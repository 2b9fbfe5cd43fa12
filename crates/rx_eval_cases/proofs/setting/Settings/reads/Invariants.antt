use Rattle.std.proofs.Common.{◌≡◌, All}
use Rattle.rx_eval_cases.specs.Ready.{set_value}
use Rattle.rx_eval_cases.proofs.setting.Settings.reads.Given as goal

abbrev pub invariant-loop-name : goal.invariant-loop-name
invariant-loop-name l = All (λ entry. entry.1 ≡ set_value l.self.values entry.0) l.reads
