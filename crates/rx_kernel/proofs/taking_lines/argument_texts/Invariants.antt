use Rattle.std.proofs.Common.{◌≡◌, map, take}
use Rattle.rx_machine.specs.Templates.{argument_text}
use Rattle.rx_kernel.proofs.taking_lines.argument_texts.Given as goal

abbrev pub invariant-loop-argument : goal.invariant-loop-argument
invariant-loop-argument l = l.texts ≡ map argument_text (take l.argument-index l.arguments)
