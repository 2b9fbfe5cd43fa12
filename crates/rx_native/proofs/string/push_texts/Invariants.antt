use Rattle.std.proofs.Common.{◌≡◌, drop}
use Rattle.rx_native.specs.StringMethods.{texts_behind}
use Rattle.rx_native.proofs.string.push_texts.Given as goal

abbrev pub invariant-loop-argument : goal.invariant-loop-argument
invariant-loop-argument l = texts_behind l.texts (drop l.argument-index l.args) ≡ texts_behind l.fn.texts l.args
