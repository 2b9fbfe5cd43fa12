use Rattle.std.proofs.Common.{◌≡◌, take}
use Rattle.rx_clause_tree.proofs.template.Parse.share.Given as goal

abbrev pub invariant-loop-template : goal.invariant-loop-template
invariant-loop-template l = l.templates ≡ take l.template-index l.self.templates
