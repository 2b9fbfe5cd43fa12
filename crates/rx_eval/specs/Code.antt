-- Postfix code: what is fixed for its body, and its instructions.
use Rattle.std.specs.Prelude.{ℕ, List, [], reverse}
use Rattle.rx_tree.specs.declared.value.Value.{Value}
use Rattle.rx_eval.specs.declared.code.Instr.{Instr}
use Rattle.rx_eval.specs.Bodies.{Body}
use Rattle.rx_eval.specs.declared.facts.Facts.{Facts}
use Rattle.rx_eval.specs.Evaluation.{AllFound, evaluate_all}
use Rattle.rx_eval.specs.Places.{partial}
use Rattle.rx_eval.specs.Reading.{Scene}

pub record Code : Type 0 where
  pub body : Body
  pub instrs : List Instr

-- code without an instruction
abbrev pub no_code : Body → Code
no_code body = record { body = body; instrs = [] }

-- what the trees of code are evaluated over
abbrev pub scene : Code → Facts → Scene
scene code facts = record { body = code.body; facts = facts }

-- what the trees come to that a place of code stands for, where these values stand there, the last one last
abbrev pub evaluation : Code → Facts → ℕ → List Value → AllFound
evaluation code facts place values = evaluate_all (scene code facts) (partial code.instrs place (reverse values))
