-- What the positions in a program's code stand for.
use Rattle.std.specs.Prelude.{◌≡◌, List, [], Option, None, Some}
use Rattle.rx_clause_tree.specs.declared.clause.Clause.{Clause}
use Rattle.rx_clause_tree.specs.declared.package.Package.{Package}
use Rattle.rx_frames.specs.declared.position.Position.{Position}
use Rattle.rx_frames.specs.Frames.{Doing}
use Rattle.rx_frames.specs.Activities.{Activity}
use Rattle.rx_flow.specs.Places.{todo}
use Rattle.rx_eval.specs.Bodies.{Body}
use Rattle.rx_eval.specs.Pauses.{Pause, left_of}
use Rattle.rx_eval.specs.Places.{Trees}
use Rattle.rx_machine.specs.Scenes.{body_of}
use Rattle.rx_machine.specs.Todo.{Todo, clauses_in}
use Rattle.rx_kernel.specs.Views.{Reading, activities_view}

-- what is left of the expressions of the first clause
abbrev pub trees_left : Option Pause → Trees
trees_left None = []
trees_left (Some pause) = left_of pause

abbrev pub todo_of : List Clause → Position → Todo
todo_of clauses position = record {
  items = todo clauses position;
  call = position.operands.call;
  trees = trees_left position.operands.rest;
  marks = position.marks;
}

-- A position in the code of a body stands for clauses and loops, and for what is left of the first one's expressions.
abbrev pub reading : Package → Reading Todo
reading program body position = todo_of (clauses_in program body) position

-- ---- what is fixed for the code that goes on

-- what is fixed for the code of an evaluation that stands at a call, or this where none does
abbrev pub fixed_for : Body → Option Pause → Body
fixed_for body None = body
fixed_for body (Some pause) = pause.code.body

-- what is fixed for the code with which a frame goes on
abbrev pub fixed_for_code : Package → Reading Body
fixed_for_code program body position = fixed_for (body_of program body) position.operands.rest

-- what is fixed for the body of a frame
abbrev pub fixed_for_body : Package → Reading Body
fixed_for_body program body position = body_of program body

-- its bodies begin so, and no answer changes what is fixed
abbrev pub by_bodies : Package → Doing Body
by_bodies program = record { beginning = body_of program; answered = λ answer body. body }

-- In each frame the code that goes on is that of its body.
abbrev pub CodesFit : Package → List (Activity Position) → Type 0
CodesFit program activities = activities_view (fixed_for_code program) activities ≡ activities_view (fixed_for_body program) activities
