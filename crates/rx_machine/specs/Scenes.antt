-- What the expressions of a frame are evaluated over.
use Rattle.std.specs.Prelude.{ℕ, ◌+◌, false, List, [], ◌∷◌, ◌++◌, codes, map, length}
use Rattle.rx_builtin.specs.declared.facts.Facts.{Facts as Read}
use Rattle.rx_tree.specs.declared.class.ClassDef.{ClassDef}
use Rattle.rx_clause_tree.specs.declared.clause.Clause.{Clause}
use Rattle.rx_clause_tree.specs.declared.package.Package.{Package}
use Rattle.rx_vars.specs.Tables.{with_new}
use Rattle.rx_classes.specs.Natives.{native_names}
use Rattle.rx_frames.specs.Frames.{Frame}
use Rattle.rx_names.specs.Homes.{value, variables_at}
use Rattle.rx_flow.specs.Rules.{rule}
use Rattle.rx_flow.specs.Todo.{label_of}
use Rattle.rx_flow.specs.Labels.{with_label}
use Rattle.rx_eval.specs.Bodies.{Body}
use Rattle.rx_eval.specs.declared.facts.Facts.{Facts}
use Rattle.rx_eval.specs.Evaluation.{AllFound, evaluate_all}
use Rattle.rx_eval.specs.Names.{reads}
use Rattle.rx_eval.specs.Places.{Trees}
use Rattle.rx_eval.specs.Reading.{Scene}
use Rattle.rx_machine.specs.Todo.{Todo, clauses_in}
use Rattle.rx_machine.specs.World.{World}

-- ---- what is fixed for a body

-- the labels of a body, each once; their numbers tell nothing
abbrev pub labels_from : List (List ℕ × ℕ) → List Clause → List (List ℕ × ℕ)
labels_from labels [] = labels
labels_from labels (clause ∷ clauses) = labels_from (with_label (label_of (rule clause)) 0 labels) clauses

-- names with the numbers from this one on, each once, as environment symbols
abbrev pub symbols_from : List (List ℕ × ℕ) → ℕ → List (List ℕ) → List (List ℕ × ℕ)
symbols_from symbols number [] = symbols
symbols_from symbols number (name ∷ names) = symbols_from (with_new symbols (0x2E ∷ name) number) (number + 1) names

abbrev pub class_name : ClassDef → List ℕ
class_name class = class.name

-- The objects that environment symbols name: `.NIL` is object 1, and behind it come the native classes and those of the program.
abbrev pub symbols_of : Package → List (List ℕ × ℕ)
symbols_of program = symbols_from [] 1 (codes "NIL" ∷ native_names ++ map class_name program.classes)

abbrev pub body_of : Package → ℕ → Body
body_of program number = record { labels = labels_from [] (clauses_in program number); objects = symbols_of program }

-- ---- what a frame's expressions read

-- what functions read
abbrev pub read_of : World → Frame Todo → Read
read_of w frame = record {
  digits = frame.digits;
  arguments = frame.arguments;
  queued = length w.queue;
  condition = frame.caught;
  lines = w.program.lines;
}

-- These expressions read their variables where they live for the activity's frame on top. No frame of the language that runs traps
-- NOVALUE.
abbrev pub facts_for : World → ℕ → Frame Todo → Trees → Facts
facts_for w a frame trees = record { frame = read_of w frame; reads = reads (value (variables_at w.activities a) w.pools) trees; novalue = false }

abbrev pub scene : World → ℕ → Frame Todo → Trees → Scene
scene w a frame trees = record { body = body_of w.program frame.body; facts = facts_for w a frame trees }

-- What the expressions of an activity's frame on top come to.
unfoldable pub comes_to : World → ℕ → Frame Todo → Trees → AllFound
comes_to w a frame trees = evaluate_all (scene w a frame trees) trees
