-- One step of an activity.
use Rattle.std.specs.Prelude.{ℕ, true, false, if◌then◌else◌, List, [], ◌∷◌, Option, None, Some}
use Rattle.rx_clause_tree.specs.declared.simple.Simple.{Simple}
use Rattle.rx_frames.specs.declared.position.CallState.{CallState}
use Rattle.rx_frames.specs.declared.position.CallState.TheVariants.{NoCall, Awaiting, Answered}
use Rattle.rx_frames.specs.Frames.{Frame}
use Rattle.rx_frames.specs.Activities.{frames_at}
use Rattle.rx_flow.specs.Rules.{Rule, Does, Begins, Asks, Loops, Fails, rule}
use Rattle.rx_flow.specs.Todo.{Item, Whole, Again, past_labels}
use Rattle.rx_eval.specs.Evaluation.{AllFound, AllDone, AllRaise, AllNoValue, AllCall}
use Rattle.rx_eval.specs.Places.{Trees}
use Rattle.rx_machine.specs.Todo.{Todo}
use Rattle.rx_machine.specs.World.{World, Stepped, Done, counted, with_top}
use Rattle.rx_machine.specs.Turns.{Turn, awaits, goes_on, line}
use Rattle.rx_machine.specs.Ending.{ended}
use Rattle.rx_machine.specs.Raising.{raised}
use Rattle.rx_machine.specs.Sending.{calls, sends_first}
use Rattle.rx_machine.specs.Scenes.{comes_to}
use Rattle.rx_machine.specs.Answers.{Resumed, Left, Without, Raises, awaited_by, resumed}
use Rattle.rx_machine.specs.Clauses.{finish, refused, trees_of}

-- ---- a stretch: from the present place in a clause to its next call, the dispatch included, or to its end

abbrev pub raises : Turn → ℕ → Stepped
raises t number = Done (raised t.world t.number number (line t))

-- The expressions have come to this: the clause ends; or an error is raised; or a call is made, and the clause awaits its answer.
abbrev pub settle : Turn → Simple → AllFound → Stepped
settle t simple (AllDone values) = finish t simple values
settle t simple (AllRaise number) = raises t number
settle t simple (AllNoValue name) = Done (goes_on t)
settle t simple (AllCall pending trees) =
    Done (calls (awaits t (awaited_by simple pending.awaited trees) trees) t.number (line t) pending.sent)

abbrev pub stretch : Turn → Simple → Trees → Stepped
stretch t simple trees = settle t simple (comes_to t.world t.number t.frame trees)

-- a clause is begun
abbrev pub starts : Turn → Simple → Option ℕ → Stepped
starts t simple None = stretch t simple (trees_of t.frame.arguments simple)
starts t simple (Some number) = raises t number

-- a clause goes on behind its call
abbrev pub resumes : Turn → Simple → Resumed → Stepped
resumes t simple (Left trees) = stretch t simple trees
resumes t simple Without = finish t simple []
resumes t simple (Raises number) = raises t number

abbrev pub goes_by : Turn → CallState → Simple → Stepped
goes_by t NoCall simple = starts t simple (refused t.frame simple)
goes_by t (Awaiting how) simple = Done t.world
goes_by t (Answered how answer) simple = resumes t simple (resumed how answer t.frame.todo.trees)

-- Clauses that hold others, and loops, don't run yet.
abbrev pub goes : Turn → Rule → Stepped
goes t (Does simple) = goes_by t t.frame.todo.call simple
goes t (Begins clauses) = Done (goes_on t)
goes t (Asks test one other) = Done (goes_on t)
goes t (Loops header test clauses) = Done (goes_on t)
goes t Fails = Done (goes_on t)

abbrev pub rule_of : Item → Rule
rule_of (Whole clause) = rule clause
rule_of (Again clause state) = rule clause

abbrev pub turn : World → ℕ → Frame Todo → Item → List Item → Turn
turn w a frame item rest = record { world = w; number = a; frame = frame; item = item; rest = rest }

-- ---- kinds of step

-- The top frame reserves the pool for which it asked.
abbrev pub takes : World → ℕ → Frame Todo → World
takes w a frame = with_top w a (record frame { asks = false; reserves = true })

-- With nothing left to do a frame falls off, else comes a stretch.
abbrev pub step_items : World → ℕ → Frame Todo → List Item → Stepped
step_items w a frame [] = Done (ended w a frame None)
step_items w a frame (item ∷ rest) = goes (turn w a frame item rest) (rule_of item)

abbrev pub step_frame : World → ℕ → Frame Todo → Stepped
step_frame w a frame = if frame.asks then Done (takes w a frame) else step_items w a frame (past_labels frame.todo.items)

-- an activity without a frame has still to send its first message
abbrev pub step_frames : World → ℕ → List (Frame Todo) → Stepped
step_frames w a [] = Done (sends_first w a)
step_frames w a (frame ∷ frames) = step_frame w a frame

-- The step of an enabled activity: the first kind of step that applies, counted.
abbrev pub step : World → ℕ → Stepped
step w a = step_frames (counted w) a (frames_at w.activities a)
