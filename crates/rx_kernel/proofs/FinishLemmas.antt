-- What clauses do at their end.
use Rattle.std.proofs.Common.{◌≡◌, ℕ, List, [], ◌∷◌, map, codes, Option, None, Some, refl, sym, ◌∙◌, ap}
use Rattle.rx_tree.specs.declared.activity.Awaited.{Awaited}
use Rattle.rx_tree.specs.declared.expr.Expr.{Expr}
use Rattle.rx_tree.specs.declared.name.Name.{Name}
use Rattle.rx_tree.specs.declared.name.Name.TheVariants as n
use Rattle.rx_tree.specs.declared.value.Value.{Value}
use Rattle.rx_clause_tree.specs.declared.simple.Simple.{Simple}
use Rattle.rx_clause_tree.specs.declared.simple.Simple.TheVariants as s
use Rattle.rx_clause_tree.specs.declared.template.Parse.{Parse}
use Rattle.rx_frames.specs.declared.parts.Own.{Own}
use Rattle.rx_frames.specs.declared.position.CallState.TheVariants.{Awaiting}
use Rattle.rx_frames.specs.Frames.{Frame}
use Rattle.rx_flow.specs.Todo.{Item}
use Rattle.rx_eval.specs.Pauses.{Pause, left_of}
use Rattle.rx_machine.specs.Arguments.{rows}
use Rattle.rx_machine.specs.Assigning.{Assigned, All, TooLong, assign_from, expose_from, finished}
use Rattle.rx_machine.specs.Clauses.{finish}
use Rattle.rx_machine.specs.Todo.{Todo, untouched}
use Rattle.rx_machine.specs.Turns.{Turn, awaits, goes_on, line}
use Rattle.rx_machine.specs.Values.{first_value}
use Rattle.rx_machine.specs.Variables.{dropped, exposes_by}
use Rattle.rx_machine.specs.World.{World, Done, with_top}
use Rattle.rx_kernel.specs.declared.state.State.{State}
use Rattle.rx_kernel.specs.declared.stepped.Here.{Here}
use Rattle.rx_kernel.specs.States.{world_of}
use Rattle.rx_kernel.specs.Stepping.{IsTurn, does_behind, exposes_in}
use Rattle.rx_kernel.specs.Steps.{after_assigning}
use Rattle.rx_kernel.specs.Turning.{going_on, going_to_wait}

-- ---- clauses

pub finished-is : (t : Turn) (assigned : Assigned) → finished t assigned ≡ after_assigning t.number (line t) assigned
finished-is t (All w) = refl
finished-is t (TooLong w) = refl

exposes-is : (t : Turn) (names : List Name) (own : Option Own) → exposes_by t names own ≡ exposes_in (goes_on t) t.number (line t) own names
exposes-is t names None = refl
exposes-is t names (Some own) = finished-is t (expose_from (goes_on t) t.number own.pool names)

-- a clause does what it does once its frame has gone on
pub behind-is : (t : Turn) (one : Simple) (values : List Value) → ((given : Option Expr) → one ≡ s.Return given → ⊥) → ((parse : Parse) → one ≡ s.Parse parse → ⊥)
    → finish t one values ≡ Done (does_behind (goes_on t) t.number (line t) t.frame.own t.frame.arguments one values)
unfolding finish
behind-is t (s.Say given) values r p = refl
behind-is t (s.Push given) values r p = refl
behind-is t (s.Queue given) values r p = refl
behind-is t (s.Assign name expr) values r p = ap Done (finished-is t (assign_from (goes_on t) t.number ((name, first_value values) ∷ [])))
behind-is t (s.Message expr) values r p = ap Done (finished-is t (assign_from (goes_on t) t.number ((n.Simple (codes "RESULT"), first_value values) ∷ [])))
behind-is t (s.Drop names) values r p = ap Done (finished-is t (assign_from (goes_on t) t.number (map dropped names)))
behind-is t (s.Expose names) values r p = ap Done (exposes-is t names t.frame.own)
behind-is t (s.UseArg strict parameters) values r p = ap Done (finished-is t (assign_from (goes_on t) t.number (rows parameters t.frame.arguments values)))
behind-is t (s.Return given) values r p = absurd (r given refl)
behind-is t (s.Parse parse) values r p = absurd (p parse refl)
behind-is t (s.Label name) values r p = refl
behind-is t (s.SendAssign target part expr) values r p = refl
behind-is t s.Nop values r p = refl
behind-is t (s.Leave name) values r p = refl
behind-is t (s.Iterate name) values r p = refl
behind-is t (s.Call routine) values r p = refl
behind-is t (s.CallOn trap) values r p = refl
behind-is t (s.CallOff condition) values r p = refl
behind-is t (s.Exit given) values r p = refl
behind-is t (s.Signal label) values r p = refl
behind-is t (s.SignalOn trap) values r p = refl
behind-is t (s.SignalOff condition) values r p = refl
behind-is t (s.Procedure names) values r p = refl
behind-is t (s.Digits given) values r p = refl
behind-is t (s.GuardOn given) values r p = refl
behind-is t (s.GuardOff given) values r p = refl
behind-is t (s.Reply given) values r p = refl
behind-is t (s.Forward forward) values r p = refl
behind-is t (s.RaiseSyntax number given) values r p = refl
behind-is t (s.RaiseUser name given result) values r p = refl
behind-is t (s.Trace setting) values r p = refl

-- ---- turns

-- the frame of a turn goes on
pub gone-on : (state : State) (a : ℕ) (here : Here) (t : Turn) (turn : IsTurn state a here t) (w : World)
    → w ≡ with_top (world_of state) a (going_on state.program turn.top here.next) → w ≡ goes_on t
gone-on state a here t turn w is =
    is
    ∙ ap (λ (items : List Item). with_top (world_of state) a (record (going_on state.program turn.top here.next) { todo = untouched items })) turn.rest
    ∙ ap (λ (frame : Frame Todo). with_top (world_of state) a (record frame { todo = untouched t.rest })) (sym turn.frame)
    ∙ ap (λ (number : ℕ). with_top (world_of state) number (record t.frame { todo = untouched t.rest })) (sym turn.number)
    ∙ ap (λ (before : World). with_top before t.number (record t.frame { todo = untouched t.rest })) (sym turn.world)

-- the frame of a turn awaits the answer of a call
pub gone-waiting : (state : State) (a : ℕ) (here : Here) (t : Turn) (turn : IsTurn state a here t) (pause : Pause) (how : Awaited) (w : World)
    → w ≡ with_top (world_of state) a (going_to_wait state.program turn.top here.at pause how) → w ≡ awaits t how (left_of pause)
gone-waiting state a here t turn pause how w is =
    let with_items : List Item → Frame Todo → Frame Todo = λ items frame.
    record frame { todo = record (untouched items) { call = Awaiting how; trees = left_of pause } } in
    is
    ∙ ap (λ (items : List Item). with_top (world_of state) a (with_items items (going_to_wait state.program turn.top here.at pause how))) turn.items
    ∙ ap (λ (frame : Frame Todo). with_top (world_of state) a (with_items (t.item ∷ t.rest) frame)) (sym turn.frame)
    ∙ ap (λ (number : ℕ). with_top (world_of state) number (with_items (t.item ∷ t.rest) t.frame)) (sym turn.number)
    ∙ ap (λ (before : World). with_top before t.number (with_items (t.item ∷ t.rest) t.frame)) (sym turn.world)
