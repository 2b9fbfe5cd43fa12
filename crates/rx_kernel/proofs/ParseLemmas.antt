-- PARSE: what its templates and texts come to, as the machine has it.
use Rattle.std.proofs.Common.{◌≡◌, ℕ, Bool, List, [], ◌∷◌, ◌++◌, Option, Result, Ok, Err, refl, sym, ◌∙◌, ap, subst}
use Rattle.std.specs.Prelude.{map}
use Rattle.rx_tree.specs.declared.name.Name.{Name}
use Rattle.rx_tree.specs.declared.value.Value.{Value}
use Rattle.rx_vars.specs.Variables.{Variables}
use Rattle.rx_template.specs.declared.template.TPart.{TPart}
use Rattle.rx_clause_tree.specs.declared.template.Parse.{Parse}
use Rattle.rx_clause_tree.specs.declared.template.Template.{Template}
use Rattle.rx_native.specs.Outcomes.{on}
use Rattle.rx_names.specs.Homes.{variables_at}
use Rattle.rx_machine.specs.Assigning.{assign_from, assigns}
use Rattle.rx_machine.specs.Raising.{raised}
use Rattle.rx_machine.specs.Templates.{all_rows, bound_all, first_text, in_case, parses, parses_bound, rows}
use Rattle.rx_machine.specs.Turns.{Turn, goes_on, line}
use Rattle.rx_machine.specs.World as machine
use Rattle.rx_machine.specs.World.{World, with_top}
use Rattle.rx_kernel.specs.declared.binding.BindRefused.{BindRefused}
use Rattle.rx_kernel.specs.declared.binding.BindRefused.TheVariants as refuses
use Rattle.rx_kernel.specs.declared.binding.Bound.{Bound}
use Rattle.rx_kernel.specs.declared.state.State.{State}
use Rattle.rx_kernel.specs.declared.stepped.Here.{Here}
use Rattle.rx_kernel.specs.declared.stepped.Stepped.TheVariants as stepped
use Rattle.rx_kernel.specs.Parsing.{IsRead, all_rows_of, bound_of, bounds_of}
use Rattle.rx_kernel.specs.Readings.{reading}
use Rattle.rx_kernel.specs.States.{world_of}
use Rattle.rx_kernel.specs.Stepping.{IsStepped, IsTurn}
use Rattle.rx_kernel.specs.Steps.{after_assigning}
use Rattle.rx_kernel.specs.Turning.{IsTop, going_on, items_from}
use Rattle.rx_kernel.specs.Views.{frame_view}
use Rattle.rx_kernel.proofs.FinishLemmas.{finished-is, gone-on}
use Rattle.rx_kernel.proofs.StepLemmas.{raises-in, stepped-is}
use Rattle.rx_kernel.proofs.ViewLemmas.{view-variables}

-- ---- templates

all-rows-are : (all : List (Template × List TPart)) (texts : List (List ℕ)) → all_rows_of (map bound_of all) texts ≡ all_rows all texts
all-rows-are [] texts = refl
all-rows-are (one ∷ others) texts = ap (λ rest. rows one.0.parts one.1 (first_text texts) ++ rest) (all-rows-are others _)

-- all templates are bound
pub all-of : (read : Result (List (Template × List TPart)) ℕ) (bounds : List Bound) → on read (λ all. Ok (map bound_of all)) ≡ Ok bounds
    → (all : List (Template × List TPart)) × ((read ≡ Ok all) × (map bound_of all ≡ bounds))
all-of (Ok all) bounds is = let same : map bound_of all ≡ bounds = cc (is) in (all, (refl, same))
all-of (Err number) bounds is = let wrong : Err number ≡ Ok bounds = is in cc

-- an error is raised in them
pub fails-of : (read : Result (List (Template × List TPart)) ℕ) (number : ℕ) → on read (λ all. Ok (map bound_of all)) ≡ Err number → read ≡ Err number
fails-of (Ok all) number is = let wrong : Ok (map bound_of all) ≡ Err number = is in cc
fails-of (Err other) number is = let same : other ≡ number = cc (is) in ap Err same

-- the values in them are those of the turn's world
bound-in : (state : State) (a : ℕ) (here : Here) (t : Turn) (at : IsTurn state a here t) (templates : List Template)
    → bound_all (variables_at t.world.activities t.number) t.world.pools templates ≡ bound_all (variables_at state.parts.stacks a) state.parts.pools templates
bound-in state a here t at templates =
    ap (λ (w : World). bound_all (variables_at w.activities t.number) w.pools templates) at.world
    ∙ ap (λ (n : ℕ). bound_all (variables_at (world_of state).activities n) state.parts.pools templates) at.number
    ∙ ap (λ (frames : List Variables). bound_all frames state.parts.pools templates) (view-variables (reading state.program) state.parts.stacks a)

pub parses-by : (state : State) (a : ℕ) (here : Here) (t : Turn) (at : IsTurn state a here t) (parse : Parse) (values : List Value)
    (read : Result (List (Template × List TPart)) ℕ) → bound_all (variables_at state.parts.stacks a) state.parts.pools parse.templates ≡ read
    → parses_bound t parse values read ≡ parses t parse values
parses-by state a here t at parse values read is = ap (parses_bound t parse values) (sym (bound-in state a here t at parse.templates ∙ is))

-- ---- texts

-- a turn once a text was taken
pub moved : (state after : State) (a : ℕ) (here : Here) (t : Turn) → IsTurn state a here t → after.parts ≡ state.parts → after.program ≡ state.program
    → IsTurn after a here (record t { world = world_of after })
moved state after a here t at parts program = record {
  world = refl;
  number = at.number;
  its_line = at.its_line;
  top = at.top;
  is_top = subst (λ it. IsTop it.stacks a at.top) (sym parts) at.is_top;
  frame = at.frame ∙ ap (λ it. frame_view (reading it) at.top) (sym program);
  items = ap (λ it. items_from it at.top here.at) program ∙ at.items;
  rest = ap (λ it. items_from it at.top here.next) program ∙ at.rest;
}

-- its targets get their pieces
pub cuts-in : (after : State) (a : ℕ) (here : Here) (t : Turn) (at : IsTurn after a here t) (upper : Bool) (all : List (Template × List TPart)) (bounds : List Bound)
    (texts cased : List (List ℕ)) (pieces : List (Name × Option Value)) (gone last : World)
    → map bound_of all ≡ bounds → cased ≡ in_case upper texts → pieces ≡ all_rows_of bounds cased
    → gone ≡ with_top (world_of after) a (going_on after.program at.top here.next) → last ≡ after_assigning a here.line (assign_from gone a pieces)
    → last ≡ assigns t (all_rows all (in_case upper texts))
cuts-in after a here t at upper all bounds texts cased pieces gone last are is_cased they goes ends =
    let wanted : List (Name × Option Value) = all_rows all (in_case upper texts) in
    let same : pieces ≡ wanted =
    they ∙ ap (all_rows_of bounds) is_cased ∙ ap (λ bs. all_rows_of bs (in_case upper texts)) (sym are) ∙ all-rows-are all (in_case upper texts) in
    ends
    ∙ ap (λ rs. after_assigning a here.line (assign_from gone a rs)) same
    ∙ ap (λ w. after_assigning a here.line (assign_from w a wanted)) (gone-on after a here t at gone goes)
    ∙ ap (λ n. after_assigning n here.line (assign_from (goes_on t) n wanted)) (sym at.number)
    ∙ ap (λ l. after_assigning t.number l (assign_from (goes_on t) t.number wanted)) (sym at.its_line)
    ∙ sym (finished-is t (assign_from (goes_on t) t.number wanted))

-- a value in a template isn't known
pub refuses-by : (state : State) (a : ℕ) (here : Here) (t : Turn) (at : IsTurn state a here t) (parse : Parse) (values : List Value) (refused : BindRefused) (w : World)
    → IsRead (Err refused) (bounds_of (variables_at state.parts.stacks a) state.parts.pools parse.templates)
    → ((number : ℕ) → refused ≡ refuses.Raised number → w ≡ raised (world_of state) a number here.line) → (refused ≡ refuses.OutOfMemory → ⊥)
    → IsStepped (world_of state) (parses t parse values) stepped.Done w
refuses-by state a here t at parse values (refuses.Raised number) w read so memory =
    stepped-is (world_of state) _ (parses t parse values) stepped.Done w
    (parses-by state a here t at parse values (Err number) (fails-of (bound_all (variables_at state.parts.stacks a) state.parts.pools parse.templates) number read))
    (raises-in state a here t at number w (so number refl))
refuses-by state a here t at parse values refuses.OutOfMemory w read so memory = absurd (memory refl)
