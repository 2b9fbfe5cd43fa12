-- What an evaluation comes to over what was read for a frame.
use Rattle.std.proofs.Common.{◌≡◌, ℕ, false, List, ap, sym, ◌∙◌, subst, Bool}
use Rattle.rx_tree.specs.declared.name.Name.{Name}
use Rattle.rx_builtin.specs.declared.facts.Facts.{Facts as Read}
use Rattle.rx_vars.specs.Variables.{Variables}
use Rattle.rx_frames.specs.declared.position.Position.{Position}
use Rattle.rx_frames.specs.Frames.{Frame}
use Rattle.rx_names.specs.Homes.{value, variables_at}
use Rattle.rx_eval.specs.declared.facts.Facts.{Facts}
use Rattle.rx_eval.specs.Bodies.{Body}
use Rattle.rx_eval.specs.Evaluation.{AllFound, evaluate_all}
use Rattle.rx_eval.specs.Names.{derived_names, reads}
use Rattle.rx_eval.specs.Noting.{AreNoted}
use Rattle.rx_eval.specs.Pauses.{Going, trees_of}
use Rattle.rx_eval.specs.Places.{Trees}
use Rattle.rx_eval.specs.Reaching.{Suffice}
use Rattle.rx_eval.specs.Reaching as evaluation
use Rattle.rx_machine.specs.Scenes.{body_of, comes_to, read_of}
use Rattle.rx_kernel.specs.declared.state.State.{State}
use Rattle.rx_kernel.specs.Noted.{value_for, valued}
use Rattle.rx_kernel.specs.Readings.{reading}
use Rattle.rx_kernel.specs.States.{world_of}
use Rattle.rx_kernel.specs.Views.{frame_view}
use Rattle.rx_kernel.proofs.NotedLemmas.{all-noted}
use Rattle.rx_kernel.proofs.ViewLemmas.{view-variables}

-- Over the values of the variables for which its names stand, it comes to what its expressions come to for the frame.
pub comes-same : (state : State) (a : ℕ) (frame : Frame Position) (going : Going) (names : List Name) (facts : Facts)
    → Suffice going names → going.code.body ≡ body_of state.program frame.body
    → facts.frame ≡ read_of (world_of state) (frame_view (reading state.program) frame)
    → facts.reads ≡ valued (value_for state.parts a) (derived_names (value_for state.parts a) names) → facts.novalue ≡ false
    → evaluation.comes_to going facts ≡ comes_to (world_of state) a (frame_view (reading state.program) frame) (trees_of going)
unfolding comes_to
comes-same state a frame going names facts suffice body read noted novalue =
    let trees : Trees = trees_of going in
    let come : Body → Read → List Variables → Bool → AllFound = λ body read variables novalue.
    evaluate_all (record { body = body; facts = record { frame = read; reads = reads (value variables state.parts.pools) trees; novalue = novalue } }) trees in
    let here : List Variables = variables_at state.parts.stacks a in
    let are : AreNoted (value_for state.parts a) names facts.reads = subst (AreNoted (value_for state.parts a) names) (sym noted) (all-noted (value_for state.parts a) names) in
    suffice facts (value_for state.parts a) facts.reads are
    ∙ ap (λ body. come body facts.frame here facts.novalue) body
    ∙ ap (λ read. come (body_of state.program frame.body) read here facts.novalue) read
    ∙ ap (come (body_of state.program frame.body) (read_of (world_of state) (frame_view (reading state.program) frame)) here) novalue
    ∙ ap (λ variables. come (body_of state.program frame.body) (read_of (world_of state) (frame_view (reading state.program) frame)) variables false)
    (sym (view-variables (reading state.program) state.parts.stacks a))
