-- The equations of `evaluate`, one for each form.
use Rattle.std.proofs.Common.{◌≡◌, ℕ, Bool, List, [], ◌∷◌, map, Option, Some, None, refl, ap, sym, ◌∙◌}
use Rattle.rx_tree.specs.declared.value.Value.{Value}
use Rattle.rx_tree.specs.declared.value.Value.TheVariants.{Str}
use Rattle.rx_tree.specs.declared.token.Oper.{Oper}
use Rattle.rx_tree.specs.declared.expr.Expr.{Expr}
use Rattle.rx_tree.specs.declared.expr.Expr.TheVariants as e
use Rattle.rx_tree.specs.declared.expr.Expr.TheOpen.{Expr-F}
use Rattle.rx_tree.specs.declared.expr.Expr.TheShapes.{former-Expr-Function-2, former-Expr-Sends-1}
use Rattle.rx_tree.specs.declared.expr.Expr.TheViews.{out-SendPart, roll-out-SendPart}
use Rattle.rx_tree.specs.declared.expr.Expr.TheFolds.{para-SendPart, para-roll-Expr, para-roll-SendPart}
use Rattle.rx_tree.specs.declared.expr.SendPart.{SendPart}
use Rattle.rx_tree.specs.declared.name.Name.{Name}
use Rattle.rx_eval.specs.Reading.{Scene, variable, environment, object_named}
use Rattle.rx_eval.specs.Evaluation.{Found, Done, follow, found_in, level, evaluate, prefixed, chained, function, sent_all, trees_of}

-- parts, each beside what it comes to
abbrev pub judged : Scene → List (Option Expr) → List (Option (Expr × Found))
judged scene [] = []
judged scene (None ∷ args) = None ∷ judged scene args
judged scene (Some arg ∷ args) = Some (arg, evaluate scene arg) ∷ judged scene args

abbrev pub judged_terms : Scene → List (Oper × Expr) → List (Oper × (Expr × Found))
judged_terms scene terms = map (λ x. (x.0, (x.1, evaluate scene x.1))) terms

abbrev pub judged_parts : Scene → List SendPart → List (SendPart × List (Option (Expr × Found)))
judged_parts scene [] = []
judged_parts scene (part ∷ parts) = (part, judged scene part.args) ∷ judged_parts scene parts

abbrev beside : Scene → Expr → Expr × Found
beside scene expr = (expr, evaluate scene expr)

args_are : (scene : Scene) (args : List (Option Expr)) → former-Expr-Function-2.map Expr (Expr × Found) (beside scene) args ≡ judged scene args
args_are scene [] = refl
args_are scene (None ∷ args) = ap (λ rest. None ∷ rest) (args_are scene args)
args_are scene (Some arg ∷ args) = ap (λ rest. Some (arg, evaluate scene arg) ∷ rest) (args_are scene args)

pub trees_judged : (scene : Scene) (args : List (Option Expr)) → trees_of (judged scene args) ≡ args
trees_judged scene [] = refl
trees_judged scene (None ∷ args) = ap (λ rest. None ∷ rest) (trees_judged scene args)
trees_judged scene (Some arg ∷ args) = ap (λ rest. Some arg ∷ rest) (trees_judged scene args)

abbrev part_answer : Scene → SendPart → List (Option (Expr × Found))
part_answer scene = para-SendPart Found (List (Option (Expr × Found))) (level scene) (λ part. part.args)

pub evaluate_const : (scene : Scene) (value : Value) → evaluate scene (e.Const value) ≡ Done value
unfolding evaluate
evaluate_const scene value =
    ap (evaluate scene) (sym (e.rolls-Const value)) ∙ para-roll-Expr Found (List (Option (Expr × Found))) (level scene) (λ part. part.args) (Expr-F.Const value)

pub evaluate_name : (scene : Scene) (name : Name) → evaluate scene (e.Name name) ≡ found_in (variable scene.facts name)
unfolding evaluate
evaluate_name scene name =
    ap (evaluate scene) (sym (e.rolls-Name name)) ∙ para-roll-Expr Found (List (Option (Expr × Found))) (level scene) (λ part. part.args) (Expr-F.Name name)

pub evaluate_environment : (scene : Scene) (name : List ℕ) → evaluate scene (e.Environment name) ≡ Done (environment name (object_named scene.body name))
unfolding evaluate
evaluate_environment scene name =
    ap (evaluate scene) (sym (e.rolls-Environment name)) ∙ para-roll-Expr Found (List (Option (Expr × Found))) (level scene) (λ part. part.args) (Expr-F.Environment name)

pub evaluate_prefix : (scene : Scene) (opers : List Oper) (inner : Expr)
    → evaluate scene (e.Prefix opers inner) ≡ prefixed scene.facts.frame.digits opers (follow (evaluate scene inner) (λ rest. e.Prefix [] rest) Done)
unfolding evaluate
evaluate_prefix scene opers inner =
    ap (evaluate scene) (sym (e.rolls-Prefix opers inner)) ∙ para-roll-Expr Found (List (Option (Expr × Found))) (level scene) (λ part. part.args) (Expr-F.Prefix opers inner)

pub evaluate_chain : (scene : Scene) (first : Expr) (terms : List (Oper × Expr))
    → evaluate scene (e.Chain first terms) ≡ chained scene.facts.frame.digits (follow (evaluate scene first) (λ rest. e.Chain rest []) Done) (judged_terms scene terms)
unfolding evaluate
evaluate_chain scene first terms =
    ap (evaluate scene) (sym (e.rolls-Chain first terms)) ∙ para-roll-Expr Found (List (Option (Expr × Found))) (level scene) (λ part. part.args) (Expr-F.Chain first terms)

pub evaluate_group : (scene : Scene) (inner : Expr) → evaluate scene (e.Group inner) ≡ follow (evaluate scene inner) e.Group Done
unfolding evaluate
evaluate_group scene inner =
    ap (evaluate scene) (sym (e.rolls-Group inner)) ∙ para-roll-Expr Found (List (Option (Expr × Found))) (level scene) (λ part. part.args) (Expr-F.Group inner)

pub evaluate_function : (scene : Scene) (name : List ℕ) (is_string : Bool) (args : List (Option Expr))
    → evaluate scene (e.Function name is_string args) ≡ function scene name is_string (judged scene args)
unfolding evaluate
evaluate_function scene name is_string args =
    ap (evaluate scene) (sym (e.rolls-Function name is_string args)) ∙ para-roll-Expr Found (List (Option (Expr × Found))) (level scene) (λ part. part.args) (Expr-F.Function name is_string args)
    ∙ ap (function scene name is_string) (args_are scene args)

part_is : (scene : Scene) (part : SendPart) → part_answer scene part ≡ judged scene part.args
unfolding evaluate
part_is scene part =
    ap (part_answer scene) (sym (roll-out-SendPart part))
    ∙ para-roll-SendPart Found (List (Option (Expr × Found))) (level scene) (λ part. part.args) (out-SendPart part)
    ∙ args_are scene part.args

parts_are : (scene : Scene) (parts : List SendPart)
    → former-Expr-Sends-1.map SendPart (SendPart × List (Option (Expr × Found))) (λ part. (part, part_answer scene part)) parts ≡ judged_parts scene parts
parts_are scene [] = refl
parts_are scene (part ∷ parts) = rw (part_is scene part) (ap (λ rest. (part, judged scene part.args) ∷ rest) (parts_are scene parts))

pub evaluate_sends : (scene : Scene) (receiver : Expr) (parts : List SendPart)
    → evaluate scene (e.Sends receiver parts) ≡ sent_all scene (follow (evaluate scene receiver) (λ rest. e.Sends rest []) Done) (judged_parts scene parts)
unfolding evaluate
evaluate_sends scene receiver parts =
    ap (evaluate scene) (sym (e.rolls-Sends receiver parts)) ∙ para-roll-Expr Found (List (Option (Expr × Found))) (level scene) (λ part. part.args) (Expr-F.Sends receiver parts)
    ∙ ap (sent_all scene (follow (evaluate scene receiver) (λ rest. e.Sends rest []) Done)) (parts_are scene parts)

pub evaluate_hole : (scene : Scene) → evaluate scene e.Hole ≡ Done (Str [])
unfolding evaluate
evaluate_hole scene =
    ap (evaluate scene) (sym e.rolls-Hole) ∙ para-roll-Expr Found (List (Option (Expr × Found))) (level scene) (λ part. part.args) Expr-F.Hole
