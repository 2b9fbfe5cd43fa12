-- Defaults of parameters.
use Rattle.std.proofs.Common.{◌≡◌, ℕ, ◌+◌, ◌<◌, false, true, is_some, List, [], ◌∷◌, ◌++◌, drop, get_or, length, Option, Some, None, refl, ap, ◌∙◌, append_assoc, sym}
use Rattle.std.proofs.lemmas.List.{drop-drop, drop_more}
use Rattle.rx_tree.specs.declared.expr.Expr.{Expr}
use Rattle.rx_tree.specs.declared.value.Value.{Value}
use Rattle.rx_clause_tree.specs.declared.instruction.Parameter.{Parameter}
use Rattle.rx_eval.specs.Places.{Trees}
use Rattle.rx_machine.specs.Arguments.{argument, default_if, defaults}
use Rattle.rx_machine.specs.Values.{given_tree}

-- the default of a parameter that has no argument, and of one that has

pub none_given : (arg : Option Value) (default : Option Expr) → is_some arg ≡ false → default_if arg default ≡ given_tree false default
none_given None default e = refl
none_given (Some value) default e = absurd cc

pub one_given : (arg : Option Value) (default : Option Expr) → is_some arg ≡ true → default_if arg default ≡ []
one_given None default e = absurd cc
one_given (Some value) default e = refl

-- one more parameter
pub defaults_next : (before more : Trees) (parameters : List Parameter) (args : List (Option Value)) (place : ℕ) (parameter : Parameter)
    → place < length parameters → parameter ≡ get_or parameters place parameter
    → more ≡ before ++ default_if (argument (drop place args)) parameter.default
    → more ++ defaults (drop (place + 1) parameters) (drop (place + 1) args) ≡ before ++ defaults (drop place parameters) (drop place args)
defaults_next before more parameters args place parameter within is grown =
    let rest = defaults (drop (place + 1) parameters) (drop (place + 1) args) in
    let first = default_if (argument (drop place args)) parameter.default in
    let here : drop place parameters ≡ parameter ∷ drop (place + 1) parameters =
    drop_more parameters place parameter within ∙ ap (λ (p : Parameter). p ∷ drop (place + 1) parameters) (sym is) in
    let next : defaults (drop place parameters) (drop place args) ≡ first ++ rest =
    ap (λ (ps : List Parameter). defaults ps (drop place args)) here
    ∙ ap (λ (left : List (Option Value)). first ++ defaults (drop (place + 1) parameters) left) (drop-drop 1 place args) in
    ap (λ (trees : Trees). trees ++ rest) grown ∙ append_assoc before first rest ∙ sym (ap (λ (trees : Trees). before ++ trees) next)
