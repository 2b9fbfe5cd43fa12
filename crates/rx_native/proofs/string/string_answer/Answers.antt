use Rattle.std.proofs.Common.{◌≡◌, ◌∙◌, ℕ, List, true, sym, ap, subst}
use Rattle.std.specs.Prelude.{Ok}
use Rattle.rx_builtin.specs.Arguments.{Arguments}
use Rattle.rx_tree.specs.Object.{Object}
use Rattle.rx_builtin.specs.declared.facts.Facts.{Facts}
use Rattle.rx_builtin.specs.Functions.{is_builtin}
use Rattle.rx_native.proofs.StringLemmas.{builtin, called-as}
use Rattle.rx_native.proofs.string.string_answer.Goals as goal

pub call-requires-clause-builtin : goal.call-requires-clause-builtin
call-requires-clause-builtin c =
    subst (λ (name : List ℕ). is_builtin name ≡ true) (sym c.function_name.ensures.name) (builtin c.args.method)

pub returns : goal.returns
returns c = λ (facts : Facts) (objects : List Object) digits.
    called-as c.args.method c.args.target.now c.args.args.now facts c.in_ok-facts.facts objects c.function_name.result.now c.receiver_of.result
    c.as_slice.result.now c.call.result c.of_method.result (digits ∙ sym c.in_ok-facts.ensures) c.function_name.ensures.name c.receiver_of.ensures
    (c.in_ok-texts.ensures.texts ∙ ap (λ (texts : Arguments). Ok texts) (sym c.as_slice.ensures)) c.call.ensures.answer c.of_method.ensures.answer
