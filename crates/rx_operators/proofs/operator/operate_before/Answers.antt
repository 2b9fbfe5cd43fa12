use Rattle.std.proofs.Common.{pos, Some, ap, sym, ◌∙◌, subst}
use Rattle.rx_answers.specs.Answers.{AnswersText}
use Rattle.rx_whole.specs.Number.{num}
use Rattle.rx_operators.specs.Numbers.{pair_of}
use Rattle.rx_operators.specs.Operators.{in_digits, prefix_value}
use Rattle.rx_operators.proofs.operator.operate_before.Goals as goal

pub returns-in-Plus-clause-value : goal.returns-in-Plus-clause-value
unfolding prefix_value
returns-in-Plus-clause-value c =
    let number = c.calculate.ensures (Some (pos 0)) (num c.args.a.now) (c.zero_and.ensures ∙ ap (λ text. pair_of (Some (pos 0)) (num text)) c.bytes.ensures.bytes) in
    subst (λ oper. AnswersText c.told.result (prefix_value oper c.args.a.now c.args.digits)) (sym c.in-Plus.is)
    (subst (λ number. AnswersText c.told.result (in_digits number)) number c.told.ensures.value)

pub returns-in-Minus-clause-value : goal.returns-in-Minus-clause-value
unfolding prefix_value
returns-in-Minus-clause-value c =
    let number = c.calculate-in-Minus.ensures (Some (pos 0)) (num c.args.a.now) (c.zero_and-in-Minus.ensures ∙ ap (λ text. pair_of (Some (pos 0)) (num text)) c.bytes-in-Minus.ensures.bytes) in
    subst (λ oper. AnswersText c.told-in-Minus.result (prefix_value oper c.args.a.now c.args.digits)) (sym c.in-Minus.is)
    (subst (λ number. AnswersText c.told-in-Minus.result (in_digits number)) number c.told-in-Minus.ensures.value)
