use Rattle.std.proofs.Common.{◌+◌, ap, sym, ◌∙◌, arith}
use Rattle.rx_exprs.specs.Forms as spec
use Rattle.rx_exprs.proofs.Shorter.{opened_shorter, part_shorter, operator_shorter, level_shorter}
use Rattle.rx_exprs.proofs.Ways.{parts_more, terms_more}
use Rattle.rx_exprs.proofs.parser.+expr.Goals as goal

pub messages-loop-opening-smaller : goal.messages-loop-opening-smaller
messages-loop-opening-smaller t c =
    let h = opened_shorter c.loop-opening.tokens c.opening.new.self c.in-Some.opening c.in-Some.ensures in
    let g = part_shorter c.in-Some.opening c.opening.new.self c.message.new.tokens c.in_ok-part.part c.in_ok-part.ensures in
    omega arith

pub messages-loop-opening-preserved : goal.messages-loop-opening-preserved
messages-loop-opening-preserved t c =
    let h = opened_shorter c.loop-opening.tokens c.opening.new.self c.in-Some.opening c.in-Some.ensures in
    let g = part_shorter c.in-Some.opening c.opening.new.self c.message.new.tokens c.in_ok-part.part c.in_ok-part.ensures in (
      c.loop-opening.invariant.0
          ∙ parts_more c.loop-opening.found c.loop-opening.tokens c.opening.new.self c.message.new.tokens c.in-Some.opening c.in_ok-part.part c.in-Some.ensures c.in_ok-part.ensures
          ∙ ap (λ f. spec.parts_form f c.message.new.tokens) (sym c.in_ok-push.ensures.ok),
      omega arith,
    )

pub terms-loop-oper-preserved : goal.terms-loop-oper-preserved
terms-loop-oper-preserved t c =
    let h = operator_shorter c.args.stops (c.args.n + 3) c.loop-oper.tokens c.operator.new.self c.in-Some.oper c.in-Some.ensures in
    let g = level_shorter c.args.stops (c.args.n + 2) c.operator.new.self c.in_ok-expr.expr c.operand.new.tokens (omega arith) c.in_ok-expr.ensures in (
      c.loop-oper.invariant.0
          ∙ terms_more c.args.stops c.args.n c.loop-oper.found c.loop-oper.tokens c.operator.new.self c.operand.new.tokens c.in-Some.oper c.in_ok-expr.expr (omega arith) c.in-Some.ensures c.in_ok-expr.ensures
          ∙ ap (λ f. spec.terms_form c.args.stops c.args.n f c.operand.new.tokens) (sym c.in_ok-push.ensures.ok),
      omega arith,
    )
