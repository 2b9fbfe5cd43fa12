use Rattle.std.proofs.Common.{sym, ◌∙◌, ap}
use Rattle.rx_clauses.specs.Forms.{behind_variable}
use Rattle.rx_clauses.proofs.Ends.{block_none, block_last, block_unnamed, block_open, block_named}
use Rattle.rx_clauses.proofs.blocks.eat_block_end.Goals as goal

pub returns-then-not-eat_word : goal.returns-then-not-eat_word
returns-then-not-eat_word c = (block_none c.args.control.now c.args.tokens.now c.if-not-eat_word.ensures.0, c.if-not-eat_word.ensures.1)

pub returns-then-eat_end : goal.returns-then-eat_end
returns-then-eat_end c =
    block_last c.args.control.now c.args.tokens.now c.eat_word.new.tokens c.eat_end.new.tokens c.if-not-eat_word.ensures c.if-eat_end.ensures

pub returns-then-not-eat_control : goal.returns-then-not-eat_control
returns-then-not-eat_control c = (
  block_unnamed c.args.control.now c.args.tokens.now c.eat_word.new.tokens c.if-not-eat_word.ensures c.if-eat_end.ensures.0
      (ap (behind_variable c.args.control.now) (sym c.if-eat_end.ensures.1) ∙ c.if-not-eat_control.ensures.0),
  c.go_to.ensures ∙ c.rest-here.ensures,
)

pub returns-then-not-eat_end : goal.returns-then-not-eat_end
returns-then-not-eat_end c = (
  block_open c.args.control.now c.args.tokens.now c.eat_word.new.tokens c.eat_control.new.tokens c.if-not-eat_word.ensures c.if-eat_end.ensures.0
      (ap (behind_variable c.args.control.now) (sym c.if-eat_end.ensures.1) ∙ c.if-not-eat_control.ensures) c.if-not-eat_end.ensures.0,
  c.go_to-then-not-eat_end.ensures ∙ c.rest-here.ensures,
)

pub returns : goal.returns
returns c =
    block_named c.args.control.now c.args.tokens.now c.eat_word.new.tokens c.eat_control.new.tokens c.eat_end-2.new.tokens
    c.if-not-eat_word.ensures c.if-eat_end.ensures.0
    (ap (behind_variable c.args.control.now) (sym c.if-eat_end.ensures.1) ∙ c.if-not-eat_control.ensures) c.if-not-eat_end.ensures
