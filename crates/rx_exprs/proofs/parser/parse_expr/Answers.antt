use Rattle.std.proofs.Common.{sym, ◌∙◌, ap, arith}
use Rattle.rx_exprs.specs.Reader.{loosest}
use Rattle.rx_exprs.specs.Forms.{level_form}
use Rattle.rx_exprs.proofs.Places.{slice-is, found, refused}
use Rattle.rx_exprs.proofs.parser.parse_expr.Goals as goal

pub overflow_sub-result : goal.overflow_sub-result
overflow_sub-result c =
    let cursor = sym (c.new-cursor.ensures ∙ slice-is c.args.from c.args.tokens.now) in
    let read = ap (level_form c.args.stops loosest) cursor ∙ c.in-Ok.ensures in
    let few = (found c.args.stops c.args.tokens.now c.args.from c.in-Ok.expr c.chain.new.tokens c.requires.within read).few in
    let left = c.left.ensures in
    omega arith

pub returns-in-Ok-clause-fits : goal.returns-in-Ok-clause-fits
returns-in-Ok-clause-fits c =
    let cursor = sym (c.new-cursor.ensures ∙ slice-is c.args.from c.args.tokens.now) in
    let read = ap (level_form c.args.stops loosest) cursor ∙ c.in-Ok.ensures in
    rw c.left.ensures (found c.args.stops c.args.tokens.now c.args.from c.in-Ok.expr c.chain.new.tokens c.requires.within read).fits

pub returns-in-Ok-clause-behind : goal.returns-in-Ok-clause-behind
returns-in-Ok-clause-behind c =
    let cursor = sym (c.new-cursor.ensures ∙ slice-is c.args.from c.args.tokens.now) in
    let read = ap (level_form c.args.stops loosest) cursor ∙ c.in-Ok.ensures in
    let behind = (found c.args.stops c.args.tokens.now c.args.from c.in-Ok.expr c.chain.new.tokens c.requires.within read).behind in
    let left = c.left.ensures in
    omega arith

pub returns-in-Err-clause-refused : goal.returns-in-Err-clause-refused
returns-in-Err-clause-refused c =
    let cursor = sym (c.new-cursor.ensures ∙ slice-is c.args.from c.args.tokens.now) in
    rw c.among.ensures (refused c.args.stops c.args.tokens.now c.args.from c.in-Err.refused
    (λ some. ap (level_form c.args.stops loosest) cursor ∙ c.in-Err.ensures some))
