use Rattle.std.proofs.Common.{sym, ◌∙◌, ap, arith}
use Rattle.rx_clause_tree.specs.declared.clause.Before.TheVariants.{Nothing}
use Rattle.rx_exprs.proofs.Places.{slice-is}
use Rattle.rx_clauses.specs.Forms.{body_form}
use Rattle.rx_clauses.proofs.Places.{found, refused}
use Rattle.rx_clauses.proofs.parser.parse_clauses.Goals as goal

pub overflow_sub-behind : goal.overflow_sub-behind
overflow_sub-behind c =
    let cursor = sym (c.new-cursor.ensures ∙ slice-is c.args.from c.args.tokens.now) in
    let read = ap (body_form Nothing) cursor ∙ c.in-Ok.ensures in
    let few = (found c.args.tokens.now c.args.from c.in-Ok.clauses c.body_clauses.new.tokens c.requires.within read).few in
    let left = c.left.ensures in
    omega arith

pub returns-in-Ok-clause-fits : goal.returns-in-Ok-clause-fits
returns-in-Ok-clause-fits c =
    let cursor = sym (c.new-cursor.ensures ∙ slice-is c.args.from c.args.tokens.now) in
    let read = ap (body_form Nothing) cursor ∙ c.in-Ok.ensures in
    rw c.left.ensures (found c.args.tokens.now c.args.from c.in-Ok.clauses c.body_clauses.new.tokens c.requires.within read).fits

pub returns-in-Ok-clause-behind : goal.returns-in-Ok-clause-behind
returns-in-Ok-clause-behind c =
    let cursor = sym (c.new-cursor.ensures ∙ slice-is c.args.from c.args.tokens.now) in
    let read = ap (body_form Nothing) cursor ∙ c.in-Ok.ensures in
    let behind = (found c.args.tokens.now c.args.from c.in-Ok.clauses c.body_clauses.new.tokens c.requires.within read).behind in
    let left = c.left.ensures in
    omega arith

pub returns-in-Err-clause-refused : goal.returns-in-Err-clause-refused
returns-in-Err-clause-refused c =
    let cursor = sym (c.new-cursor.ensures ∙ slice-is c.args.from c.args.tokens.now) in
    rw c.among.ensures (refused c.args.tokens.now c.args.from c.in-Err.refused
    (λ some. ap (body_form Nothing) cursor ∙ c.in-Err.ensures some))
