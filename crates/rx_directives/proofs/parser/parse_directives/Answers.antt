use Rattle.std.proofs.Common.{sym, ◌∙◌, ap}
use Rattle.rx_exprs.proofs.Places.{slice-is}
use Rattle.rx_directives.specs.Reader.{directives_form}
use Rattle.rx_directives.proofs.Places.{refused, written}
use Rattle.rx_directives.proofs.parser.parse_directives.Goals as goal

pub returns-in-Ok-clause-fits : goal.returns-in-Ok-clause-fits
returns-in-Ok-clause-fits c =
    let cursor = sym (c.new-cursor.ensures ∙ slice-is c.args.from c.args.tokens.now) in
    written _ c.directives.new.tokens c.in-Ok.found (ap directives_form cursor ∙ c.in-Ok.ensures)

pub returns-in-Err-clause-refused : goal.returns-in-Err-clause-refused
returns-in-Err-clause-refused c =
    let cursor = sym (c.new-cursor.ensures ∙ slice-is c.args.from c.args.tokens.now) in
    rw c.among.ensures (refused c.args.tokens.now c.args.from c.in-Err.refused (λ some. ap directives_form cursor ∙ c.in-Err.ensures some))
