use Rattle.rx_packages.proofs.ReadingLemmas.{unread-body, unread-directives}
use Rattle.rx_packages.proofs.reading.read_tokens.Goals as goal

pub returns-in-Err-clause-err : goal.returns-in-Err-clause-err
returns-in-Err-clause-err c =
    unread-body c.args.source.now c.args.tokens.now c.in-Err.refused c.unfit.result c.requires.short c.requires.spelled c.requires.shallow
    c.in-Err.ensures.refused c.unfit.ensures

pub returns-in-Err-parse_directives-clause-err : goal.returns-in-Err-parse_directives-clause-err
returns-in-Err-parse_directives-clause-err c =
    unread-directives c.args.source.now c.args.tokens.now c.in-Ok.found.0 c.in-Ok.found.1 c.in-Err-parse_directives.refused
    c.unfit-in-Err-parse_directives.result c.requires.short c.requires.spelled c.requires.shallow
    c.in-Ok.ensures.fits c.in-Err-parse_directives.ensures.refused
    c.unfit-in-Err-parse_directives.ensures
