use Rattle.rx_packages.proofs.ProgramLemmas.{unread, unmade}
use Rattle.rx_packages.proofs.program.parse_package.Goals as goal

pub returns-in-Err-clause-refused : goal.returns-in-Err-clause-refused
returns-in-Err-clause-refused c = unread c.args.source.now c.in-Err.refused c.in-Err.ensures.err

pub returns-in-Err-make_sound-clause-refused : goal.returns-in-Err-make_sound-clause-refused
returns-in-Err-make_sound-clause-refused c =
    unmade c.args.source.now c.in-Ok.written.main c.in-Ok.written.directives c.in-Err-make_sound.refused c.in-Ok.ensures.ok
    c.in-Err-make_sound.ensures.err
