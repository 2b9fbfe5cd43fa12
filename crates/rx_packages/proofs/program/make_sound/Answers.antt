use Rattle.rx_packages.proofs.ProgramLemmas.{stopped_places}
use Rattle.rx_packages.proofs.program.make_sound.Goals as goal

pub returns-in-Err-clause-err : goal.returns-in-Err-clause-err
returns-in-Err-clause-err c =
    stopped_places c.args.source.now c.args.written.main c.args.written.directives c.in-Err.refused c.requires.is
    (rw (c.as_slice.ensures, c.into_parts-main.ensures.main, c.into_parts-main.ensures.directives) at c.in-Err.ensures.err)
