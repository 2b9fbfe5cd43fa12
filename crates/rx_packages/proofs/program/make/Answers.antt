use Rattle.std.proofs.Common.{◌≡◌, ◌≤◌, ◌<◌, ◌*◌, List, length, ap, arith}
use Rattle.rx_directives.specs.declared.directive.Directive.{Directive}
use Rattle.rx_packages.proofs.ProgramLemmas.{stopped_install}
use Rattle.rx_packages.proofs.ProgramRooms.{few_directives}
use Rattle.rx_packages.proofs.program.make.Goals as goal

pub installed-requires-clause-few : goal.installed-requires-clause-few
installed-requires-clause-few c =
    let same = ap (λ (directives : List Directive). length directives) c.as_slice.ensures in
    let few = few_directives c.args.source.now c.args.main c.args.directives c.requires.is in
    omega arith

pub routines_of-requires : goal.routines_of-requires
routines_of-requires c =
    let same = ap (λ (directives : List Directive). length directives) c.as_slice-2.ensures in
    let few = few_directives c.args.source.now c.args.main c.args.directives c.requires.is in
    omega arith

pub returns-in-Err-clause-err : goal.returns-in-Err-clause-err
returns-in-Err-clause-err c =
    stopped_install c.args.source.now c.args.main c.args.directives c.in-Err.refused c.requires.is (rw c.as_slice.ensures at c.in-Err.ensures.err)
