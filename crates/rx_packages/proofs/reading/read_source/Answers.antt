use Rattle.std.proofs.Common.{◌≤◌, length, arith}
use Rattle.rx_packages.specs.Programs.{longest_source}
use Rattle.rx_packages.proofs.ReadingLemmas.{not-scanned}
use Rattle.rx_packages.proofs.reading.read_source.Goals as goal

pub returns-in-Err-clause-err : goal.returns-in-Err-clause-err
returns-in-Err-clause-err c =
    let short : length c.args.source.now ≤ longest_source = omega arith in
    rw c.unscanned.ensures (not-scanned c.args.source.now c.in-Err.refused short c.in-Err.ensures.tokens)
