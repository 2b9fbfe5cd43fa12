use Rattle.rx_top.proofs.Loads.{loaded-by}
use Rattle.rx_top.proofs.loading.load.Goals as goal

pub returns-in-Bytes-clause-loaded : goal.returns-in-Bytes-clause-loaded
returns-in-Bytes-clause-loaded g c =
    loaded-by (g.F.Shelf.files c.args.shelf.now) c.args.name.now c.in-Bytes.source c.read_program.result c.in-Bytes.ensures.bytes
    (rw c.as_slice.ensures.value at c.read_program.ensures.read)
