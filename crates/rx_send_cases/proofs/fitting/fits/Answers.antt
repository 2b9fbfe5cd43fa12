use Rattle.std.proofs.Common.{◌+◌}
use Rattle.rx_native.specs.Fitting.{FitsObject}
use Rattle.rx_send_cases.proofs.FitLemmas.{fits-next, told}
use Rattle.rx_send_cases.proofs.fitting.fits.Goals as goal

pub loop-place-preserved : goal.loop-place-preserved
loop-place-preserved c =
    fits-next c.args.classes.now c.args.heap.now c.loop-place.place
    (told (FitsObject c.args.classes.now c.args.heap.now (c.loop-place.place + 1)) c.in_ok-fits_object.field-0 c.if-not-branch.false
    c.in_ok-fits_object.ensures)
    c.loop-place.invariant
