use Rattle.std.proofs.Common.{◌∙◌}
use Rattle.rx_send_cases.proofs.FitLemmas.{all-fit}
use Rattle.rx_send_cases.proofs.fitting.fits_object.Goals as goal

pub returns : goal.returns
returns c =
    all-fit c.kinds_fit.result c.args.classes.now c.args.heap.now c.args.o c.as_slice.result.now c.kind-kind.result c.class_of-class.result
    c.class_of-class.ensures.class (c.as_slice.ensures.value ∙ c.in_ok-order.ensures.order) c.kind-kind.ensures.kind c.if-not-is_class.ensures
    c.if-not-is_fit_class.ensures c.kinds_fit.ensures.class c.kinds_fit.ensures.array c.kinds_fit.ensures.queue c.kinds_fit.ensures.directory
