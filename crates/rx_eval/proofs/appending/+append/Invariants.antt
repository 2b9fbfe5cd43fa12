use Rattle.rx_eval.proofs.Built.{TermsSo, PartsSo, ArgsSo}
use Rattle.rx_eval.proofs.appending.+append.Given as goal

abbrev pub invariant-append_args-loop-arg : goal.invariant-append_args-loop-arg
invariant-append_args-loop-arg l = ArgsSo l.body l.strings l.args l.arg-index l.initial.code l.code

abbrev pub invariant-append_parts-loop-part : goal.invariant-append_parts-loop-part
invariant-append_parts-loop-part l = PartsSo l.body l.parts l.part-index l.initial.code l.code

abbrev pub invariant-append_terms-loop-oper : goal.invariant-append_terms-loop-oper
invariant-append_terms-loop-oper l = TermsSo l.body l.terms l.oper-index l.initial.code l.code
