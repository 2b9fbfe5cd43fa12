use Rattle.rx_native_cases.proofs.FitLemmas.{reached}
use Rattle.rx_native_cases.proofs.objects.NativeCases.send.Goals as goal

pub call-answer-requires-clause-reached : goal.call-answer-requires-clause-reached
call-answer-requires-clause-reached c =
    reached c.args.self.now.classes c.args.self.now.heap c.args.target.now c.args.name.now c.target_scope-scope.result c.in_ok-found.found
    c.method_of.result c.in-Some.method c.in-Native.id c.target_scope-scope.ensures c.in_ok-found.ensures.found c.method_of.ensures
    c.in-Some.is c.in-Native.is
