use Rattle.std.proofs.Common.{◌≡◌, IfOk, IfSome, None, codes, if◌then◌else◌, ap, sym, ◌∙◌, subst}
use Rattle.std.specs.Str.{bytes_eq}
use Rattle.rx_builtin.specs.Answers.{Answers}
use Rattle.rx_builtin.specs.Frames.{arg_object}
use Rattle.rx_builtin.specs.Functions.{function_value}
use Rattle.rx_eval.specs.Calling.{builtin_value, known_value, object_or, texts_of}
use Rattle.rx_eval.specs.Machine.{moved_by}
use Rattle.rx_eval.specs.Steps.{moved}
use Rattle.rx_eval.proofs.BuiltinLemmas.{builtin_step, has_value}
use Rattle.rx_eval.proofs.calling.do_builtin.Goals as goal

pub returns : goal.returns
unfolding builtin_value
returns c =
    let name = c.args.name.now in
    let frame = c.args.facts.now.frame in
    let texts = texts_of c.args.args.now in
    let none : None ≡ (if bytes_eq name (codes "ARG") then arg_object texts frame else None) =
    sym c.in-None.is ∙ c.object_given.ensures ∙ ap (λ ts. if bytes_eq name (codes "ARG") then arg_object ts frame else None) (c.as_slice.ensures ∙ c.in_ok-texts.ensures) in
    let called : IfSome (function_value name texts frame) (Answers c.call-answer.result) =
    subst (λ ts. IfSome (function_value name ts frame) (Answers c.call-answer.result)) (c.as_slice-in-None.ensures ∙ c.in_ok-texts.ensures)
    (subst (λ n. IfSome (function_value n c.as_slice-in-None.result.now frame) (Answers c.call-answer.result)) c.bytes.ensures.bytes c.call-answer.ensures.answer) in
    subst (λ o. IfOk c.push_text.result (λ step. moved step c.push_text.new.stack ≡ moved_by c.args.stack.now (object_or o (known_value (function_value name texts frame))))) none
    (builtin_step (function_value name texts frame) c.call-answer.result (λ v. IfOk c.push_text.result (λ step. moved step c.push_text.new.stack ≡ moved_by c.args.stack.now v))
    (has_value name texts frame c.requires.builtin) called c.push_text.ensures)
