use Rattle.std.proofs.Common.{◌≡◌, ◌∷◌, ◌++◌, [], true, false, ◌+◌, length, Some, refl, ap, sym, ◌∙◌, subst}
use Rattle.rx_tree.specs.declared.expr.Expr.TheVariants as e
use Rattle.std.proofs.lemmas.List.{take_all}
use Rattle.std.proofs.lemmas.Option.{slice_get_read}
use Rattle.rx_eval.specs.declared.code.Instr.TheVariants as i
use Rattle.rx_eval.specs.declared.code.Calling.{Calling}
use Rattle.rx_eval.specs.Built.{calling_of}
use Rattle.rx_eval.specs.Reading.{object_named}
use Rattle.rx_eval.specs.Whole.{IsBuilt, stacked, args_whole}
use Rattle.rx_eval.proofs.Built.{ArgsSo, arm_const, arm_name, arm_environment, arm_group, arm_prefix, arm_chain, arm_sends, arm_function, arm_hole, tree_wanted, turn_terms, turn_parts, turn_none, turn_some}
use Rattle.rx_eval.proofs.appending.+append.Goals as goal
use Rattle.rx_eval.proofs.appending.+append.Goals.{append_args-in-Some+in_ok-append_tree, append_args-in_default}

pub append-returns-in_ok-push-in-Const : goal.append-returns-in_ok-push-in-Const
append-returns-in_ok-push-in-Const t c =
    arm_const c.args.body.now c.args.expr.now c.in_ok-share-in-Const.field-0 c.args.code.now c.push.new.self (c.in-Const.is ∙ ap e.Const (sym c.in_ok-share-in-Const.ensures.same)) c.in_ok-push-in-Const.ensures.ok

pub append-returns-in_ok-push-in-Name : goal.append-returns-in_ok-push-in-Name
append-returns-in_ok-push-in-Name t c =
    arm_name c.args.body.now c.args.expr.now c.in_ok-share-in-Name.field-0 c.args.code.now c.push-in-Name.new.self (c.in-Name.is ∙ ap e.Name (sym c.in_ok-share-in-Name.ensures.same)) c.in_ok-push-in-Name.ensures.ok

pub append-returns-in_ok-push-in-Environment : goal.append-returns-in_ok-push-in-Environment
append-returns-in_ok-push-in-Environment t c =
    arm_environment c.args.body.now c.args.expr.now c.in_ok-share-in-Environment.field-0 c.args.code.now c.push-in-Environment.new.self (c.in-Environment.is ∙ ap e.Environment (sym c.in_ok-share-in-Environment.ensures.same))
    (c.in_ok-push-in-Environment.ensures.ok ∙ ap (λ object. c.args.code.now ++ i.Environment c.in_ok-share-in-Environment.field-0 object ∷ []) (c.object_named-object.ensures ∙ ap (object_named c.args.body.now) (sym c.in_ok-share-in-Environment.ensures.same)))

pub append-returns-in_ok-append_opers-in-Prefix : goal.append-returns-in_ok-append_opers-in-Prefix
append-returns-in_ok-append_opers-in-Prefix t c =
    arm_prefix c.args.body.now c.args.expr.now c.as_slice.result.now c.get.result.now c.args.code.now c.append.new.code c.push-in-Prefix.new.self c.append_opers.new.code
    (c.in-Prefix.is ∙ ap (λ x. e.Prefix x c.in-Prefix.inner) (sym c.as_slice.ensures) ∙ ap (e.Prefix c.as_slice.result.now) (sym c.get.ensures))
    c.in_ok-append-in-Prefix.ensures c.in_ok-push-in-Prefix.ensures.ok (c.in_ok-append_opers-in-Prefix.ensures c.args.body.now)

pub append-returns-in_ok-append_terms-in-Chain : goal.append-returns-in_ok-append_terms-in-Chain
append-returns-in_ok-append_terms-in-Chain t c =
    arm_chain c.args.body.now c.args.expr.now c.get-in-Chain.result.now c.as_slice-in-Chain.result.now c.args.code.now c.append-in-Chain.new.code c.push-in-Chain.new.self c.append_terms.new.code
    (c.in-Chain.is ∙ ap (λ x. e.Chain x c.in-Chain.terms) (sym c.get-in-Chain.ensures) ∙ ap (e.Chain c.get-in-Chain.result.now) (sym c.as_slice-in-Chain.ensures))
    c.in_ok-append-in-Chain.ensures c.in_ok-push-in-Chain.ensures.ok c.in_ok-append_terms-in-Chain.ensures

pub append-returns-in_ok-push-in-Group : goal.append-returns-in_ok-push-in-Group
append-returns-in_ok-push-in-Group t c =
    arm_group c.args.body.now c.args.expr.now c.get-in-Group.result.now c.args.code.now c.append-in-Group.new.code c.push-in-Group.new.self
    (c.in-Group.is ∙ ap e.Group (sym c.get-in-Group.ensures)) c.in_ok-append-in-Group.ensures c.in_ok-push-in-Group.ensures.ok

pub append-returns-in_ok-push-in-Function : goal.append-returns-in_ok-push-in-Function
append-returns-in_ok-push-in-Function t c =
    let args = c.as_slice-in-Function.result.now in
    let call : Calling = calling_of c.in-Function.name c.in-Function.is_string c.callee-callee.result args in
    arm_function c.args.body.now c.args.expr.now args call c.args.code.now c.append_args.new.code c.push-in-Function.new.self
    (c.in-Function.is ∙ ap (e.Function c.in-Function.name c.in-Function.is_string) (sym c.as_slice-in-Function.ensures))
    (λ trees w b. subst (λ strings. IsBuilt c.args.body.now c.append_args.new.code (stacked strings args trees)) c.wants_strings.ensures (c.in_ok-append_args-in-Function.ensures trees w b))
    c.callee-callee.ensures
    refl
    (c.in_ok-push-in-Function.ensures.ok ∙ ap (λ call. c.append_args.new.code ++ i.Function call ∷ []) (c.in_ok-calling-in-Function.ensures
    ∙ ap (calling_of c.in-Function.name c.in-Function.is_string c.callee-callee.result) (c.as_slice-in-Function-2.ensures ∙ sym c.as_slice-in-Function.ensures)))

pub append-returns-in_ok-append_parts-in-Sends : goal.append-returns-in_ok-append_parts-in-Sends
append-returns-in_ok-append_parts-in-Sends t c =
    arm_sends c.args.body.now c.args.expr.now c.get-in-Sends.result.now c.as_slice-in-Sends.result.now c.args.code.now c.append-in-Sends.new.code c.push-in-Sends.new.self c.append_parts.new.code
    (c.in-Sends.is ∙ ap (λ x. e.Sends x c.in-Sends.parts) (sym c.get-in-Sends.ensures) ∙ ap (e.Sends c.get-in-Sends.result.now) (sym c.as_slice-in-Sends.ensures))
    c.in_ok-append-in-Sends.ensures c.in_ok-push-in-Sends.ensures.ok c.in_ok-append_parts-in-Sends.ensures

pub append-returns-in-Hole : goal.append-returns-in-Hole
append-returns-in-Hole t c = arm_hole c.args.body.now c.args.expr.now c.args.code.now c.args.code.now c.in-Hole.is

pub append_args-loop-arg-preserved : goal.append_args-loop-arg-preserved
append_args-loop-arg-preserved t c =
    let get = slice_get_read c.args.args.now (length c.args.args.now) c.loop-arg.arg-index c.arg-item.result refl c.loop-arg-test.true c.arg-item.is in
    elim c.match-arg.branch [
      | append_args-in-Some+in_ok-append_tree w ↦
          subst (λ code. ArgsSo c.args.body.now c.args.strings c.args.args.now (c.loop-arg.arg-index + 1) c.args.code.now code) (sym w.code-is)
          (turn_some c.args.body.now c.args.strings c.args.args.now c.loop-arg.arg-index w.in-Some.arg c.args.code.now c.loop-arg.code w.append_tree.new.code (get ∙ ap Some w.in-Some.is) c.loop-arg.invariant w.in_ok-append_tree.ensures)
      | append_args-in_default w ↦
          subst (λ code. ArgsSo c.args.body.now c.args.strings c.args.args.now (c.loop-arg.arg-index + 1) c.args.code.now code) (sym w.code-is)
          (turn_none c.args.body.now c.args.strings c.args.args.now c.loop-arg.arg-index c.args.code.now c.loop-arg.code (get ∙ ap Some w.in_default.is) c.loop-arg.invariant)
    ]

pub append_args-returns : goal.append_args-returns
append_args-returns t c = λ trees w b. subst (λ all. IsBuilt c.args.body.now c.loop-arg.code (stacked c.args.strings all trees)) (take_all c.loop-arg.arg-index c.args.args.now c.loop-arg-test.false) (c.loop-arg.invariant trees w b)

pub append_parts-loop-part-preserved : goal.append_parts-loop-part-preserved
append_parts-loop-part-preserved t c =
    let get = slice_get_read c.args.parts.now (length c.args.parts.now) c.loop-part.part-index c.part-item.result refl c.loop-part-test.true c.part-item.is in
    turn_parts c.args.body.now c.args.parts.now c.loop-part.part-index c.part-item.result c.in_ok-sending.sending c.args.code.now c.loop-part.code c.append_args.new.code c.push.new.self get c.loop-part.invariant
    (λ trees. subst (λ all. args_whole all ≡ true → IsBuilt c.args.body.now c.loop-part.code trees → IsBuilt c.args.body.now c.append_args.new.code (stacked false all trees)) c.as_slice.ensures (c.in_ok-append_args.ensures trees))
    c.in_ok-sending.ensures
    c.in_ok-push.ensures.ok

pub append_parts-returns : goal.append_parts-returns
append_parts-returns t c = λ receiver done trees w b. subst (λ all. IsBuilt c.args.body.now c.loop-part.code ((e.Sends receiver (done ++ all), false) ∷ trees)) (take_all c.loop-part.part-index c.args.parts.now c.loop-part-test.false) (c.loop-part.invariant receiver done trees w b)

pub append_terms-loop-oper-preserved : goal.append_terms-loop-oper-preserved
append_terms-loop-oper-preserved t c =
    let get = slice_get_read c.args.terms.now (length c.args.terms.now) c.loop-oper.oper-index c.loop-oper-item.result refl c.loop-oper-test.true c.loop-oper-item.is in
    turn_terms c.args.body.now c.args.terms.now c.loop-oper.oper-index c.loop-oper-item.result.0 c.loop-oper-item.result.1 c.args.code.now c.loop-oper.code c.want_left.new.code c.append.new.code c.push.new.self get c.loop-oper.invariant
    (c.in_ok-want_left.ensures c.args.body.now) c.in_ok-append.ensures c.in_ok-push.ensures.ok

pub append_terms-returns : goal.append_terms-returns
append_terms-returns t c = λ first done trees w b. subst (λ all. IsBuilt c.args.body.now c.loop-oper.code ((e.Chain first (done ++ all), false) ∷ trees)) (take_all c.loop-oper.oper-index c.args.terms.now c.loop-oper-test.false) (c.loop-oper.invariant first done trees w b)

pub append_tree-returns-in_ok-push : goal.append_tree-returns-in_ok-push
append_tree-returns-in_ok-push t c = tree_wanted c.args.body.now c.args.expr.now c.args.code.now c.append.new.code c.push.new.self c.args.string c.in_ok-append.ensures c.in_ok-push.ensures.ok c.if-string.true
