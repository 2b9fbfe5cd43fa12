use Rattle.std.proofs.Common.{◌≡◌, ◌&&◌, false, is_none, option_copied, unwrap_or, arith, subst, sym, ap, ◌∙◌}
use Rattle.std.specs.Prelude.{[]}
use Rattle.rx_answers.specs.Answers.{AnswersText}
use Rattle.rx_cutfn.specs.Letters.{all_bytes}
use Rattle.rx_cutfn.proofs.LetterLemmas.{text_or, is_none_copied, translated_by, translated_same}
use Rattle.rx_cutfn.proofs.letters.translate.Goals as goal
use Rattle.rx_cutfn.proofs.letters.translate.Goals.{else-is_none-via-then-is_none+then-is_none-2+else-is_none-3, else-is_none-via-then-is_none+else-is_none-2, else-is_none-via-else-is_none}

pub returns : goal.returns
returns c =
    let to_is : c.unwrap_or.result.now ≡ unwrap_or (option_copied c.args.to) [] = ap (λ r. r.now) c.unwrap_or.ensures ∙ sym (text_or c.args.to _) in
    let from_is : c.unwrap_or-2.result.now ≡ unwrap_or (option_copied c.args.from) all_bytes =
    ap (λ r. r.now) c.unwrap_or-2.ensures ∙ sym (text_or c.args.from _) ∙ ap (unwrap_or (option_copied c.args.from)) c.all_bytes-all.ensures in
    let some : (is_none (option_copied c.args.to) && (is_none (option_copied c.args.from) && is_none c.args.pad)) ≡ false =
    elim c.else-is_none.branch [
      | else-is_none-via-then-is_none+then-is_none-2+else-is_none-3 w ↦ grind (arith, is_none_copied)
      | else-is_none-via-then-is_none+else-is_none-2 w ↦ grind (arith, is_none_copied)
      | else-is_none-via-else-is_none w ↦ grind (arith, is_none_copied)
    ] in
    record {
      answer = subst (AnswersText c.replaced.result)
          (translated_by c.args.text.now c.table-table.result (option_copied c.args.to) (option_copied c.args.from) c.args.pad some
          (λ byte below. c.table-table.ensures byte below ∙ translated_same _ _ _ _ _ _ byte to_is from_is c.unwrap_or-3.ensures)
          (λ k. omega (arith, c.type_inv.text k)))
          c.replaced.ensures;
    }
