use Rattle.std.proofs.Common.{◌≡◌, ◌∷◌, suc, sym, ap, length, arith, ◌∙◌}
use Rattle.rx_scan.proofs.CommentLemmas.{closed-inner, opened-inner, passed-byte}
use Rattle.rx_scan.proofs.comment.close.Goals as goal

pub loop-first-preserved-then-is_closing : goal.loop-first-preserved-then-is_closing
loop-first-preserved-then-is_closing c =
    let first : c.from_mark.result.now ≡ c.in-Some.first ∷ c.in-Some.more.now = c.in-Some.ensures in
    let second : c.in-Some.more.now ≡ c.in-Some-split_first.second ∷ c.in-Some-split_first.behind.now = c.in-Some-split_first.ensures in
    let one : length c.from_mark.result.now ≡ suc (length c.in-Some.more.now) = ap length first in
    let two : length c.in-Some.more.now ≡ suc (length c.in-Some-split_first.behind.now) = ap length second in
    record {
      same = closed-inner c.from_mark.result.now c.in-Some.more.now c.in-Some-split_first.behind.now c.args.bytes.now c.loop-first.depth c.in-Some.first c.in-Some-split_first.second
          first second (sym c.is_closing.ensures ∙ c.if-is_closing.true) c.if-depth-eq0.false (c.from_mark.ensures.same c.loop-first.depth ∙ c.loop-first.invariant.same);
      few = omega arith;
    }

pub loop-first-preserved-then-is_opening : goal.loop-first-preserved-then-is_opening
loop-first-preserved-then-is_opening c =
    let first : c.from_mark.result.now ≡ c.in-Some.first ∷ c.in-Some.more.now = c.in-Some.ensures in
    let second : c.in-Some.more.now ≡ c.in-Some-split_first.second ∷ c.in-Some-split_first.behind.now = c.in-Some-split_first.ensures in
    let one : length c.from_mark.result.now ≡ suc (length c.in-Some.more.now) = ap length first in
    let two : length c.in-Some.more.now ≡ suc (length c.in-Some-split_first.behind.now) = ap length second in
    record {
      same = opened-inner c.from_mark.result.now c.in-Some.more.now c.in-Some-split_first.behind.now c.args.bytes.now c.loop-first.depth c.in-Some.first c.in-Some-split_first.second
          first second (sym c.is_closing.ensures ∙ c.if-is_closing.false) (sym c.is_opening.ensures ∙ c.if-is_opening.true)
          (c.from_mark.ensures.same c.loop-first.depth ∙ c.loop-first.invariant.same);
      few = omega arith;
    }

pub loop-first-preserved : goal.loop-first-preserved
loop-first-preserved c =
    let first : c.from_mark.result.now ≡ c.in-Some.first ∷ c.in-Some.more.now = c.in-Some.ensures in
    let second : c.in-Some.more.now ≡ c.in-Some-split_first.second ∷ c.in-Some-split_first.behind.now = c.in-Some-split_first.ensures in
    let one : length c.from_mark.result.now ≡ suc (length c.in-Some.more.now) = ap length first in
    record {
      same = passed-byte c.from_mark.result.now c.in-Some.more.now c.in-Some-split_first.behind.now c.args.bytes.now c.loop-first.depth c.in-Some.first c.in-Some-split_first.second
          first second (sym c.is_closing.ensures ∙ c.if-is_closing.false) (sym c.is_opening.ensures ∙ c.if-is_opening.false)
          (c.from_mark.ensures.same c.loop-first.depth ∙ c.loop-first.invariant.same);
      few = omega arith;
    }
