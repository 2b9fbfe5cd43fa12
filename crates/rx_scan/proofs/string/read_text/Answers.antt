use Rattle.std.proofs.Common.{◌≡◌, ◌==◌, false, ◌+◌, ◌∷◌, ◌++◌, ◌∙◌, [], suc, length, ap, arith, rules, length-append}
use Rattle.rx_tree.specs.Letters.{begins}
use Rattle.rx_scan.proofs.SplitLemmas.{text-more, text-last, split-length}
use Rattle.rx_scan.proofs.string.read_text.Goals as goal

pub loop-front-preserved : goal.loop-front-preserved
loop-front-preserved c =
    let first : c.extend_from_slice.new.self.items ≡ c.loop-front.text.items ++ c.in-Some.front.now = search rules in
    let second : c.push.new.self.items ≡ c.extend_from_slice.new.self.items ++ c.args.quote ∷ [] = search rules in
    let again : c.in-Some.behind.now ≡ c.args.quote ∷ c.in-Some-behind_quote.more.now = c.in-Some-behind_quote.ensures in
    let one : length c.extend_from_slice.new.self.items ≡ length c.loop-front.text.items + length c.in-Some.front.now =
    ap length first ∙ length-append c.loop-front.text.items c.in-Some.front.now in
    let two : length c.push.new.self.items ≡ length c.extend_from_slice.new.self.items + 1 =
    ap length second ∙ length-append c.extend_from_slice.new.self.items (c.args.quote ∷ []) in
    let three : length c.in-Some.behind.now ≡ suc (length c.in-Some-behind_quote.more.now) = ap length again in
    let four : length c.loop-front.rest.now ≡ length c.in-Some.front.now + suc (length c.in-Some.behind.now) =
    split-length c.args.quote c.loop-front.rest.now c.in-Some.front.now c.in-Some.behind.now c.in-Some.ensures.split in
    record {
      same = text-more c.args.quote c.loop-front.text.items c.extend_from_slice.new.self.items c.push.new.self.items c.loop-front.rest.now
          c.in-Some.front.now c.in-Some.behind.now c.in-Some-behind_quote.more.now c.in-Some.ensures.split again first second
          ∙ c.loop-front.invariant.same;
      few = omega arith;
    }

pub returns-in_default-behind_quote-clause-text : goal.returns-in_default-behind_quote-clause-text
returns-in_default-behind_quote-clause-text c =
    let first : c.extend_from_slice.new.self.items ≡ c.loop-front.text.items ++ c.in-Some.front.now = search rules in
    let ends : begins (λ b. b == c.args.quote) c.in-Some.behind.now ≡ false = search rules in
    text-last c.args.quote c.loop-front.text.items c.extend_from_slice.new.self.items c.loop-front.rest.now c.in-Some.front.now c.in-Some.behind.now
    c.in-Some.ensures.split ends first ∙ c.loop-front.invariant.same
