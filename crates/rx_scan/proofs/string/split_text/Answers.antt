use Rattle.std.proofs.Common.{◌≡◌, ◌+◌, ◌-◌, ℕ, List, None, length, take, drop, sym, subst, arith}
use Rattle.std.proofs.lemmas.Grind.{common_steps}
use Rattle.memchr.specs.Find.{IsFirstByte, is_byte2}
use Rattle.rx_scan.specs.Read.{IsSplit}
use Rattle.rx_scan.proofs.SplitLemmas.{split-at, feed-at, none-found}
use Rattle.rx_scan.proofs.string.split_text.Goals as goal

pub returns : goal.returns
returns c =
    let same : take (length c.args.bytes.now - (c.in-Some.at + 1)) (drop (c.in-Some.at + 1) c.args.bytes.now) ≡ drop (c.in-Some.at + 1) c.args.bytes.now =
    grind (arith, common_steps) in
    record {
      split = subst (λ (xs : List ℕ). IsSplit c.args.quote c.args.bytes.now (take c.in-Some.at c.args.bytes.now) xs) (sym same)
          (split-at c.args.quote c.args.bytes.now c.in-Some.at c.in-Some.ensures c.if-bytes-at.false);
    }

pub returns-then-bytes-at : goal.returns-then-bytes-at
returns-then-bytes-at c = record { split = feed-at c.args.quote c.args.bytes.now c.in-Some.at c.in-Some.ensures c.if-bytes-at.true }

pub returns-in_default : goal.returns-in_default
returns-in_default c =
    let none : IsFirstByte (is_byte2 c.args.quote 10) c.args.bytes.now None =
    subst (λ found. IsFirstByte (is_byte2 c.args.quote 10) c.args.bytes.now found) c.in_default.is c.memchr2.ensures in
    record { split = none-found c.args.quote c.args.bytes.now none }
