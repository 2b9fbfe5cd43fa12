use Rattle.std.proofs.Common.{◌≡◌, ◌<◌, ◌≤◌, ℕ, List, Ok, length, sym, ap, ◌∙◌, arith, Vec}
use Rattle.std.specs.declared.alloc.Global.{Global}
use Rattle.hex.specs.Hex.{encode_upper, upper_digits}
use Rattle.hex.proofs.HexLemmas.{length-encode_with}
use Rattle.rx_convfn.specs.Conversions.{c2x}
use Rattle.rx_convfn.proofs.AnswerLemmas.{fits, gives, raises, too_long}
use Rattle.rx_convfn.proofs.digits.c2x.Goals as goal

pub returns-then-text : goal.returns-then-text
returns-then-text c =
    let long : 16777216 < length (encode_upper c.args.text.now) = omega (arith, length-encode_with upper_digits c.args.text.now) in
    record { answer = raises (c2x c.args.text.now) 5 (too_long (encode_upper c.args.text.now) long) }

pub returns : goal.returns
returns c =
    let short : length (encode_upper c.args.text.now) ≤ 16777216 = omega (arith, length-encode_with upper_digits c.args.text.now) in
    let items : c.into_bytes.result.items ≡ encode_upper c.args.text.now =
    ap (λ (v : Vec ℕ Global). v.items) c.into_bytes.ensures.value ∙ c.in_ok-digits.ensures in
    record {
      answer = gives (c2x c.args.text.now) c.into_bytes.result (fits (encode_upper c.args.text.now) short ∙ ap (λ (t : List ℕ). Ok t) (sym items));
    }
