use Rattle.std.proofs.Common.{drop, sym, append_assoc}
use Rattle.std.proofs.lemmas.List.{take_rest}
use Rattle.rx_template.specs.Pieces.{pieces_from, shared}
use Rattle.rx_template.proofs.CutLemmas.{cut_at, cut_nowhere}
use Rattle.rx_template.proofs.pieces.parse.Goals as goal

pub loop-at-preserved : goal.loop-at-preserved
loop-at-preserved c =
    let cut = cut_at c.loop-at.marks c.loop-at.rest.now c.in-Some.at c.split_at.result.1.now c.index-behind-0.result c.args.text.now
    (sym c.in-Some.ensures) c.split_at.ensures.back c.index-behind-0.is in
    let taken = c.in_ok-share.ensures in
    let rest = take_rest c.split_at.result.1.now 1 in
    let joined = append_assoc c.loop-at.taken (shared c.split_at.result.0.now c.bytes_between.result.now)
    (pieces_from c.section_before-section.result.next (drop 1 c.split_at.result.1.now) c.args.text.now) in
    record { cut = cc; begins = c.section_before-section.ensures.start }

pub returns : goal.returns
returns c =
    let cut = cut_nowhere c.loop-at.marks c.loop-at.rest.now c.args.text.now (sym c.in_default.ensures) in
    let taken = c.in_ok-share-2.ensures in
    record { pieces = cc }
