use Rattle.std.proofs.Common.{◌≡◌, ◌++◌, length}
use Rattle.rx_template.specs.Sections.{IsPlace}
use Rattle.rx_template.specs.Pieces.{pieces, pieces_from}
use Rattle.rx_template.proofs.pieces.parse.Given as goal

abbrev pub invariant-loop-at : goal.invariant-loop-at
invariant-loop-at l = record {
  cut : l.taken ++ pieces_from l.marks l.rest l.text ≡ pieces l.template.parts l.text;
  begins : IsPlace l.text l.marks.start;
}

abbrev pub decreases-loop-at : goal.decreases-loop-at
decreases-loop-at l = length l.rest
