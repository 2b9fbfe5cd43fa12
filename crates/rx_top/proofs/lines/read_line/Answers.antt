use Rattle.std.proofs.Common.{rules}
use Rattle.rx_top.proofs.LineLemmas.{ended-line, last-line, shrinks-byte}
use Rattle.rx_top.proofs.lines.read_line.Goals as goal

pub returns-in-Byte-eq10-clause-line : goal.returns-in-Byte-eq10-clause-line
returns-in-Byte-eq10-clause-line g c =
    ended-line (g.I.Source.left c.args.input.now) (g.I.Source.left c.loop-input.input) (g.I.Source.left c.next_byte.new.input)
    c.loop-input.line.items c.as_slice.result.now c.line_of.result c.loop-input.invariant.begun (search rules) c.as_slice.ensures.value
    c.loop-input.invariant.taken (search rules) c.line_of.ensures

pub returns-then-is_err-clause-line : goal.returns-then-is_err-clause-line
returns-then-is_err-clause-line g c =
    shrinks-byte (g.I.Source.left c.args.input.now) (g.I.Source.left c.loop-input.input) (g.I.Source.left c.next_byte.new.input)
    c.loop-input.line.items c.in-Byte.byte c.loop-input.invariant.taken c.in-Byte.ensures.byte

pub returns-in-End-clause-line : goal.returns-in-End-clause-line
returns-in-End-clause-line g c =
    last-line (g.I.Source.left c.args.input.now) (g.I.Source.left c.loop-input.input) (g.I.Source.left c.next_byte.new.input)
    c.loop-input.line.items c.as_slice-in-End.result.now c.last_line_of.result c.loop-input.invariant.begun (search rules)
    c.as_slice-in-End.ensures.value c.loop-input.invariant.taken c.in-End.ensures.byte.0 c.in-End.ensures.byte.1 c.last_line_of.ensures
