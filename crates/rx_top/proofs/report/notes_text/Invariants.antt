use Rattle.std.proofs.Common.{◌≡◌, ◌++◌, drop}
use Rattle.rx_machine.specs.Texts.{note_lines}
use Rattle.rx_top.proofs.report.notes_text.Given as goal

-- the lines so far, and those of the notes that are left
abbrev pub invariant-loop-note : goal.invariant-loop-note
invariant-loop-note l = l.text.items ++ note_lines (drop l.note-index l.notes) ≡ note_lines l.notes
