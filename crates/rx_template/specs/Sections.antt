-- The sections of a text, as the triggers of a template end them. Places are counted from 1, and place n + 1 is the end of a
-- text of n bytes.
use Rattle.std.specs.Prelude.{ℕ, ◌+◌, ◌-◌, ◌<◌, ◌≤◌, ◌==◌, nat_lt, min, max, if◌then◌else◌, List, [], ◌∷◌, length, take, drop}
use Rattle.rx_cutfn.specs.Places.{first_place, stands_at}
use Rattle.rx_template.specs.declared.template.TPart.{TPart}
use Rattle.rx_template.specs.declared.template.TPart.TheVariants.{Target, Period, Literal, At, Forward, Backward}
use Rattle.rx_template.specs.declared.section.Marks.{Marks}
use Rattle.rx_template.specs.declared.section.Section.{Section}

abbrev pub end_of : List ℕ → ℕ
end_of text = length text + 1

abbrev pub IsPlace : List ℕ → ℕ → Type 0
IsPlace text place = (0 < place) × (place ≤ end_of text)

-- the bytes of a text from a place on, up to another one
abbrev pub bytes_between : List ℕ → ℕ → ℕ → List ℕ
bytes_between text from to = drop (from - 1) (take (to - 1) text)

-- the first place, from another one on, where a string stands; 0 where there is none, and for an empty string
abbrev pub place_of : List ℕ → List ℕ → ℕ → ℕ
place_of string text from = if length string == 0 then 0 else first_place (stands_at string text) from (length text)

-- A trigger ends a section, and leaves the marks for the next one: where that begins, and where the last match is.
-- A string that is found ends it there, and the next section begins behind it; one that isn't found takes all that is left.
abbrev pub by_string : List ℕ → Marks → ℕ → ℕ → Section
by_string text marks width place =
    if place == 0 then record { from = marks.start; to = end_of text; next = record { start = end_of text; found = end_of text } }
    else record { from = marks.start; to = place; next = record { start = place + width; found = place } }

-- A position, brought into the text, ends the section where it is behind the last match, and else the text's end does.
abbrev pub by_position : List ℕ → Marks → ℕ → ℕ → Section
by_position text marks from position =
    let place = min (max position 1) (end_of text) in
    record { from = from; to = (if nat_lt marks.found place then place else end_of text); next = record { start = place; found = place } }

-- the section in front of a trigger; one by a number of bytes forward begins at the last match
abbrev pub section_before : TPart → List ℕ → Marks → Section
section_before (Literal string) text marks = by_string text marks (length string) (place_of string text marks.start)
section_before (At position) text marks = by_position text marks marks.start position
section_before (Forward count) text marks = by_position text marks marks.found (marks.found + count)
section_before (Backward count) text marks = by_position text marks marks.start (marks.found - count)
section_before (Target number) text marks = record { from = marks.start; to = marks.start; next = marks }
section_before Period text marks = record { from = marks.start; to = marks.start; next = marks }

abbrev pub bytes_of : List ℕ → Section → List ℕ
bytes_of text section = bytes_between text section.from section.to

-- the sections that some triggers end, in order, and the one that the text's end does
abbrev pub sections : List ℕ → Marks → List TPart → List (List ℕ)
sections text marks [] = bytes_between text marks.start (end_of text) ∷ []
sections text marks (trigger ∷ triggers) =
    let section = section_before trigger text marks in bytes_of text section ∷ sections text section.next triggers
