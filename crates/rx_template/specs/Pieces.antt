-- What a template cuts a text into.
use Rattle.std.specs.Prelude.{ℕ, Bool, true, false, List, [], ◌∷◌, ◌++◌, filter, flat_map}
use Rattle.std.specs.List.{before_first, after_first, slice_split, zip}
use Rattle.rx_text.specs.Blanks.{is_blank, without_blanks_in_front}
use Rattle.rx_template.specs.declared.template.TPart.{TPart}
use Rattle.rx_template.specs.declared.template.TPart.TheVariants.{Target, Period}
use Rattle.rx_template.specs.declared.section.Marks.{Marks}
use Rattle.rx_template.specs.Sections.{sections}

-- Targets and periods take the bytes of a section; every other part is a trigger, which ends one.
abbrev pub is_trigger : TPart → Bool
is_trigger (Target number) = false
is_trigger Period = false
is_trigger _ = true

-- a piece goes to a target, by its number, and a period drops it
abbrev pub given : TPart → List ℕ → List (ℕ × List ℕ)
given (Target number) bytes = (number, bytes) ∷ []
given _ bytes = []

-- the word that some bytes begin with, behind blanks, and what stands behind the one blank that ends it
abbrev pub word_of : List ℕ → List ℕ
word_of bytes = before_first is_blank (without_blanks_in_front bytes)

abbrev pub behind_word : List ℕ → List ℕ
behind_word bytes = after_first is_blank (without_blanks_in_front bytes)

-- the targets of a section share its bytes: each but the last takes a word, and the last takes what is left
abbrev pub shared : List TPart → List ℕ → List (ℕ × List ℕ)
shared [] bytes = []
shared (target ∷ []) bytes = given target bytes
shared (target ∷ (next ∷ targets)) bytes = given target (word_of bytes) ++ shared (next ∷ targets) (behind_word bytes)

-- The pieces of a text, in order, each with its target's number: the targets between two triggers share a section.
abbrev pub pieces_from : Marks → List TPart → List ℕ → List (ℕ × List ℕ)
pieces_from marks parts text =
    flat_map (λ row. shared row.0 row.1) (zip (slice_split is_trigger parts) (sections text marks (filter is_trigger parts)))

abbrev pub pieces : List TPart → List ℕ → List (ℕ × List ℕ)
pieces parts text = pieces_from (record { start = 1; found = 1 }) parts text
