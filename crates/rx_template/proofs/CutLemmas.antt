-- A template is cut at its first trigger.
use Rattle.std.proofs.Common.{◌≡◌, ◌<◌, ℕ, suc, ◌+◌, Bool, true, false, not, cond, nat_lt, List, [], ◌∷◌, ◌++◌, length, get_or, take, drop, Some, None, inl, inr, refl, sym, ap, ◌∙◌, arith, drop-cons}
use Rattle.std.specs.Prelude.{filter, flat_map, position}
use Rattle.std.specs.List.{All, position_or_len, slice_split, zip}
use Rattle.std.proofs.lemmas.Bool.{cases_Bool, cond-true, cond-false, ltb-false}
use Rattle.std.proofs.lemmas.List.{append-nil, drop-drop, get_or-drop, get_or-take, length-take, take-append-drop}
use Rattle.std.proofs.lemmas.List.Quantifiers.{position-Some}
use Rattle.std.proofs.lemmas.List.Sums.{fails_before_first, prefix_len-le-length}
use Rattle.std.proofs.lemmas.List.Splits.{slice_split_at, slice_split_none}
use Rattle.rx_template.specs.declared.template.TPart.{TPart}
use Rattle.rx_template.specs.declared.section.Marks.{Marks}
use Rattle.rx_template.specs.Sections.{bytes_between, bytes_of, end_of, section_before, sections}
use Rattle.rx_template.specs.Pieces.{is_trigger, shared, pieces_from}

abbrev pub AreTargets : List TPart → Type 0
AreTargets parts = All (λ (part : TPart). is_trigger part ≡ false) parts

targets_behind : (part : TPart) (parts : List TPart) → AreTargets (part ∷ parts) → AreTargets parts
targets_behind part parts targets = λ k d below. targets (suc k) d (omega arith)

filter-targets : (front rest : List TPart) → AreTargets front → filter is_trigger (front ++ rest) ≡ filter is_trigger rest
filter-targets [] rest targets = refl
filter-targets (part ∷ front) rest targets =
    cond-false (is_trigger part) (part ∷ filter is_trigger (front ++ rest)) (filter is_trigger (front ++ rest)) (targets 0 part (omega arith))
    ∙ filter-targets front rest (targets_behind part front targets)

abbrev rows : List ℕ → List (List TPart) → List (List ℕ) → List (ℕ × List ℕ)
rows text targets sections = flat_map (λ (row : List TPart × List ℕ). shared row.0 row.1) (zip targets sections)

-- with targets in front of a trigger
cut_front : (marks : Marks) (front : List TPart) (trigger : TPart) (rest : List TPart) (text : List ℕ) → AreTargets front → is_trigger trigger ≡ true
    → pieces_from marks (front ++ trigger ∷ rest) text
    ≡ shared front (bytes_of text (section_before trigger text marks)) ++ pieces_from (section_before trigger text marks).next rest text
cut_front marks front trigger rest text targets is =
    ap (λ (split : List (List TPart)). rows text split (sections text marks (filter is_trigger (front ++ trigger ∷ rest)))) (slice_split_at is_trigger front trigger rest targets is)
    ∙ ap (λ (triggers : List TPart). rows text (front ∷ slice_split is_trigger rest) (sections text marks triggers))
    (filter-targets front (trigger ∷ rest) targets ∙ cond-true (is_trigger trigger) (trigger ∷ filter is_trigger rest) (filter is_trigger rest) is)

no_place : {X : Type 0} (test : X → Bool) (xs : List X) → position test xs ≡ None → position_or_len test xs ≡ length xs
no_place test xs none = elim (cases_Bool (nat_lt (position_or_len test xs) (length xs))) [
  | inl below ↦
      let some : Some (position_or_len test xs) ≡ None = sym (ap (λ (b : Bool). cond b (Some (position_or_len test xs)) None) below) ∙ none in
      cc
  | inr beyond ↦
      let far = ltb-false (position_or_len test xs) (length xs) beyond in
      let bound = prefix_len-le-length (λ x. not (test x)) xs in
      omega arith
]

-- at the place of the first trigger
pub cut_at : (marks : Marks) (parts : List TPart) (at : ℕ) (behind : List TPart) (trigger : TPart) (text : List ℕ) → position is_trigger parts ≡ Some at
    → behind ≡ drop at parts → trigger ≡ get_or behind 0 trigger
    → pieces_from marks parts text
    ≡ shared (take at parts) (bytes_of text (section_before trigger text marks)) ++ pieces_from (section_before trigger text marks).next (drop 1 behind) text
cut_at marks parts at behind trigger text found rest first =
    let facts = position-Some is_trigger parts at trigger found in
    let is : trigger ≡ get_or parts at trigger = first ∙ ap (λ (ps : List TPart). get_or ps 0 trigger) rest ∙ get_or-drop at parts 0 trigger ∙ ap (λ n. get_or parts n trigger) (let e : at + 0 ≡ at = omega arith in e) in
    let further : drop 1 behind ≡ drop (suc at) parts = ap (drop 1) rest ∙ drop-drop 1 at parts ∙ ap (λ n. drop n parts) (let e : at + 1 ≡ suc at = omega arith in e) in
    let whole : parts ≡ take at parts ++ trigger ∷ drop 1 behind =
    sym (take-append-drop at parts) ∙ ap (λ (ps : List TPart). take at parts ++ ps) (drop-cons parts at trigger facts.0 ∙ ap (λ (t : TPart). t ∷ drop (suc at) parts) (sym is) ∙ ap (λ (ps : List TPart). trigger ∷ ps) (sym further)) in
    let targets : AreTargets (take at parts) = λ k d below.
    let before : k < at = omega (arith, length-take at parts) in
    ap is_trigger (get_or-take at parts k d before) ∙ (position-Some is_trigger parts at d found).2 k before in
    ap (λ (ps : List TPart). pieces_from marks ps text) whole
    ∙ cut_front marks (take at parts) trigger (drop 1 behind) text targets (ap is_trigger is ∙ facts.1)

pub cut_nowhere : (marks : Marks) (parts : List TPart) (text : List ℕ) → position is_trigger parts ≡ None
    → pieces_from marks parts text ≡ shared parts (bytes_between text marks.start (end_of text))
cut_nowhere marks parts text none =
    let targets : AreTargets parts = λ k d below.
    let place = no_place is_trigger parts none in
    fails_before_first is_trigger parts k d (omega arith) in
    ap (λ (split : List (List TPart)). rows text split (sections text marks (filter is_trigger parts))) (slice_split_none is_trigger parts targets)
    ∙ ap (λ (triggers : List TPart). rows text (parts ∷ []) (sections text marks triggers)) (ap (filter is_trigger) (sym (append-nil parts)) ∙ filter-targets parts [] targets)
    ∙ append-nil (shared parts (bytes_between text marks.start (end_of text)))
