-- The table of labels is made with the code.
use Rattle.std.proofs.Common.{◌≡◌, ℕ, ◌+◌, ◌<◌, ◌≤◌, Bool, true, false, List, [], ◌∷◌, ◌++◌, take, drop, length, get_or, is_some, Option, Some, None, if◌then◌else◌, refl, ap, sym, ◌∙◌, subst, arith, append_assoc, length-append}
use Rattle.std.specs.Option.{option_map}
use Rattle.std.specs.Str.{bytes_eq}
use Rattle.std.proofs.lemmas.Slice.Eq.{bytes_eq-Decides}
use Rattle.std.proofs.lemmas.List.{append-nil, take-append-drop, drop_all, drop_more, get_or_past}
use Rattle.rx_clause_tree.specs.declared.clause.Clause.{Clause}
use Rattle.rx_vars.specs.Tables.{look_up, with_entry, with_new}
use Rattle.rx_flow.specs.declared.code.Code.{Code}
use Rattle.rx_flow.specs.Rules.{rule}
use Rattle.rx_flow.specs.Todo.{label_of, is_named, after_label}
use Rattle.rx_flow.specs.Spots.{Doing, clauses_at, spots, all_spots, spot_at}
use Rattle.rx_flow.specs.Places.{left_at}
use Rattle.rx_flow.specs.Stands.{view}
use Rattle.rx_flow.specs.Laid.{Runs, plans, Laid}
use Rattle.rx_flow.specs.Labels.{Labels, AreLabels, behind_label, AreLabelsBefore, with_label}
use Rattle.rx_flow.proofs.LayLemmas.{first_left, runs_at}
use Rattle.rx_flow.proofs.BodyLemmas.{runs_behind}

-- ---- what is left behind the code of the first clauses

all_spots-append : (xs ys after : List Clause) → all_spots (xs ++ ys) after ≡ all_spots xs (ys ++ after) ++ all_spots ys after
all_spots-append [] ys after = refl
all_spots-append (x ∷ xs) ys after =
    rw (append_assoc xs ys after, all_spots-append xs ys after)
    (sym (append_assoc (spots x (xs ++ (ys ++ after))) (all_spots xs (ys ++ after)) (all_spots ys after)))

abbrev no_code : Code
no_code = record { ops = []; clauses = [] }

rest_left : (code : Code) (xs ys : List Clause) → Laid no_code code (plans xs) → left_at (xs ++ ys) (length code.ops) ≡ ys
rest_left code xs ys laid =
    let body = xs ++ ys in
    let front = all_spots xs (ys ++ []) in
    let runs : Runs (spot_at body) 0 (front ++ all_spots ys []) =
    subst (λ ss. Runs (spot_at body) 0 ss) (all_spots-append xs ys []) (runs_behind (Doing []) [] (all_spots body [])) in
    let place : 0 + length front ≡ length code.ops = omega (arith, laid.lays.counts (ys ++ []), ap length laid.all_ops) in
    let back = runs_at (spot_at body) 0 (length code.ops) front (all_spots ys []) place runs in
    let last : left_at body (length code.ops + length (all_spots ys [])) ≡ [] =
    let whole : length (all_spots body []) ≡ length front + length (all_spots ys []) = ap length (all_spots-append xs ys []) ∙ length-append front (all_spots ys []) in
    ap clauses_at (get_or_past (all_spots body []) (length code.ops + length (all_spots ys [])) (Doing []) (omega arith)) in
    first_left (view code body) (length code.ops) ys [] back last ∙ append-nil ys

-- the same of the first clauses of a body
rest_of : (code : Code) (body : List Clause) (i : ℕ) → Laid no_code code (plans (take i body)) → left_at body (length code.ops) ≡ drop i body
rest_of code body i laid =
    subst (λ xs. left_at xs (length code.ops) ≡ drop i body) (take-append-drop i body) (rest_left code (take i body) (drop i body) laid)

-- ---- the table with one label more

-- what is behind a label, by the table with a new name
abbrev IsAdded : List Clause → Labels → Labels → List ℕ → List ℕ → ℕ → Option (List Clause) → Type 0
IsAdded body labels more name other place others =
    behind_label body (look_up more other) others
    ≡ behind_label body (look_up labels other) (if bytes_eq other name then Some (left_at body place) else others)

entry_behind : (body : List Clause) (entry : List ℕ × ℕ) (labels : Labels) (name other : List ℕ) (place : ℕ) (others : Option (List Clause)) (b : Bool)
    → bytes_eq name entry.0 ≡ b → look_up (entry ∷ labels) name ≡ None
    → (look_up labels name ≡ None → IsAdded body labels (with_entry labels name place) name other place others)
    → IsAdded body (entry ∷ labels) (with_entry (entry ∷ labels) name place) name other place others
entry_behind body entry labels name other place others true e none later =
    let empty : Option ℕ = None in
    let found : Some entry.1 ≡ empty = sym (ap (λ (b : Bool). if b then Some entry.1 else look_up labels name) e) ∙ none in
    cc
entry_behind body entry labels name other place others false e none later =
    let missing : look_up labels name ≡ None = sym (ap (λ (b : Bool). if b then Some entry.1 else look_up labels name) e) ∙ none in
    let more = with_entry labels name place in
    let new = if bytes_eq other name then Some (left_at body place) else others in
    ap (λ (b : Bool). behind_label body (look_up (if b then (entry.0, place) ∷ labels else entry ∷ more) other) others) e
    ∙ elim (bytes_eq other entry.0)
    as (λ b. behind_label body (if b then Some entry.1 else look_up more other) others ≡ behind_label body (if b then Some entry.1 else look_up labels other) new) [
      | true ↦ refl
      | false ↦ later missing
    ]

added_entry : (body : List Clause) (labels : Labels) (name other : List ℕ) (place : ℕ) (others : Option (List Clause)) → look_up labels name ≡ None
    → IsAdded body labels (with_entry labels name place) name other place others
added_entry body [] name other place others none =
    elim (bytes_eq other name)
    as (λ b. behind_label body (if b then Some place else None) others ≡ (if b then Some (left_at body place) else others)) [ true ↦ refl | false ↦ refl ]
added_entry body (entry ∷ labels) name other place others none =
    entry_behind body entry labels name other place others (bytes_eq name entry.0) refl none (added_entry body labels name other place others)

-- a name that is there already stays
known_same : (body : List Clause) (labels : Labels) (name other : List ℕ) (place old : ℕ) (others : Option (List Clause)) (b : Bool)
    → bytes_eq other name ≡ b → look_up labels name ≡ Some old → IsAdded body labels labels name other place others
known_same body labels name other place old others true e found =
    let same : look_up labels other ≡ Some old = ap (look_up labels) ((bytes_eq-Decides other name).0 e) ∙ found in
    ap (λ (o : Option ℕ). behind_label body o others) same
    ∙ sym (ap (λ (o : Option ℕ). behind_label body o (if bytes_eq other name then Some (left_at body place) else others)) same)
known_same body labels name other place old others false e found =
    ap (λ (b : Bool). behind_label body (look_up labels other) (if b then Some (left_at body place) else others)) (sym e)

added_new : (body : List Clause) (labels : Labels) (name other : List ℕ) (place : ℕ) (others : Option (List Clause)) (o : Option ℕ) → look_up labels name ≡ o
    → IsAdded body labels (with_new labels name place) name other place others
added_new body labels name other place others None e =
    ap (λ (o : Option ℕ). behind_label body (look_up (if is_some o then labels else with_entry labels name place) other) others) e
    ∙ added_entry body labels name other place others e
added_new body labels name other place others (Some old) e =
    ap (λ (o : Option ℕ). behind_label body (look_up (if is_some o then labels else with_entry labels name place) other) others) e
    ∙ known_same body labels name other place old others (bytes_eq other name) refl e

-- ---- a body's labels

behind_label-none : (body : List Clause) (o : Option ℕ) → behind_label body o None ≡ option_map (left_at body) o
behind_label-none body None = refl
behind_label-none body (Some place) = refl

pub labels_none : (body : List Clause) (labels : Labels) → labels ≡ [] → AreLabelsBefore body body labels
labels_none body labels none = λ name. ap (λ (ls : Labels). behind_label body (look_up ls name) (after_label name body)) (sym none)

pub labels_all : (body : List Clause) (labels : Labels) (i : ℕ) → length body ≤ i → AreLabelsBefore body (drop i body) labels → AreLabels body labels
labels_all body labels i far h = λ name.
    h name ∙ ap (λ (xs : List Clause). behind_label body (look_up labels name) (after_label name xs)) (drop_all i body far)
    ∙ behind_label-none body (look_up labels name)

next_rest : (body : List Clause) (i : ℕ) (clause : Clause) → i < length body → clause ≡ get_or body i clause → drop i body ≡ clause ∷ drop (i + 1) body
next_rest body i clause lt is = drop_more body i clause lt ∙ ap (λ (c : Clause). c ∷ drop (i + 1) body) (sym is)

-- the labels but for those among one clause less
after_next : (body : List Clause) (labels : Labels) (i : ℕ) (clause : Clause) (o : Option (List ℕ)) → i < length body → clause ≡ get_or body i clause
    → label_of (rule clause) ≡ o → AreLabelsBefore body (drop i body) labels → (name : List ℕ)
    → after_label name body ≡ behind_label body (look_up labels name) (if is_named name o then Some (drop (i + 1) body) else after_label name (drop (i + 1) body))
after_next body labels i clause o lt is label h name =
    h name ∙ ap (behind_label body (look_up labels name)) (ap (after_label name) (next_rest body i clause lt is)
    ∙ ap (λ (l : Option (List ℕ)). if is_named name l then Some (drop (i + 1) body) else after_label name (drop (i + 1) body)) label)

pub labels_noted : (code : Code) (body : List Clause) (labels more : Labels) (i : ℕ) (clause : Clause) (o : Option (List ℕ)) → label_of (rule clause) ≡ o
    → i < length body → clause ≡ get_or body i clause → Laid no_code code (plans (take (i + 1) body)) → more ≡ with_label o (length code.ops) labels
    → AreLabelsBefore body (drop i body) labels → AreLabelsBefore body (drop (i + 1) body) more
labels_noted code body labels more i clause None label lt is laid e h =
    subst (AreLabelsBefore body (drop (i + 1) body)) (sym e) (after_next body labels i clause None lt is label h)
labels_noted code body labels more i clause (Some name) label lt is laid e h =
    let left_is : left_at body (length code.ops) ≡ drop (i + 1) body = rest_of code body (i + 1) laid in
    subst (AreLabelsBefore body (drop (i + 1) body)) (sym e)
    (λ other.
    after_next body labels i clause (Some name) lt is label h other
    ∙ ap (λ (xs : List Clause). behind_label body (look_up labels other) (if bytes_eq other name then Some xs else after_label other (drop (i + 1) body))) (sym left_is)
    ∙ sym (added_new body labels name other (length code.ops) (after_label other (drop (i + 1) body)) (look_up labels name) refl))
