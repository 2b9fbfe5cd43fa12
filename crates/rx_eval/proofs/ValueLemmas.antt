-- The value of a variable at any of its places.
use Rattle.std.proofs.Common.{◌≡◌, ℕ, ◌<◌, ◌⊎◌, inl, inr, ⊎_elim, Bool, true, false, ◌&&◌, if◌then◌else◌, [], ◌∷◌, ◌++◌, length, slice_get, get_or, All, Option, Some, refl, ap, sym, ◌∙◌, subst}
use Rattle.std.specs.Str.{bytes_eq}
use Rattle.std.proofs.lemmas.Bool.{false≢true}
use Rattle.std.proofs.lemmas.List.Elements.{All-nil, All-cons, All-head, All-tail, All-get_or, All-push, All-weaker}
use Rattle.std.proofs.lemmas.Option.{slice_get_within, get_or_from_slice_get}
use Rattle.std.proofs.lemmas.Slice.Eq.{bytes_eq-Decides}
use Rattle.rx_tree.specs.declared.name.Derived.{Derived}
use Rattle.rx_tree.specs.declared.name.Derived.TheVariants as d
use Rattle.rx_tree.specs.declared.value.Value.{Value}
use Rattle.rx_eval.specs.Values.{Values, Agree, read, same_name}

abbrev Entry : Type 0
Entry = Derived × Option Value

both_are : (a b : Bool) → (a && b) ≡ true → (a ≡ true) × (b ≡ true)
both_are true b h = (refl, h)
both_are false b h = absurd (false≢true h)

pub same_is : (a b : Derived) → same_name a b ≡ true → a ≡ b
same_is (d.Simple a) (d.Simple b) h = ap d.Simple ((bytes_eq-Decides a b).0 h)
same_is (d.Simple a) (d.Stem b) h = absurd (false≢true h)
same_is (d.Simple a) (d.Compound b t) h = absurd (false≢true h)
same_is (d.Stem a) (d.Simple b) h = absurd (false≢true h)
same_is (d.Stem a) (d.Stem b) h = ap d.Stem ((bytes_eq-Decides a b).0 h)
same_is (d.Stem a) (d.Compound b t) h = absurd (false≢true h)
same_is (d.Compound a s) (d.Simple b) h = absurd (false≢true h)
same_is (d.Compound a s) (d.Stem b) h = absurd (false≢true h)
same_is (d.Compound a s) (d.Compound b t) h =
    let both = both_are (bytes_eq a b) (bytes_eq s t) h in
    ap (λ a. d.Compound a s) ((bytes_eq-Decides a b).0 both.0) ∙ ap (λ t. d.Compound b t) ((bytes_eq-Decides s t).0 both.1)

abbrev Has : Derived → Option Value → Entry → Type 0
Has name value entry = entry.0 ≡ name → entry.1 ≡ value

abbrev Differs : Derived → Entry → Type 0
Differs name entry = same_name entry.0 name ≡ false

-- where each entry of a name has one value, that is what is read, or there is no such entry
read_next : (entry : Entry) (entries : Values) (name : Derived) (value : Option Value) (is : Bool) → same_name entry.0 name ≡ is → All (Has name value) (entry ∷ entries)
    → (read entries name ≡ value) ⊎ All (Differs name) entries → (read (entry ∷ entries) name ≡ value) ⊎ All (Differs name) (entry ∷ entries)
read_next entry entries name value true p h rest =
    inl (ap (λ is. if is then entry.1 else read entries name) p ∙ All-head (Has name value) entry entries h (same_is entry.0 name p))
read_next entry entries name value false p h rest =
    ⊎_elim (λ q. inl (ap (λ is. if is then entry.1 else read entries name) p ∙ q)) (λ a. inr (All-cons (Differs name) entry entries p a)) rest

read_or : (entries : Values) (name : Derived) (value : Option Value) → All (Has name value) entries → (read entries name ≡ value) ⊎ All (Differs name) entries
read_or [] name value h = inr (All-nil (Differs name))
read_or (entry ∷ entries) name value h =
    read_next entry entries name value (same_name entry.0 name) refl h (read_or entries name value (All-tail (Has name value) entry entries h))

pub read_at : (entries : Values) (place : ℕ) (entry : Entry) (name : Derived) → Agree entries → slice_get entries place ≡ Some entry → same_name entry.0 name ≡ true → entry.1 ≡ read entries name
read_at entries place entry name h at same =
    let within : place < length entries = slice_get_within entries place entry at in
    let is : get_or entries place entry ≡ entry = get_or_from_slice_get entries place entry entry at in
    let named : entry.0 ≡ name = same_is entry.0 name same in
    let one : All (λ other. entry.0 ≡ other.0 → entry.1 ≡ other.1) entries =
    subst (λ x. All (λ other. x.0 ≡ other.0 → x.1 ≡ other.1) entries) is (All-get_or (λ x. All (λ other. x.0 ≡ other.0 → x.1 ≡ other.1) entries) entries place entry within h) in
    let has : All (Has name entry.1) entries =
    All-weaker (λ other. entry.0 ≡ other.0 → entry.1 ≡ other.1) (Has name entry.1) (λ other k p. sym (k (named ∙ sym p))) entries one in
    ⊎_elim (λ p. sym p)
    (λ none. absurd (false≢true (sym (subst (λ x. same_name x.0 name ≡ false) is (All-get_or (Differs name) entries place entry within none)) ∙ same)))
    (read_or entries name entry.1 has)

abbrev Agrees : Values → Entry → Type 0
Agrees entries one = All (λ other. one.0 ≡ other.0 → one.1 ≡ other.1) entries

-- each old entry agrees with one more
all_pushed : (entries : Values) (name : Derived) (value : Option Value) → All (Agrees entries) entries → All (Has name value) entries
    → All (Agrees (entries ++ (name, value) ∷ [])) entries
all_pushed entries name value h new = λ k d within.
    All-push (λ other. (get_or entries k d).0 ≡ other.0 → (get_or entries k d).1 ≡ other.1) entries (name, value) (h k d within) (new k d within)

pub agree_more : (entries : Values) (name : Derived) (value : Option Value) → Agree entries → All (λ entry. entry.0 ≡ name → entry.1 ≡ value) entries → Agree (entries ++ (name, value) ∷ [])
agree_more entries name value h new =
    All-push (λ one. All (λ other. one.0 ≡ other.0 → one.1 ≡ other.1) (entries ++ (name, value) ∷ [])) entries (name, value)
    (all_pushed entries name value h new)
    (All-push (λ other. name ≡ other.0 → value ≡ other.1) entries (name, value)
    (All-weaker (Has name value) (λ other. name ≡ other.0 → value ≡ other.1) (λ other k p. sym (k (sym p))) entries new) (λ p. refl))
