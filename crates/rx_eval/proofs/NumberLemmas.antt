-- Names by number, and values at the places of names.
use Rattle.std.proofs.Common.{◌≡◌, ℕ, zero, suc, ◌+◌, ◌<◌, ◌≤◌, ⊎_elim, List, [], ◌∷◌, ◌++◌, take, drop, length, slice_get, get_or, All, Contains, Some, None, refl, ap, sym, ◌∙◌, subst, append_assoc, add-one, arith, length-append}
use Rattle.std.specs.List.{AllZip}
use Rattle.std.proofs.lemmas.List.Elements.{All-nil, All-cons, All-append}
use Rattle.std.proofs.lemmas.Option.{slice_get_within, slice_get_cases, slice_get-get_or, get_or_from_slice_get, slice_get_read}
use Rattle.std.proofs.lemmas.List.{append-nil, drop_all, take_all}
use Rattle.std.proofs.Math.ListN.{get_or-append}
use Rattle.std.proofs.Math.Seq.{get_or-append_seam, take-suc}
use Rattle.rx_tree.specs.declared.name.Name.{Name}
use Rattle.rx_tree.specs.declared.name.Name.TheVariants as n
use Rattle.rx_tree.specs.declared.name.Part.{Part}
use Rattle.rx_tree.specs.declared.name.Part.TheVariants.{Fixed, Of}
use Rattle.rx_eval.specs.declared.code.Instr.{Instr}
use Rattle.rx_eval.specs.declared.code.Instr.TheVariants as i
use Rattle.rx_eval.specs.Names.{Lists, names_in, names_read, tail_names}
use Rattle.rx_eval.specs.Numbers.{IsNumber, AreNumbers, AreNumbered, Keeps}
use Rattle.rx_eval.proofs.At.{cut}

past : {X : Type 0} (xs : List X) (at : ℕ) → slice_get xs at ≡ None → length xs ≤ at
past xs at h = ⊎_elim (λ t. let p : Some t.0 ≡ None = sym t.2 ∙ h in cc) (λ t. t.0) (slice_get_cases xs at).1

not_below : (at : ℕ) → at < 0 → ⊥
not_below at l = omega arith

below_suc : (at n : ℕ) → suc at < suc n → at < n
below_suc at n l = omega arith

-- two lists, element by element

pub zip_push : {A B : Type 0} (R : A → B → Type 0) (xs : List A) (ys : List B) (x : A) (y : B) → AllZip R xs ys → R x y → AllZip R (xs ++ x ∷ []) (ys ++ y ∷ [])
zip_push R [] [] x y h r = (r, tt)
zip_push R [] (b ∷ ys) x y h r = absurd h
zip_push R (a ∷ xs) [] x y h r = absurd h
zip_push R (a ∷ xs) (b ∷ ys) x y h r = (h.0, zip_push R xs ys x y h.1 r)

zip_length : {A B : Type 0} (R : A → B → Type 0) (xs : List A) (ys : List B) → AllZip R xs ys → length xs ≡ length ys
zip_length R [] [] h = refl
zip_length R [] (b ∷ ys) h = absurd h
zip_length R (a ∷ xs) [] h = absurd h
zip_length R (a ∷ xs) (b ∷ ys) h = ap suc (zip_length R xs ys h.1)

zip_get : {A B : Type 0} (R : A → B → Type 0) (xs : List A) (ys : List B) (at : ℕ) (a : A) (b : B) → AllZip R xs ys → at < length xs → R (get_or xs at a) (get_or ys at b)
zip_get R [] [] at a b h l = absurd (not_below at l)
zip_get R [] (y ∷ ys) at a b h l = absurd h
zip_get R (x ∷ xs) [] at a b h l = absurd h
zip_get R (x ∷ xs) (y ∷ ys) zero a b h l = h.0
zip_get R (x ∷ xs) (y ∷ ys) (suc at) a b h l = zip_get R xs ys at a b h.1 (below_suc at (length xs) l)

-- names that a table keeps have the same numbers

pub keeps_numbers : (old new : List Name) → Keeps old new → (names : List Name) (numbers : List ℕ) → AreNumbers old names numbers → AreNumbers new names numbers
keeps_numbers old new k [] [] h = tt
keeps_numbers old new k [] (number ∷ numbers) h = h
keeps_numbers old new k (name ∷ names) [] h = h
keeps_numbers old new k (name ∷ names) (number ∷ numbers) h = (k name number h.0, keeps_numbers old new k names numbers h.1)

pub keeps_code : (old new : List Name) → Keeps old new → (code : List Instr) (numbers : List (List ℕ)) → AreNumbered old code numbers → AreNumbered new code numbers
keeps_code old new k [] [] h = tt
keeps_code old new k [] (own ∷ numbers) h = h
keeps_code old new k (instr ∷ code) [] h = h
keeps_code old new k (instr ∷ code) (own ∷ numbers) h = (keeps_numbers old new k (names_read instr) own h.0, keeps_code old new k code numbers h.1)

-- what has a number is there

is_listed : (table : List Name) (name : Name) (number : ℕ) → IsNumber table name number → Contains table name
is_listed table name number h = (number, slice_get_within table number name h, get_or_from_slice_get table number name name h)

are_listed : (table names : List Name) (numbers : List ℕ) → AreNumbers table names numbers → All (Contains table) names
are_listed table [] numbers h = All-nil (Contains table)
are_listed table (name ∷ names) [] h = absurd h
are_listed table (name ∷ names) (number ∷ numbers) h = All-cons (Contains table) name names (is_listed table name number h.0) (are_listed table names numbers h.1)

pub code_listed : (table : List Name) (code : List Instr) (numbers : List (List ℕ)) → AreNumbered table code numbers → Lists table code
code_listed table [] numbers h = All-nil (Contains table)
code_listed table (instr ∷ code) [] h = absurd h
code_listed table (instr ∷ code) (own ∷ numbers) h =
    All-append (Contains table) (names_read instr) _ (are_listed table (names_read instr) own h.0) (code_listed table code numbers h.1)

-- a new name in a table

pub new_is : (table : List Name) (name : Name) → IsNumber (table ++ name ∷ []) name (length table)
new_is table name =
    let more : length (table ++ name ∷ []) ≡ length table + 1 = length-append table (name ∷ []) in
    slice_get_read (table ++ name ∷ []) (length (table ++ name ∷ [])) (length table) name refl (omega arith) (sym (get_or-append_seam table name [] name))

pub keeps_new : (table : List Name) (name : Name) → Keeps table (table ++ name ∷ [])
keeps_new table new name number h =
    let within : number < length table = slice_get_within table number name h in
    let more : length (table ++ new ∷ []) ≡ length table + 1 = length-append table (new ∷ []) in
    slice_get_read (table ++ new ∷ []) (length (table ++ new ∷ [])) number name refl (omega arith)
    (sym (get_or_from_slice_get table number name name h) ∙ sym (get_or-append table (new ∷ []) name number within))

-- the names behind numbers

pub named_next : (table wanted : List Name) (numbers : List ℕ) (at number : ℕ) (found new start : List Name)
    → slice_get numbers at ≡ Some number → AreNumbers table wanted numbers → ((name : Name) → IsNumber table name number → new ≡ found ++ name ∷ [])
    → found ≡ start ++ take at wanted → new ≡ start ++ take (at + 1) wanted
named_next table wanted numbers at number found new start get h put f =
    let within : at < length numbers = slice_get_within numbers at number get in
    let long : length wanted ≡ length numbers = zip_length (IsNumber table) wanted numbers h in
    let here : at < length wanted = omega arith in
    let name : Name = get_or wanted at (n.Simple []) in
    let is : IsNumber table name number =
    subst (IsNumber table name) (get_or_from_slice_get numbers at number number get) (zip_get (IsNumber table) wanted numbers at (n.Simple []) number h here) in
    put name is ∙ ap (λ x. x ++ name ∷ []) f ∙ append_assoc start (take at wanted) (name ∷ [])
    ∙ ap (λ x. start ++ x) (sym (rw add-one (take-suc wanted at (n.Simple []) here)))

pub named_all : (table wanted : List Name) (numbers : List ℕ) (at : ℕ) → length numbers ≤ at → AreNumbers table wanted numbers → take at wanted ≡ wanted
named_all table wanted numbers at past h =
    let long : length wanted ≡ length numbers = zip_length (IsNumber table) wanted numbers h in
    take_all at wanted (omega arith)

code_at : (table : List Name) (code : List Instr) (numbers : List (List ℕ)) (at : ℕ) (own : List ℕ) → AreNumbered table code numbers → slice_get numbers at ≡ Some own
    → (instr : Instr) × (slice_get code at ≡ Some instr) × AreNumbers table (names_read instr) own
code_at table code numbers at own h get =
    let within : at < length numbers = slice_get_within numbers at own get in
    let long : length code ≡ length numbers = zip_length (λ instr own. AreNumbers table (names_read instr) own) code numbers h in
    let here : at < length code = omega arith in
    let is : get_or numbers at own ≡ own = get_or_from_slice_get numbers at own own get in (
      get_or code at i.Wanted,
      slice_get-get_or code at i.Wanted here,
      subst (λ x. AreNumbers table (names_read (get_or code at i.Wanted)) x) is (zip_get (λ instr own. AreNumbers table (names_read instr) own) code numbers at i.Wanted own h here),
    )

pub names_next : (table : List Name) (code : List Instr) (numbers : List (List ℕ)) (at : ℕ) (own : List ℕ) (found new all : List Name)
    → AreNumbered table code numbers → slice_get numbers at ≡ Some own → ((wanted : List Name) → AreNumbers table wanted own → new ≡ found ++ wanted)
    → found ++ names_in (drop at code) ≡ all → new ++ names_in (drop (at + 1) code) ≡ all
names_next table code numbers at own found new all h get put f =
    let here = code_at table code numbers at own h get in
    ap (λ x. x ++ names_in (drop (at + 1) code)) (put (names_read here.0) here.2)
    ∙ append_assoc found (names_read here.0) (names_in (drop (at + 1) code))
    ∙ ap (λ x. found ++ names_in x) (sym (cut code at here.0 here.1).0) ∙ f

pub names_end : (table : List Name) (code : List Instr) (numbers : List (List ℕ)) (at : ℕ) (found all : List Name)
    → AreNumbered table code numbers → slice_get numbers at ≡ None → found ++ names_in (drop at code) ≡ all → found ≡ all
names_end table code numbers at found all h get f =
    let long : length code ≡ length numbers = zip_length (λ instr own. AreNumbers table (names_read instr) own) code numbers h in
    let past : length numbers ≤ at = past numbers at get in
    sym (append-nil found) ∙ ap (λ x. found ++ names_in x) (sym (drop_all at code (omega arith))) ∙ f

pub names_less : (table : List Name) (code : List Instr) (numbers : List (List ℕ)) (at : ℕ) (own : List ℕ) → AreNumbered table code numbers → slice_get numbers at ≡ Some own → at < length code
names_less table code numbers at own h get =
    let within : at < length numbers = slice_get_within numbers at own get in
    let long : length code ≡ length numbers = zip_length (λ instr own. AreNumbers table (names_read instr) own) code numbers h in
    omega arith

-- one name more

pub numbers_more : (old new names : List Name) (numbers : List ℕ) (name : Name) (number : ℕ) → AreNumbers old names numbers → Keeps old new → IsNumber new name number
    → AreNumbers new (names ++ name ∷ []) (numbers ++ number ∷ [])
numbers_more old new names numbers name number h k is = zip_push (IsNumber new) names numbers name number (keeps_numbers old new k names numbers h) is

pub numbered_more : (old new : List Name) (code : List Instr) (numbers : List (List ℕ)) (instr : Instr) (own : List ℕ) → AreNumbered old code numbers → Keeps old new → AreNumbers new (names_read instr) own
    → AreNumbered new (code ++ instr ∷ []) (numbers ++ own ∷ [])
numbered_more old new code numbers instr own h k is =
    zip_push (λ instr own. AreNumbers new (names_read instr) own) code numbers instr own (keeps_code old new k code numbers h) is

tail_append : (first second : List Part) → tail_names (first ++ second) ≡ tail_names first ++ tail_names second
tail_append [] second = refl
tail_append (Fixed text ∷ first) second = tail_append first second
tail_append (Of name ∷ first) second = ap (λ names. n.Simple name ∷ names) (tail_append first second)

pub tail_next : (parts : List Part) (at : ℕ) (part : Part) → slice_get parts at ≡ Some part → tail_names (take at parts) ++ tail_names (part ∷ []) ≡ tail_names (take (at + 1) parts)
tail_next parts at part h = sym (ap tail_names (cut parts at part h).1 ∙ tail_append (take at parts) (part ∷ []))
