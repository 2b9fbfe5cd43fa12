-- Lists: what is read behind what was found already, and more turns than are needed change nothing.
use Rattle.std.proofs.Common.{◌≡◌, ℕ, zero, suc, ◌+◌, ◌<◌, ◌≤◌, Bool, true, false, if◌then◌else◌, List, [], ◌∷◌, ◌++◌, length, Option, Some, None, is_some, Ok, Err, refl, sym, ◌∙◌, ap, arith}
use Rattle.std.specs.Prelude.{codes}
use Rattle.std.proofs.lemmas.List.{append_assoc, append-nil}
use Rattle.rx_tree.specs.declared.name.Name.{Name}
use Rattle.rx_tree.specs.declared.token.Token.{Token}
use Rattle.rx_tree.specs.declared.expr.Expr.{Expr}
use Rattle.rx_tree.specs.declared.stops.Stops.TheVariants as s
use Rattle.rx_tree.specs.Operators.{Tokens}
use Rattle.rx_exprs.specs.declared.operators.Bracketed.TheVariants.{Round}
use Rattle.rx_exprs.specs.declared.refused.Fault.{Fault}
use Rattle.rx_exprs.specs.Forms.{args_form}
use Rattle.rx_exprs.specs.Reader.{Outcome, and_then, on_some, lack, refusal, expression}
use Rattle.rx_exprs.proofs.Shorter.{args_shorter, left_shorter}
use Rattle.rx_exprs.proofs.Steps.{step}
use Rattle.rx_exprs.proofs.Tables.{ok-is, some-is}
use Rattle.rx_exprs.proofs.Steady.{then-same, some-same, if-same}
use Rattle.rx_clause_tree.specs.declared.instruction.Forward.{Forward}
use Rattle.rx_clause_tree.specs.declared.instruction.Forwarded.TheVariants as f
use Rattle.rx_clause_tree.specs.declared.instruction.Parameter.{Parameter}
use Rattle.rx_clause_tree.specs.declared.loops.Bound.{Bound}
use Rattle.rx_clause_tree.specs.declared.template.TemplatePart.{TemplatePart}
use Rattle.rx_clause_tree.specs.declared.template.Template.{Template}
use Rattle.rx_clause_tree.specs.ClauseWords.{variable_of, is_clause_end, behind_end}
use Rattle.rx_clause_tree.specs.Loops.{is_bounded}
use Rattle.rx_clause_tree.specs.Forwards.{no_options}
use Rattle.rx_clauses.specs.Parts.{behind_symbol, no_variable, taken, variable_at, is_comma, behind_comma, to_end_by, named, names, ends_argument, argument, behind_one, separated, arguments_from}
use Rattle.rx_clauses.specs.Plain.{parameter, parameters}
use Rattle.rx_clauses.specs.Looping.{bound_at, further_bounds, bounds}
use Rattle.rx_clauses.specs.Forwarding.{has_args, operand_once, option_of, array_once, option, options}
use Rattle.rx_clauses.specs.Parsing.{part, parts, ends, template_of, template_at, templates}
use Rattle.rx_clauses.specs.Forms.{separated_form, bounds_form, options_form, parts_form}
use Rattle.rx_clauses.proofs.Sure.{Sure, sure-then, sure-some, sure-if, sure-as, as-read, so-read, refused, outcome, found}
use Rattle.rx_clauses.proofs.Words.{end-shorter, symbol-shorter}
use Rattle.rx_clauses.proofs.Opens.{expression-sure, fits-shorter}
use Rattle.rx_clauses.proofs.PartsLaw.{Tabled, variable-sure}
use Rattle.rx_clauses.proofs.PlainLaw.{parameter-shorter, parameter-sure}
use Rattle.rx_clauses.proofs.LoopingLaw.{IsBoundOrNone, bound-sure, bound-shorter}
use Rattle.rx_clauses.proofs.ForwardingLaw.{operand-shorter, operand-sure}
use Rattle.rx_clauses.proofs.ParsingLaw.{part-shorter, part-sure, parts-shorter, parts-sure}

-- ---- behind what was found

-- what was found, and behind it what is read
abbrev pub prepended : {A : Type 0} → List A → Outcome (List A) → Outcome (List A)
prepended found outcome = and_then outcome (λ list rest. Ok (found ++ list, rest))

pub prepended_none : {A : Type 0} (outcome : Outcome (List A)) → prepended [] outcome ≡ outcome
prepended_none (Ok all) = refl
prepended_none (Err fault) = refl

pub prepended_one : {A : Type 0} (found : List A) (one : A) (outcome : Outcome (List A))
    → prepended found (and_then outcome (λ list rest. Ok (one ∷ list, rest))) ≡ prepended (found ++ one ∷ []) outcome
prepended_one found one (Ok all) = ap (λ l. outcome l all.1) (sym (append_assoc found (one ∷ []) all.0))
prepended_one found one (Err fault) = refl

pub prepended_end : {A : Type 0} (found : List A) (rest : Tokens) → prepended found (outcome [] rest) ≡ Ok (found, rest)
prepended_end found rest = ap (λ l. outcome l rest) (append-nil found)

-- ---- names

pub names_end : (found : List Name) (tokens rest : Tokens) → behind_end tokens ≡ Some rest → prepended found (names tokens) ≡ Ok (found, rest)
names_end found [] rest is = cc
names_end found (t ∷ behind) rest is = go (is_clause_end t.kind) is
  where
    go : (test : Bool) → (if test then Some behind else None) ≡ Some rest
        → prepended found (if test then Ok ([], behind) else named (variable_of t.kind) (no_variable t.kind) (t ∷ behind) (names behind)) ≡ Ok (found, rest)
    go true same = prepended_end found behind ∙ ap (λ ts. outcome found ts) (some-is same)
    go false same = cc

pub names_more : (found : List Name) (tokens rest : Tokens) (name : Name) → behind_end tokens ≡ None → variable_at tokens ≡ Ok (name, rest)
    → prepended found (names tokens) ≡ prepended (found ++ name ∷ []) (names rest)
names_more found [] rest name none is = cc
names_more found (t ∷ behind) rest name none is = go (is_clause_end t.kind) (variable_of t.kind) none is
  where
    go : (test : Bool) (one : Option Name) → (let x : Option Tokens = if test then Some behind else None in x ≡ None)
        → taken one (no_variable t.kind) (t ∷ behind) behind ≡ Ok (name, rest)
        → prepended found (if test then Ok ([], behind) else named one (no_variable t.kind) (t ∷ behind) (names behind)) ≡ prepended (found ++ name ∷ []) (names rest)
    go true one isnt same = cc
    go false None isnt same = cc
    go false (Some one) isnt same = prepended_one found one (names behind) ∙ ap (λ (z : Name × Tokens). prepended (found ++ z.0 ∷ []) (names z.1)) (ok-is same)

pub names_bad : (found : List Name) (tokens : Tokens) (fault : Fault) → behind_end tokens ≡ None → variable_at tokens ≡ Err fault
    → prepended found (names tokens) ≡ Err fault
names_bad found [] fault none is = ap (λ r. and_then r (λ first rest. Ok ([], rest))) is
names_bad found (t ∷ behind) fault none is = go (is_clause_end t.kind) (variable_of t.kind) none is
  where
    go : (test : Bool) (one : Option Name) → (let x : Option Tokens = if test then Some behind else None in x ≡ None)
        → taken one (no_variable t.kind) (t ∷ behind) behind ≡ Err fault
        → prepended found (if test then Ok ([], behind) else named one (no_variable t.kind) (t ∷ behind) (names behind)) ≡ Err fault
    go true one isnt same = cc
    go false None isnt same = ap (λ r. and_then r (λ first rest. Ok ([], rest))) same
    go false (Some one) isnt same = cc

-- ---- lists with commas

abbrev pub Shrinks : {A : Type 0} → (Tokens → Outcome A) → Type 0
Shrinks {A = A} item = (tokens : Tokens) (one : A) (rest : Tokens) → item tokens ≡ Ok (one, rest) → length rest ≤ length tokens

behind-same : {A : Type 0} (number : ℕ) (f g : Tokens → Outcome (List A)) (one : A) (behind : Tokens)
    → ((t : Token) (rest : Tokens) → behind ≡ t ∷ rest → f rest ≡ g rest) → behind_one number f one behind ≡ behind_one number g one behind
behind-same number f g one [] same = refl
behind-same number f g one (t ∷ rest) same = if-same (is_comma t.kind) _ _ _ _ (ap (λ z. and_then z (λ list others. Ok (one ∷ list, others))) (same t rest refl)) refl

separated-steady : {A : Type 0} (number : ℕ) (item : Tokens → Outcome A) → Shrinks item → (f g : ℕ) (tokens : Tokens) → length tokens < f → length tokens < g
    → separated number item f tokens ≡ separated number item g tokens
separated-steady number item shrinks zero g tokens p q = absurd (omega arith)
separated-steady number item shrinks (suc m) g tokens p q =
    step (λ g. separated number item (suc m) tokens ≡ separated number item g tokens) g (omega arith) (λ l is.
    then-same _ _ _ _ refl (λ one behind was.
    behind-same number _ _ one behind (λ t rest same.
    let h = shrinks tokens one behind was in let e = ap length same in separated-steady number item shrinks m l rest (omega arith) (omega arith))))

separated-next : {A : Type 0} (number : ℕ) (item : Tokens → Outcome A) → Shrinks item → (tokens : Tokens)
    → separated_form number item tokens ≡ and_then (item tokens) (λ one behind. behind_one number (λ ts. separated_form number item ts) one behind)
unfolding separated_form
separated-next number item shrinks tokens =
    step (λ f. separated number item f tokens ≡ and_then (item tokens) (λ one behind. behind_one number (λ ts. separated number item (length ts + 1) ts) one behind))
    (length tokens + 1) (omega arith) (λ m is.
    then-same _ _ _ _ refl (λ one behind was.
    behind-same number _ _ one behind (λ t rest same.
    let h = shrinks tokens one behind was in let e = ap length same in separated-steady number item shrinks m (length rest + 1) rest (omega arith) (omega arith))))

one-comma : {A : Type 0} (number : ℕ) (further : Tokens → Outcome (List A)) (one : A) (behind rest : Tokens) → behind_comma behind ≡ Some rest
    → behind_one number further one behind ≡ and_then (further rest) (λ list others. Ok (one ∷ list, others))
one-comma number further one [] rest is = cc
one-comma number further one (t ∷ others) rest is = go (is_comma t.kind) is
  where
    go : (test : Bool) → (if test then Some others else None) ≡ Some rest
        → (if test then and_then (further others) (λ list others. Ok (one ∷ list, others)) else (if is_clause_end t.kind then Ok (one ∷ [], others) else Err (refusal number (t ∷ others))))
        ≡ and_then (further rest) (λ list others. Ok (one ∷ list, others))
    go true same = ap (λ ts. and_then (further ts) (λ list others. Ok (one ∷ list, others))) (some-is same)
    go false same = cc

one-last : {A : Type 0} (number : ℕ) (further : Tokens → Outcome (List A)) (one : A) (behind : Tokens) → behind_comma behind ≡ None
    → behind_one number further one behind ≡ to_end_by number (one ∷ []) behind
one-last number further one [] is = refl
one-last number further one (t ∷ others) is = go (is_comma t.kind) (is_clause_end t.kind) is
  where
    go : (test end : Bool) → (let x : Option Tokens = if test then Some others else None in x ≡ None)
        → (if test then and_then (further others) (λ list others. Ok (one ∷ list, others)) else (if end then Ok (one ∷ [], others) else Err (refusal number (t ∷ others))))
        ≡ on_some (if end then Some others else None) (Err (refusal number (t ∷ others))) (λ rest. Ok (one ∷ [], rest))
    go true end same = cc
    go false true same = refl
    go false false same = refl

prepended-last : {A : Type 0} (number : ℕ) (list : List A) (one : A) (behind : Tokens) → prepended list (to_end_by number (one ∷ []) behind) ≡ to_end_by number (list ++ one ∷ []) behind
prepended-last number list one behind = go (behind_end behind)
  where
    go : (end : Option Tokens) → prepended list (on_some end (Err (refusal number behind)) (λ rest. Ok (one ∷ [], rest)))
        ≡ on_some end (Err (refusal number behind)) (λ rest. Ok (list ++ one ∷ [], rest))
    go None = refl
    go (Some rest) = refl

pub separated_comma : {A : Type 0} (number : ℕ) (item : Tokens → Outcome A) → Shrinks item → (list : List A) (one : A) (tokens behind rest : Tokens)
    → item tokens ≡ Ok (one, behind) → behind_comma behind ≡ Some rest
    → prepended list (separated_form number item tokens) ≡ prepended (list ++ one ∷ []) (separated_form number item rest)
separated_comma number item shrinks list one tokens behind rest is comma =
    rw (separated-next number item shrinks tokens, is, one-comma number (λ ts. separated_form number item ts) one behind rest comma)
    (prepended_one list one (separated_form number item rest))

pub separated_last : {A : Type 0} (number : ℕ) (item : Tokens → Outcome A) → Shrinks item → (list : List A) (one : A) (tokens behind : Tokens)
    → item tokens ≡ Ok (one, behind) → behind_comma behind ≡ None
    → prepended list (separated_form number item tokens) ≡ to_end_by number (list ++ one ∷ []) behind
separated_last number item shrinks list one tokens behind is none =
    rw (separated-next number item shrinks tokens, is, one-last number (λ ts. separated_form number item ts) one behind none)
    (prepended-last number list one behind)

pub separated_bad : {A : Type 0} (number : ℕ) (item : Tokens → Outcome A) → Shrinks item → (list : List A) (tokens : Tokens) (fault : Fault)
    → item tokens ≡ Err fault → prepended list (separated_form number item tokens) ≡ Err fault
separated_bad number item shrinks list tokens fault is = rw (separated-next number item shrinks tokens, is) refl

comma-shorter : (tokens rest : Tokens) → behind_comma tokens ≡ Some rest → length rest < length tokens
comma-shorter [] rest is = cc
comma-shorter (t ∷ others) rest is = go (is_comma t.kind) is
  where
    go : (test : Bool) → (if test then Some others else None) ≡ Some rest → length rest < length (t ∷ others)
    go true same = let e = ap (λ (x : Option Tokens). on_some x (outcome 0 []) (λ ts. outcome (length ts) [])) same in let d = ap (λ (z : ℕ × Tokens). z.0) (ok-is e) in omega arith
    go false same = cc

-- arguments of CALL

pub argument_shrinks : Shrinks (λ ts. argument ts)
argument_shrinks tokens one rest is = so-read {Is = λ one rest. length rest ≤ length tokens} (argument tokens) one rest
    (sure-if _ _ _ (λ ends. found None tokens (omega arith)) (λ goes.
    sure-then _ _ (expression-sure s.Nothing tokens) (λ expr rest fits. let h = fits-shorter fits in found (Some expr) rest (omega arith)))) is

pub parameter_shrinks : Shrinks (λ ts. parameter ts)
parameter_shrinks tokens one rest is = let h = parameter-shorter (so-read (parameter tokens) one rest (parameter-sure tokens) is) in omega arith

pub template_shrinks : Shrinks (λ ts. template_at ts)
template_shrinks tokens one rest is = so-read {Is = λ one rest. length rest ≤ length tokens} (template_at tokens) one rest
    (sure-then _ _ (parts-sure (length tokens + 1) tokens) (λ parts behind are. found (template_of parts) behind (parts-shorter are))) is

-- what a loop over one of these needs: what stands behind an item and its comma is less
pub comma_less : {A : Type 0} (item : Tokens → Outcome A) → Shrinks item → (one : A) (tokens behind rest : Tokens) → item tokens ≡ Ok (one, behind)
    → behind_comma behind ≡ Some rest → length rest < length tokens
comma_less item shrinks one tokens behind rest is comma = let h = shrinks tokens one behind is in let g = comma-shorter behind rest comma in omega arith

-- ---- parts of templates

pub part_less : (tokens rest : Tokens) (one : TemplatePart) → part tokens ≡ Ok (one, rest) → length rest < length tokens
part_less tokens rest one is = part-shorter (so-read (part tokens) one rest (part-sure tokens) is)

parts-steady : (f g : ℕ) (tokens : Tokens) → length tokens < f → length tokens < g → parts f tokens ≡ parts g tokens
parts-steady zero g tokens p q = absurd (omega arith)
parts-steady (suc m) g tokens p q =
    step (λ g. parts (suc m) tokens ≡ parts g tokens) g (omega arith) (λ l is.
    if-same (ends tokens) _ _ _ _ refl
    (then-same _ _ _ _ refl (λ one behind was.
    let h = part_less tokens behind one was in
    then-same _ _ _ _ (parts-steady m l behind (omega arith) (omega arith)) (λ _ _ _. refl))))

parts-next : (tokens : Tokens) → parts_form tokens
    ≡ (if ends tokens then Ok ([], tokens) else and_then (part tokens) (λ one behind. and_then (parts_form behind) (λ others rest. Ok (one ∷ others, rest))))
unfolding parts_form
parts-next tokens =
    step (λ f. parts f tokens
    ≡ (if ends tokens then Ok ([], tokens) else and_then (part tokens) (λ one behind. and_then (parts (length behind + 1) behind) (λ others rest. Ok (one ∷ others, rest)))))
    (length tokens + 1) (omega arith) (λ m is.
    if-same (ends tokens) _ _ _ _ refl
    (then-same _ _ _ _ refl (λ one behind was.
    let h = part_less tokens behind one was in
    then-same _ _ _ _ (parts-steady m (length behind + 1) behind (omega arith) (omega arith)) (λ _ _ _. refl))))

pub parts_end : (list : List TemplatePart) (tokens : Tokens) → ends tokens ≡ true → prepended list (parts_form tokens) ≡ Ok (list, tokens)
parts_end list tokens is = rw (parts-next tokens, is) (prepended_end list tokens)

pub parts_more : (list : List TemplatePart) (tokens rest : Tokens) (one : TemplatePart) → ends tokens ≡ false → part tokens ≡ Ok (one, rest)
    → prepended list (parts_form tokens) ≡ prepended (list ++ one ∷ []) (parts_form rest)
parts_more list tokens rest one isnt is = rw (parts-next tokens, isnt, is) (prepended_one list one (parts_form rest))

pub parts_bad : (list : List TemplatePart) (tokens : Tokens) (fault : Fault) → ends tokens ≡ false → part tokens ≡ Err fault
    → prepended list (parts_form tokens) ≡ Err fault
parts_bad list tokens fault isnt is = rw (parts-next tokens, isnt, is) refl

-- ---- bounds of a loop

pub bound_less : (tokens rest : Tokens) (one : Bound) → bound_at tokens ≡ Ok (Some one, rest) → length rest < length tokens
bound_less tokens rest one is = bound-shorter (so-read {Is = λ some rest. IsBoundOrNone tokens some rest} (bound_at tokens) (Some one) rest (bound-sure tokens) is)

further-same : (f g : List Bound → Tokens → Outcome (List Bound)) (list : List Bound) (one : Option Bound) (here behind : Tokens)
    → ((more : List Bound) → (first : Bound) → one ≡ Some first → f more behind ≡ g more behind)
    → further_bounds f list one here behind ≡ further_bounds g list one here behind
further-same f g list None here behind same = refl
further-same f g list (Some one) here behind same = if-same (is_bounded one list) _ _ _ _ refl (same (list ++ one ∷ []) one refl)

bounds-steady : (f g : ℕ) (list : List Bound) (tokens : Tokens) → length tokens < f → length tokens < g → bounds f list tokens ≡ bounds g list tokens
bounds-steady zero g list tokens p q = absurd (omega arith)
bounds-steady (suc m) g list tokens p q =
    step (λ g. bounds (suc m) list tokens ≡ bounds g list tokens) g (omega arith) (λ l is.
    then-same _ _ _ _ refl (λ one behind was.
    further-same (λ more ts. bounds m more ts) (λ more ts. bounds l more ts) list one tokens behind (λ more first some.
    let h = bound_less tokens behind first (was ∙ ap (λ x. outcome x behind) some) in bounds-steady m l more behind (omega arith) (omega arith))))

bounds-next : (list : List Bound) (tokens : Tokens) → bounds_form list tokens
    ≡ and_then (bound_at tokens) (λ one behind. further_bounds (λ more ts. bounds_form more ts) list one tokens behind)
unfolding bounds_form
bounds-next list tokens =
    step (λ f. bounds f list tokens ≡ and_then (bound_at tokens) (λ one behind. further_bounds (λ more ts. bounds (length ts + 1) more ts) list one tokens behind))
    (length tokens + 1) (omega arith) (λ m is.
    then-same _ _ _ _ refl (λ one behind was.
    further-same (λ more ts. bounds m more ts) (λ more ts. bounds (length ts + 1) more ts) list one tokens behind (λ more first some.
    let h = bound_less tokens behind first (was ∙ ap (λ x. outcome x behind) some) in bounds-steady m (length behind + 1) more behind (omega arith) (omega arith))))

pub bounds_end : (list : List Bound) (tokens rest : Tokens) → bound_at tokens ≡ Ok (None, rest) → bounds_form list tokens ≡ Ok (list, rest)
bounds_end list tokens rest is = rw (bounds-next list tokens, is) refl

pub bounds_more : (list : List Bound) (tokens rest : Tokens) (one : Bound) → bound_at tokens ≡ Ok (Some one, rest) → is_bounded one list ≡ false
    → bounds_form list tokens ≡ bounds_form (list ++ one ∷ []) rest
bounds_more list tokens rest one is new = rw (bounds-next list tokens, is, new) refl

pub bounds_twice : (list : List Bound) (tokens rest : Tokens) (one : Bound) (fault : Fault) → bound_at tokens ≡ Ok (Some one, rest) → is_bounded one list ≡ true
    → fault ≡ lack 27 tokens → bounds_form list tokens ≡ Err fault
bounds_twice list tokens rest one fault is twice same = rw (same, bounds-next list tokens, is, twice) refl

pub bounds_bad : (list : List Bound) (tokens : Tokens) (fault : Fault) → bound_at tokens ≡ Err fault → bounds_form list tokens ≡ Err fault
bounds_bad list tokens fault is = rw (bounds-next list tokens, is) refl

-- ---- options of FORWARD

operand-once-less : (stood : Bool) (here behind : Tokens) → Sure (λ expr rest. length rest < length behind) (operand_once stood here behind)
operand-once-less stood here behind = sure-if _ _ _ (λ twice. refused _) (λ new. sure-as _ (λ expr rest is. operand-shorter is) (operand-sure behind))

array-once-less : (stood : Bool) (here behind : Tokens) → Sure (λ list rest. length rest < length behind) (array_once stood here behind)
array-once-less stood here behind =
    sure-if _ _ _ (λ twice. refused _) (λ new.
    sure-some _ _ _ (λ none. refused _) (λ inside is.
    as-read (args_form Round inside) (λ list rest read.
    let h = left_shorter behind inside is in let g = args_shorter Round inside list rest read in omega arith)))

option-less : (read : Forward) (tokens : Tokens) → Sure (λ now rest. length rest < length tokens) (option read tokens)
option-less read tokens =
    sure-some _ _ _ (λ no_to.
    sure-some _ _ _ (λ no_class.
    sure-some _ _ _ (λ no_message.
    sure-some _ _ _ (λ no_arguments.
    sure-some _ _ _ (λ no_array.
    sure-some _ _ _ (λ no_continue. refused _)
    (λ behind is. sure-if read.goes_on (Err (lack 25 tokens)) (Ok (record read { goes_on = true }, behind)) (λ twice. refused _) (λ new.
    found _ behind (symbol-shorter (codes "CONTINUE") tokens behind is))))
    (λ behind is. let h = symbol-shorter (codes "ARRAY") tokens behind is in
    sure-then _ _ (array-once-less (has_args read.args) tokens behind) (λ list rest less. found _ rest (omega arith))))
    (λ behind is. by-operand (codes "ARGUMENTS") (λ expr. record read { args = f.Arguments expr }) (has_args read.args) behind is))
    (λ behind is. by-operand (codes "MESSAGE") (λ expr. record read { message = Some expr }) (is_some read.message) behind is))
    (λ behind is. by-operand (codes "CLASS") (λ expr. record read { class = Some expr }) (is_some read.class) behind is))
    (λ behind is. by-operand (codes "TO") (λ expr. record read { to = Some expr }) (is_some read.to) behind is)
  where
    by-operand : (spelling : List ℕ) (make : Expr → Forward) (stood : Bool) (behind : Tokens) → behind_symbol spelling tokens ≡ Some behind
        → Sure (λ now rest. length rest < length tokens) (option_of make stood tokens behind)
    by-operand spelling make stood behind is =
        let h = symbol-shorter spelling tokens behind is in
        sure-then _ _ (operand-once-less stood tokens behind) (λ expr rest less. found (make expr) rest (omega arith))

pub option_less : (read now : Forward) (tokens rest : Tokens) → option read tokens ≡ Ok (now, rest) → length rest < length tokens
option_less read now tokens rest is = so-read {Is = λ one rest. length rest < length tokens} (option read tokens) now rest (option-less read tokens) is

options-steady : (f g : ℕ) (read : Forward) (tokens : Tokens) → length tokens < f → length tokens < g → options f read tokens ≡ options g read tokens
options-steady zero g read tokens p q = absurd (omega arith)
options-steady (suc m) g read tokens p q =
    step (λ g. options (suc m) read tokens ≡ options g read tokens) g (omega arith) (λ l is.
    some-same (behind_end tokens) _ _ _ _
    (then-same _ _ _ _ refl (λ now behind was. let h = option_less read now tokens behind was in options-steady m l now behind (omega arith) (omega arith)))
    (λ _ _. refl))

options-next : (read : Forward) (tokens : Tokens) → options_form read tokens
    ≡ on_some (behind_end tokens) (and_then (option read tokens) (λ now behind. options_form now behind)) (λ rest. Ok (read, rest))
unfolding options_form
options-next read tokens =
    step (λ f. options f read tokens
    ≡ on_some (behind_end tokens) (and_then (option read tokens) (λ now behind. options (length behind + 1) now behind)) (λ rest. Ok (read, rest)))
    (length tokens + 1) (omega arith) (λ m is.
    some-same (behind_end tokens) _ _ _ _
    (then-same _ _ _ _ refl (λ now behind was. let h = option_less read now tokens behind was in options-steady m (length behind + 1) now behind (omega arith) (omega arith)))
    (λ _ _. refl))

pub options_end : (read : Forward) (tokens rest : Tokens) → behind_end tokens ≡ Some rest → options_form read tokens ≡ Ok (read, rest)
options_end read tokens rest is = rw (options-next read tokens, is) refl

pub options_more : (read now : Forward) (tokens rest : Tokens) → behind_end tokens ≡ None → option read tokens ≡ Ok (now, rest)
    → options_form read tokens ≡ options_form now rest
options_more read now tokens rest none is = rw (options-next read tokens, none, is) refl

pub options_bad : (read : Forward) (tokens : Tokens) (fault : Fault) → behind_end tokens ≡ None → option read tokens ≡ Err fault
    → options_form read tokens ≡ Err fault
options_bad read tokens fault none is = rw (options-next read tokens, none, is) refl

-- ---- for each list

pub prepended_start : {A : Type 0} (outcome : Outcome (List A)) → outcome ≡ prepended [] outcome
prepended_start outcome = sym (prepended_none outcome)

pub variable_less : (tokens rest : Tokens) (name : Name) → variable_at tokens ≡ Ok (name, rest) → length rest < length tokens
variable_less tokens rest name is =
    let t = so-read {Is = λ one rest. Tabled variable_of one tokens rest} (variable_at tokens) name rest (variable-sure tokens) is in let e = ap length t.is in omega arith

pub argument_comma : (list : List (Option Expr)) (one : Option Expr) (tokens behind rest : Tokens) → argument tokens ≡ Ok (one, behind) → behind_comma behind ≡ Some rest
    → prepended list (separated_form 21 (λ ts. argument ts) tokens) ≡ prepended (list ++ one ∷ []) (separated_form 21 (λ ts. argument ts) rest)
argument_comma = separated_comma 21 (λ ts. argument ts) argument_shrinks

pub argument_last : (list : List (Option Expr)) (one : Option Expr) (tokens behind : Tokens) → argument tokens ≡ Ok (one, behind) → behind_comma behind ≡ None
    → prepended list (separated_form 21 (λ ts. argument ts) tokens) ≡ to_end_by 21 (list ++ one ∷ []) behind
argument_last = separated_last 21 (λ ts. argument ts) argument_shrinks

pub argument_bad : (list : List (Option Expr)) (tokens : Tokens) (fault : Fault) → argument tokens ≡ Err fault
    → prepended list (separated_form 21 (λ ts. argument ts) tokens) ≡ Err fault
argument_bad = separated_bad 21 (λ ts. argument ts) argument_shrinks

pub argument_less : (one : Option Expr) (tokens behind rest : Tokens) → argument tokens ≡ Ok (one, behind) → behind_comma behind ≡ Some rest → length rest < length tokens
argument_less = comma_less (λ ts. argument ts) argument_shrinks

pub parameter_comma : (list : List Parameter) (one : Parameter) (tokens behind rest : Tokens) → parameter tokens ≡ Ok (one, behind) → behind_comma behind ≡ Some rest
    → prepended list (separated_form 21 (λ ts. parameter ts) tokens) ≡ prepended (list ++ one ∷ []) (separated_form 21 (λ ts. parameter ts) rest)
parameter_comma = separated_comma 21 (λ ts. parameter ts) parameter_shrinks

pub parameter_last : (list : List Parameter) (one : Parameter) (tokens behind : Tokens) → parameter tokens ≡ Ok (one, behind) → behind_comma behind ≡ None
    → prepended list (separated_form 21 (λ ts. parameter ts) tokens) ≡ to_end_by 21 (list ++ one ∷ []) behind
parameter_last = separated_last 21 (λ ts. parameter ts) parameter_shrinks

pub parameter_bad : (list : List Parameter) (tokens : Tokens) (fault : Fault) → parameter tokens ≡ Err fault
    → prepended list (separated_form 21 (λ ts. parameter ts) tokens) ≡ Err fault
parameter_bad = separated_bad 21 (λ ts. parameter ts) parameter_shrinks

pub parameter_less : (one : Parameter) (tokens behind rest : Tokens) → parameter tokens ≡ Ok (one, behind) → behind_comma behind ≡ Some rest → length rest < length tokens
parameter_less = comma_less (λ ts. parameter ts) parameter_shrinks

pub template_comma : (list : List Template) (one : Template) (tokens behind rest : Tokens) → template_at tokens ≡ Ok (one, behind) → behind_comma behind ≡ Some rest
    → prepended list (separated_form 38 (λ ts. template_at ts) tokens) ≡ prepended (list ++ one ∷ []) (separated_form 38 (λ ts. template_at ts) rest)
template_comma = separated_comma 38 (λ ts. template_at ts) template_shrinks

pub template_last : (list : List Template) (one : Template) (tokens behind : Tokens) → template_at tokens ≡ Ok (one, behind) → behind_comma behind ≡ None
    → prepended list (separated_form 38 (λ ts. template_at ts) tokens) ≡ to_end_by 38 (list ++ one ∷ []) behind
template_last = separated_last 38 (λ ts. template_at ts) template_shrinks

pub template_bad : (list : List Template) (tokens : Tokens) (fault : Fault) → template_at tokens ≡ Err fault
    → prepended list (separated_form 38 (λ ts. template_at ts) tokens) ≡ Err fault
template_bad = separated_bad 38 (λ ts. template_at ts) template_shrinks

pub template_less : (one : Template) (tokens behind rest : Tokens) → template_at tokens ≡ Ok (one, behind) → behind_comma behind ≡ Some rest → length rest < length tokens
template_less = comma_less (λ ts. template_at ts) template_shrinks

pub ruleset name_lists = (prepended_start, names_end, names_more, names_bad, variable_less)

pub ruleset argument_lists = (prepended_start, argument_comma, argument_last, argument_bad, argument_less)

pub ruleset parameter_lists = (prepended_start, parameter_comma, parameter_last, parameter_bad, parameter_less)

pub ruleset template_lists = (prepended_start, template_comma, template_last, template_bad, template_less)

pub ruleset part_lists = (prepended_start, parts_end, parts_more, parts_bad, part_less)

pub ruleset bound_lists = (bounds_end, bounds_more, bounds_twice, bounds_bad, bound_less)

pub ruleset option_lists = (options_end, options_more, options_bad, option_less)

-- ---- the forms where they are used

pub arguments_is : (tokens : Tokens) → arguments_from (length tokens + 1) tokens ≡ separated_form 21 (λ ts. argument ts) tokens
unfolding separated_form
arguments_is tokens = refl

pub parameters_is : (tokens : Tokens) → parameters (length tokens + 1) tokens ≡ separated_form 21 (λ ts. parameter ts) tokens
unfolding separated_form
parameters_is tokens = refl

pub templates_is : (tokens : Tokens) → templates (length tokens + 1) tokens ≡ separated_form 38 (λ ts. template_at ts) tokens
unfolding separated_form
templates_is tokens = refl

pub parts_is : (tokens : Tokens) → parts (length tokens + 1) tokens ≡ parts_form tokens
unfolding parts_form
parts_is tokens = refl

pub bounds_is : (tokens : Tokens) → bounds (length tokens + 1) [] tokens ≡ bounds_form [] tokens
unfolding bounds_form
bounds_is tokens = refl

pub options_is : (tokens : Tokens) → options (length tokens + 1) no_options tokens ≡ options_form no_options tokens
unfolding options_form
options_is tokens = refl
