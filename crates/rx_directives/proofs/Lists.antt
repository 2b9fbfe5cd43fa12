-- Lists of directives and of what is said of them: more turns than are needed change nothing, and what a loop over them does.
use Rattle.std.proofs.Common.{◌≡◌, ℕ, zero, suc, ◌+◌, ◌<◌, ◌≤◌, ◌==◌, Bool, true, false, nat_lt, if◌then◌else◌, List, [], ◌∷◌, ◌++◌, length, Option, Some, None, Ok, Err, refl, sym, ◌∙◌, ap, arith}
use Rattle.rx_tree.specs.declared.token.Token.{Token}
use Rattle.rx_tree.specs.Operators.{Tokens}
use Rattle.rx_exprs.specs.declared.refused.Fault.{Fault}
use Rattle.rx_exprs.specs.Reader.{Outcome, and_then, on_some, lack}
use Rattle.rx_exprs.proofs.Steps.{step}
use Rattle.rx_exprs.proofs.Tables.{ok-is, some-is}
use Rattle.rx_exprs.proofs.Steady.{then-same, some-same, if-same}
use Rattle.rx_clause_tree.specs.ClauseWords.{is_clause_end, behind_end}
use Rattle.rx_clauses.specs.Parts.{taken}
use Rattle.rx_clauses.proofs.Lists.{prepended, prepended_start, prepended_one, prepended_end}
use Rattle.rx_clauses.proofs.Sure.{so-read, outcome}
use Rattle.rx_directives.specs.declared.words.OptionWord.{OptionWord}
use Rattle.rx_directives.specs.declared.directive.Options.{Options}
use Rattle.rx_directives.specs.declared.directive.ClassHead.{ClassHead}
use Rattle.rx_directives.specs.declared.directive.Directive.{Directive}
use Rattle.rx_directives.specs.DirectiveWords.{title_of, option_of}
use Rattle.rx_directives.specs.Directives.{ends_mixins}
use Rattle.rx_directives.specs.Reader as r
use Rattle.rx_directives.proofs.Law.{option-sure, one-sure, one-less}

-- ---- options of methods and attributes

pub options_end : (read : Options) (tokens rest : Tokens) → behind_end tokens ≡ Some rest → r.options read tokens ≡ Ok (read, rest)
options_end read [] rest is = cc
options_end read (t ∷ behind) rest is = go (is_clause_end t.kind) is
  where
    go : (test : Bool) → (if test then Some behind else None) ≡ Some rest
        → (if test then Ok (read, behind) else on_some (r.adding (option_of t.kind) read) (Err (lack 25 (t ∷ behind))) (λ now. r.options now behind)) ≡ Ok (read, rest)
    go true same = ap (λ ts. outcome read ts) (some-is same)
    go false same = cc

pub options_more : (read now : Options) (tokens rest : Tokens) → behind_end tokens ≡ None → r.option read tokens ≡ Ok (now, rest)
    → r.options read tokens ≡ r.options now rest
options_more read now [] rest none is = cc
options_more read now (t ∷ behind) rest none is = go (is_clause_end t.kind) (r.adding (option_of t.kind) read) none is
  where
    go : (test : Bool) (one : Option Options) → (let x : Option Tokens = if test then Some behind else None in x ≡ None)
        → taken one 25 (t ∷ behind) behind ≡ Ok (now, rest)
        → (if test then Ok (read, behind) else on_some one (Err (lack 25 (t ∷ behind))) (λ now. r.options now behind)) ≡ r.options now rest
    go true one isnt same = cc
    go false None isnt same = cc
    go false (Some one) isnt same = ap (λ (z : Options × Tokens). r.options z.0 z.1) (ok-is same)

pub options_bad : (read : Options) (tokens : Tokens) (fault : Fault) → behind_end tokens ≡ None → r.option read tokens ≡ Err fault
    → r.options read tokens ≡ Err fault
options_bad read [] fault none is = is
options_bad read (t ∷ behind) fault none is = go (is_clause_end t.kind) (r.adding (option_of t.kind) read) none is
  where
    go : (test : Bool) (one : Option Options) → (let x : Option Tokens = if test then Some behind else None in x ≡ None)
        → taken one 25 (t ∷ behind) behind ≡ Err fault
        → (if test then Ok (read, behind) else on_some one (Err (lack 25 (t ∷ behind))) (λ now. r.options now behind)) ≡ Err fault
    go true one isnt same = cc
    go false None isnt same = same
    go false (Some one) isnt same = cc

pub option_less : (read now : Options) (tokens rest : Tokens) → r.option read tokens ≡ Ok (now, rest) → length rest < length tokens
option_less read now [] rest is = cc
option_less read now (t ∷ behind) rest is = go (r.adding (option_of t.kind) read) is
  where
    go : (one : Option Options) → taken one 25 (t ∷ behind) behind ≡ Ok (now, rest) → length rest < length (t ∷ behind)
    go None same = cc
    go (Some one) same = let e = ap (λ (z : Options × Tokens). length z.1) (ok-is same) in omega arith

pub ruleset option_lists = (options_end, options_more, options_bad, option_less)

-- ---- the names of INHERIT

pub mixins_end : (names : List (List ℕ)) (tokens : Tokens) → r.sees_mixins_end tokens ≡ true → prepended names (r.mixins tokens) ≡ Ok (names, tokens)
mixins_end names [] is = cc
mixins_end names (t ∷ behind) is = rw is (prepended_end names (t ∷ behind))

pub mixins_more : (names : List (List ℕ)) (tokens rest : Tokens) (name : List ℕ) → r.sees_mixins_end tokens ≡ false → r.title tokens ≡ Ok (name, rest)
    → prepended names (r.mixins tokens) ≡ prepended (names ++ name ∷ []) (r.mixins rest)
mixins_more names [] rest name isnt is = cc
mixins_more names (t ∷ behind) rest name isnt is = rw isnt (go (title_of t.kind) is)
  where
    go : (one : Option (List ℕ)) → taken one 19 (t ∷ behind) behind ≡ Ok (name, rest)
        → prepended names (r.next_mixin one (t ∷ behind) (r.mixins behind)) ≡ prepended (names ++ name ∷ []) (r.mixins rest)
    go None same = cc
    go (Some one) same = prepended_one names one (r.mixins behind) ∙ ap (λ (z : List ℕ × Tokens). prepended (names ++ z.0 ∷ []) (r.mixins z.1)) (ok-is same)

pub mixins_bad : (names : List (List ℕ)) (tokens : Tokens) (fault : Fault) → r.sees_mixins_end tokens ≡ false → r.title tokens ≡ Err fault
    → prepended names (r.mixins tokens) ≡ Err fault
mixins_bad names [] fault isnt is = ap (λ r. and_then r (λ first rest. Ok ([], rest))) is
mixins_bad names (t ∷ behind) fault isnt is = rw isnt (go (title_of t.kind) is)
  where
    go : (one : Option (List ℕ)) → taken one 19 (t ∷ behind) behind ≡ Err fault → prepended names (r.next_mixin one (t ∷ behind) (r.mixins behind)) ≡ Err fault
    go None same = ap (λ r. and_then r (λ first rest. Ok ([], rest))) same
    go (Some one) same = cc

pub title_less : (tokens rest : Tokens) (name : List ℕ) → r.title tokens ≡ Ok (name, rest) → length rest < length tokens
title_less [] rest name is = cc
title_less (t ∷ behind) rest name is = go (title_of t.kind) is
  where
    go : (one : Option (List ℕ)) → taken one 19 (t ∷ behind) behind ≡ Ok (name, rest) → length rest < length (t ∷ behind)
    go None same = cc
    go (Some one) same = let e = ap (λ (z : List ℕ × Tokens). length z.1) (ok-is same) in omega arith

pub ruleset mixin_lists = (prepended_start, mixins_end, mixins_more, mixins_bad, title_less)

-- ---- options of classes

pub class_option_less : (read now : ClassHead) (tokens rest : Tokens) → r.class_option read tokens ≡ Ok (now, rest) → length rest < length tokens
class_option_less read now tokens rest is = (so-read (r.class_option read tokens) now rest (option-sure read tokens) is).0

class-steady : (f g : ℕ) (read : ClassHead) (tokens : Tokens) → length tokens < f → length tokens < g → r.class_options f read tokens ≡ r.class_options g read tokens
class-steady zero g read tokens p q = absurd (omega arith)
class-steady (suc m) g read tokens p q =
    step (λ g. r.class_options (suc m) read tokens ≡ r.class_options g read tokens) g (omega arith) (λ l is.
    some-same (behind_end tokens) _ _ _ _
    (then-same _ _ _ _ refl (λ now behind was. let h = class_option_less read now tokens behind was in class-steady m l now behind (omega arith) (omega arith)))
    (λ _ _. refl))

class-next : (read : ClassHead) (tokens : Tokens) → r.class_options_form read tokens
    ≡ on_some (behind_end tokens) (and_then (r.class_option read tokens) (λ now behind. r.class_options_form now behind)) (λ rest. Ok (read, rest))
unfolding r.class_options_form
class-next read tokens =
    step (λ f. r.class_options f read tokens
    ≡ on_some (behind_end tokens) (and_then (r.class_option read tokens) (λ now behind. r.class_options (length behind + 1) now behind)) (λ rest. Ok (read, rest)))
    (length tokens + 1) (omega arith) (λ m is.
    some-same (behind_end tokens) _ _ _ _
    (then-same _ _ _ _ refl (λ now behind was. let h = class_option_less read now tokens behind was in class-steady m (length behind + 1) now behind (omega arith) (omega arith)))
    (λ _ _. refl))

pub class_end : (read : ClassHead) (tokens rest : Tokens) → behind_end tokens ≡ Some rest → r.class_options_form read tokens ≡ Ok (read, rest)
class_end read tokens rest is = rw (class-next read tokens, is) refl

pub class_more : (read now : ClassHead) (tokens rest : Tokens) → behind_end tokens ≡ None → r.class_option read tokens ≡ Ok (now, rest)
    → r.class_options_form read tokens ≡ r.class_options_form now rest
class_more read now tokens rest none is = rw (class-next read tokens, none, is) refl

pub class_bad : (read : ClassHead) (tokens : Tokens) (fault : Fault) → behind_end tokens ≡ None → r.class_option read tokens ≡ Err fault
    → r.class_options_form read tokens ≡ Err fault
class_bad read tokens fault none is = rw (class-next read tokens, none, is) refl

pub ruleset class_lists = (class_end, class_more, class_bad, class_option_less)

-- ---- directives

pub directive_less : (tokens rest : Tokens) (one : Directive) → r.one_directive tokens ≡ Ok (one, rest) → length rest < length tokens
directive_less tokens rest one is = one-less (so-read (r.one_directive tokens) one rest (one-sure tokens) is)

directives-steady : (f g : ℕ) (tokens : Tokens) → length tokens < f → length tokens < g → r.directives f tokens ≡ r.directives g tokens
directives-steady zero g tokens p q = absurd (omega arith)
directives-steady (suc m) g tokens p q =
    step (λ g. r.directives (suc m) tokens ≡ r.directives g tokens) g (omega arith) (λ l is.
    if-same (r.none_left tokens) _ _ _ _ refl
    (then-same _ _ _ _ refl (λ first others was. let h = directive_less tokens others first was in
    then-same _ _ _ _ (directives-steady m l others (omega arith) (omega arith)) (λ _ _ _. refl))))

directives-next : (tokens : Tokens) → r.directives_form tokens
    ≡ (if r.none_left tokens then Ok ([], tokens)
    else and_then (r.one_directive tokens) (λ first others. and_then (r.directives_form others) (λ list rest. Ok (first ∷ list, rest))))
unfolding r.directives_form
directives-next tokens =
    step (λ f. r.directives f tokens
    ≡ (if r.none_left tokens then Ok ([], tokens)
    else and_then (r.one_directive tokens) (λ first others. and_then (r.directives (length others + 1) others) (λ list rest. Ok (first ∷ list, rest)))))
    (length tokens + 1) (omega arith) (λ m is.
    if-same (r.none_left tokens) _ _ _ _ refl
    (then-same _ _ _ _ refl (λ first others was. let h = directive_less tokens others first was in
    then-same _ _ _ _ (directives-steady m (length others + 1) others (omega arith) (omega arith)) (λ _ _ _. refl))))

pub directives_end : (list : List Directive) (tokens : Tokens) → r.none_left tokens ≡ true → prepended list (r.directives_form tokens) ≡ Ok (list, tokens)
directives_end list tokens p = rw (directives-next tokens, p) (prepended_end list tokens)

pub directives_more : (list : List Directive) (tokens rest : Tokens) (one : Directive) → r.none_left tokens ≡ false → r.one_directive tokens ≡ Ok (one, rest)
    → prepended list (r.directives_form tokens) ≡ prepended (list ++ one ∷ []) (r.directives_form rest)
directives_more list tokens rest one p q = rw (directives-next tokens, p, q) (prepended_one list one (r.directives_form rest))

pub directives_bad : (list : List Directive) (tokens : Tokens) (fault : Fault) → r.none_left tokens ≡ false → r.one_directive tokens ≡ Err fault
    → prepended list (r.directives_form tokens) ≡ Err fault
directives_bad list tokens fault p q = rw (directives-next tokens, p, q) refl

pub ruleset directive_lists = (prepended_start, directives_end, directives_more, directives_bad, directive_less)
