-- Instructions that hold no other clause: what is written is read, and what is read is written.
use Rattle.std.proofs.Common.{◌≡◌, ℕ, zero, suc, ◌<◌, ◌≤◌, true, false, List, [], ◌∷◌, length, Option, Some, None, Ok, refl, sym, ap, subst, arith}
use Rattle.std.specs.Prelude.{codes}
use Rattle.rx_tree.specs.declared.activity.Condition.{Condition}
use Rattle.rx_tree.specs.declared.activity.Condition.TheVariants as y
use Rattle.rx_tree.specs.declared.name.Name.{Name}
use Rattle.rx_tree.specs.declared.token.Token.{Token}
use Rattle.rx_tree.specs.declared.token.TokenKind.{TokenKind}
use Rattle.rx_tree.specs.declared.token.TokenKind.TheVariants as k
use Rattle.rx_tree.specs.declared.expr.Expr.{Expr}
use Rattle.rx_tree.specs.declared.expr.Expr.TheVariants as e
use Rattle.rx_tree.specs.declared.value.Value.TheVariants.{Str}
use Rattle.rx_tree.specs.declared.stops.Stops.TheVariants as s
use Rattle.rx_tree.specs.Operators.{Tokens}
use Rattle.rx_exprs.proofs.Steps.{step}
use Rattle.rx_clause_tree.specs.declared.instruction.Parameter.{Parameter}
use Rattle.rx_clause_tree.specs.ClauseWords.{word, variable_of, is_clause_end, is_equal}
use Rattle.rx_clause_tree.specs.Instructions.{IsCondition, syntax_condition, novalue, nomethod, user, label_of, IsTrapLabel, own_label, other_label, IsParameter, required, with_default, AreParameters, last_parameter, next_parameter, IsErrorNumber, constant_number, group_number, IsRaiseOption, no_option, option, IsGuardTest, no_guard_test, guard_test, setting_of, IsPlainInstruction}
use Rattle.rx_clause_tree.specs.Instructions as i
use Rattle.rx_clauses.specs.Parts.{behind_symbol, is_comma}
use Rattle.rx_clauses.specs.Plain as r
use Rattle.rx_clauses.proofs.Sure.{Sure, sure-then, sure-some, sure-if, sure-as, refused, found}
use Rattle.rx_clauses.proofs.Words.{is-word, end-is, end-found, symbol-found, no-symbol, symbol-no}
use Rattle.rx_clauses.proofs.Opens.{expression-read, expression-sure, fits-shorter}
use Rattle.rx_clauses.proofs.PartsLaw.{last-shorter, Tabled, variable-sure, symbol-sure, taken-sure, behind-sure, to-end-sure, last-read, last-sure, at-end, group-sure}

-- the tokens begin with the symbol of a word
pub at-word : (P : Tokens → Type 0) (spelling : List ℕ) (tokens rest : Tokens) → behind_symbol spelling tokens ≡ Some rest
    → ((t : Token) → t.kind ≡ word spelling → P (t ∷ rest)) → P tokens
at-word P spelling tokens rest is go = let f = symbol-found spelling tokens rest is in subst P (sym f.is) (go f.token f.fact)

pub at-token : {A : Type 0} {table : TokenKind → Option A} {one : A} {tokens rest : Tokens} (P : Tokens → Type 0) → Tabled table one tokens rest
    → ((t : Token) → table t.kind ≡ Some one → P (t ∷ rest)) → P tokens
at-token P f go = subst P (sym f.is) (go f.token f.fact)

-- ---- traps

pub user-read : {name : List ℕ} {tokens rest : Tokens} → IsCondition (y.User name) tokens rest → r.user_condition tokens ≡ Ok (y.User name, rest)
user-read (user t u name is named) = rw (is, named)

pub condition-read : {one : Condition} {tokens rest : Tokens} → IsCondition one tokens rest → r.condition tokens ≡ Ok (one, rest)
condition-read (syntax_condition t is) = rw is
condition-read (novalue t is) = rw is
condition-read (nomethod t is) = rw is
condition-read (user t u name is named) = rw (is, named)

pub record IsUser (one : Condition) (tokens rest : Tokens) : Type 0 where
  pub name : List ℕ
  pub is : one ≡ y.User name
  pub fact : IsCondition (y.User name) tokens rest

pub user-sure : (tokens : Tokens) → Sure (λ one rest. IsUser one tokens rest) (r.user_condition tokens)
user-sure tokens =
    sure-some _ _ _ (λ none. refused _) (λ behind is.
    sure-then _ _ (symbol-sure behind) (λ name rest named.
    found (y.User name) rest (record {
      name = name;
      is = refl;
      fact = at-word (λ ts. IsCondition (y.User name) ts rest) (codes "USER") tokens behind is (λ t w.
          at-token (λ ts. IsCondition (y.User name) (t ∷ ts) rest) named (λ u n. user t u name w n));
    })))

pub condition-sure : (tokens : Tokens) → Sure (λ one rest. IsCondition one tokens rest) (r.condition tokens)
condition-sure tokens =
    sure-some _ _ _ (λ no_syntax.
    sure-some _ _ _ (λ no_novalue.
    sure-some _ _ _ (λ no_nomethod. sure-as _ (λ one rest x. subst (λ (y : Condition). IsCondition y tokens rest) (sym x.is) x.fact) (user-sure tokens))
    (λ rest is. found y.NoMethod rest (at-word (λ ts. IsCondition y.NoMethod ts rest) (codes "NOMETHOD") tokens rest is (λ t w. nomethod t w))))
    (λ rest is. found y.NoValue rest (at-word (λ ts. IsCondition y.NoValue ts rest) (codes "NOVALUE") tokens rest is (λ t w. novalue t w))))
    (λ rest is. found y.Syntax rest (at-word (λ ts. IsCondition y.Syntax ts rest) (codes "SYNTAX") tokens rest is (λ t w. syntax_condition t w)))

pub label-read : {one : Condition} {label : List ℕ} {tokens rest : Tokens} → IsTrapLabel one label tokens rest → r.trap_label one tokens ≡ Ok (label, rest)
label-read (own_label t is) = rw is
label-read (other_label t u v label is named end) = rw (is, named, end)

pub label-sure : (one : Condition) (tokens : Tokens) → Sure (λ label rest. IsTrapLabel one label tokens rest) (r.trap_label one tokens)
label-sure one tokens =
    sure-some _ _ _ (λ none.
    sure-some _ _ _ (λ no_name. refused _) (λ behind is.
    sure-then _ _ (symbol-sure behind) (λ label others named.
    sure-as _ (λ same rest end.
    subst (λ (l : List ℕ). IsTrapLabel one l tokens rest) (sym end.0)
    (at-word (λ ts. IsTrapLabel one label ts rest) (codes "NAME") tokens behind is (λ t w.
    at-token (λ ts. IsTrapLabel one label (t ∷ ts) rest) named (λ u n.
    let f = end-found others rest end.1 in
    subst (λ (ts : Tokens). IsTrapLabel one label (t ∷ (u ∷ ts)) rest) (sym f.is) (other_label t u f.token label w n f.fact)))))
    (to-end-sure label others))))
    (λ rest is. found (label_of one) rest (at-end (λ l ts rest. IsTrapLabel one l ts rest) (label_of one) tokens rest is (λ t end. own_label t end)))

-- ---- parameters

variable-no-equal : (t : Token) (rest : Tokens) (name : Name) → (u : Token) → is_equal u.kind ≡ false → r.default_at name (u ∷ rest) ≡ Ok (record { name = name; default = None }, u ∷ rest)
variable-no-equal t rest name u is = rw is

pub parameter-shorter : {one : Parameter} {tokens rest : Tokens} → IsParameter one tokens rest → length rest < length tokens
parameter-shorter (required t named) = omega arith
parameter-shorter (with_default t u named equal fits) = let h = fits-shorter fits in omega arith

-- a parameter, in front of what isn't `=`
pub parameter-read : {one : Parameter} {tokens rest : Tokens} → IsParameter one tokens rest → (t : Token) (behind : Tokens) → rest ≡ t ∷ behind → is_equal t.kind ≡ false
    → r.parameter tokens ≡ Ok (one, rest)
parameter-read (required u named) t behind same other = rw (same, named, other)
parameter-read (with_default u v named equal fits) t behind same other = rw (named, equal, expression-read fits)

comma-no-equal : (t : Token) → t.kind ≡ k.Comma → is_equal t.kind ≡ false
comma-no-equal t is = ap is_equal is

end-no-equal : (t : Token) → is_clause_end t.kind ≡ true → is_equal t.kind ≡ false
end-no-equal t is = ap is_equal (end-is t.kind is)

end-no-comma : (t : Token) → is_clause_end t.kind ≡ true → is_comma t.kind ≡ false
end-no-comma t is = ap is_comma (end-is t.kind is)

pub parameters-read : {list : List Parameter} {tokens rest : Tokens} → AreParameters list tokens rest → (f : ℕ) → length tokens < f → r.parameters f tokens ≡ Ok (list, rest)
parameters-read (last_parameter {parameter = one} {tokens = tokens} {rest = rest} t is end) f enough =
    step (λ f. r.parameters f tokens ≡ Ok (one ∷ [], rest)) f (omega arith) (λ m also.
    rw (parameter-read is t rest refl (end-no-equal t end), end-no-comma t end, end))
parameters-read (next_parameter {parameter = one} {parameters = list} {tokens = tokens} {behind = behind} {rest = rest} t is comma others) f enough =
    step (λ f. r.parameters f tokens ≡ Ok (one ∷ list, rest)) f (omega arith) (λ m also.
    let h = parameter-shorter is in
    rw (parameter-read is t behind refl (comma-no-equal t comma), comma, parameters-read others m (omega arith)))

default-sure : (tokens : Tokens) (name : Name) (behind : Tokens) → Tabled variable_of name tokens behind → Sure (λ one rest. IsParameter one tokens rest) (r.default_at name behind)
default-sure tokens name [] named =
    found _ [] (at-token (λ ts. IsParameter (record { name = name; default = None }) ts []) named (λ t n. required t n))
default-sure tokens name (u ∷ behind) named =
    sure-if _ _ _
    (λ equal. sure-then _ _ (expression-sure s.Nothing behind) (λ expr rest fits.
    found _ rest (at-token (λ ts. IsParameter (record { name = name; default = Some expr }) ts rest) named (λ t n. with_default t u n equal fits))))
    (λ other. found _ (u ∷ behind) (at-token (λ ts. IsParameter (record { name = name; default = None }) ts (u ∷ behind)) named (λ t n. required t n)))

pub parameter-sure : (tokens : Tokens) → Sure (λ one rest. IsParameter one tokens rest) (r.parameter tokens)
parameter-sure tokens = sure-then _ _ (variable-sure tokens) (λ name behind named. default-sure tokens name behind named)

pub parameters-sure : (f : ℕ) (tokens : Tokens) → Sure (λ list rest. AreParameters list tokens rest) (r.parameters f tokens)
parameters-sure zero tokens = refused _
parameters-sure (suc m) tokens =
    sure-then _ _ (parameter-sure tokens) (λ one behind is.
    behind-sure 21 (λ ts. r.parameters m ts) one behind
    (λ t rest same comma. sure-as _ (λ list others more. next_parameter t (subst (λ (ts : Tokens). IsParameter one tokens ts) same is) comma more) (parameters-sure m rest))
    (λ t rest same end. last_parameter t (subst (λ (ts : Tokens). IsParameter one tokens ts) same is) end))

-- ---- parts of RAISE, GUARD and TRACE

pub number-read : {one : Expr} {tokens rest : Tokens} → IsErrorNumber one tokens rest → r.error_number tokens ≡ Ok (one, rest)
number-read (constant_number t text is) = rw is
number-read (group_number (i.group t u left fits right)) = rw (left, expression-read fits, right)

pub number-sure : (tokens : Tokens) → Sure (λ one rest. IsErrorNumber one tokens rest) (r.error_number tokens)
number-sure [] = refused _
number-sure (t ∷ behind) = go t.kind refl
  where
    go : (kind : TokenKind) → t.kind ≡ kind → Sure (λ one rest. IsErrorNumber one (t ∷ behind) rest) (r.constant_or kind (t ∷ behind) behind)
    go (k.Constant text) is = found (e.Const (Str text)) behind (constant_number t text is)
    go _ is = sure-as _ (λ one rest grouped. group_number grouped) (group-sure 26 (t ∷ behind))

pub option-read : {spelling : List ℕ} {one : Option Expr} {tokens rest : Tokens} → IsRaiseOption spelling one tokens rest → r.raise_option spelling tokens ≡ Ok (one, rest)
option-read (no_option {spelling = spelling} {rest = rest} none) = rw (no-symbol spelling rest none)
option-read (option {spelling = spelling} t is fits) = rw (is-word spelling t.kind is, expression-read fits)

pub option-sure : (spelling : List ℕ) (tokens : Tokens) → Sure (λ one rest. IsRaiseOption spelling one tokens rest) (r.raise_option spelling tokens)
option-sure spelling tokens =
    sure-some _ _ _ (λ none. found None tokens (no_option (symbol-no spelling tokens none))) (λ behind is.
    sure-then _ _ (expression-sure s.Raise behind) (λ expr rest fits.
    found (Some expr) rest (at-word (λ ts. IsRaiseOption spelling (Some expr) ts rest) spelling tokens behind is (λ t w. option t w fits))))

pub guard-read : {one : Option Expr} {tokens rest : Tokens} → IsGuardTest one tokens rest → r.guard_test tokens ≡ Ok (one, rest)
guard-read (no_guard_test t end) = rw end
guard-read (guard_test t is last) = rw (is, last-read last)

pub guard-sure : (tokens : Tokens) → Sure (λ one rest. IsGuardTest one tokens rest) (r.guard_test tokens)
guard-sure tokens =
    sure-some _ _ _ (λ none.
    sure-some _ _ _ (λ other. refused _) (λ behind is.
    sure-then _ _ (last-sure behind) (λ expr rest last.
    found (Some expr) rest (at-word (λ ts. IsGuardTest (Some expr) ts rest) (codes "WHEN") tokens behind is (λ t w. guard_test t w last)))))
    (λ rest is. found None rest (at-end IsGuardTest None tokens rest is (λ t end. no_guard_test t end)))

pub setting-sure : (tokens : Tokens) → Sure (λ one rest. Tabled setting_of one tokens rest) (r.setting_at tokens)
setting-sure [] = refused _
setting-sure (t ∷ behind) = taken-sure setting_of 24 t behind

-- ---- lengths

pub condition-shorter : {one : Condition} {tokens rest : Tokens} → IsCondition one tokens rest → length rest < length tokens
condition-shorter (syntax_condition t is) = omega arith
condition-shorter (novalue t is) = omega arith
condition-shorter (nomethod t is) = omega arith
condition-shorter (user t u name is named) = omega arith

pub label-shorter : {one : Condition} {label : List ℕ} {tokens rest : Tokens} → IsTrapLabel one label tokens rest → length rest < length tokens
label-shorter (own_label t is) = omega arith
label-shorter (other_label t u v label is named end) = omega arith

pub parameters-shorter : {list : List Parameter} {tokens rest : Tokens} → AreParameters list tokens rest → length rest < length tokens
parameters-shorter (last_parameter t is end) = let h = parameter-shorter is in omega arith
parameters-shorter (next_parameter t is comma others) = let h = parameter-shorter is in let g = parameters-shorter others in omega arith

pub number-shorter : {one : Expr} {tokens rest : Tokens} → IsErrorNumber one tokens rest → length rest < length tokens
number-shorter (constant_number t text is) = omega arith
number-shorter (group_number (i.group t u left fits right)) = let h = fits-shorter fits in omega arith

pub option-shorter : {spelling : List ℕ} {one : Option Expr} {tokens rest : Tokens} → IsRaiseOption spelling one tokens rest → length rest ≤ length tokens
option-shorter (no_option none) = omega arith
option-shorter (option t is fits) = let h = fits-shorter fits in omega arith

pub guard-shorter : {one : Option Expr} {tokens rest : Tokens} → IsGuardTest one tokens rest → length rest < length tokens
guard-shorter (no_guard_test t end) = omega arith
guard-shorter (guard_test t is last) = let h = last-shorter last in omega arith
