-- Comments are what is closed behind them.
use Rattle.std.proofs.Common.{◌≡◌, ◌==◌, ◌+◌, ◌-◌, ℕ, zero, suc, Bool, true, false, cond, ◌||◌, ◌&&◌, List, [], ◌∷◌, ◌++◌, Option, None, Some, refl, sym, ◌∙◌, ap, subst, arith, append_assoc, add-one}
use Rattle.std.proofs.lemmas.Bool.{eqb-true, eq-eqb, ne_eqb, cond-true, cond-false, and_parts, or_from, or_parts}
use Rattle.rx_tree.specs.Letters.{begins}
use Rattle.rx_tree.specs.Comments.{Inside, Closed, Byte, Nested, inside_bytes, IsInside, is_opening, is_closing}
use Rattle.rx_scan.specs.Reader.{close_from}

-- One step of a comment.

pub close_from-closing : (n b c : ℕ) (bytes : List ℕ) → is_closing b c ≡ true
    → close_from n (b ∷ (c ∷ bytes)) ≡ cond (n == 0) (Some bytes) (close_from (n - 1) bytes)
close_from-closing n b c bytes is = cond-true _ _ _ is

pub close_from-opening : (n b c : ℕ) (bytes : List ℕ) → is_closing b c ≡ false → is_opening b c ≡ true
    → close_from n (b ∷ (c ∷ bytes)) ≡ close_from (n + 1) bytes
close_from-opening n b c bytes closes is = cond-false _ _ _ closes ∙ cond-true _ _ _ is

pub close_from-byte : (n b c : ℕ) (bytes : List ℕ) → is_closing b c ≡ false → is_opening b c ≡ false
    → close_from n (b ∷ (c ∷ bytes)) ≡ close_from n (c ∷ bytes)
close_from-byte n b c bytes closes opens = cond-false _ _ _ closes ∙ cond-false _ _ _ opens

front_is : (rest more behind : List ℕ) (b c : ℕ) → rest ≡ b ∷ more → more ≡ c ∷ behind → rest ≡ b ∷ (c ∷ behind)
front_is rest more behind b c first second = first ∙ ap (λ xs. b ∷ xs) second

pub closed-last : (rest more behind bytes : List ℕ) (n b c : ℕ) → rest ≡ b ∷ more → more ≡ c ∷ behind → is_closing b c ≡ true → n ≡ 0
    → close_from n rest ≡ close_from 0 bytes → Some behind ≡ close_from 0 bytes
closed-last rest more behind bytes n b c first second is none same =
    sym (cond-true (n == 0) (Some behind) (close_from (n - 1) behind) (eq-eqb n 0 none)) ∙ sym (close_from-closing n b c behind is)
    ∙ ap (close_from n) (sym (front_is rest more behind b c first second)) ∙ same

pub closed-inner : (rest more behind bytes : List ℕ) (n b c : ℕ) → rest ≡ b ∷ more → more ≡ c ∷ behind → is_closing b c ≡ true → (n ≡ 0 → ⊥)
    → close_from n rest ≡ close_from 0 bytes → close_from (n - 1) behind ≡ close_from 0 bytes
closed-inner rest more behind bytes n b c first second is some same =
    sym (cond-false (n == 0) (Some behind) (close_from (n - 1) behind) (ne_eqb n 0 some)) ∙ sym (close_from-closing n b c behind is)
    ∙ ap (close_from n) (sym (front_is rest more behind b c first second)) ∙ same

pub opened-inner : (rest more behind bytes : List ℕ) (n b c : ℕ) → rest ≡ b ∷ more → more ≡ c ∷ behind → is_closing b c ≡ false → is_opening b c ≡ true
    → close_from n rest ≡ close_from 0 bytes → close_from (n + 1) behind ≡ close_from 0 bytes
opened-inner rest more behind bytes n b c first second closes is same =
    sym (close_from-opening n b c behind closes is) ∙ ap (close_from n) (sym (front_is rest more behind b c first second)) ∙ same

pub passed-byte : (rest more behind bytes : List ℕ) (n b c : ℕ) → rest ≡ b ∷ more → more ≡ c ∷ behind → is_closing b c ≡ false → is_opening b c ≡ false
    → close_from n rest ≡ close_from 0 bytes → close_from n more ≡ close_from 0 bytes
passed-byte rest more behind bytes n b c first second closes opens same =
    ap (close_from n) second ∙ sym (close_from-byte n b c behind closes opens)
    ∙ ap (close_from n) (sym (front_is rest more behind b c first second)) ∙ same

pub closed-none : (rest more bytes : List ℕ) (n b : ℕ) → rest ≡ b ∷ more → more ≡ [] → close_from n rest ≡ close_from 0 bytes → None ≡ close_from 0 bytes
closed-none rest more bytes n b first none same = ap (close_from n) (sym (first ∙ ap (λ xs. b ∷ xs) none)) ∙ same

pub closed-empty : (rest bytes : List ℕ) (n : ℕ) → rest ≡ [] → close_from n rest ≡ close_from 0 bytes → None ≡ close_from 0 bytes
closed-empty rest bytes n none same = ap (close_from n) (sym none) ∙ same

-- What is written inside a comment is closed behind it.

-- what follows one inside, where so many comments are open about it
abbrev pub after : ℕ → List ℕ → Option (List ℕ)
after n rest = cond (n == 0) (Some rest) (close_from (n - 1) rest)

after-suc : (n : ℕ) (rest : List ℕ) → after (n + 1) rest ≡ close_from n rest
after-suc n rest =
    let some : n + 1 ≡ 0 → ⊥ = λ none. omega arith in
    let back : (n + 1) - 1 ≡ n = omega arith in
    cond-false (n + 1 == 0) _ _ (ne_eqb (n + 1) 0 some) ∙ ap (λ k. close_from k rest) back

-- an inside has two bytes at least
record HasTwo (bytes : List ℕ) : Type 0 where
  pub second : ℕ
  pub behind : List ℕ
  pub first : ℕ
  pub is : bytes ≡ first ∷ (second ∷ behind)

byte-two : (b : ℕ) (bytes : List ℕ) → HasTwo bytes → HasTwo (b ∷ bytes)
byte-two b bytes two = record { first = b; second = two.first; behind = two.second ∷ two.behind; is = ap (λ xs. b ∷ xs) two.is }

has-two : (inside : Inside) → HasTwo (inside_bytes inside)
has-two Closed = record { first = 42; second = 47; behind = []; is = refl }
has-two (Byte b more) = byte-two b (inside_bytes more) (has-two more)
has-two (Nested inner more) = record { first = 47; second = 42; behind = inside_bytes inner ++ inside_bytes more; is = refl }

byte-closes : (n b : ℕ) (bytes rest : List ℕ) → HasTwo bytes → begins (λ c. is_opening b c || is_closing b c) bytes ≡ false
    → close_from n (b ∷ (bytes ++ rest)) ≡ close_from n (bytes ++ rest)
byte-closes n b bytes rest two plain =
    let both : (is_opening b two.first ≡ false) × (is_closing b two.first ≡ false) =
    or_parts (is_opening b two.first) (is_closing b two.first) (ap (begins (λ c. is_opening b c || is_closing b c)) (sym two.is) ∙ plain) in
    ap (λ xs. close_from n (b ∷ (xs ++ rest))) two.is
    ∙ close_from-byte n b two.first ((two.second ∷ two.behind) ++ rest) both.1 both.0
    ∙ ap (λ xs. close_from n (xs ++ rest)) (sym two.is)

pub closes : (inside : Inside) (n : ℕ) (rest : List ℕ) → IsInside inside → close_from n (inside_bytes inside ++ rest) ≡ after n rest
closes Closed n rest well = close_from-closing n 42 47 rest refl
closes (Byte b more) n rest well = byte-closes n b (inside_bytes more) rest (has-two more) well.0 ∙ closes more n rest well.1
closes (Nested inner more) n rest well =
    close_from-opening n 47 42 ((inside_bytes inner ++ inside_bytes more) ++ rest) refl refl
    ∙ ap (close_from (n + 1)) (append_assoc (inside_bytes inner) (inside_bytes more) rest)
    ∙ closes inner (n + 1) (inside_bytes more ++ rest) well.0
    ∙ after-suc n (inside_bytes more ++ rest)
    ∙ closes more n rest well.1

-- What is closed is written inside a comment.

-- bytes are an inside, and what follows it
pub record HasInside (bytes : List ℕ) (Behind : List ℕ → Type 0) : Type 0 where
  pub inside : Inside
  pub behind : List ℕ
  pub is : bytes ≡ inside_bytes inside ++ behind
  pub well : IsInside inside
  pub then : Behind behind

-- bytes close so many comments about the innermost, and the rest follows
abbrev pub Close : ℕ → List ℕ → List ℕ → Type 0
Close zero rest bytes = HasInside bytes (λ behind. behind ≡ rest)
Close (suc n) rest bytes = HasInside bytes (λ behind. Close n rest behind)

-- a byte, or a comment, before an inside
byte-before : (b c : ℕ) (bytes : List ℕ) (Behind : List ℕ → Type 0) → is_closing b c ≡ false → is_opening b c ≡ false
    → HasInside (c ∷ bytes) Behind → HasInside (b ∷ (c ∷ bytes)) Behind
byte-before b c bytes Behind closed opened has =
    let two : HasTwo (inside_bytes has.inside) = has-two has.inside in
    let same : c ≡ two.first = let all : c ∷ bytes ≡ two.first ∷ ((two.second ∷ two.behind) ++ has.behind) = has.is ∙ ap (λ xs. xs ++ has.behind) two.is in cc in
    record {
      inside = Byte b has.inside;
      behind = has.behind;
      is = ap (λ xs. b ∷ xs) has.is;
      well = (
        ap (begins (λ x. is_opening b x || is_closing b x)) two.is
            ∙ ap (λ x. is_opening b x || is_closing b x) (sym same) ∙ or_from (is_opening b c) (is_closing b c) opened closed,
        has.well,
      );
      then = has.then;
    }

comment-before : (bytes : List ℕ) (Behind : List ℕ → Type 0) → HasInside bytes (λ behind. HasInside behind Behind)
    → HasInside (47 ∷ (42 ∷ bytes)) Behind
comment-before bytes Behind has =
    let more : HasInside has.behind Behind = has.then in
    record {
      inside = Nested has.inside more.inside;
      behind = more.behind;
      is = ap (λ xs. 47 ∷ (42 ∷ xs)) (has.is ∙ ap (λ xs. inside_bytes has.inside ++ xs) more.is
          ∙ sym (append_assoc (inside_bytes has.inside) (inside_bytes more.inside) more.behind));
      well = (has.well, more.well);
      then = more.then;
    }

close-byte : (n b c : ℕ) (bytes rest : List ℕ) → is_closing b c ≡ false → is_opening b c ≡ false → Close n rest (c ∷ bytes) → Close n rest (b ∷ (c ∷ bytes))
close-byte zero b c bytes rest closed opened has = byte-before b c bytes (λ behind. behind ≡ rest) closed opened has
close-byte (suc n) b c bytes rest closed opened has = byte-before b c bytes (λ behind. Close n rest behind) closed opened has

close-comment : (n : ℕ) (bytes rest : List ℕ) → Close (suc n) rest bytes → Close n rest (47 ∷ (42 ∷ bytes))
close-comment zero bytes rest has = comment-before bytes (λ behind. behind ≡ rest) has
close-comment (suc n) bytes rest has = comment-before bytes (λ behind. Close n rest behind) has

closed-here : (bytes : List ℕ) (Behind : List ℕ → Type 0) → Behind bytes → HasInside (42 ∷ (47 ∷ bytes)) Behind
closed-here bytes Behind follows = record { inside = Closed; behind = bytes; is = refl; well = tt; then = follows }

close-here : (n : ℕ) (bytes rest : List ℕ) → (close_from (n - 1) bytes ≡ Some rest → Close (n - 1) rest bytes) → after n bytes ≡ Some rest → Close n rest (42 ∷ (47 ∷ bytes))
close-here zero bytes rest later is = closed-here bytes (λ behind. behind ≡ rest) (let same : Some bytes ≡ Some rest = is in cc)
close-here (suc n) bytes rest later is =
    let back : suc n - 1 ≡ n = omega arith in
    let some : suc n ≡ 0 → ⊥ = λ none. omega arith in
    let found : close_from (suc n - 1) bytes ≡ Some rest = sym (cond-false (suc n == 0) _ _ (ne_eqb (suc n) 0 some)) ∙ is in
    closed-here bytes (λ behind. Close n rest behind) (subst (λ (k : ℕ). Close k rest bytes) back (later found))

two-bytes : (b c : ℕ) (first second : ℕ) → ((b == first) && (c == second)) ≡ true → (b ≡ first) × (c ≡ second)
two-bytes b c first second is =
    let both : ((b == first) ≡ true) × ((c == second) ≡ true) = and_parts (b == first) (c == second) is in
    (eqb-true b first both.0, eqb-true c second both.1)

close-opened : (n b c : ℕ) (bytes rest : List ℕ) (opened : Bool) → is_closing b c ≡ false → is_opening b c ≡ opened
    → cond opened (close_from (n + 1) bytes) (close_from n (c ∷ bytes)) ≡ Some rest
    → (close_from (n + 1) bytes ≡ Some rest → Close (n + 1) rest bytes)
    → (close_from n (c ∷ bytes) ≡ Some rest → Close n rest (c ∷ bytes))
    → Close n rest (b ∷ (c ∷ bytes))
close-opened n b c bytes rest true closed tested is inner later =
    let same : (b ≡ 47) × (c ≡ 42) = two-bytes b c 47 42 tested in
    subst (λ (x : ℕ). Close n rest (x ∷ (c ∷ bytes))) (sym same.0)
    (subst (λ (y : ℕ). Close n rest (47 ∷ (y ∷ bytes))) (sym same.1)
    (close-comment n bytes rest (subst (λ (k : ℕ). Close k rest bytes) (add-one n) (inner is))))
close-opened n b c bytes rest false closed tested is inner later = close-byte n b c bytes rest closed tested (later is)

close-two : (n b c : ℕ) (bytes rest : List ℕ) (closed : Bool) → is_closing b c ≡ closed
    → cond closed (after n bytes) (cond (is_opening b c) (close_from (n + 1) bytes) (close_from n (c ∷ bytes))) ≡ Some rest
    → ((k : ℕ) → close_from k bytes ≡ Some rest → Close k rest bytes)
    → (close_from n (c ∷ bytes) ≡ Some rest → Close n rest (c ∷ bytes))
    → Close n rest (b ∷ (c ∷ bytes))
close-two n b c bytes rest true tested is inner later =
    let same : (b ≡ 42) × (c ≡ 47) = two-bytes b c 42 47 tested in
    subst (λ (x : ℕ). Close n rest (x ∷ (c ∷ bytes))) (sym same.0)
    (subst (λ (y : ℕ). Close n rest (42 ∷ (y ∷ bytes))) (sym same.1) (close-here n bytes rest (inner (n - 1)) is))
close-two n b c bytes rest false tested is inner later =
    close-opened n b c bytes rest (is_opening b c) tested refl is (inner (n + 1)) later

pub close_from-written : (bytes : List ℕ) (n : ℕ) (rest : List ℕ) → close_from n bytes ≡ Some rest → Close n rest bytes
close_from-written [] n rest is = cc
close_from-written (b ∷ []) n rest is = cc
close_from-written (b ∷ (c ∷ bytes)) n rest is =
    close-two n b c bytes rest (is_closing b c) refl is (λ k found. close_from-written bytes k rest found) (close_from-written (c ∷ bytes) n rest)
