-- Where a part is evaluated first, the whole comes to what the part comes to, and goes on with its value in its place.
use Rattle.std.proofs.Common.{◌≡◌, ℕ, ◌⊎◌, inl, inr, ⊎_elim, Bool, true, false, List, [], ◌∷◌, ◌++◌, Option, Some, None, refl, ap, sym, ◌∙◌, subst}
use Rattle.rx_tree.specs.declared.value.Value.{Value}
use Rattle.rx_tree.specs.declared.value.Value.TheVariants.{Str, Ref}
use Rattle.rx_tree.specs.declared.token.Oper.{Oper}
use Rattle.rx_tree.specs.declared.expr.Expr.{Expr}
use Rattle.rx_tree.specs.declared.expr.Expr.TheVariants as e
use Rattle.rx_tree.specs.declared.expr.Expr.TheOpen.{Expr-F}
use Rattle.rx_tree.specs.declared.expr.Expr.TheViews.{out-Expr, roll-Expr, roll-out-Expr}
use Rattle.rx_tree.specs.declared.expr.SendPart.{SendPart}
use Rattle.rx_eval.specs.declared.code.Form.{Form}
use Rattle.rx_eval.specs.declared.code.Form.TheVariants as form
use Rattle.rx_operators.specs.Families.{is_join}
use Rattle.rx_eval.specs.declared.code.Sending.{Sending}
use Rattle.rx_eval.specs.Reading.{Scene}
use Rattle.rx_eval.specs.Calling.{callee, wants_strings}
use Rattle.rx_eval.specs.Evaluation.{Found, Done, Raise, NoValue, Call, follow, wanted, string_of, evaluate, operate, operated, operate_before, chained, arguments, called, messaged, sent, sent_all, behind, behind_layer, before, before_layer, sending, sending_layer}
use Rattle.rx_eval.specs.Places.{begun, part_of}
use Rattle.rx_eval.proofs.Equations.{judged, judged_terms, judged_parts, trees_judged, evaluate_const, evaluate_prefix, evaluate_chain, evaluate_group, evaluate_function, evaluate_sends}
use Rattle.rx_eval.proofs.Rests.{head, head_of, Leaves, Mild, leaves_head}

pub follow_follow : (found : Found) (c d : Expr → Expr) (k l : Value → Found)
    → follow (follow found c k) d l ≡ follow found (λ rest. d (c rest)) (λ value. follow (k value) d l)
follow_follow (Done value) c d k l = refl
follow_follow (Raise number) c d k l = refl
follow_follow (NoValue name) c d k l = refl
follow_follow (Call sent rest) c d k l = refl

pub follow_same : (found : Found) (c d : Expr → Expr) (k l : Value → Found)
    → ((rest : Expr) → c rest ≡ d rest) → ((value : Value) → k value ≡ l value) → follow found c k ≡ follow found d l
follow_same (Done value) c d k l g h = h value
follow_same (Raise number) c d k l g h = refl
follow_same (NoValue name) c d k l g h = refl
follow_same (Call sent rest) c d k l g h = ap (Call sent) (g rest)

-- with what is left of it changed alike
follow_leaves : (found : Found) (c d : Expr → Expr) (k : Value → Found)
    → Leaves (λ rest. c rest ≡ d rest) found → follow found c k ≡ follow found d k
follow_leaves (Done value) c d k h = refl
follow_leaves (Raise number) c d k h = refl
follow_leaves (NoValue name) c d k h = refl
follow_leaves (Call sent rest) c d k h = ap (Call sent) h

leaves_map : (P Q : Expr → Type 0) (found : Found) → ((rest : Expr) → P rest → Q rest) → Leaves P found → Leaves Q found
leaves_map P Q (Done value) g h = tt
leaves_map P Q (Raise number) g h = tt
leaves_map P Q (NoValue name) g h = tt
leaves_map P Q (Call sent rest) g h = g rest h

-- In a context, a part of which a string may be wanted is evaluated first.
abbrev pub IsContext : Scene → Bool → (Expr → Expr) → Bool → Type 0
IsContext scene before_mark c after_mark = (x : Expr)
    → wanted after_mark (evaluate scene (c x)) ≡ follow (wanted before_mark (evaluate scene x)) c (λ value. wanted after_mark (evaluate scene (c (e.Const value))))

follow_twice : (mark : Bool) (found : Found) (c : Expr → Expr) (k : Value → Found)
    → follow (wanted mark found) c (λ value. follow (wanted mark (Done value)) c k) ≡ follow (wanted mark found) c k
follow_twice false found c k = refl
follow_twice true (Done (Str bytes)) c k = refl
follow_twice true (Done (Ref object)) c k = refl
follow_twice true (Raise number) c k = refl
follow_twice true (NoValue name) c k = refl
follow_twice true (Call sent rest) c k = refl

pub context_by : (scene : Scene) (m : Bool) (c : Expr → Expr) (n : Bool) (k : Value → Found)
    → ((x : Expr) → wanted n (evaluate scene (c x)) ≡ follow (wanted m (evaluate scene x)) c k) → IsContext scene m c n
context_by scene m c n k h x =
    h x ∙ sym (follow_twice m (evaluate scene x) c k)
    ∙ follow_same (wanted m (evaluate scene x)) c c (λ value. follow (wanted m (Done value)) c k) (λ value. wanted n (evaluate scene (c (e.Const value))))
    (λ rest. refl)
    (λ value. ap (λ found. follow (wanted m found) c k) (sym (evaluate_const scene value)) ∙ sym (h (e.Const value)))

-- The three forms that go on behind their first operand.

behind_layers : (d : Expr-F Expr SendPart) (left : Expr) (oper : Oper) (right : Expr) → (head d ≡ 2 → ⊥) → behind_layer d left oper right ≡ e.Chain left ((oper, right) ∷ [])
behind_layers (Expr-F.Chain first terms) left oper right h = absurd (h refl)
behind_layers _ left oper right h = refl

pub behind_other : (left : Expr) (oper : Oper) (right : Expr) → (head_of left ≡ 2 → ⊥) → behind left oper right ≡ e.Chain left ((oper, right) ∷ [])
unfolding behind
behind_other left oper right h = behind_layers (out-Expr left) left oper right h

pub behind_chain : (first : Expr) (terms : List (Oper × Expr)) (oper : Oper) (right : Expr) → behind (e.Chain first terms) oper right ≡ e.Chain first (terms ++ (oper, right) ∷ [])
unfolding behind
behind_chain first terms oper right = ap (λ d. behind_layer d (e.Chain first terms) oper right) (e.outs-Chain first terms)

before_layers : (d : Expr-F Expr SendPart) (oper : Oper) (right : Expr) → (head d ≡ 1 → ⊥) → before_layer d oper right ≡ e.Prefix (oper ∷ []) right
before_layers (Expr-F.Prefix opers inner) oper right h = absurd (h refl)
before_layers _ oper right h = refl

pub before_other : (oper : Oper) (right : Expr) → (head_of right ≡ 1 → ⊥) → before oper right ≡ e.Prefix (oper ∷ []) right
unfolding before
before_other oper right h = before_layers (out-Expr right) oper right h

pub before_prefix : (oper : Oper) (opers : List Oper) (inner : Expr) → before oper (e.Prefix opers inner) ≡ e.Prefix (oper ∷ opers) inner
unfolding before
before_prefix oper opers inner = ap (λ d. before_layer d oper (e.Prefix opers inner)) (e.outs-Prefix opers inner)

sending_layers : (d : Expr-F Expr SendPart) (target : Expr) (part : SendPart) → (head d ≡ 3 → ⊥) → sending_layer d target part ≡ e.Sends target (part ∷ [])
sending_layers (Expr-F.Sends receiver parts) target part h = absurd (h refl)
sending_layers _ target part h = refl

pub sending_other : (target : Expr) (part : SendPart) → (head_of target ≡ 3 → ⊥) → sending target part ≡ e.Sends target (part ∷ [])
unfolding sending
sending_other target part h = sending_layers (out-Expr target) target part h

pub sending_sends : (receiver : Expr) (parts : List SendPart) (part : SendPart) → sending (e.Sends receiver parts) part ≡ e.Sends receiver (parts ++ part ∷ [])
unfolding sending
sending_sends receiver parts part = ap (λ d. sending_layer d (e.Sends receiver parts) part) (e.outs-Sends receiver parts)

-- what is left of an expression of another form is of another form
mild_not : (n m : ℕ) (x : Expr) → (m ≡ n → ⊥) → (0 ≡ n → ⊥) → Mild m x → head_of x ≡ n → ⊥
mild_not n m x h k mild same = ⊎_elim (λ p. h (sym p ∙ same)) (λ p. k (sym p ∙ same)) mild

leaves_other : (scene : Scene) (n : ℕ) (x : Expr) → (head_of x ≡ n → ⊥) → (0 ≡ n → ⊥) → Leaves (λ rest. head_of rest ≡ n → ⊥) (evaluate scene x)
leaves_other scene n x h k =
    leaves_map (Mild (head_of x)) (λ rest. head_of rest ≡ n → ⊥) (evaluate scene x) (λ rest mild. mild_not n (head_of x) rest h k mild) (leaves_head scene x)

chained_more : (digits : ℕ) (found : Found) (terms : List (Oper × (Expr × Found))) (oper : Oper) (right : Expr × Found)
    → chained digits found (terms ++ (oper, right) ∷ []) ≡ operated digits (chained digits found terms) oper right
chained_more digits found [] oper right = refl
chained_more digits found (term ∷ terms) oper right = chained_more digits (operated digits found term.0 term.1) terms oper right

judged_terms_more : (scene : Scene) (terms : List (Oper × Expr)) (oper : Oper) (right : Expr)
    → judged_terms scene (terms ++ (oper, right) ∷ []) ≡ judged_terms scene terms ++ (oper, (right, evaluate scene right)) ∷ []
judged_terms_more scene [] oper right = refl
judged_terms_more scene (term ∷ terms) oper right = ap (λ rest. (term.0, (term.1, evaluate scene term.1)) ∷ rest) (judged_terms_more scene terms oper right)

-- a chain whose first operand alone was evaluated, with one more operand
wanted_begun : (mark : Bool) (found : Found) (oper : Oper) (right : Expr) (k : Value → Found)
    → Leaves (λ rest. head_of rest ≡ 2 → ⊥) found
    → follow (wanted mark (follow found (λ rest. e.Chain rest []) Done)) (λ rest. behind rest oper right) k ≡ follow (wanted mark found) (λ rest. behind rest oper right) k
wanted_begun false (Done value) oper right k h = refl
wanted_begun false (Raise number) oper right k h = refl
wanted_begun false (NoValue name) oper right k h = refl
wanted_begun false (Call sent rest) oper right k h = ap (Call sent) (behind_chain rest [] oper right ∙ sym (behind_other rest oper right h))
wanted_begun true (Done (Str bytes)) oper right k h = refl
wanted_begun true (Done (Ref object)) oper right k h = refl
wanted_begun true (Raise number) oper right k h = refl
wanted_begun true (NoValue name) oper right k h = refl
wanted_begun true (Call sent rest) oper right k h = ap (Call sent) (behind_chain rest [] oper right ∙ sym (behind_other rest oper right h))

behind_begun : (scene : Scene) (x : Expr) (oper : Oper) (right : Expr) → (head_of x ≡ 2 → ⊥)
    → evaluate scene (behind x oper right) ≡ operated scene.facts.frame.digits (evaluate scene x) oper (right, evaluate scene right)
behind_begun scene x oper right h =
    ap (evaluate scene) (behind_other x oper right h) ∙ evaluate_chain scene x ((oper, right) ∷ [])
    ∙ wanted_begun (is_join oper) (evaluate scene x) oper right _ (leaves_other scene 2 x h (λ p. cc))

pub chain_or : (d : Expr-F Expr SendPart) → ((first : Expr) × (terms : List (Oper × Expr)) × (d ≡ Expr-F.Chain first terms)) ⊎ (head d ≡ 2 → ⊥)
chain_or (Expr-F.Chain first terms) = inl (first, terms, refl)
chain_or _ = inr (λ p. cc)

pub prefix_or : (d : Expr-F Expr SendPart) → ((opers : List Oper) × (inner : Expr) × (d ≡ Expr-F.Prefix opers inner)) ⊎ (head d ≡ 1 → ⊥)
prefix_or (Expr-F.Prefix opers inner) = inl (opers, inner, refl)
prefix_or _ = inr (λ p. cc)

pub sends_or : (d : Expr-F Expr SendPart) → ((receiver : Expr) × (parts : List SendPart) × (d ≡ Expr-F.Sends receiver parts)) ⊎ (head d ≡ 3 → ⊥)
sends_or (Expr-F.Sends receiver parts) = inl (receiver, parts, refl)
sends_or _ = inr (λ p. cc)

behind_more : (scene : Scene) (first : Expr) (terms : List (Oper × Expr)) (oper : Oper) (right : Expr)
    → evaluate scene (behind (e.Chain first terms) oper right) ≡ operated scene.facts.frame.digits (evaluate scene (e.Chain first terms)) oper (right, evaluate scene right)
behind_more scene first terms oper right =
    ap (evaluate scene) (behind_chain first terms oper right)
    ∙ evaluate_chain scene first (terms ++ (oper, right) ∷ [])
    ∙ ap (chained scene.facts.frame.digits (follow (evaluate scene first) (λ rest. e.Chain rest []) Done)) (judged_terms_more scene terms oper right)
    ∙ chained_more scene.facts.frame.digits (follow (evaluate scene first) (λ rest. e.Chain rest []) Done) (judged_terms scene terms) oper (right, evaluate scene right)
    ∙ ap (λ found. operated scene.facts.frame.digits found oper (right, evaluate scene right)) (sym (evaluate_chain scene first terms))

pub evaluate_behind : (scene : Scene) (x : Expr) (oper : Oper) (right : Expr)
    → evaluate scene (behind x oper right) ≡ operated scene.facts.frame.digits (evaluate scene x) oper (right, evaluate scene right)
evaluate_behind scene x oper right =
    ⊎_elim
    (λ t. subst (λ y. evaluate scene (behind y oper right) ≡ operated scene.facts.frame.digits (evaluate scene y) oper (right, evaluate scene right))
    (sym (sym (roll-out-Expr x) ∙ ap roll-Expr t.2 ∙ e.rolls-Chain t.0 t.1)) (behind_more scene t.0 t.1 oper right))
    (λ h. behind_begun scene x oper right h)
    (chain_or (out-Expr x))

before_more : (scene : Scene) (oper : Oper) (opers : List Oper) (inner : Expr)
    → evaluate scene (before oper (e.Prefix opers inner)) ≡ follow (evaluate scene (e.Prefix opers inner)) (before oper) (operate_before scene.facts.frame.digits oper)
before_more scene oper opers inner =
    ap (evaluate scene) (before_prefix oper opers inner)
    ∙ evaluate_prefix scene (oper ∷ opers) inner
    ∙ ap (λ found. follow found (before oper) (operate_before scene.facts.frame.digits oper)) (sym (evaluate_prefix scene opers inner))

before_begun : (scene : Scene) (oper : Oper) (x : Expr) → (head_of x ≡ 1 → ⊥)
    → evaluate scene (before oper x) ≡ follow (evaluate scene x) (before oper) (operate_before scene.facts.frame.digits oper)
before_begun scene oper x h =
    ap (evaluate scene) (before_other oper x h) ∙ evaluate_prefix scene (oper ∷ []) x
    ∙ follow_follow (evaluate scene x) (λ rest. e.Prefix [] rest) (before oper) Done (operate_before scene.facts.frame.digits oper)
    ∙ follow_leaves (evaluate scene x) (λ rest. before oper (e.Prefix [] rest)) (before oper) (operate_before scene.facts.frame.digits oper)
    (leaves_map (λ rest. head_of rest ≡ 1 → ⊥) (λ rest. before oper (e.Prefix [] rest) ≡ before oper rest) (evaluate scene x)
    (λ rest k. before_prefix oper [] rest ∙ sym (before_other oper rest k)) (leaves_other scene 1 x h (λ p. cc)))

pub evaluate_before : (scene : Scene) (oper : Oper) (x : Expr)
    → evaluate scene (before oper x) ≡ follow (evaluate scene x) (before oper) (operate_before scene.facts.frame.digits oper)
evaluate_before scene oper x =
    ⊎_elim
    (λ t. subst (λ y. evaluate scene (before oper y) ≡ follow (evaluate scene y) (before oper) (operate_before scene.facts.frame.digits oper))
    (sym (sym (roll-out-Expr x) ∙ ap roll-Expr t.2 ∙ e.rolls-Prefix t.0 t.1)) (before_more scene oper t.0 t.1))
    (λ h. before_begun scene oper x h)
    (prefix_or (out-Expr x))

sent_all_more : (scene : Scene) (found : Found) (parts : List (SendPart × List (Option (Expr × Found)))) (part : SendPart) (args : List (Option (Expr × Found)))
    → sent_all scene found (parts ++ (part, args) ∷ []) ≡ sent scene (sent_all scene found parts) part args
sent_all_more scene found [] part args = refl
sent_all_more scene found (p ∷ parts) part args = sent_all_more scene (sent scene found p.0 p.1) parts part args

judged_parts_more : (scene : Scene) (parts : List SendPart) (part : SendPart)
    → judged_parts scene (parts ++ part ∷ []) ≡ judged_parts scene parts ++ (part, judged scene part.args) ∷ []
judged_parts_more scene [] part = refl
judged_parts_more scene (p ∷ parts) part = ap (λ rest. (p, judged scene p.args) ∷ rest) (judged_parts_more scene parts part)

sending_more : (scene : Scene) (receiver : Expr) (parts : List SendPart) (part : SendPart)
    → evaluate scene (sending (e.Sends receiver parts) part) ≡ sent scene (evaluate scene (e.Sends receiver parts)) part (judged scene part.args)
sending_more scene receiver parts part =
    ap (evaluate scene) (sending_sends receiver parts part)
    ∙ evaluate_sends scene receiver (parts ++ part ∷ [])
    ∙ ap (sent_all scene (follow (evaluate scene receiver) (λ rest. e.Sends rest []) Done)) (judged_parts_more scene parts part)
    ∙ sent_all_more scene (follow (evaluate scene receiver) (λ rest. e.Sends rest []) Done) (judged_parts scene parts) part (judged scene part.args)
    ∙ ap (λ found. sent scene found part (judged scene part.args)) (sym (evaluate_sends scene receiver parts))

sending_begun : (scene : Scene) (x : Expr) (part : SendPart) → (head_of x ≡ 3 → ⊥)
    → evaluate scene (sending x part) ≡ sent scene (evaluate scene x) part (judged scene part.args)
sending_begun scene x part h =
    ap (evaluate scene) (sending_other x part h) ∙ evaluate_sends scene x (part ∷ [])
    ∙ follow_follow (evaluate scene x) (λ rest. e.Sends rest []) (λ rest. sending rest part) Done _
    ∙ follow_leaves (evaluate scene x) (λ rest. sending (e.Sends rest []) part) (λ rest. sending rest part) _
    (leaves_map (λ rest. head_of rest ≡ 3 → ⊥) (λ rest. sending (e.Sends rest []) part ≡ sending rest part) (evaluate scene x)
    (λ rest k. sending_sends rest [] part ∙ sym (sending_other rest part k)) (leaves_other scene 3 x h (λ p. cc)))

pub evaluate_sending : (scene : Scene) (x : Expr) (part : SendPart)
    → evaluate scene (sending x part) ≡ sent scene (evaluate scene x) part (judged scene part.args)
evaluate_sending scene x part =
    ⊎_elim
    (λ t. subst (λ y. evaluate scene (sending y part) ≡ sent scene (evaluate scene y) part (judged scene part.args))
    (sym (sym (roll-out-Expr x) ∙ ap roll-Expr t.2 ∙ e.rolls-Sends t.0 t.1)) (sending_more scene t.0 t.1 part))
    (λ h. sending_begun scene x part h)
    (sends_or (out-Expr x))

-- The contexts.

pub context_begin : (scene : Scene) (f : Form) → IsContext scene false (begun f) false
context_begin scene form.Prefix = context_by scene false (begun form.Prefix) false Done (λ x. evaluate_prefix scene [] x)
context_begin scene form.Chain = context_by scene false (begun form.Chain) false Done (λ x. evaluate_chain scene x [])
context_begin scene form.Sends = context_by scene false (begun form.Sends) false Done (λ x. evaluate_sends scene x [])

pub context_group : (scene : Scene) → IsContext scene false e.Group false
context_group scene = context_by scene false e.Group false Done (evaluate_group scene)

pub context_before : (scene : Scene) (oper : Oper) → IsContext scene false (before oper) false
context_before scene oper = context_by scene false (before oper) false (operate_before scene.facts.frame.digits oper) (evaluate_before scene oper)

pub context_wanted : (scene : Scene) → IsContext scene false (λ x. x) true
context_wanted scene = context_by scene false (λ x. x) true string_of (λ x. refl)

pub context_left : (scene : Scene) (oper : Oper) (right : Expr) → IsContext scene (is_join oper) (λ x. behind x oper right) false
context_left scene oper right = context_by scene (is_join oper) (λ x. behind x oper right) false _ (λ x. evaluate_behind scene x oper right)

differ : (n m k : ℕ) → n ≡ m → n ≡ k → (m ≡ k → ⊥) → ⊥
differ n m k p q h = h (sym p ∙ q)

head_const : (value : Value) → head_of (e.Const value) ≡ 2 → ⊥
head_const value p = differ (head_of (e.Const value)) 0 2 (ap head (e.outs-Const value)) p (λ q. cc)

pub behind_const : (left : Value) (oper : Oper) (right : Expr) → behind (e.Const left) oper right ≡ e.Chain (e.Const left) ((oper, right) ∷ [])
behind_const left oper right = behind_other (e.Const left) oper right (head_const left)

pub evaluate_operated : (scene : Scene) (left : Value) (oper : Oper) (x : Expr) → wanted (is_join oper) (Done left) ≡ Done left
    → evaluate scene (behind (e.Const left) oper x) ≡ follow (evaluate scene x) (λ rest. behind (e.Const left) oper rest) (operate scene.facts.frame.digits oper left)
evaluate_operated scene left oper x h =
    evaluate_behind scene (e.Const left) oper x
    ∙ ap (λ found. operated scene.facts.frame.digits found oper (x, evaluate scene x)) (evaluate_const scene left)
    ∙ ap (λ found. follow found (λ rest. behind rest oper x) (λ left. follow (evaluate scene x) (λ rest. e.Chain (e.Const left) ((oper, rest) ∷ [])) (operate scene.facts.frame.digits oper left))) h
    ∙ follow_same (evaluate scene x) (λ rest. e.Chain (e.Const left) ((oper, rest) ∷ [])) (λ rest. behind (e.Const left) oper rest) (operate scene.facts.frame.digits oper left) (operate scene.facts.frame.digits oper left)
    (λ rest. sym (behind_const left oper rest)) (λ value. refl)

pub context_right : (scene : Scene) (left : Value) (oper : Oper) → wanted (is_join oper) (Done left) ≡ Done left
    → IsContext scene false (λ x. behind (e.Const left) oper x) false
context_right scene left oper h = context_by scene false (λ x. behind (e.Const left) oper x) false (operate scene.facts.frame.digits oper left) (λ x. evaluate_operated scene left oper x h)

pub context_receiver : (scene : Scene) (part : SendPart) → IsContext scene false (λ x. sending x part) false
context_receiver scene part = context_by scene false (λ x. sending x part) false _ (λ x. evaluate_sending scene x part)

-- arguments that are evaluated
abbrev pub constants : List (Option Value) → List (Option Expr)
constants [] = []
constants (None ∷ values) = None ∷ constants values
constants (Some value ∷ values) = Some (e.Const value) ∷ constants values

-- strings, where these are wanted
abbrev pub AreSettled : Bool → List (Option Value) → Type 0
AreSettled strings [] = Unit {0}
AreSettled strings (None ∷ values) = AreSettled strings values
AreSettled strings (Some value ∷ values) = (wanted strings (Done value) ≡ Done value) × AreSettled strings values

-- a constant that is as it is wanted
const_wanted : (scene : Scene) (strings : Bool) (value : Value) → wanted strings (Done value) ≡ Done value → wanted strings (evaluate scene (e.Const value)) ≡ Done value
const_wanted scene strings value h = ap (wanted strings) (evaluate_const scene value) ∙ h

pub arguments_from : (scene : Scene) (strings : Bool) (values : List (Option Value)) (x : Expr) (args : List (Option Expr)) (around : List (Option Expr) → Expr) (go : List (Option Value) → Found)
    → AreSettled strings values
    → arguments strings (judged scene (constants values ++ Some x ∷ args)) around go
    ≡ follow (wanted strings (evaluate scene x)) (λ rest. around (constants values ++ Some rest ∷ args))
    (λ value. arguments strings (judged scene args) (λ rest. around (constants values ++ Some (e.Const value) ∷ rest)) (λ rest. go (values ++ Some value ∷ rest)))
arguments_from scene strings [] x args around go s =
    ap (λ all. follow (wanted strings (evaluate scene x)) (λ rest. around (Some rest ∷ all))
    (λ value. arguments strings (judged scene args) (λ rest. around (Some (e.Const value) ∷ rest)) (λ rest. go (Some value ∷ rest)))) (trees_judged scene args)
arguments_from scene strings (None ∷ values) x args around go s = arguments_from scene strings values x args (λ rest. around (None ∷ rest)) (λ rest. go (None ∷ rest)) s
arguments_from scene strings (Some v ∷ values) x args around go s =
    rw (const_wanted scene strings v s.0) (arguments_from scene strings values x args (λ rest. around (Some (e.Const v) ∷ rest)) (λ rest. go (Some v ∷ rest)) s.1)

pub arguments_done : (scene : Scene) (strings : Bool) (values : List (Option Value)) (around : List (Option Expr) → Expr) (go : List (Option Value) → Found)
    → AreSettled strings values → arguments strings (judged scene (constants values)) around go ≡ go values
arguments_done scene strings [] around go s = refl
arguments_done scene strings (None ∷ values) around go s = arguments_done scene strings values (λ rest. around (None ∷ rest)) (λ rest. go (None ∷ rest)) s
arguments_done scene strings (Some v ∷ values) around go s =
    rw (const_wanted scene strings v s.0) (arguments_done scene strings values (λ rest. around (Some (e.Const v) ∷ rest)) (λ rest. go (Some v ∷ rest)) s.1)

pub context_function : (scene : Scene) (name : List ℕ) (is_string : Bool) (values : List (Option Value)) (args : List (Option Expr))
    → AreSettled (wants_strings (callee scene.body name is_string)) values
    → IsContext scene (wants_strings (callee scene.body name is_string)) (λ x. e.Function name is_string (constants values ++ Some x ∷ args)) false
context_function scene name is_string values args s =
    context_by scene (wants_strings (callee scene.body name is_string)) (λ x. e.Function name is_string (constants values ++ Some x ∷ args)) false _
    (λ x. evaluate_function scene name is_string (constants values ++ Some x ∷ args)
    ∙ arguments_from scene (wants_strings (callee scene.body name is_string)) values x args (e.Function name is_string) (called scene (callee scene.body name is_string) name) s)

sending_const : (target : Value) (part : SendPart) → sending (e.Const target) part ≡ e.Sends (e.Const target) (part ∷ [])
sending_const target part = sending_other (e.Const target) part (λ p. differ (head_of (e.Const target)) 0 3 (ap head (e.outs-Const target)) p (λ q. cc))

pub evaluate_sent : (scene : Scene) (target : Value) (send : Sending) (args : List (Option Expr))
    → evaluate scene (sending (e.Const target) (part_of send args))
    ≡ arguments false (judged scene args) (λ rest. e.Sends (e.Const target) (part_of send rest ∷ [])) (messaged scene (part_of send []) target)
evaluate_sent scene target send args =
    evaluate_sending scene (e.Const target) (part_of send args)
    ∙ ap (λ found. sent scene found (part_of send args) (judged scene args)) (evaluate_const scene target)

-- each value is as it is, where no string is wanted
pub all_settled : (values : List (Option Value)) → AreSettled false values
all_settled [] = tt
all_settled (None ∷ values) = all_settled values
all_settled (Some value ∷ values) = (refl, all_settled values)

pub context_send : (scene : Scene) (target : Value) (send : Sending) (values : List (Option Value)) (args : List (Option Expr))
    → IsContext scene false (λ x. sending (e.Const target) (part_of send (constants values ++ Some x ∷ args))) false
context_send scene target send values args =
    context_by scene false (λ x. sending (e.Const target) (part_of send (constants values ++ Some x ∷ args))) false _
    (λ x. evaluate_sent scene target send (constants values ++ Some x ∷ args)
    ∙ arguments_from scene false values x args (λ rest. e.Sends (e.Const target) (part_of send rest ∷ [])) (messaged scene (part_of send []) target) (all_settled values)
    ∙ follow_same (evaluate scene x) (λ rest. e.Sends (e.Const target) (part_of send (constants values ++ Some rest ∷ args) ∷ [])) (λ rest. sending (e.Const target) (part_of send (constants values ++ Some rest ∷ args))) _ _
    (λ rest. sym (sending_const target (part_of send (constants values ++ Some rest ∷ args)))) (λ value. refl))
