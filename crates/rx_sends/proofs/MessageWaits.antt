-- No message loses a Message that waits, and what it starts is a new one.
use Rattle.std.proofs.Common.{◌≡◌, ℕ, List, [], ◌∷◌, length, Option, Some, None, refl, sym, arith, length-append}
use Rattle.std.specs.Prelude.{◌==◌, ◌&&◌, not, nat_lt, Ok, Err}
use Rattle.rx_tree.specs.Object.{Object, Places}
use Rattle.rx_tree.specs.declared.value.Value.{Value}
use Rattle.rx_tree.specs.declared.class.ClassDef.{ClassDef}
use Rattle.rx_tree.specs.declared.class.Scope.{Scope}
use Rattle.rx_classes.specs.declared.method.MethodId.{MethodId}
use Rattle.rx_classes.specs.declared.method.MethodId.TheVariants as id
use Rattle.rx_classes.specs.Natives.{array_class}
use Rattle.rx_heap.specs.Arrays.{most_places}
use Rattle.rx_heap.specs.Objects.{most_objects}
use Rattle.rx_native.specs.declared.answer.Began.TheVariants as b
use Rattle.rx_native.specs.declared.answer.NativeAnswer.{NativeAnswer}
use Rattle.rx_native.specs.declared.answer.NativeAnswer.TheVariants as a
use Rattle.rx_native.specs.Arguments.{Arguments}
use Rattle.rx_native.specs.Fitting.{Fits, IsReached, IsThere}
use Rattle.rx_native.specs.Methods.{is_built, object_in}
use Rattle.rx_native.specs.Outcomes.{Outcome, next_number, with_object}
use Rattle.rx_sends.specs.declared.parts.Sent.{Sent}
use Rattle.rx_sends.specs.declared.reaching.Reached.{Reached}
use Rattle.rx_sends.specs.declared.reaching.Reached.TheVariants as r
use Rattle.rx_sends.specs.Delivering.{IsReachedBy, delivery, delivery_by, performs, unknown_args, unknowns}
use Rattle.rx_sends.specs.Keeping.{DeliveryKeeps, IsStarted, KeepsWaiting}
use Rattle.rx_sends.specs.Making.{init_args, init_of, initializes, initializes_alone, initializes_by, is_body, is_of_package, new_after, new_by, sends_init}
use Rattle.rx_sends.specs.Native.{native_after, natives}
use Rattle.rx_sends.specs.Numbers.{is_new, is_start, new_message}
use Rattle.rx_sends.specs.Outcomes.{outcome}
use Rattle.rx_sends.specs.Reaching.{reached}
use Rattle.rx_sends.specs.Replies.{reply_of}
use Rattle.rx_sends.specs.Settings.{Setting}
use Rattle.rx_sends.proofs.FitLemmas.{fits-after, reached-after, there-after}
use Rattle.rx_sends.proofs.MethodWaits.{native-keeps}
use Rattle.rx_sends.proofs.ReachLemmas.{reached-method, reached-unknown}
use Rattle.rx_sends.proofs.WaitLemmas.{OutcomeKeeps, if-delivers, keeps-from, more-keeps, same}

-- ---- native methods

after-keeps : (old : List Object) (one : Outcome) → OutcomeKeeps old one → DeliveryKeeps old (native_after old one)
after-keeps old (Ok made) kept = kept
after-keeps old (Err number) kept = same old

-- ---- NEW, by what is then

alone-keeps : (old : List Object) (object : ℕ) (args : Arguments) (new : List Object) → KeepsWaiting old new
    → DeliveryKeeps old (initializes_alone object args new)
alone-keeps old object [] new kept = (kept, tt)
alone-keeps old object (argument ∷ args) new kept = kept

method-keeps : (classes : List ClassDef) (old : List Object) (class object : ℕ) (args : Arguments) (new : List Object) (scope : Scope) (method : MethodId)
    → KeepsWaiting old new → DeliveryKeeps old (initializes_by classes class object args new scope method)
method-keeps classes old class object args new scope (id.Native number) kept = alone-keeps old object args new kept
method-keeps classes old class object args new scope (id.Body body private guarded) kept = (kept, tt)

initializes-keeps : (classes : List ClassDef) (old : List Object) (class : ℕ) (init : Option (Scope × MethodId)) (object : ℕ) (args : Arguments)
    (new : List Object) → KeepsWaiting old new → DeliveryKeeps old (initializes classes class init object args new)
initializes-keeps classes old class None object args new kept = alone-keeps old object args new kept
initializes-keeps classes old class (Some found) object args new kept = method-keeps classes old class object args new found.0 found.1 kept

new-by-keeps : (classes : List ClassDef) (old : List Object) (class : ℕ) (init : Option (Scope × MethodId)) (number : ℕ) (args : Arguments)
    (answer : NativeAnswer) (new : List Object) → KeepsWaiting old new → IsStarted old new (reply_of answer)
    → DeliveryKeeps old (new_by (sends_init classes class init number args) answer new)
new-by-keeps classes old class init number args (a.Begin (b.New object)) new kept started =
    initializes-keeps classes old class init object (init_args number args) new kept
new-by-keeps classes old class init number args (a.Begin (b.Start message)) new kept started = (kept, started)
new-by-keeps classes old class init number args (a.Value value) new kept started = (kept, tt)
new-by-keeps classes old class init number args a.Nothing new kept started = (kept, tt)

new-after-keeps : (classes : List ClassDef) (old : List Object) (class : ℕ) (init : Option (Scope × MethodId)) (number : ℕ) (args : Arguments) (one : Outcome)
    → OutcomeKeeps old one → DeliveryKeeps old (new_after (sends_init classes class init number args) old one)
new-after-keeps classes old class init number args (Ok made) kept = new-by-keeps classes old class init number args made.0 made.1 kept.0 kept.1
new-after-keeps classes old class init number args (Err error) kept = same old

natives-keep : (s : Setting) (objects : List Object) (target : Value) (number : ℕ) (args : Arguments) → Fits s.classes objects
    → IsThere objects target → IsReached s.classes objects target number → DeliveryKeeps objects (natives s objects target number args)
natives-keep s objects target number args fits there has =
    let kept : OutcomeKeeps objects (outcome s objects target number args) = native-keeps s.facts s.classes objects target number args fits there has in
    if-delivers objects (not (is_built number)) _ _ (if-delivers objects (number == new_message) _ _ (same objects) (same objects))
    (if-delivers objects (is_new number) _ _
    (if-delivers objects (s.sender.is_deep && is_of_package (init_of s.classes (object_in target))) _ _ (same objects)
    (new-after-keeps s.classes objects (object_in target) (init_of s.classes (object_in target)) number args (outcome s objects target number args) kept))
    (if-delivers objects (s.sender.is_full && is_start number) _ _ (same objects) (after-keeps objects (outcome s objects target number args) kept)))

-- ---- messages

performs-keep : (s : Setting) (objects : List Object) (target : Value) (args : Arguments) (scope : Scope) (method : MethodId) → Fits s.classes objects
    → IsThere objects target → IsReachedBy s.classes objects target method → DeliveryKeeps objects (performs s objects target args scope method)
performs-keep s objects target args scope (id.Native number) fits there has = natives-keep s objects target number args fits there has
performs-keep s objects target args scope (id.Body body private guarded) fits there has =
    if-delivers objects s.sender.is_deep _ _ (same objects) (same objects, tt)

-- UNKNOWN has its Array, and does then what it does
passed-keeps : (s : Setting) (objects : List Object) (message : Sent) (scope : Scope) (method : MethodId) → Fits s.classes objects
    → IsThere objects message.target → IsReachedBy s.classes objects message.target method
    → DeliveryKeeps objects (performs s (with_object objects array_class (Places message.args)) message.target
    (unknown_args message.name (next_number objects)) scope method)
passed-keeps s objects message scope method fits there has =
    let array : List Object = record { class = array_class; contents = Places message.args } ∷ [] in
    let after : List Object = with_object objects array_class (Places message.args) in
    keeps-from objects after _ (omega (arith, length-append objects array)) (more-keeps objects array)
    (performs-keep s after message.target (unknown_args message.name (next_number objects)) scope method
    (fits-after s.classes objects after message.args refl fits) (there-after objects after message.args message.target refl there)
    (reached-after s.classes objects after message.args message.target method refl there has))

unknowns-keep : (s : Setting) (objects : List Object) (message : Sent) (scope : Scope) (method : MethodId) → Fits s.classes objects
    → IsThere objects message.target → IsReachedBy s.classes objects message.target method
    → DeliveryKeeps objects (unknowns s objects message scope method)
unknowns-keep s objects message scope method fits there has =
    if-delivers objects (nat_lt most_places (length message.args)) _ _ (same objects)
    (if-delivers objects (s.sender.is_deep && is_body method) _ _ (same objects)
    (if-delivers objects (length objects == most_objects) _ _ (same objects) (passed-keeps s objects message scope method fits there has)))

reached-keeps : (s : Setting) (objects : List Object) (message : Sent) (one : Reached) → Fits s.classes objects → IsThere objects message.target
    → reached s.classes objects s.sender.object message ≡ one → DeliveryKeeps objects (delivery_by s objects message one)
reached-keeps s objects message (r.Method scope method) fits there is =
    performs-keep s objects message.target message.args scope method fits there
    (reached-method s.classes objects s.sender.object message scope method (sym is))
reached-keeps s objects message (r.Unknown scope method) fits there is =
    unknowns-keep s objects message scope method fits there (reached-unknown s.classes objects s.sender.object message scope method (sym is))
reached-keeps s objects message r.NotInOrder fits there is = same objects
reached-keeps s objects message r.NoMethod fits there is = same objects

pub delivery-keeps : (s : Setting) (objects : List Object) (message : Sent) → Fits s.classes objects → IsThere objects message.target
    → DeliveryKeeps objects (delivery s objects message)
delivery-keeps s objects message fits there = reached-keeps s objects message (reached s.classes objects s.sender.object message) fits there refl
