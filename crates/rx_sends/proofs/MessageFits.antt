-- Objects and classes fit still whatever a message comes to.
use Rattle.std.proofs.Common.{◌≡◌, ℕ, Bool, true, false, List, [], ◌∷◌, ◌++◌, length, Option, Some, None, refl, sym, ap}
use Rattle.std.specs.Prelude.{◌==◌, ◌&&◌, not, nat_lt, if◌then◌else◌, Ok, Err}
use Rattle.rx_tree.specs.Object.{Object, Contents, Message, Plain, ClassObject, Places, Line, Names}
use Rattle.rx_tree.specs.declared.value.Value.{Value}
use Rattle.rx_tree.specs.declared.value.Value.TheVariants.{Ref}
use Rattle.rx_tree.specs.declared.activity.Outcome.{Outcome as Came}
use Rattle.rx_tree.specs.declared.activity.Outcome.TheVariants.{Given}
use Rattle.rx_tree.specs.declared.class.ClassDef.{ClassDef}
use Rattle.rx_tree.specs.declared.class.Scope.{Scope}
use Rattle.rx_classes.specs.declared.method.MethodId.{MethodId}
use Rattle.rx_classes.specs.declared.method.MethodId.TheVariants as id
use Rattle.rx_classes.specs.Natives.{array_class}
use Rattle.rx_classes.specs.Installing.{CanInstall}
use Rattle.rx_heap.specs.Arrays.{most_places}
use Rattle.rx_heap.specs.Objects.{contents_at, kind_by, most_objects}
use Rattle.rx_frames.specs.declared.activity.Wait.TheVariants as w
use Rattle.rx_frames.specs.Frames.{Doing, Frame}
use Rattle.rx_frames.specs.Activities.{activity_at, first_message, frames_at, waiting}
use Rattle.rx_builtin.specs.declared.facts.Facts.{Facts}
use Rattle.rx_native.specs.declared.answer.Began.TheVariants as b
use Rattle.rx_native.specs.declared.answer.NativeAnswer.{NativeAnswer}
use Rattle.rx_native.specs.declared.answer.NativeAnswer.TheVariants as a
use Rattle.rx_native.specs.Arguments.{Arguments}
use Rattle.rx_native.specs.Fitting.{Fits, IsReached, IsThere}
use Rattle.rx_native.specs.Methods.{is_built, object_in}
use Rattle.rx_native.specs.Outcomes.{Outcome, next_number, or_nil, with_object}
use Rattle.rx_sends.specs.declared.parts.Sent.{Sent}
use Rattle.rx_sends.specs.declared.reaching.Reached.{Reached}
use Rattle.rx_sends.specs.declared.reaching.Reached.TheVariants as r
use Rattle.rx_sends.specs.declared.reply.Reply.{Reply}
use Rattle.rx_sends.specs.declared.reply.Reply.TheVariants.{Gives, Calls, Starts}
use Rattle.rx_sends.specs.Delivering.{IsReachedBy, delivery, delivery_by, performs, unknown_args, unknowns}
use Rattle.rx_sends.specs.Keeping.{FitsAfter}
use Rattle.rx_sends.specs.Making.{init_args, init_of, initializes, initializes_alone, initializes_by, is_body, is_of_package, new_after, new_by, sends_init}
use Rattle.rx_sends.specs.Native.{native_after, natives}
use Rattle.rx_sends.specs.Numbers.{is_new, is_start, new_message}
use Rattle.rx_sends.specs.Outcomes.{outcome}
use Rattle.rx_sends.specs.Reaching.{reached}
use Rattle.rx_sends.specs.Replies.{Delivery, NoMethod, Raises, Replies}
use Rattle.rx_sends.specs.Refusals.{method_not_found}
use Rattle.rx_sends.specs.Senders.{sender_of}
use Rattle.rx_sends.specs.Sending.{completed, given_to, sending_by, sent, traps_no_method, with_outcome_of, with_reply}
use Rattle.rx_sends.specs.Sending as s
use Rattle.rx_sends.specs.Parts.{Parts}
use Rattle.rx_sends.specs.Settings.{Setting, setting}
use Rattle.rx_sends.proofs.FitLemmas.{fits-after, reached-after, there-after}
use Rattle.rx_sends.proofs.KeepLemmas.{OutcomeFits, fits-with}
use Rattle.rx_sends.proofs.MethodFits.{native-fits}
use Rattle.rx_sends.proofs.ReachLemmas.{reached-method, reached-unknown}

abbrev pub DeliveryFits : List ClassDef → Delivery → Type 0
DeliveryFits classes (Replies reply objects) = Fits classes objects
DeliveryFits classes (Raises number objects) = Fits classes objects
DeliveryFits classes (NoMethod objects) = Fits classes objects

if-fits : (classes : List ClassDef) (test : Bool) (one other : Delivery) → DeliveryFits classes one → DeliveryFits classes other
    → DeliveryFits classes (if test then one else other)
if-fits classes true one other fits-one fits-other = fits-one
if-fits classes false one other fits-one fits-other = fits-other

-- ---- native methods

after-fits : (classes : List ClassDef) (objects : List Object) (one : Outcome) → Fits classes objects → OutcomeFits classes one
    → DeliveryFits classes (native_after objects one)
after-fits classes objects (Ok made) fits kept = kept
after-fits classes objects (Err number) fits kept = fits

alone-fits : (classes : List ClassDef) (object : ℕ) (args : Arguments) (objects : List Object) → Fits classes objects
    → DeliveryFits classes (initializes_alone object args objects)
alone-fits classes object [] objects fits = fits
alone-fits classes object (argument ∷ args) objects fits = fits

method-fits : (classes : List ClassDef) (class object : ℕ) (args : Arguments) (objects : List Object) (scope : Scope) (method : MethodId) → Fits classes objects
    → DeliveryFits classes (initializes_by classes class object args objects scope method)
method-fits classes class object args objects scope (id.Native number) fits = alone-fits classes object args objects fits
method-fits classes class object args objects scope (id.Body body private guarded) fits = fits

initializes-fits : (classes : List ClassDef) (class : ℕ) (init : Option (Scope × MethodId)) (object : ℕ) (args : Arguments) (objects : List Object)
    → Fits classes objects → DeliveryFits classes (initializes classes class init object args objects)
initializes-fits classes class None object args objects fits = alone-fits classes object args objects fits
initializes-fits classes class (Some found) object args objects fits = method-fits classes class object args objects found.0 found.1 fits

new-by-fits : (classes : List ClassDef) (class : ℕ) (init : Option (Scope × MethodId)) (number : ℕ) (args : Arguments) (answer : NativeAnswer) (after : List Object)
    → Fits classes after → DeliveryFits classes (new_by (sends_init classes class init number args) answer after)
new-by-fits classes class init number args (a.Begin (b.New object)) after fits =
    initializes-fits classes class init object (init_args number args) after fits
new-by-fits classes class init number args (a.Begin (b.Start message)) after fits = fits
new-by-fits classes class init number args (a.Value value) after fits = fits
new-by-fits classes class init number args a.Nothing after fits = fits

new-after-fits : (classes : List ClassDef) (class : ℕ) (init : Option (Scope × MethodId)) (number : ℕ) (args : Arguments) (objects : List Object) (one : Outcome)
    → Fits classes objects → OutcomeFits classes one → DeliveryFits classes (new_after (sends_init classes class init number args) objects one)
new-after-fits classes class init number args objects (Ok made) fits kept = new-by-fits classes class init number args made.0 made.1 kept
new-after-fits classes class init number args objects (Err error) fits kept = fits

natives-fit : (s : Setting) (objects : List Object) (target : Value) (number : ℕ) (args : Arguments) → CanInstall s.classes → Fits s.classes objects
    → IsThere objects target → IsReached s.classes objects target number → DeliveryFits s.classes (natives s objects target number args)
natives-fit s objects target number args all fits there has =
    let kept : OutcomeFits s.classes (outcome s objects target number args) = native-fits s.facts s.classes objects target number args all fits there has in
    if-fits s.classes (not (is_built number)) _ _ (if-fits s.classes (number == new_message) _ _ fits fits)
    (if-fits s.classes (is_new number) _ _
    (if-fits s.classes (s.sender.is_deep && is_of_package (init_of s.classes (object_in target))) _ _ fits
    (new-after-fits s.classes (object_in target) (init_of s.classes (object_in target)) number args objects (outcome s objects target number args) fits kept))
    (if-fits s.classes (s.sender.is_full && is_start number) _ _ fits (after-fits s.classes objects (outcome s objects target number args) fits kept)))

-- ---- messages

performs-fit : (s : Setting) (objects : List Object) (target : Value) (args : Arguments) (scope : Scope) (method : MethodId) → CanInstall s.classes
    → Fits s.classes objects → IsThere objects target → IsReachedBy s.classes objects target method
    → DeliveryFits s.classes (performs s objects target args scope method)
performs-fit s objects target args scope (id.Native number) all fits there has = natives-fit s objects target number args all fits there has
performs-fit s objects target args scope (id.Body body private guarded) all fits there has = if-fits s.classes s.sender.is_deep _ _ fits fits

unknowns-fit : (s : Setting) (objects : List Object) (message : Sent) (scope : Scope) (method : MethodId) → CanInstall s.classes → Fits s.classes objects
    → IsThere objects message.target → IsReachedBy s.classes objects message.target method → DeliveryFits s.classes (unknowns s objects message scope method)
unknowns-fit s objects message scope method all fits there has =
    let after : List Object = with_object objects array_class (Places message.args) in
    if-fits s.classes (nat_lt most_places (length message.args)) _ _ fits
    (if-fits s.classes (s.sender.is_deep && is_body method) _ _ fits
    (if-fits s.classes (length objects == most_objects) _ _ fits
    (performs-fit s after message.target (unknown_args message.name (next_number objects)) scope method all
    (fits-after s.classes objects after message.args refl fits) (there-after objects after message.args message.target refl there)
    (reached-after s.classes objects after message.args message.target method refl there has))))

reached-fits : (s : Setting) (objects : List Object) (message : Sent) (one : Reached) → CanInstall s.classes → Fits s.classes objects
    → IsThere objects message.target → reached s.classes objects s.sender.object message ≡ one → DeliveryFits s.classes (delivery_by s objects message one)
reached-fits s objects message (r.Method scope method) all fits there is =
    performs-fit s objects message.target message.args scope method all fits there
    (reached-method s.classes objects s.sender.object message scope method (sym is))
reached-fits s objects message (r.Unknown scope method) all fits there is =
    unknowns-fit s objects message scope method all fits there (reached-unknown s.classes objects s.sender.object message scope method (sym is))
reached-fits s objects message r.NotInOrder all fits there is = fits
reached-fits s objects message r.NoMethod all fits there is = fits

-- ---- what is done then

outcome-fits : (classes : List ClassDef) (objects : List Object) (message : ℕ) (come : Came) (contents : Contents) → contents_at objects message ≡ contents
    → Fits classes objects → Fits classes (with_outcome_of objects message come contents)
outcome-fits classes objects message come (Message sending) is fits =
    fits-with classes objects message (Message (record sending { outcome = come })) (sym (ap kind_by is)) fits
outcome-fits classes objects message come Plain is fits = fits
outcome-fits classes objects message come ClassObject is fits = fits
outcome-fits classes objects message come (Places places) is fits = fits
outcome-fits classes objects message come (Line items) is fits = fits
outcome-fits classes objects message come (Names entries) is fits = fits

pub completed-fits : (classes : List ClassDef) (objects : List Object) (message : Option ℕ) (come : Came) → Fits classes objects
    → Fits classes (completed objects message come)
completed-fits classes objects None come fits = fits
completed-fits classes objects (Some message) come fits = outcome-fits classes objects message come (contents_at objects message) refl fits

given-fits : {T : Type 0} (doing : Doing T) (parts : Parts T) (number : ℕ) (value : Option Value) (frames : List (Frame T)) → Fits parts.classes parts.objects
    → Fits (given_to doing parts number value frames).classes (given_to doing parts number value frames).objects
given-fits doing parts number value [] fits =
    completed-fits parts.classes parts.objects (first_message (activity_at parts.activities number)) (Given (or_nil value)) fits
given-fits doing parts number value (frame ∷ frames) fits = fits

reply-fits : {T : Type 0} (doing : Doing T) (parts : Parts T) (number : ℕ) (reply : Reply) → Fits parts.classes parts.objects
    → Fits (with_reply doing parts number reply).classes (with_reply doing parts number reply).objects
reply-fits doing parts number (Gives value) fits = given-fits doing parts number value (frames_at parts.activities number) fits
reply-fits doing parts number (Calls call) fits = fits
reply-fits {T} doing parts number (Starts message) fits =
    let more : Parts T = record parts { activities = parts.activities ++ waiting (w.First message) [] ∷ [] } in
    given-fits doing more number (Some (Ref message)) (frames_at more.activities number) fits

trap-fits : {T : Type 0} (parts : Parts T) (trapped : Bool) → Fits parts.classes parts.objects
    → FitsAfter (if trapped then s.NoMethod parts else s.Raises method_not_found parts)
trap-fits parts true fits = fits
trap-fits parts false fits = fits

sending-fits : {T : Type 0} (doing : Doing T) (parts : Parts T) (number : ℕ) (one : Delivery) → DeliveryFits parts.classes one → FitsAfter (sending_by doing parts number one)
sending-fits doing parts number (Replies reply objects) fits = reply-fits doing (record parts { objects = objects }) number reply fits
sending-fits doing parts number (Raises error objects) fits = fits
sending-fits doing parts number (NoMethod objects) fits = trap-fits (record parts { objects = objects }) (traps_no_method (frames_at parts.activities number)) fits

pub sent-fits : {T : Type 0} (doing : Doing T) (facts : Facts) (parts : Parts T) (number : ℕ) (message : Sent) → CanInstall parts.classes → Fits parts.classes parts.objects
    → IsThere parts.objects message.target → FitsAfter (sent doing facts parts number message)
sent-fits doing facts parts number message all fits there =
    let s : Setting = setting facts parts.classes (sender_of parts.activities number) in
    sending-fits doing parts number (delivery s parts.objects message)
    (reached-fits s parts.objects message (reached s.classes parts.objects s.sender.object message) all fits there refl)
