-- Messages that wait, once an object holds something else, or there is one more.
use Rattle.std.proofs.Common.{◌≡◌, ℕ, zero, suc, ◌≤◌, Bool, true, false, List, [], ◌∷◌, ◌++◌, length, Option, Some, None, refl, sym, ap, ◌∙◌, subst, arith}
use Rattle.std.specs.Prelude.{◌==◌, if◌then◌else◌, slice_get, slice_set, Result, Ok, Err}
use Rattle.rx_tree.specs.Object.{Object, Contents, Message, Plain, ClassObject, Places, Line, Names}
use Rattle.rx_heap.specs.declared.kind.Kind.{Kind}
use Rattle.rx_heap.specs.Objects.{IsOfKind, contents_at, contents_of, kind_by, most_objects, object_at, with_contents, with_contents_of}
use Rattle.rx_native.specs.declared.answer.NativeAnswer.{NativeAnswer}
use Rattle.rx_native.specs.Outcomes.{Outcome, makes, next_number, on, with_object}
use Rattle.rx_native.specs.Targets.{is_message_kind}
use Rattle.rx_native.proofs.HeapLemmas.{made-contents}
use Rattle.rx_sends.specs.declared.reply.Reply.{Reply}
use Rattle.rx_sends.specs.declared.reply.Reply.TheVariants.{Gives, Calls, Starts}
use Rattle.rx_sends.specs.Keeping.{DeliveryKeeps, IsStarted, KeepsWaiting, waits, waits_in}
use Rattle.rx_sends.specs.Replies.{Delivery, NoMethod, Raises, Replies, reply_of}

pub same : (objects : List Object) → KeepsWaiting objects objects
same objects number waiting = waiting

-- ---- an object that holds something else

abbrev waits_of : Option Object → Bool
waits_of object = waits_in (contents_of object)

set-keeps : (objects : List Object) (place : ℕ) (new : Object) → waits_of (slice_get objects place) ≡ false
    → (other : ℕ) → waits_of (slice_get objects other) ≡ true → waits_of (slice_get (slice_set objects place new) other) ≡ true
set-keeps [] place new idle other waiting = waiting
set-keeps (first ∷ rest) zero new idle zero waiting = let unlike : false ≡ true = sym idle ∙ waiting in cc
set-keeps (first ∷ rest) zero new idle (suc other) waiting = waiting
set-keeps (first ∷ rest) (suc place) new idle zero waiting = waiting
set-keeps (first ∷ rest) (suc place) new idle (suc other) waiting = set-keeps rest place new idle other waiting

numbered-keeps : (objects : List Object) (place : ℕ) (new : Object) → waits_of (slice_get objects place) ≡ false
    → KeepsWaiting objects (slice_set objects place new)
numbered-keeps objects place new idle zero waiting = waiting
numbered-keeps objects place new idle (suc other) waiting = set-keeps objects place new idle other waiting

object-keeps : (objects : List Object) (number : ℕ) (contents : Contents) (object : Option Object) → object_at objects number ≡ object
    → waits objects number ≡ false → KeepsWaiting objects (with_contents_of objects number contents object)
object-keeps objects number contents None at idle = same objects
object-keeps objects zero contents (Some object) at idle = absurd cc
object-keeps objects (suc place) contents (Some object) at idle =
    subst (λ (p : ℕ). KeepsWaiting objects (slice_set objects p (record object { contents = contents }))) (omega arith)
    (numbered-keeps objects place (record object { contents = contents }) idle)

idle-by : (contents : Contents) → is_message_kind (kind_by contents) ≡ false → waits_in contents ≡ false
idle-by (Message sending) other = let unlike : true ≡ false = other in cc
idle-by Plain other = refl
idle-by ClassObject other = refl
idle-by (Places places) other = refl
idle-by (Line items) other = refl
idle-by (Names entries) other = refl

-- an object that is no Message holds something else
pub with-keeps : (objects : List Object) (number : ℕ) (contents : Contents) (kind : Kind) → IsOfKind objects number kind → is_message_kind kind ≡ false
    → KeepsWaiting objects (with_contents objects number contents)
with-keeps objects number contents kind is other =
    object-keeps objects number contents (object_at objects number) refl
    (idle-by (contents_at objects number) (ap is_message_kind is.1 ∙ other))

-- ---- a new object

got-keeps : (objects more : List Object) (place : ℕ) → waits_of (slice_get objects place) ≡ true → waits_of (slice_get (objects ++ more) place) ≡ true
got-keeps [] more place waiting = let unlike : false ≡ true = waiting in cc
got-keeps (first ∷ rest) more zero waiting = waiting
got-keeps (first ∷ rest) more (suc place) waiting = got-keeps rest more place waiting

pub more-keeps : (objects more : List Object) → KeepsWaiting objects (objects ++ more)
more-keeps objects more zero waiting = waiting
more-keeps objects more (suc place) waiting = got-keeps objects more place waiting

-- a new object waits if what it holds does
pub new-waits : (objects : List Object) (class : ℕ) (contents : Contents)
    → waits (with_object objects class contents) (next_number objects) ≡ waits_in contents
new-waits objects class contents = ap waits_in (made-contents objects class contents)

-- ---- what a method comes to

abbrev pub OutcomeKeeps : List Object → Outcome → Type 0
OutcomeKeeps old (Ok made) = KeepsWaiting old made.1 × IsStarted old made.1 (reply_of made.0)
OutcomeKeeps old (Err number) = Unit {0}

pub on-keeps : {A : Type 0} (old : List Object) (read : Result A ℕ) (next : A → Outcome) → ((x : A) → OutcomeKeeps old (next x))
    → OutcomeKeeps old (on read next)
on-keeps old (Ok read) next all = all read
on-keeps old (Err number) next all = tt

pub if-keeps : (old : List Object) (test : Bool) (one other : Outcome) → OutcomeKeeps old one → OutcomeKeeps old other
    → OutcomeKeeps old (if test then one else other)
if-keeps old true one other a b = a
if-keeps old false one other a b = b

pub makes-keeps : (objects : List Object) (class : ℕ) (contents : Contents) (answer : ℕ → NativeAnswer)
    → IsStarted objects (with_object objects class contents) (reply_of (answer (next_number objects)))
    → OutcomeKeeps objects (makes objects class contents answer)
makes-keeps objects class contents answer started =
    if-keeps objects (length objects == most_objects) _ _ tt (more-keeps objects (record { class = class; contents = contents } ∷ []), started)

-- ---- what a message comes to

pub if-delivers : (old : List Object) (test : Bool) (one other : Delivery) → DeliveryKeeps old one → DeliveryKeeps old other
    → DeliveryKeeps old (if test then one else other)
if-delivers old true one other a b = a
if-delivers old false one other a b = b

started-from : (old between new : List Object) (reply : Reply) → length old ≤ length between → IsStarted between new reply → IsStarted old new reply
started-from old between new (Gives value) more started = tt
started-from old between new (Calls call) more started = tt
started-from old between new (Starts message) more started = (omega (arith, more, started.0), started.1)

-- the same from objects on that were there before
pub keeps-from : (old between : List Object) (one : Delivery) → length old ≤ length between → KeepsWaiting old between → DeliveryKeeps between one
    → DeliveryKeeps old one
keeps-from old between (Replies reply new) more first kept =
    (λ number waiting. kept.0 number (first number waiting), started-from old between new reply more kept.1)
keeps-from old between (Raises error new) more first kept = λ number waiting. kept number (first number waiting)
keeps-from old between (NoMethod new) more first kept = λ number waiting. kept number (first number waiting)
