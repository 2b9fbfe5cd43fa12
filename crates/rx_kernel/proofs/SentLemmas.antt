-- What a message leaves as it was, and the world in which it is sent.
use Rattle.std.proofs.Common.{◌≡◌, ℕ, ◌≤◌, Bool, true, false, List, [], ◌∷◌, ◌++◌, length, Option, Some, refl, sym, ◌∙◌, ap, subst, length-append, arith}
use Rattle.std.specs.Prelude.{if◌then◌else◌}
use Rattle.rx_tree.specs.declared.value.Value.{Value}
use Rattle.rx_tree.specs.declared.value.Value.TheVariants.{Ref}
use Rattle.rx_clause_tree.specs.declared.package.Package.{Package}
use Rattle.rx_builtin.specs.declared.facts.Facts.{Facts}
use Rattle.rx_classes.specs.Installing.{CanInstall}
use Rattle.rx_frames.specs.declared.activity.Wait.TheVariants as wait
use Rattle.rx_frames.specs.declared.position.Position.{Position}
use Rattle.rx_frames.specs.Frames.{Doing, Frame, positions, with_todo}
use Rattle.rx_frames.specs.Activities.{Activity, frames_at, waiting, with_frames, with_top_changed}
use Rattle.rx_native.specs.Fitting.{Fits, IsThere}
use Rattle.rx_sends.specs.declared.parts.Sent.{Sent}
use Rattle.rx_sends.specs.declared.reply.Reply.{Reply}
use Rattle.rx_sends.specs.declared.reply.Reply.TheVariants.{Gives, Calls, Starts}
use Rattle.rx_sends.specs.Delivering.{delivery}
use Rattle.rx_sends.specs.Keeping.{FitsAfter}
use Rattle.rx_sends.specs.declared.parts.Parts as declared
use Rattle.rx_sends.specs.Parts.{Parts}
use Rattle.rx_sends.specs.Parts as acted
use Rattle.rx_sends.specs.Refusals.{method_not_found}
use Rattle.rx_sends.specs.Replies.{Delivery}
use Rattle.rx_sends.specs.Replies as d
use Rattle.rx_sends.specs.Senders.{sender_of}
use Rattle.rx_sends.specs.Sending.{Done, NoMethod, Raises, Sending, given, given_to, sending_by, sent, started, traps_no_method, with_reply, with_top, with_wait}
use Rattle.rx_sends.specs.Settings.{setting}
use Rattle.rx_machine.specs.Sending.{facts_of, sending_of, sends}
use Rattle.rx_machine.specs.Todo.{Todo, by_clauses}
use Rattle.rx_machine.specs.World.{World, parts_of}
use Rattle.rx_kernel.specs.declared.state.State.{State}
use Rattle.rx_kernel.specs.Readings.{CodesFit, by_bodies, fixed_for_body, fixed_for_code, reading}
use Rattle.rx_kernel.specs.States.{world_of}
use Rattle.rx_kernel.specs.Views.{IsReading, Reading, parts_view}
use Rattle.rx_kernel.proofs.ChangeLemmas.{change-length}
use Rattle.rx_kernel.proofs.ReadingLemmas.{body-is, code-is, reading-is}
use Rattle.rx_kernel.proofs.ViewLemmas.{sender-view, sending_view, sent-view}

-- what is there once sending has come to this
abbrev pub after : {T : Type 0} → Sending T → Parts T
after (Done parts) = parts
after (Raises number parts) = parts
after (NoMethod parts) = parts

fits-of : {T : Type 0} (sending : Sending T) → FitsAfter sending → Fits (after sending).classes (after sending).objects
fits-of (Done parts) fits = fits
fits-of (Raises number parts) fits = fits
fits-of (NoMethod parts) fits = fits

view-of : {T : Type 0} (read : Reading T) (sending : Sending Position) → after (sending_view read sending) ≡ parts_view read (after sending)
view-of read (Done parts) = refl
view-of read (Raises number parts) = refl
view-of read (NoMethod parts) = refl

-- ---- classes and activities

-- the classes stay, and no activity is lost
record Keeps {T : Type 0} (old new : Parts T) : Type 0 where
  classes : new.classes ≡ old.classes
  count : length old.activities ≤ length new.activities

given-to-keeps : {T : Type 0} (doing : Doing T) (parts : Parts T) (a : ℕ) (value : Option Value) (frames : List (Frame T)) → Keeps parts (given_to doing parts a value frames)
given-to-keeps {T} doing parts a value [] = record {
  classes = refl;
  count = omega (arith, change-length parts.activities a (λ (x : Activity T). waiting wait.Nothing x.frames));
}
given-to-keeps {T} doing parts a value (frame ∷ frames) = record {
  classes = refl;
  count = omega (arith, change-length parts.activities a (with_top_changed (with_todo (doing.answered value))));
}

given-keeps : {T : Type 0} (doing : Doing T) (parts : Parts T) (a : ℕ) (value : Option Value) → Keeps parts (given doing parts a value)
given-keeps doing parts a value = given-to-keeps doing parts a value (frames_at parts.activities a)

with-frame-keeps : {T : Type 0} (activities : List (Activity T)) (a : ℕ) (frame : Frame T) → length activities ≤ length (with_wait (with_top activities a frame) a wait.Nothing)
with-frame-keeps {T} activities a frame =
    omega (arith, change-length activities a (with_frames (frame ∷ frames_at activities a)), change-length (with_top activities a frame) a (λ (x : Activity T). waiting wait.Nothing x.frames))

reply-keeps : {T : Type 0} (doing : Doing T) (parts : Parts T) (a : ℕ) (reply : Reply) → Keeps parts (with_reply doing parts a reply)
reply-keeps doing parts a (Gives value) = given-keeps doing parts a value
reply-keeps doing parts a (Calls call) = record { classes = refl; count = with-frame-keeps parts.activities a _ }
reply-keeps {T} doing parts a (Starts message) =
    let more : List (Activity T) = parts.activities ++ waiting (wait.First message) [] ∷ [] in
    let keeps : Keeps (record parts { activities = more }) (started doing parts a message) = given-keeps doing (record parts { activities = more }) a (Some (Ref message)) in
    record { classes = keeps.classes; count = omega (arith, keeps.count, length-append parts.activities (waiting (wait.First message) [] ∷ [])) }

if-after : {T : Type 0} (trapped : Bool) (parts : Parts T) → after (if trapped then NoMethod parts else Raises method_not_found parts) ≡ parts
if-after true parts = refl
if-after false parts = refl

sending-keeps : {T : Type 0} (doing : Doing T) (parts : Parts T) (a : ℕ) (one : Delivery) → Keeps parts (after (sending_by doing parts a one))
sending-keeps {T} doing parts a (d.Replies reply objects) =
    let keeps : Keeps (record parts { objects = objects }) (with_reply doing (record parts { objects = objects }) a reply) = reply-keeps doing (record parts { objects = objects }) a reply in
    record { classes = keeps.classes; count = keeps.count }
sending-keeps doing parts a (d.Raises number objects) = record { classes = refl; count = omega arith }
sending-keeps {T} doing parts a (d.NoMethod objects) =
    subst (λ (new : Parts T). Keeps parts new) (sym (if-after (traps_no_method (frames_at parts.activities a)) (record parts { objects = objects })))
    (record { classes = refl; count = omega arith })

sent-keeps : {T : Type 0} (doing : Doing T) (facts : Facts) (parts : Parts T) (a : ℕ) (message : Sent) → Keeps parts (after (sent doing facts parts a message))
sent-keeps doing facts parts a message = sending-keeps doing parts a (delivery (setting facts parts.classes (sender_of parts.activities a)) parts.objects message)

-- ---- codes

after-view : {T : Type 0} (doing : Doing T) (read : Reading T) → IsReading doing read → (facts : Facts) (parts : Parts Position) (a : ℕ) (message : Sent)
    → after (sent doing facts (parts_view read parts) a message) ≡ parts_view read (after (sent positions facts parts a message))
after-view doing read is facts parts a message = ap after (sent-view doing read is facts parts a message) ∙ view-of read (sent positions facts parts a message)

codes-fit : (program : Package) (facts : Facts) (parts : Parts Position) (a : ℕ) (message : Sent) → CodesFit program parts.activities
    → CodesFit program (after (sent positions facts parts a message)).activities
codes-fit program facts parts a message fit =
    let one = after-view (by_bodies program) (fixed_for_code program) (code-is program) facts parts a message in
    let other = after-view (by_bodies program) (fixed_for_body program) (body-is program) facts parts a message in
    let same : parts_view (fixed_for_code program) parts ≡ parts_view (fixed_for_body program) parts =
    ap (λ activities. record { activities = activities; objects = parts.objects; classes = parts.classes; pools = parts.pools }) fit in
    ap (λ parts. parts.activities) (sym one ∙ ap (λ parts. after (sent (by_bodies program) facts parts a message)) same ∙ other)

-- ---- what is left

-- what holds still once a message was sent
pub record Leaves (program : Package) (old new : Parts Position) : Type 0 where
  pub classes : new.classes ≡ old.classes
  pub fits : Fits new.classes new.objects
  pub codes : CodesFit program new.activities
  pub count : length old.activities ≤ length new.activities

pub leaves : (program : Package) (facts : Facts) (old new : Parts Position) (a : ℕ) (message : Sent) → after (sent positions facts old a message) ≡ new
    → FitsAfter (sent positions facts old a message) → CodesFit program old.activities → Leaves program old new
leaves program facts old new a message is fits codes =
    let keeps = sent-keeps positions facts old a message in
    subst (Leaves program old) is (record {
      classes = keeps.classes;
      fits = fits-of (sent positions facts old a message) fits;
      codes = codes-fit program facts old a message codes;
      count = keeps.count;
    })

-- whatever a message comes to, objects and classes fit
abbrev FitsStill : Type 0
FitsStill =
    (facts : Facts) (parts : Parts Position) (a : ℕ) (message : Sent) → CanInstall parts.classes → Fits parts.classes parts.objects → IsThere parts.objects message.target
    → FitsAfter (sent positions facts parts a message)

-- so it is of a state that isn't closed
pub left-by : (state : State) (new : declared.Parts) (a : ℕ) (message : Sent) → FitsStill → state.closed ≡ false → IsThere state.parts.heap message.target
    → after (sent positions (facts_of (world_of state) a) (acted.parts_of state.parts) a message) ≡ acted.parts_of new
    → Leaves state.program (acted.parts_of state.parts) (acted.parts_of new)
left-by state new a message still opened there is =
    leaves state.program (facts_of (world_of state) a) (acted.parts_of state.parts) (acted.parts_of new) a message is
    (still (facts_of (world_of state) a) (acted.parts_of state.parts) a message (state.can_install opened) (state.fits opened) there) (state.codes opened)

-- what it sends is of the digits of its frames
pub same-digits : (state : State) (a : ℕ) → (facts_of (world_of state) a).digits ≡ (sender_of state.parts.stacks a).digits
same-digits state a = ap (λ sender. sender.digits) (sender-view (reading state.program) state.parts.stacks a)

-- ---- worlds

-- The world in which a message is sent, by the frames of the code.
pub sends-as : (w : World) (parts : Parts Position) (a line : ℕ) (message : Sent) → parts_of w ≡ parts_view (reading w.program) parts
    → sends w a line message ≡ sending_of w a line (sending_view (reading w.program) (sent positions (facts_of w a) parts a message))
unfolding sends
sends-as w parts a line message is =
    ap (λ (view : Parts Todo). sending_of w a line (sent (by_clauses w.program) (facts_of w a) view a message)) is
    ∙ ap (sending_of w a line) (sent-view (by_clauses w.program) (reading w.program) (reading-is w.program) (facts_of w a) parts a message)

-- What a message comes to in the world of a state.
pub world-sends : (state : State) (a line : ℕ) (message : Sent) (sending : Sending Position) → state.parts.classes ≡ state.program.classes
    → sent positions (facts_of (world_of state) a) (acted.parts_of state.parts) a message ≡ sending
    → sends (world_of state) a line message ≡ sending_of (world_of state) a line (sending_view (reading state.program) sending)
world-sends state a line message sending same is =
    let w : World = world_of state in
    let view : parts_of w ≡ parts_view (reading state.program) (acted.parts_of state.parts) =
    ap (λ classes. record { activities = w.activities; objects = w.objects; classes = classes; pools = w.pools }) (sym same) in
    sends-as w (acted.parts_of state.parts) a line message view ∙ ap (λ some. sending_of w a line (sending_view (reading state.program) some)) is
