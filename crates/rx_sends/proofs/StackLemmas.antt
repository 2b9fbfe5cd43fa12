-- What becomes of the activities once a message is answered.
use Rattle.std.proofs.Common.{◌≡◌, ℕ, suc, ◌+◌, Bool, true, false, List, [], ◌∷◌, ◌++◌, length, Option, Some, Result, Err, refl, sym, ap, subst, ◌∙◌, add-one}
use Rattle.std.specs.Prelude.{if◌then◌else◌, unwrap_or}
use Rattle.rx_tree.specs.Object.{Object}
use Rattle.rx_pools.specs.Pools.{Pools, pool_number, with_pool}
use Rattle.rx_frames.specs.declared.activity.Wait.TheVariants as w
use Rattle.rx_frames.specs.declared.position.Position.{Position}
use Rattle.rx_frames.specs.Frames.{Frame, beginning, positions}
use Rattle.rx_frames.specs.Activities.{Activity, activity_at, first_message, frames_at, waiting, with_change_at, with_change_of}
use Rattle.rx_native.proofs.HeapLemmas.{slice_get-last, slice_set-last}
use Rattle.rx_sends.specs.declared.call.Call.{Call}
use Rattle.rx_sends.specs.declared.refused.SendRefused.{SendRefused}
use Rattle.rx_sends.specs.declared.refused.SendRefused.TheVariants as refused
use Rattle.rx_sends.specs.Calls.{frame_of}
use Rattle.rx_sends.specs.Parts.{Parts}
use Rattle.rx_sends.specs.Refusals.{method_not_found, untrapped}
use Rattle.rx_sends.specs.Replies.{Delivers, Delivery}
use Rattle.rx_sends.specs.Replies as d
use Rattle.rx_sends.specs.Delivering.{delivery}
use Rattle.rx_sends.specs.Senders.{sender_of}
use Rattle.rx_sends.specs.Settings.{setting}
use Rattle.rx_sends.specs.declared.parts.Sent.{Sent}
use Rattle.rx_sends.specs.declared.reply.Reply.{Reply}
use Rattle.rx_sends.specs.declared.sender.Sender.{Sender}
use Rattle.rx_builtin.specs.declared.facts.Facts.{Facts}
use Rattle.rx_sends.specs.Sending.{NoMethod, Raises, Sends, begun, sending_by, sent, traps_no_method, with_top, with_wait}

-- an activity that was just begun waits
pub begun-waits : (activities after : List (Activity Position)) (number message : ℕ) → number ≡ length activities + 1
    → after ≡ activities ++ waiting w.Nothing [] ∷ []
    → with_change_at after number (λ (activity : Activity Position). waiting (w.First message) activity.frames)
    ≡ activities ++ waiting (w.First message) [] ∷ []
begun-waits activities after number message is made =
    let waits : Activity Position → Activity Position = λ activity. waiting (w.First message) activity.frames in
    let all : List (Activity Position) = activities ++ waiting w.Nothing [] ∷ [] in
    ap (λ (as_they : List (Activity Position)). with_change_at as_they number waits) made
    ∙ (ap (λ (n : ℕ). with_change_at all n waits) (is ∙ add-one (length activities))
    ∙ (ap (with_change_of all (length activities) waits) (slice_get-last activities (waiting w.Nothing []))
    ∙ slice_set-last activities (waiting w.Nothing []) (waiting (w.First message) [])))

-- a method's frame is on top
abbrev of : Parts Position → ℕ → Call → Pools → ℕ → Option ℕ → Parts Position
of parts a call pools pool completes =
    record parts { pools = pools; activities = with_wait (with_top parts.activities a (frame_of beginning call pool completes)) a w.Nothing }

pub begun-is : (parts : Parts Position) (a : ℕ) (call : Call) (pools : Pools) (pool : ℕ) (completes : Option ℕ) (frame : Frame Position) (top last : List (Activity Position))
    → pools ≡ with_pool parts.pools call.object call.method.scope → Some pool ≡ pool_number pools call.object call.method.scope
    → completes ≡ first_message (activity_at parts.activities a) → frame ≡ frame_of beginning call pool completes → top ≡ with_top parts.activities a frame
    → last ≡ with_wait top a w.Nothing
    → record parts { pools = pools; activities = last } ≡ begun positions parts a call
begun-is parts a call pools pool completes frame top last pools_are number completes_is frame_is top_is last_is =
    ap (λ (activities : List (Activity Position)). record parts { pools = pools; activities = activities })
    (last_is ∙ ap (λ (t : List (Activity Position)). with_wait t a w.Nothing) (top_is ∙ ap (with_top parts.activities a) frame_is))
    ∙ (ap (λ (n : ℕ). of parts a call pools n completes) (ap (λ (o : Option ℕ). unwrap_or o 0) number)
    ∙ (ap (of parts a call pools (unwrap_or (pool_number pools call.object call.method.scope) 0)) completes_is
    ∙ ap (λ (ps : Pools). of parts a call ps (unwrap_or (pool_number ps call.object call.method.scope) 0) (first_message (activity_at parts.activities a))) pools_are))

-- ---- refusals

untrapped-by : (parts after : Parts Position) (objects : List Object) (traps : Bool) → after ≡ record parts { objects = objects }
    → Sends (Err (untrapped traps refused.NoMethod)) after (if traps then NoMethod (record parts { objects = objects }) else Raises method_not_found (record parts { objects = objects }))
untrapped-by parts after objects true is = record { done = tt; raised = λ number told. cc; no_method = λ told. ap NoMethod (sym is) }
untrapped-by parts after objects false is = record {
  done = tt;
  raised = λ number told. let same : method_not_found ≡ number = cc in ap (Raises method_not_found) (sym is) ∙ ap (λ (n : ℕ). Raises n after) same;
  no_method = λ told. cc;
}

-- what delivering refuses, sending does
refused-is : (parts after : Parts Position) (a : ℕ) (objects : List Object) (one : Delivery) (why : SendRefused) → Delivers (Err why) objects one
    → after ≡ record parts { objects = objects } → Sends (Err (untrapped (traps_no_method (frames_at parts.activities a)) why)) after (sending_by positions parts a one)
refused-is parts after a objects one (refused.Raised error) delivers is =
    let comes : one ≡ d.Raises error objects = delivers.raised error refl in
    record {
      done = tt;
      raised = λ number told. let same : error ≡ number = cc in
          ap (sending_by positions parts a) comes ∙ ap (Raises error) (sym is) ∙ ap (λ (n : ℕ). Raises n after) same;
      no_method = λ told. cc;
    }
refused-is parts after a objects one refused.NoMethod delivers is =
    subst (λ (by : Delivery). Sends (Err (untrapped (traps_no_method (frames_at parts.activities a)) refused.NoMethod)) after (sending_by positions parts a by))
    (sym (delivers.no_method refl)) (untrapped-by parts after objects (traps_no_method (frames_at parts.activities a)) is)
refused-is parts after a objects one refused.OutOfMemory delivers is = record { done = tt; raised = λ number told. cc; no_method = λ told. cc }

-- the same, by what the code has found
pub send-refused : (parts after : Parts Position) (a : ℕ) (sender : Sender) (facts : Facts) (message : Sent) (objects : List Object) (result : Result Reply SendRefused)
    (why answer : SendRefused) (traps : Bool) → sender ≡ sender_of parts.activities a
    → Delivers result objects (delivery (setting facts parts.classes sender) parts.objects message) → result ≡ Err why
    → traps ≡ traps_no_method (frames_at parts.activities a) → answer ≡ untrapped traps why → after ≡ record parts { objects = objects }
    → Sends (Err answer) after (sent positions facts parts a message)
send-refused parts after a sender facts message objects result why answer traps is_sender delivers is_err is_trapped is_answer is_after =
    let refused : Delivers (Err why) objects (delivery (setting facts parts.classes (sender_of parts.activities a)) parts.objects message) =
    subst (λ (by : Sender). Delivers (Err why) objects (delivery (setting facts parts.classes by) parts.objects message)) is_sender
    (subst (λ (r : Result Reply SendRefused). Delivers r objects (delivery (setting facts parts.classes sender) parts.objects message)) is_err delivers) in
    subst (λ (w : SendRefused). Sends (Err w) after (sent positions facts parts a message))
    (sym (is_answer ∙ ap (λ (t : Bool). untrapped t why) is_trapped))
    (refused-is parts after a objects (delivery (setting facts parts.classes (sender_of parts.activities a)) parts.objects message) why refused is_after)
