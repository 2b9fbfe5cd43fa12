use Rattle.std.proofs.Common.{◌≡◌, Err, OnOk, ap, subst, sym, ◌∙◌, arith, rules}
use Rattle.rx_classes.specs.Installing.{CanInstall}
use Rattle.rx_frames.specs.Frames.{positions}
use Rattle.rx_native.specs.Fitting.{IsThere}
use Rattle.rx_sends.specs.Parts.{parts_of}
use Rattle.rx_sends.specs.Sending.{Done, NoMethod, Raises, sent}
use Rattle.rx_machine.specs.Sending.{facts_of}
use Rattle.rx_kernel.specs.States.{world_of}
use Rattle.rx_kernel.proofs.SentLemmas.{Leaves, after, left-by, same-digits, world-sends}
use Rattle.rx_kernel.proofs.state.State.sends.Goals as goal

pub invariant_of-self : goal.invariant_of-self
invariant_of-self c =
    let state = c.args.self.now in
    let is : sent positions (facts_of (world_of c.args.self.now) c.args.a) (parts_of c.args.self.now.parts) c.args.a c.args.sent ≡ Done (parts_of c.send.new.parts) =
    (c.in-Ok.ensures.sends (facts_of (world_of state) c.args.a) (same-digits state c.args.a)).done in
    let there : IsThere c.args.self.now.parts.heap c.args.sent.target = search rules in
    let left : Leaves c.args.self.now.program (parts_of c.args.self.now.parts) (parts_of c.send.new.parts) =
    left-by state c.send.new.parts c.args.a c.args.sent c.sending_laws.ensures.fits c.if-self.false there (ap after is) in
    record {
      classes = λ opened. left.classes ∙ state.classes opened;
      can_install = λ opened. subst CanInstall (sym left.classes) (state.can_install opened);
      fits = λ opened. left.fits;
      codes = λ opened. left.codes;
    }

pub invariant_of-self-in-Raised-1 : goal.invariant_of-self-in-Raised-1
invariant_of-self-in-Raised-1 c =
    let state = c.args.self.now in
    let is : sent positions (facts_of (world_of c.args.self.now) c.args.a) (parts_of c.args.self.now.parts) c.args.a c.args.sent ≡ Raises c.in-Err-Raised.number (parts_of c.send.new.parts) =
    (c.in-Err-Raised.ensures.sends (facts_of (world_of state) c.args.a) (same-digits state c.args.a)).raised c.in-Err-Raised.number (ap Err c.in-Err-Raised.field-0-is) in
    let there : IsThere c.args.self.now.parts.heap c.args.sent.target = search rules in
    let left : Leaves c.args.self.now.program (parts_of c.args.self.now.parts) (parts_of c.send.new.parts) =
    left-by state c.send.new.parts c.args.a c.args.sent c.sending_laws.ensures.fits c.if-self.false there (ap after is) in
    record {
      classes = λ opened. left.classes ∙ state.classes opened;
      can_install = λ opened. subst CanInstall (sym left.classes) (state.can_install opened);
      fits = λ opened. left.fits;
      codes = λ opened. left.codes;
    }

pub raise-requires : goal.raise-requires
raise-requires c =
    let state = c.args.self.now in
    let is : sent positions (facts_of (world_of c.args.self.now) c.args.a) (parts_of c.args.self.now.parts) c.args.a c.args.sent ≡ Raises c.in-Err-Raised.number (parts_of c.send.new.parts) =
    (c.in-Err-Raised.ensures.sends (facts_of (world_of state) c.args.a) (same-digits state c.args.a)).raised c.in-Err-Raised.number (ap Err c.in-Err-Raised.field-0-is) in
    let there : IsThere c.args.self.now.parts.heap c.args.sent.target = search rules in
    let left : Leaves c.args.self.now.program (parts_of c.args.self.now.parts) (parts_of c.send.new.parts) =
    left-by state c.send.new.parts c.args.a c.args.sent c.sending_laws.ensures.fits c.if-self.false there (ap after is) in
    record { begun = (c.requires.begun.0, omega (arith, left.count)) }

pub invariant_of-self-in-Err-NoMethod : goal.invariant_of-self-in-Err-NoMethod
invariant_of-self-in-Err-NoMethod c =
    let state = c.args.self.now in
    let is : sent positions (facts_of (world_of c.args.self.now) c.args.a) (parts_of c.args.self.now.parts) c.args.a c.args.sent ≡ NoMethod (parts_of c.send.new.parts) =
    (c.in-Err-NoMethod.ensures.sends (facts_of (world_of state) c.args.a) (same-digits state c.args.a)).no_method (ap Err c.in-Err-NoMethod.field-0-is) in
    let there : IsThere c.args.self.now.parts.heap c.args.sent.target = search rules in
    let left : Leaves c.args.self.now.program (parts_of c.args.self.now.parts) (parts_of c.send.new.parts) =
    left-by state c.send.new.parts c.args.a c.args.sent c.sending_laws.ensures.fits c.if-self.false there (ap after is) in
    record {
      classes = λ opened. left.classes ∙ state.classes opened;
      can_install = λ opened. subst CanInstall (sym left.classes) (state.can_install opened);
      fits = λ opened. left.fits;
      codes = λ opened. left.codes;
    }

pub raise-requires-in-Err-NoMethod : goal.raise-requires-in-Err-NoMethod
raise-requires-in-Err-NoMethod c =
    let state = c.args.self.now in
    let is : sent positions (facts_of (world_of c.args.self.now) c.args.a) (parts_of c.args.self.now.parts) c.args.a c.args.sent ≡ NoMethod (parts_of c.send.new.parts) =
    (c.in-Err-NoMethod.ensures.sends (facts_of (world_of state) c.args.a) (same-digits state c.args.a)).no_method (ap Err c.in-Err-NoMethod.field-0-is) in
    let there : IsThere c.args.self.now.parts.heap c.args.sent.target = search rules in
    let left : Leaves c.args.self.now.program (parts_of c.args.self.now.parts) (parts_of c.send.new.parts) =
    left-by state c.send.new.parts c.args.a c.args.sent c.sending_laws.ensures.fits c.if-self.false there (ap after is) in
    record { begun = (c.requires.begun.0, omega (arith, left.count)) }

pub returns-in-Ok : goal.returns-in-Ok
returns-in-Ok c =
    let state = c.args.self.now in
    let is : sent positions (facts_of (world_of c.args.self.now) c.args.a) (parts_of c.args.self.now.parts) c.args.a c.args.sent ≡ Done (parts_of c.send.new.parts) =
    (c.in-Ok.ensures.sends (facts_of (world_of state) c.args.a) (same-digits state c.args.a)).done in
    sym (world-sends state c.args.a c.args.line c.args.sent (Done (parts_of c.send.new.parts)) (state.classes c.if-self.false) is)

pub returns-in-Err-Raised : goal.returns-in-Err-Raised
returns-in-Err-Raised c =
    let state = c.args.self.now in
    let is : sent positions (facts_of (world_of c.args.self.now) c.args.a) (parts_of c.args.self.now.parts) c.args.a c.args.sent ≡ Raises c.in-Err-Raised.number (parts_of c.send.new.parts) =
    (c.in-Err-Raised.ensures.sends (facts_of (world_of state) c.args.a) (same-digits state c.args.a)).raised c.in-Err-Raised.number (ap Err c.in-Err-Raised.field-0-is) in
    subst (λ w. OnOk c.raise.result (world_of c.raise.new.self ≡ w))
    (sym (world-sends state c.args.a c.args.line c.args.sent (Raises c.in-Err-Raised.number (parts_of c.send.new.parts)) (state.classes c.if-self.false) is)) c.raise.ensures

pub returns-in-Err-NoMethod : goal.returns-in-Err-NoMethod
returns-in-Err-NoMethod c =
    let state = c.args.self.now in
    let is : sent positions (facts_of (world_of c.args.self.now) c.args.a) (parts_of c.args.self.now.parts) c.args.a c.args.sent ≡ NoMethod (parts_of c.send.new.parts) =
    (c.in-Err-NoMethod.ensures.sends (facts_of (world_of state) c.args.a) (same-digits state c.args.a)).no_method (ap Err c.in-Err-NoMethod.field-0-is) in
    subst (λ w. OnOk c.raise-in-Err-NoMethod.result (world_of c.raise-in-Err-NoMethod.new.self ≡ w))
    (sym (world-sends state c.args.a c.args.line c.args.sent (NoMethod (parts_of c.send.new.parts)) (state.classes c.if-self.false) is)) c.raise-in-Err-NoMethod.ensures
