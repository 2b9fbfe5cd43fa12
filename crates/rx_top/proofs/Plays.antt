-- What a run comes to is a run over all of the input.
use Rattle.std.proofs.Common.{◌≡◌, ◌≢◌, ◌+◌, ℕ, Bool, true, false, List, [], ◌∷◌, ◌++◌, Option, None, Some, length, refl, sym, ◌∙◌, ap, subst, arith, append_assoc, append-nil, inl, inr}
use Rattle.rx_ports.specs.Causes.{Rose}
use Rattle.rx_clause_tree.specs.declared.package.Package.{Package}
use Rattle.rx_machine.specs.World.{World}
use Rattle.rx_machine.specs.Enabled.{holder_before, robin}
use Rattle.rx_machine.specs.Opening.{opening}
use Rattle.rx_machine.specs.Input.{lines, with_more}
use Rattle.rx_machine.specs.declared.end.End.TheVariants.{Going}
use Rattle.rx_machine.specs.End.{end, waits, status_of}
use Rattle.rx_machine.specs.Runs.{SerialRun, last_of, run}
use Rattle.rx_machine.specs.Texts.{err_text, notes_text}
use Rattle.rx_machine.proofs.RunLemmas.{run-steps}
use Rattle.rx_machine.proofs.InputLemmas.{SerialRun-with, end-with}
use Rattle.rx_machine.proofs.WantLemmas.{wants-where}
use Rattle.rx_top.specs.declared.conclusion.Conclusion.{Conclusion}
use Rattle.rx_top.specs.declared.running.Course.{Course}
use Rattle.rx_top.specs.declared.running.Course.TheVariants.{Ended, Starved}
use Rattle.rx_top.specs.Lines.{Feeds, Spell}
use Rattle.rx_top.specs.Ports.{Leaves, Shrinks}
use Rattle.rx_top.specs.Running.{Goes, IsCut, IsCourse, IsStarvedCourse}
use Rattle.rx_top.specs.Runs.{IsSaid, RunsOver, StarvesOver, IsPlayed, IsWorldTold, IsCourseTold, line_245}

-- ---- the bytes of the input

-- The input had these bytes, of which some were read; the others are left. The lines that were given are the first ones.
record IsSplit (old new : Option (List ℕ)) (given : List (List ℕ)) (ended : Bool) : Type 0 where
  pub bytes : List ℕ
  pub left : List ℕ
  pub read : List ℕ
  pub leaves : Leaves old new bytes left
  pub behind : bytes ≡ read ++ left
  pub all : lines bytes ≡ given ++ lines left
  pub last : ended ≡ true → left ≡ []

same-tail : (x : ℕ) (xs ys : List ℕ) → x ∷ xs ≡ x ∷ ys → xs ≡ ys
same-tail x xs ys is = cc

nothing-left : (read ys : List ℕ) → read ++ ys ≡ read → ys ≡ []
nothing-left [] ys is = is
nothing-left (x ∷ read) ys is = nothing-left read ys (same-tail x (read ++ ys) read is)

split-known : (ended : Bool) (xs ys read : List ℕ) (given : List (List ℕ)) → xs ≡ read ++ ys → Spell ended (Some xs) read given
    → IsSplit (Some xs) (Some ys) given ended
split-known false xs ys read given taken spell = record {
  bytes = xs;
  left = ys;
  read = read;
  leaves = (refl, refl);
  behind = taken;
  all = ap lines taken ∙ spell ys;
  last = λ is. cc;
}
split-known true xs ys read given taken spell =
    let none : ys ≡ [] = nothing-left read ys (sym (sym spell.0 ∙ taken)) in
    record {
      bytes = xs;
      left = ys;
      read = read;
      leaves = (refl, refl);
      behind = taken;
      all = ap lines spell.0 ∙ spell.1 ∙ sym (append-nil given) ∙ ap (λ (l : List ℕ). given ++ lines l) (sym none);
      last = λ is. none;
    }

split-unknown : (ended : Bool) (new : Option (List ℕ)) (read : List ℕ) (given : List (List ℕ)) → Spell ended None read given → IsSplit None new given ended
split-unknown false new read given spell = record {
  bytes = read;
  left = [];
  read = read;
  leaves = tt;
  behind = sym (append-nil read);
  all = ap lines (sym (append-nil read)) ∙ spell [];
  last = λ is. refl;
}
split-unknown true new read given spell = record {
  bytes = read;
  left = [];
  read = read;
  leaves = tt;
  behind = sym (append-nil read);
  all = spell.1 ∙ sym (append-nil given);
  last = λ is. refl;
}

split-by : (old new : Option (List ℕ)) (given : List (List ℕ)) (ended : Bool) → Feeds old new given ended → IsSplit old new given ended
split-by None new given ended fed = split-unknown ended new fed.read given fed.spell
split-by (Some xs) None given ended fed = absurd fed.taken
split-by (Some xs) (Some ys) given ended fed = split-known ended xs ys fed.read given fed.taken fed.spell

-- ---- a whole run

-- the status of a world, and what the report says of it, don't depend on input
status_of-with : (more : List (List ℕ)) (ended : Bool) (w : World) → status_of (with_more more ended w) ≡ status_of w
unfolding holder_before
status_of-with more ended w = refl

err_text-with : (more : List (List ℕ)) (ended : Bool) (w : World) → err_text (with_more more ended w) ≡ err_text w
unfolding holder_before waits
err_text-with more ended w = refl

steps-are-picks : (from : World) (picks : List ℕ) (w : World) → from.steps ≡ 0 → SerialRun from picks w → w.steps ≡ length picks
steps-are-picks from picks w none is =
    let counted : (run from picks).steps ≡ from.steps + length picks = run-steps from picks is.legal in
    let same : w.steps ≡ (run from picks).steps = ap (λ (v : World). v.steps) (sym is.leads) in
    omega (arith, none, counted, same)

said-of : (from w v : World) (picks : List ℕ) (status : ℕ) (report : List ℕ) (told : Conclusion) → from.steps ≡ 0 → SerialRun from picks w
    → IsWorldTold w picks status report told → w.steps ≡ v.steps → w.output ≡ v.output → IsSaid v told
said-of from w v picks status report told none is said steps output = record {
  steps = said.steps ∙ steps;
  picks = said.steps ∙ steps-are-picks from picks w none is ∙ ap length (sym said.schedule);
  output = said.output ∙ output;
}

-- the world at the end of a run over all lines, whose end is known
record IsWhole (from w : World) (picks : List ℕ) (given others : List (List ℕ)) : Type 0 where
  pub world : World
  pub run : SerialRun (with_more (given ++ others) true from) picks world
  pub ended : end w ≢ Going → end world ≢ Going
  pub status : status_of w ≡ status_of world
  pub report : err_text w ≡ err_text world
  pub steps : w.steps ≡ world.steps
  pub output : w.output ≡ world.output
  pub rest : w.rest ≡ [] → world.rest ≡ others

whole-by : (from w : World) (picks : List ℕ) (given others : List (List ℕ)) (known : Bool) → (known ≡ true → others ≡ [])
    → SerialRun (with_more given known from) picks w → IsWhole from w picks given others
whole-by from w picks given others true last run = record {
  world = w;
  run = subst (λ (l : List (List ℕ)). SerialRun (with_more l true from) picks w) (sym (ap (λ (l : List (List ℕ)). given ++ l) (last refl) ∙ append-nil given)) run;
  ended = λ is. is;
  status = refl;
  report = refl;
  steps = refl;
  output = refl;
  rest = λ none. none ∙ sym (last refl);
}
whole-by from w picks given others false last run = record {
  world = with_more others true w;
  run = subst (λ (v : World). SerialRun v picks (with_more others true w))
      (ap (λ (rest : List (List ℕ)). record from { rest = rest; ended = true }) (append_assoc from.rest given others))
      (SerialRun-with others true (with_more given false from) picks w refl run);
  ended = λ is going. is (sym (end-with others true w) ∙ going);
  status = sym (status_of-with others true w);
  report = sym (err_text-with others true w);
  steps = refl;
  output = refl;
  rest = λ none. ap (λ (rest : List (List ℕ)). rest ++ others) none;
}

no-lines : (left : List ℕ) → left ≡ [] → lines left ≡ []
no-lines left none = ap lines none

pub ran-over : (program : Package) (argument : Option (List ℕ)) (budget : ℕ) (w : World) (old new : Option (List ℕ)) (picks : List ℕ) (told : Conclusion)
    → Goes (opening program argument [] false budget) w old new picks → end w ≢ Going
    → IsWorldTold w picks (status_of w) (err_text w) told → RunsOver program argument budget old new told
ran-over program argument budget w old new picks told goes ends said =
    let split : IsSplit old new goes.given goes.ended = split-by old new goes.given goes.ended goes.fed in
    let from : World = opening program argument [] false budget in
    let whole : IsWhole from w picks goes.given (lines split.left) =
    whole-by from w picks goes.given (lines split.left) goes.ended (λ is. no-lines split.left (split.last is)) goes.run in
    let all : SerialRun (opening program argument (lines split.bytes) true budget) picks whole.world =
    subst (λ (l : List (List ℕ)). SerialRun (opening program argument l true budget) picks whole.world) (sym split.all) whole.run in
    record {
      bytes = split.bytes;
      left = split.left;
      leaves = split.leaves;
      run = record {
        world = whole.world;
        run = subst (λ (l : List ℕ). SerialRun (opening program argument (lines split.bytes) true budget) l whole.world) (sym said.schedule) all;
        ended = whole.ended ends;
        said = said-of (with_more goes.given goes.ended from) w whole.world picks (status_of w) (err_text w) told refl goes.run said whole.steps whole.output;
        status = said.is_status ∙ whole.status;
        report = said.is_report ∙ whole.report;
        read = split.read;
        behind = split.behind;
        unread = whole.rest goes.none;
      };
    }

-- ---- a run that wants a line

-- what is read of a line that couldn't be read whole comes behind the lines before it
record IsSplitOff (old new : Option (List ℕ)) (given : List (List ℕ)) : Type 0 where
  pub bytes : List ℕ
  pub left : List ℕ
  pub others : List (List ℕ)
  pub read : List ℕ
  pub leaves : Leaves old new bytes left
  pub behind : bytes ≡ read ++ left
  pub first : lines bytes ≡ given ++ others

split-off : (old mid new : Option (List ℕ)) (given : List (List ℕ)) → Feeds old mid given false → Shrinks mid new → IsSplitOff old new given
split-off None mid new given fed shrinks = record {
  bytes = fed.read;
  left = [];
  others = lines [];
  read = fed.read;
  leaves = tt;
  behind = sym (append-nil fed.read);
  first = ap lines (sym (append-nil fed.read)) ∙ fed.spell [];
}
split-off (Some xs) None new given fed shrinks = absurd fed.taken
split-off (Some xs) (Some ys) None given fed shrinks = absurd shrinks.1
split-off (Some xs) (Some ys) (Some zs) given fed shrinks = record {
  bytes = xs;
  left = zs;
  others = lines ys;
  read = fed.read ++ shrinks.0;
  leaves = (refl, refl);
  behind = fed.taken ∙ ap (λ (l : List ℕ). fed.read ++ l) shrinks.1 ∙ sym (append_assoc fed.read shrinks.0 zs);
  first = ap lines fed.taken ∙ fed.spell ys;
}

pub starved-over : (program : Package) (argument : Option (List ℕ)) (budget : ℕ) (w : World) (old new : Option (List ℕ)) (picks : List ℕ) (told : Conclusion)
    → IsCut (opening program argument [] false budget) w old new picks
    → IsWorldTold w picks 245 (notes_text w ++ line_245) told → StarvesOver program argument budget old new told
starved-over program argument budget w old new picks told cut said =
    let goes : Goes (opening program argument [] false budget) w old cut.between picks = cut.goes in
    let unknown : goes.ended ≡ false = sym goes.known ∙ (wants-where w cut.activity cut.starves.wants).1 in
    let fed : Feeds old cut.between goes.given false = subst (λ (e : Bool). Feeds old cut.between goes.given e) unknown goes.fed in
    let split : IsSplitOff old new goes.given = split-off old cut.between new goes.given fed cut.starves.shrinks in
    let run : SerialRun (opening program argument goes.given false budget) picks w =
    subst (λ (e : Bool). SerialRun (opening program argument goes.given e budget) picks w) unknown goes.run in
    record {
      bytes = split.bytes;
      left = split.left;
      leaves = split.leaves;
      run = record {
        world = w;
        given = goes.given;
        others = split.others;
        first = split.first;
        run = subst (λ (l : List ℕ). SerialRun (opening program argument goes.given false budget) l w) (sym said.schedule) run;
        read_all = goes.none;
        going = cut.pick.going;
        activity = cut.activity;
        next = ap (λ (l : List ℕ). robin w (last_of 0 l)) said.schedule ∙ cut.pick.next;
        enabled = cut.pick.enabled;
        wants = cut.starves.wants;
        said = said-of (opening program argument goes.given false budget) w w picks 245 (notes_text w ++ line_245) told refl run said refl refl;
        status = said.is_status;
        report = said.is_report;
        read = split.read;
        behind = split.behind;
      };
    }

pub played : (program : Package) (argument : Option (List ℕ)) (budget : ℕ) (from w : World) (old new : Option (List ℕ)) (faults faults_now : ℕ)
    (course : Course) (told : Conclusion) → from ≡ opening program argument [] false budget → IsCourse from w old new course
    → IsCourseTold w course told → (IsStarvedCourse course → Rose faults faults_now) → IsPlayed program argument budget old faults new faults_now told
played program argument budget from w old new faults faults_now (Ended picks) told begins is said cause =
    inl (ran-over program argument budget w old new picks.items told (subst (λ (v : World). Goes v w old new picks.items) begins is.0) is.1 said)
played program argument budget from w old new faults faults_now (Starved picks) told begins is said cause =
    inr (starved-over program argument budget w old new picks.items told (subst (λ (v : World). IsCut v w old new picks.items) begins is) said, cause tt)
