-- Runs that go on by a step, which perhaps takes a line of the input.
use Rattle.std.proofs.Common.{◌≡◌, ◌<◌, ◌-◌, ℕ, Bool, false, List, [], ◌∷◌, ◌++◌, Option, refl, sym, ◌∙◌, ap, subst, append_assoc, append-nil}
use Rattle.std.specs.Prelude.{IsTrue}
use Rattle.rx_machine.specs.World.{World, Stepped, Done, WantsLine}
use Rattle.rx_machine.specs.declared.end.End.TheVariants.{Going}
use Rattle.rx_machine.specs.Enabled.{enabled}
use Rattle.rx_machine.specs.End.{end}
use Rattle.rx_machine.specs.Input.{with_more}
use Rattle.rx_machine.specs.Runs.{SerialRun, last_of, may_pick, after, world_after}
use Rattle.rx_machine.specs.Step.{step}
use Rattle.rx_machine.proofs.GrowthLemmas.{after-ended, no-line-comes}
use Rattle.rx_machine.proofs.InputLemmas.{SerialRun-with, enabled-with, end-with, robin-with}
use Rattle.rx_machine.proofs.RunLemmas.{SerialRun-next, last_of-snoc, may-be-picked, step-spends}
use Rattle.rx_machine.proofs.WantLemmas.{wants-where}
use Rattle.rx_kernel.specs.declared.stepped.Stepped.TheVariants as told
use Rattle.rx_kernel.specs.Stepping.{IsStepped}
use Rattle.rx_top.specs.Lines.{Feeds}
use Rattle.rx_top.specs.Feeding.{Gets}
use Rattle.rx_top.specs.Running.{IsPick, Steps, AtOnce, Behind, Starves, Goes, IsTakenBy, IsCut}
use Rattle.rx_top.proofs.LineLemmas.{feeds-then, feeds-nothing}

-- ---- what a step of the kernel has come to

pub done-is : (before after : World) (stepped : Stepped) → IsStepped before stepped told.Done after → stepped ≡ Done after
done-is before after (Done w) is = ap Done (sym is)
done-is before after WantsLine is = absurd is

pub wants-is : (before after : World) (stepped : Stepped) → IsStepped before stepped told.WantsLine after → stepped ≡ WantsLine
wants-is before after (Done w) is = absurd is
wants-is before after WantsLine is = refl

pub wants-leaves : (before after : World) (stepped : Stepped) → IsStepped before stepped told.WantsLine after → after ≡ before
wants-leaves before after (Done w) is = absurd is
wants-leaves before after WantsLine is = is

-- ---- a step with what it wanted

pub enabled-gets : (w next : World) (old new : Option (List ℕ)) (a : ℕ) → Gets w next old new → IsTrue (enabled w a) → IsTrue (enabled next a)
enabled-gets w next old new a gets on =
    subst (λ (v : World). IsTrue (enabled v a)) (sym gets.is) (enabled-with gets.given gets.ended w a ∙ on)

pub going-gets : (w next : World) (old new : Option (List ℕ)) → Gets w next old new → end w ≡ Going → end next ≡ Going
going-gets w next old new gets going = subst (λ (v : World). end v ≡ Going) (sym gets.is) (end-with gets.given gets.ended w ∙ going)

pub steps-behind : (w mid next : World) (a : ℕ) (old new : Option (List ℕ)) → step w a ≡ WantsLine → Gets w mid old new
    → IsTakenBy (step mid a) next → Steps w next a old new
steps-behind w mid next a old new wants gets taken =
    Behind gets.given gets.ended (wants-where w a wants).1 gets.fed
    (subst (λ (v : World). step v a ≡ Done next) gets.is taken.0) taken.1

-- ---- a step that a run takes

-- the world in which it is taken
pub record Takes (w next : World) (a : ℕ) : Type 0 where
  pub at : World
  pub enabled : IsTrue (enabled at a)
  pub going : end at ≡ Going
  pub is : step at a ≡ Done next
  pub budget : at.budget - at.steps ≡ w.budget - w.steps

pub takes-by : (w next : World) (a : ℕ) (old new : Option (List ℕ)) → IsTrue (enabled w a) → end w ≡ Going → Steps w next a old new → Takes w next a
takes-by w next a old new on going (AtOnce is same) = record { at = w; enabled = on; going = going; is = is; budget = refl }
takes-by w next a old new on going (Behind given ended unknown fed is none) = record {
  at = with_more given ended w;
  enabled = enabled-with given ended w a ∙ on;
  going = end-with given ended w ∙ going;
  is = is;
  budget = refl;
}

may-take : (v next : World) (a : ℕ) → IsTrue (enabled v a) → end v ≡ Going → step v a ≡ Done next → IsTrue (may_pick v a)
may-take v next a on going is = may-be-picked v next a on going is

-- fewer steps are left
pub spends : (w next : World) (a : ℕ) (old new : Option (List ℕ)) → IsTrue (enabled w a) → end w ≡ Going → Steps w next a old new
    → next.budget - next.steps < w.budget - w.steps
spends w next a old new on going steps =
    let taken : Takes w next a = takes-by w next a old new on going steps in
    subst (λ (n : ℕ). next.budget - next.steps < n) taken.budget
    (step-spends taken.at next a (may-take taken.at next a taken.enabled taken.going taken.is) taken.is)

-- ---- runs

ended-is : (w next : World) (a : ℕ) → step w a ≡ Done next → next.ended ≡ w.ended
ended-is w next a is = ap (λ (stepped : Stepped). (world_after w stepped).ended) (sym is) ∙ after-ended w a

same-world : (from : World) → from.rest ≡ [] → from.ended ≡ false → with_more [] false from ≡ from
same-world from none unknown =
    ap (λ (rest : List (List ℕ)). record from { rest = rest; ended = false }) (append-nil from.rest)
    ∙ ap (λ (ended : Bool). record from { ended = ended }) (sym unknown)

-- no line is read yet
pub goes-nothing : (from : World) (a : Option (List ℕ)) (picks : List ℕ) → picks ≡ [] → from.rest ≡ [] → from.ended ≡ false → Goes from from a a picks
goes-nothing from a picks nothing none unknown = record {
  given = [];
  ended = false;
  fed = feeds-nothing a;
  run = subst (λ (l : List ℕ). SerialRun (with_more [] false from) l from) (sym nothing) (record { legal = refl; leads = same-world from none unknown; serial = tt });
  none = none;
  known = unknown;
}

goes-at-once : (from w next : World) (picks longer : List ℕ) (last a : ℕ) (old mid new : Option (List ℕ))
    → Goes from w old mid picks → last ≡ last_of 0 picks → IsPick w last a → step w a ≡ Done next → new ≡ mid → longer ≡ picks ++ a ∷ []
    → Goes from next old new longer
goes-at-once from w next picks longer last a old mid new so_far is_last pick is same pushed = record {
  given = so_far.given;
  ended = so_far.ended;
  fed = subst (λ (left : Option (List ℕ)). Feeds old left so_far.given so_far.ended) (sym same) so_far.fed;
  run = SerialRun-next (with_more so_far.given so_far.ended from) picks longer w next last a so_far.run is_last pick.next
      (may-take w next a pick.enabled pick.going is) is pushed;
  none = no-line-comes w next a is so_far.none;
  known = ended-is w next a is ∙ so_far.known;
}

-- a run from a world with lines, and then more, is one with all of them
more-given : (from : World) (given more : List (List ℕ)) (ended : Bool) → with_more more ended (with_more given false from) ≡ with_more (given ++ more) ended from
more-given from given more ended =
    ap (λ (rest : List (List ℕ)). record from { rest = rest; ended = ended }) (append_assoc from.rest given more)

run-with : (from w : World) (picks : List ℕ) (given more : List (List ℕ)) (known ended : Bool) → known ≡ false
    → SerialRun (with_more given known from) picks w → SerialRun (with_more (given ++ more) ended from) picks (with_more more ended w)
run-with from w picks given more known ended unknown run =
    let begun : SerialRun (with_more given false from) picks w = subst (λ (e : Bool). SerialRun (with_more given e from) picks w) unknown run in
    subst (λ (v : World). SerialRun v picks (with_more more ended w)) (more-given from given more ended)
    (SerialRun-with more ended (with_more given false from) picks w refl begun)

goes-behind : (from w next : World) (picks longer : List ℕ) (last a : ℕ) (old mid new : Option (List ℕ)) (more : List (List ℕ)) (ended : Bool)
    → Goes from w old mid picks → last ≡ last_of 0 picks → IsPick w last a → w.ended ≡ false → Feeds mid new more ended
    → step (with_more more ended w) a ≡ Done next → next.rest ≡ [] → longer ≡ picks ++ a ∷ [] → Goes from next old new longer
goes-behind from w next picks longer last a old mid new more ended so_far is_last pick unknown fed is none pushed =
    let not_known : so_far.ended ≡ false = sym so_far.known ∙ unknown in
    let v : World = with_more more ended w in
    record {
      given = so_far.given ++ more;
      ended = ended;
      fed = feeds-then old mid new so_far.given more ended (subst (λ (e : Bool). Feeds old mid so_far.given e) not_known so_far.fed) fed;
      run = SerialRun-next (with_more (so_far.given ++ more) ended from) picks longer v next last a
          (run-with from w picks so_far.given more so_far.ended ended not_known so_far.run) is_last (robin-with more ended w last ∙ pick.next)
          (may-take v next a (enabled-with more ended w a ∙ pick.enabled) (end-with more ended w ∙ pick.going) is) is pushed;
      none = none;
      known = ended-is v next a is;
    }

pub goes-on : (from w next : World) (picks longer : List ℕ) (last a : ℕ) (old mid new : Option (List ℕ))
    → Goes from w old mid picks → last ≡ last_of 0 picks → IsPick w last a → Steps w next a mid new → longer ≡ picks ++ a ∷ []
    → Goes from next old new longer
goes-on from w next picks longer last a old mid new so_far is_last pick (AtOnce is same) pushed =
    goes-at-once from w next picks longer last a old mid new so_far is_last pick is same pushed
goes-on from w next picks longer last a old mid new so_far is_last pick (Behind more ended unknown fed is none) pushed =
    goes-behind from w next picks longer last a old mid new more ended so_far is_last pick unknown fed is none pushed

pub last-is : (picks longer : List ℕ) (a : ℕ) → longer ≡ picks ++ a ∷ [] → a ≡ last_of 0 longer
last-is picks longer a pushed = sym (ap (last_of 0) pushed ∙ last_of-snoc 0 picks a)

-- a line that can't be read cuts it
pub cut-by : (from w to : World) (picks : List ℕ) (last a : ℕ) (old mid new : Option (List ℕ)) → Goes from w old mid picks → last ≡ last_of 0 picks
    → IsPick w last a → to ≡ w → Starves w a mid new → IsCut from to old new picks
cut-by from w to picks last a old mid new so_far is_last pick same starves =
    subst (λ (v : World). IsCut from v old new picks) (sym same)
    (record { between = mid; goes = so_far; activity = a; pick = subst (λ (n : ℕ). IsPick w n a) is_last pick; starves = starves })
