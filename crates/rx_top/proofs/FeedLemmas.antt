-- Worlds that get lines of the input.
use Rattle.std.proofs.Common.{◌≡◌, ℕ, Bool, true, false, List, [], ◌∷◌, ◌++◌, Option, refl, sym, ◌∙◌, ap, subst, append-nil}
use Rattle.rx_kernel.specs.Given.{given}
use Rattle.rx_machine.specs.World.{World}
use Rattle.rx_machine.specs.Input.{with_more}
use Rattle.rx_machine.specs.Laws.{IsTaken}
use Rattle.rx_machine.specs.Step.{step}
use Rattle.rx_machine.proofs.WantLemmas.{line-is-taken, end-is-taken}
use Rattle.rx_top.specs.declared.lines.LineRead.{LineRead}
use Rattle.rx_top.specs.declared.lines.LineRead.TheVariants.{Line, Last, End, Failed, NoMemory}
use Rattle.rx_top.specs.declared.feeding.Fed.{Fed}
use Rattle.rx_top.specs.declared.feeding.Fed.TheVariants as fed
use Rattle.rx_top.specs.Lines.{IsLineRead}
use Rattle.rx_top.specs.Feeding.{IsFed, IsGiven}

-- the last line and then the end are both
pub last-and-end : (w mid next : World) (line : List ℕ) → mid ≡ with_more (line ∷ []) w.ended w → next ≡ with_more [] true mid
    → next ≡ with_more (line ∷ []) true w
last-and-end w mid next line first second =
    second ∙ ap (with_more [] true) first ∙ ap (λ (rest : List (List ℕ)). record w { rest = rest; ended = true }) (append-nil (w.rest ++ line ∷ []))

-- a line, where the end isn't known
pub line-given : (w next : World) (line : List ℕ) → w.ended ≡ false → next ≡ with_more (line ∷ []) w.ended w → next ≡ with_more (line ∷ []) false w
line-given w next line unknown is = is ∙ ap (λ (ended : Bool). with_more (line ∷ []) ended w) unknown

taken-at : (w next to : World) (a : ℕ) → next ≡ to → IsTaken (step to a) → IsTaken (step next a)
taken-at w next to a is taken = subst (λ (v : World). IsTaken (step v a)) (sym is) taken

pub fed-by : (w next : World) (old new : Option (List ℕ)) (read : LineRead) (one : Fed) → IsLineRead old new read → IsGiven w next read one
    → IsFed w next old new one
fed-by w next old new (Line line) fed.Done feeds is = record {
  given = line ∷ [];
  ended = false;
  fed = feeds;
  is = is;
  taken = λ a wants. taken-at w next (with_more (line ∷ []) false w) a is (line-is-taken w a line false wants);
}
fed-by w next old new (Last line) fed.Done feeds is = record {
  given = line ∷ [];
  ended = true;
  fed = feeds;
  is = is;
  taken = λ a wants. taken-at w next (with_more (line ∷ []) true w) a is (line-is-taken w a line true wants);
}
fed-by w next old new End fed.Done feeds is = record {
  given = [];
  ended = true;
  fed = feeds;
  is = is;
  taken = λ a wants. taken-at w next (with_more [] true w) a is (end-is-taken w a wants);
}
fed-by w next old new Failed fed.Failed feeds is = (is, feeds)
fed-by w next old new Failed fed.Done feeds is = absurd is
fed-by w next old new NoMemory fed.Done feeds is = absurd is
fed-by w next old new NoMemory fed.Failed feeds is = absurd is
fed-by w next old new (Line line) fed.Failed feeds is = absurd is
fed-by w next old new (Last line) fed.Failed feeds is = absurd is
fed-by w next old new End fed.Failed feeds is = absurd is

-- only an input that couldn't be read feeds nothing
pub failed-by : (w next : World) (read : LineRead) (one : Fed) → IsGiven w next read one → one ≡ fed.Failed → read ≡ Failed
failed-by w next Failed fed.Failed is failed = refl
failed-by w next (Line line) fed.Done is failed = cc
failed-by w next (Last line) fed.Done is failed = cc
failed-by w next End fed.Done is failed = cc
failed-by w next Failed fed.Done is failed = cc
failed-by w next NoMemory fed.Done is failed = cc
failed-by w next NoMemory fed.Failed is failed = absurd is
failed-by w next (Line line) fed.Failed is failed = absurd is
failed-by w next (Last line) fed.Failed is failed = absurd is
failed-by w next End fed.Failed is failed = absurd is
