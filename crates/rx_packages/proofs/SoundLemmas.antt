-- Why a main body and directives stand as they may not.
use Rattle.std.proofs.Common.{◌≡◌, ℕ, Bool, true, false, not, List, [], sym}
use Rattle.rx_clause_tree.specs.declared.clause.Body.{Body}
use Rattle.rx_directives.specs.declared.directive.Directive.{Directive}
use Rattle.rx_packages.specs.declared.refused.SourceRefused.{SourceRefused}
use Rattle.rx_packages.specs.MethodClauses.{in_clauses}
use Rattle.rx_packages.specs.Conditions.{are_placed, are_plain, are_new}
use Rattle.rx_packages.specs.Programs.{AreSound}
use Rattle.rx_packages.specs.Refusals.{IsFoundAt, IsStopped}
use Rattle.rx_packages.proofs.InstallLemmas.{stopped_at}

-- no main body and directives that are sound
abbrev pub Unsound : Body → List Directive → Type 0
Unsound main directives = AreSound main directives → ⊥

both : (b : Bool) → b ≡ true → b ≡ false → ⊥
both true is isnt = cc
both false is isnt = cc

neither : (b : Bool) → true ≡ not b → b ≡ true → ⊥
neither true is isnt = cc
neither false is isnt = cc

pub unsound_main : (source : List ℕ) (main : Body) (directives : List Directive) (result : SourceRefused) → IsFoundAt source result
    → true ≡ in_clauses main.clauses → IsStopped source (Unsound main directives) result
unsound_main source main directives result found is =
    stopped_at source (Unsound main directives) result found (λ sound. both (in_clauses main.clauses) (sym is) sound.main_plain)

pub unsound_place : (source : List ℕ) (main : Body) (directives : List Directive) (result : SourceRefused) → IsFoundAt source result
    → true ≡ not (are_placed directives) → IsStopped source (Unsound main directives) result
unsound_place source main directives result found is =
    stopped_at source (Unsound main directives) result found (λ sound. neither (are_placed directives) is sound.placed)

pub unsound_plain : (source : List ℕ) (main : Body) (directives : List Directive) (result : SourceRefused) → IsFoundAt source result
    → true ≡ not (are_plain directives) → IsStopped source (Unsound main directives) result
unsound_plain source main directives result found is =
    stopped_at source (Unsound main directives) result found (λ sound. neither (are_plain directives) is sound.plain)

pub unsound_name : (source : List ℕ) (main : Body) (directives : List Directive) (result : SourceRefused) → IsFoundAt source result
    → true ≡ not (are_new [] directives) → IsStopped source (Unsound main directives) result
unsound_name source main directives result found is =
    stopped_at source (Unsound main directives) result found (λ sound. neither (are_new [] directives) is sound.apart)

not-false : (b : Bool) → false ≡ not b → b ≡ true
not-false true is = cc
not-false false is = cc

pub sound_parts : (main : Body) (directives : List Directive) → false ≡ in_clauses main.clauses → false ≡ not (are_placed directives)
    → false ≡ not (are_plain directives) → false ≡ not (are_new [] directives) → AreSound main directives
sound_parts main directives main_plain placed plain apart = record {
  placed = not-false (are_placed directives) placed;
  main_plain = sym main_plain;
  plain = not-false (are_plain directives) plain;
  apart = not-false (are_new [] directives) apart;
}

pub ruleset unsound = (unsound_main, unsound_place, unsound_plain, unsound_name, sound_parts)
