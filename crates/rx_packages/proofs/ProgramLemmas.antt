-- Why a source is no program, and that it is one at most.
use Rattle.std.proofs.Common.{◌≡◌, ℕ, ◌≤◌, ◌<◌, ◌^◌, List, length, refl, sym, ◌∙◌, ap, subst, arith}
use Rattle.std.specs.Str.Lines.{lines}
use Rattle.rx_tree.specs.declared.class.ClassDef.{ClassDef}
use Rattle.rx_clause_tree.specs.declared.clause.Body.{Body}
use Rattle.rx_clause_tree.specs.declared.package.Package.{Package}
use Rattle.rx_directives.specs.declared.directive.Directive.{Directive}
use Rattle.rx_directives.specs.Packages.{bodies_of, classes_of, routines_of}
use Rattle.rx_classes.specs.Installing.{CanInstall}
use Rattle.rx_install.specs.Installation.{IsInstallationOrder}
use Rattle.rx_install.proofs.OrderLemmas.{one-order}
use Rattle.rx_packages.specs.declared.refused.SourceRefused.{SourceRefused}
use Rattle.rx_packages.specs.declared.refused.SourceRefused.TheVariants as e
use Rattle.rx_packages.specs.Programs.{longest_source, IsWritten, AreSound, IsProgram}
use Rattle.rx_packages.specs.Refusals.{IsStopped, IsUnread, IsRefused, NoneInstall, IsNoProgram}
use Rattle.rx_packages.proofs.ReadingLemmas.{one-written, at-line}
use Rattle.rx_packages.proofs.ProgramRooms.{class-count}

-- a cause of a cause
pub stopped : (source : List ℕ) (cause other : Type 0) (refused : SourceRefused) → (cause → other) → IsStopped source cause refused → IsStopped source other refused
stopped source cause other (e.Bad line number) so is = (is.0, so is.1)
stopped source cause other e.Long so is = absurd is.0
stopped source cause other e.Deep so is = absurd is.0
stopped source cause other e.OutOfMemory so is = tt

pub no-sound : (source : List ℕ) (main : Body) (directives : List Directive) → IsWritten source main directives → (AreSound main directives → ⊥)
    → IsNoProgram source
no-sound source main directives written none program is =
    let same = one-written source program.main main is.directives directives is.written written in
    none (subst (λ (m : Body). AreSound m directives) same.0 (subst (λ (ds : List Directive). AreSound program.main ds) same.1 is.sound))

pub no-install : (source : List ℕ) (main : Body) (directives : List Directive) → IsWritten source main directives
    → NoneInstall (classes_of 0 directives) → IsNoProgram source
no-install source main directives written none program is =
    let same = one-written source program.main main is.directives directives is.written written in
    none program.classes (subst (λ (ds : List Directive). IsInstallationOrder (classes_of 0 ds) program.classes) same.1 is.order) is.classes

pub unread : (source : List ℕ) (refused : SourceRefused) → IsUnread source refused → IsRefused source refused
unread source (e.Bad line number) is = (is.0, λ program p. is.1 program.main p.directives p.written)
unread source e.Long is = is
unread source e.Deep is = is
unread source e.OutOfMemory is = tt

pub unmade : (source : List ℕ) (main : Body) (directives : List Directive) (refused : SourceRefused) → IsWritten source main directives
    → IsStopped source (IsNoProgram source) refused → IsRefused source refused
unmade source main directives (e.Bad line number) written is =
    (at-line source written.tokens line number written.short written.spelled written.shallow is.0, is.1)
unmade source main directives e.Long written is = absurd is.0
unmade source main directives e.Deep written is = absurd is.0
unmade source main directives e.OutOfMemory written is = tt

-- a refusal of the places, or of the installation, of what stands in the source
pub stopped_places : (source : List ℕ) (main : Body) (directives : List Directive) (refused : SourceRefused) → IsWritten source main directives
    → IsStopped source (AreSound main directives → ⊥) refused → IsStopped source (IsNoProgram source) refused
stopped_places source main directives refused written is =
    stopped source (AreSound main directives → ⊥) (IsNoProgram source) refused (no-sound source main directives written) is

pub stopped_install : (source : List ℕ) (main : Body) (directives : List Directive) (refused : SourceRefused) → IsWritten source main directives
    → IsStopped source (NoneInstall (classes_of 0 directives)) refused → IsStopped source (IsNoProgram source) refused
stopped_install source main directives refused written is =
    stopped source (NoneInstall (classes_of 0 directives)) (IsNoProgram source) refused (no-install source main directives written) is

pub is_program : (source : List ℕ) (main : Body) (directives : List Directive) (program : Package) → IsWritten source main directives
    → AreSound main directives → program.main ≡ main → program.bodies ≡ bodies_of directives
    → IsInstallationOrder (classes_of 0 directives) program.classes → CanInstall program.classes → program.routines ≡ routines_of 0 directives
    → program.lines ≡ lines source → IsProgram source program
is_program source main directives program written sound is_main bodies order classes routines is_lines = record {
  directives = directives;
  written = subst (λ (m : Body). IsWritten source m directives) (sym is_main) written;
  sound = subst (λ (m : Body). AreSound m directives) (sym is_main) sound;
  bodies = bodies;
  order = order;
  classes = classes;
  routines = routines;
  lines = is_lines;
}

pub few_installed : (directives : List Directive) (classes : List ClassDef) → classes ≡ classes_of 0 directives → length directives ≤ longest_source
    → length classes < 2 ^ 31
few_installed directives classes is few =
    let same : length classes ≡ length (classes_of 0 directives) = ap (λ (cs : List ClassDef). length cs) is in
    let fewer : length (classes_of 0 directives) ≤ length directives = class-count 0 directives in
    let most : 2 ^ 31 ≡ 2147483648 = refl in
    omega arith

pub ruleset making = (is_program, few_installed)

-- ---- at most one program

made : Body → List Body → List ClassDef → List (List ℕ × ℕ) → List (List ℕ) → Package
made main bodies classes routines texts = record { main = main; bodies = bodies; classes = classes; routines = routines; lines = texts }

same-package : (program other : Package) → program.main ≡ other.main → program.bodies ≡ other.bodies → program.classes ≡ other.classes
    → program.routines ≡ other.routines → program.lines ≡ other.lines → program ≡ other
unfolding made
same-package program other main bodies classes routines texts =
    ap (λ (b : Body). made b program.bodies program.classes program.routines program.lines) main
    ∙ ap (λ (bs : List Body). made other.main bs program.classes program.routines program.lines) bodies
    ∙ ap (λ (cs : List ClassDef). made other.main other.bodies cs program.routines program.lines) classes
    ∙ ap (λ (rs : List (List ℕ × ℕ)). made other.main other.bodies other.classes rs program.lines) routines
    ∙ ap (λ (ls : List (List ℕ)). made other.main other.bodies other.classes other.routines ls) texts

pub one-program : (source : List ℕ) (program other : Package) → IsProgram source program → IsProgram source other → program ≡ other
one-program source program other a b =
    let same = one-written source program.main other.main a.directives b.directives a.written b.written in
    let order = one-order (classes_of 0 b.directives) program.classes other.classes
    (subst (λ (ds : List Directive). IsInstallationOrder (classes_of 0 ds) program.classes) same.1 a.order) b.order in
    same-package program other same.0
    (a.bodies ∙ ap bodies_of same.1 ∙ sym b.bodies) order
    (a.routines ∙ ap (λ (ds : List Directive). routines_of 0 ds) same.1 ∙ sym b.routines) (a.lines ∙ sym b.lines)
