-- What stands in a source, at most once.
use Rattle.std.proofs.Common.{◌≡◌, ℕ, ◌+◌, ◌≤◌, ◌<◌, Bool, false, List, length, drop, sym, subst, Err, IsTrue, arith}
use Rattle.rx_tree.specs.Operators.{Tokens}
use Rattle.rx_tree.specs.Spelling.{Spells, feeds}
use Rattle.rx_scan.specs.Depth.{bracket_depth}
use Rattle.rx_scan.specs.Read.{is_number}
use Rattle.rx_scan.proofs.CutLemmas.{spells-once}
use Rattle.rx_clause_tree.specs.declared.clause.Body.{Body}
use Rattle.rx_clause_tree.specs.Bodies.{IsBody}
use Rattle.rx_clauses.specs.Parsed as c
use Rattle.rx_clauses.proofs.BodiesLaw.{one-body}
use Rattle.rx_directives.specs.declared.directive.Directive.{Directive}
use Rattle.rx_directives.specs.Directives.{AreDirectives}
use Rattle.rx_directives.specs.Parsed as d
use Rattle.rx_directives.proofs.Places.{one}
use Rattle.rx_packages.specs.Programs.{longest_source, most_brackets, IsWritten}
use Rattle.rx_exprs.specs.declared.refused.ParseRefused.{ParseRefused}
use Rattle.rx_exprs.specs.declared.refused.ParseRefused.TheVariants as p
use Rattle.rx_scan.specs.Scanned as s
use Rattle.rx_scan.specs.declared.scanner.ScanRefused.{ScanRefused}
use Rattle.rx_scan.specs.declared.scanner.ScanRefused.TheVariants as v
use Rattle.rx_packages.specs.declared.refused.SourceRefused.{SourceRefused}
use Rattle.rx_packages.specs.declared.refused.SourceRefused.TheVariants as e
use Rattle.rx_packages.specs.Refusals.{IsDeep, NoneSpell, IsAt, IsFoundAt, IsUnfit, IsWrittenAsNone, IsUnread, unscanned}

pub one-written : (source : List ℕ) (main other : Body) (directives others : List Directive) → IsWritten source main directives → IsWritten source other others
    → (main ≡ other) × (directives ≡ others)
one-written source main other directives others a b =
    let tokens : a.tokens ≡ b.tokens = spells-once source a.tokens b.tokens a.spelled b.spelled in
    let body = one-body b.tokens main other a.behind b.behind (subst (λ (ts : Tokens). IsBody main ts a.behind) tokens a.main_is) b.main_is in
    (body.0, one b.behind directives others (subst (λ (ts : Tokens). AreDirectives directives ts) body.1 a.directives_are) b.directives_are)

pub no-body : (source : List ℕ) (tokens : Tokens) → Spells source tokens → c.NoneFits tokens → IsWrittenAsNone source
no-body source tokens spelled none main directives is =
    none main is.behind (subst (λ (ts : Tokens). IsBody main ts is.behind) (spells-once source is.tokens tokens is.spelled spelled) is.main_is)

pub no-directives : (source : List ℕ) (tokens behind : Tokens) (main : Body) → Spells source tokens → IsBody main tokens behind → d.NoneFit behind
    → IsWrittenAsNone source
no-directives source tokens behind main spelled fits none other directives is =
    let same = spells-once source is.tokens tokens is.spelled spelled in
    let found = one-body tokens other main is.behind behind (subst (λ (ts : Tokens). IsBody other ts is.behind) same is.main_is) fits in
    none directives (subst (λ (ts : Tokens). AreDirectives directives ts) found.1 is.directives_are)

pub no-tokens : (source : List ℕ) → NoneSpell source → IsWrittenAsNone source
no-tokens source none main directives is = none is.tokens is.spelled

false-so : IsTrue false → ⊥
false-so is = cc

not-deep : (source : List ℕ) (tokens : Tokens) → Spells source tokens → bracket_depth tokens ≤ most_brackets → IsDeep source → ⊥
not-deep source tokens spelled depth deep =
    let over : most_brackets < bracket_depth tokens =
    subst (λ (ts : Tokens). most_brackets < bracket_depth ts) (spells-once source deep.tokens tokens deep.spelled spelled) deep.deep in
    omega arith

-- a refusal behind the scanner
pub at-line : (source : List ℕ) (tokens : Tokens) (line number : ℕ) → length source ≤ longest_source → Spells source tokens
    → bracket_depth tokens ≤ most_brackets → (1 ≤ line) × ((line ≤ feeds source + 1) × (is_number number ≡ false)) → IsAt source line number
at-line source tokens line number short spelled depth is = record {
  short = short;
  shallow = not-deep source tokens spelled depth;
  from_one = is.0;
  at_most = is.1.0;
  scanned = (λ yes. absurd (false-so (subst (λ (b : Bool). IsTrue b) is.1.1 yes)), λ none. absurd (none tokens spelled));
}

-- ---- refusals

-- a refusal of the scanner
at-scan : (source : List ℕ) (line number : ℕ) → length source ≤ longest_source → s.IsRefused source line number
    → IsAt source line number × IsWrittenAsNone source
at-scan source line number short is = (
  record { short = short; shallow = λ deep. is.none deep.tokens deep.spelled; from_one = is.from_one; at_most = is.at_most; scanned = (λ yes. is.none, λ none. is.number_is) },
  no-tokens source is.none,
)

pub not-scanned : (source : List ℕ) (refused : ScanRefused) → length source ≤ longest_source → s.IsScanned source (Err refused) → IsUnread source (unscanned refused)
not-scanned source (v.Bad line number) short is = at-scan source line number short is
not-scanned source v.OutOfMemory short is = tt

by-line : (source : List ℕ) (tokens : Tokens) (result : SourceRefused) → length source ≤ longest_source → Spells source tokens
    → bracket_depth tokens ≤ most_brackets → IsFoundAt source result → IsWrittenAsNone source → IsUnread source result
by-line source tokens (e.Bad line number) short spelled depth found none = (at-line source tokens line number short spelled depth found, none)
by-line source tokens e.Long short spelled depth found none = absurd found
by-line source tokens e.Deep short spelled depth found none = absurd found
by-line source tokens e.OutOfMemory short spelled depth found none = absurd found

pub unread-body : (source : List ℕ) (tokens : Tokens) (refused : ParseRefused) (result : SourceRefused) → length source ≤ longest_source
    → Spells source tokens → bracket_depth tokens ≤ most_brackets → c.IsRefused tokens 0 refused → IsUnfit source refused result → IsUnread source result
unread-body source tokens (p.Bad at number) result short spelled depth is found =
    by-line source tokens result short spelled depth found (no-body source tokens spelled is.0)
unread-body source tokens p.OutOfMemory result short spelled depth is same = subst (IsUnread source) (sym same) tt

pub unread-directives : (source : List ℕ) (tokens : Tokens) (main : Body) (end : ℕ) (refused : ParseRefused) (result : SourceRefused)
    → length source ≤ longest_source → Spells source tokens → bracket_depth tokens ≤ most_brackets → IsBody main tokens (drop end tokens)
    → d.IsRefused tokens end refused → IsUnfit source refused result → IsUnread source result
unread-directives source tokens main end (p.Bad at number) result short spelled depth fits is found =
    by-line source tokens result short spelled depth found (no-directives source tokens (drop end tokens) main spelled fits is.0)
unread-directives source tokens main end p.OutOfMemory result short spelled depth fits is same = subst (IsUnread source) (sym same) tt
