-- The scanner's tokens are those that spell the source.
use Rattle.std.proofs.Common.{All, not, ◌≡◌, ◌+◌, ◌≤◌, ◌&&◌, ℕ, Bool, true, false, List, [], ◌∷◌, ◌++◌, Option, None, Some, length, refl, sym, ◌∙◌, ap, subst, arith, append_assoc, length-append}
use denote.Ref.{Bor}
use Rattle.std.specs.Prelude.{if◌then◌else◌, IsTrue}
use Rattle.std.proofs.lemmas.List.{append-nil}
use Rattle.std.proofs.lemmas.List.Elements.{All-push}
use Rattle.rx_tree.specs.declared.token.Token.{Token}
use Rattle.rx_tree.specs.declared.token.TokenKind.{TokenKind}
use Rattle.rx_tree.specs.Pieces.{PieceKind, Blank, Nothing, LineEnd, Semicolon, Written, Piece, AreCut}
use Rattle.rx_tree.specs.Spelling.{feeds, ends_line, may_continue, Place, first_place, clause_end_at, token_at, token_of, place_behind, before_others, tokens_of, Spells, IsOnLine}
use Rattle.rx_scan.specs.Reader.{piece_at}
use Rattle.rx_scan.specs.Read.{kind_of, IsRead, is_number}
use Rattle.rx_scan.specs.declared.piece.Piece as p
use Rattle.rx_scan.specs.declared.piece.Read.{Read}
use Rattle.rx_scan.specs.declared.piece.Read.TheVariants as r
use Rattle.rx_scan.proofs.CutLemmas.{Cuts, cut-first, cut-more, front_of, piece_of, none-not-some}

-- Pieces were read up to a rest: the source is spelled by the tokens so far and those of the rest.
pub record HasScanned (source : List ℕ) (tokens : List Token) (place : Place) (rest : List ℕ) : Type 0 where
  pub joins : (more : List Piece) → AreCut more rest → Spells source (tokens ++ tokens_of place more)
  pub only : (all : List Piece) → AreCut all source → (more : List Piece) × AreCut more rest

-- nothing was read yet
pub HasScanned-none : (source : List ℕ) (tokens : List Token) (place : Place) → tokens ≡ [] → place ≡ first_place → HasScanned source tokens place source
HasScanned-none source tokens place none first = record {
  joins = λ more cut. record {
    pieces = more;
    cut = cut;
    tokens_are = ap (λ (ts : List Token). ts ++ tokens_of place more) none ∙ ap (λ (p : Place). tokens_of p more) first;
  };
  only = λ all cut. (all, cut);
}

before-append : (tokens : List Token) (token : Option Token) (others : List Token)
    → (tokens ++ before_others token []) ++ others ≡ tokens ++ before_others token others
before-append tokens None others = ap (λ (ts : List Token). ts ++ others) (append-nil tokens)
before-append tokens (Some token) others = append_assoc tokens (token ∷ []) others

-- the rest of a cut goes on behind its first piece
only-more : (rest behind : List ℕ) (kind : PieceKind) → piece_at rest ≡ Some (kind, behind) → (cut : List Piece) → AreCut cut rest
    → (more : List Piece) × AreCut more behind
only-more rest behind kind first [] is = absurd (none-not-some (piece_at rest) (kind, behind) (ap piece_at is) first)
only-more rest behind kind first (piece ∷ more) is =
    let cuts : Cuts piece more rest = cut-first piece more rest is in
    let all : ◌≡◌ {A = Option (PieceKind × List ℕ)} (Some (kind, behind)) (Some (piece.kind, cuts.rest)) = sym first ∙ cuts.first in
    let pair : ◌≡◌ {A = PieceKind × List ℕ} (kind, behind) (piece.kind, cuts.rest) = cc in
    (more, subst (λ (r : List ℕ). AreCut more r) (sym (ap (λ (t : PieceKind × List ℕ). t.1) pair)) cuts.others)

-- one piece more was read
pub HasScanned-more : (source rest behind : List ℕ) (tokens longer : List Token) (place next : Place) (kind : PieceKind) (lines : ℕ) (at_end : Bool) (token : Option Token)
    → HasScanned source tokens place rest → piece_at rest ≡ Some (kind, behind)
    → ((cut : List Piece) → AreCut cut behind → token_of place kind at_end ≡ token_of place kind (ends_line cut))
    → lines ≡ feeds (front_of rest behind) → token ≡ token_of place kind at_end → next ≡ place_behind place kind lines token
    → longer ≡ tokens ++ before_others token [] → HasScanned source longer next behind
HasScanned-more source rest behind tokens longer place next kind lines at_end token so_far first ends counted is goes pushed = record {
  joins = λ more cut.
      let here : token ≡ token_of place kind (ends_line more) = is ∙ ends more cut in
      let onward : next ≡ place_behind place kind (feeds (front_of rest behind)) (token_of place kind (ends_line more)) =
      goes ∙ ap (λ n. place_behind place kind n token) counted ∙ ap (λ (t : Option Token). place_behind place kind (feeds (front_of rest behind)) t) here in
      let all : longer ++ tokens_of next more ≡ tokens ++ tokens_of place (piece_of kind rest behind ∷ more) =
      ap (λ (ts : List Token). ts ++ tokens_of next more) pushed
      ∙ before-append tokens token (tokens_of next more)
      ∙ ap (λ (t : Option Token). tokens ++ before_others t (tokens_of next more)) here
      ∙ ap (λ (p : Place). tokens ++ before_others (token_of place kind (ends_line more)) (tokens_of p more)) onward in
      subst (λ (ts : List Token). Spells source ts) (sym all) (so_far.joins (piece_of kind rest behind ∷ more) (cut-more kind more rest behind first cut));
  only = λ all cut.
      let left : (more : List Piece) × AreCut more rest = so_far.only all cut in
      only-more rest behind kind first left.0 left.1;
}

-- all was read
pub Spells-read : (source rest : List ℕ) (tokens longer : List Token) (place : Place) → HasScanned source tokens place rest → rest ≡ []
    → longer ≡ tokens ++ before_others (clause_end_at place place.has_token) [] → Spells source longer
Spells-read source rest tokens longer place read empty pushed =
    subst (λ (ts : List Token). Spells source ts) (sym pushed) (read.joins [] empty)

-- a rest that begins with no piece is spelled by nothing
stuck : (rest : List ℕ) (cut : List Piece) → (rest ≡ [] → ⊥) → piece_at rest ≡ None → AreCut cut rest → ⊥
stuck rest [] some none is = some is
stuck rest (piece ∷ more) some none is =
    let cuts : Cuts piece more rest = cut-first piece more rest is in
    none-not-some (piece_at rest) (piece.kind, cuts.rest) none cuts.first

pub none-spell : (source rest : List ℕ) (tokens : List Token) (place : Place) → HasScanned source tokens place rest → (rest ≡ [] → ⊥) → piece_at rest ≡ None
    → (others : List Token) → Spells source others → ⊥
none-spell source rest tokens place read some none others spelled =
    let left : (more : List Piece) × AreCut more rest = read.only spelled.pieces spelled.cut in
    stuck rest left.0 some none left.1

-- whether a piece is a comma or a hyphen
abbrev pub asks : PieceKind → Bool
asks (Written kind) = may_continue kind
asks _ = false

-- Only a comma or a hyphen asks whether a line ends behind it.
pub never-asks : (place : Place) (kind : PieceKind) (ends : Bool) → asks kind ≡ false → token_of place kind false ≡ token_of place kind ends
never-asks place Blank ends none = refl
never-asks place Nothing ends none = refl
never-asks place LineEnd ends none = refl
never-asks place Semicolon ends none = refl
never-asks place (Written kind) ends none = not-continued kind (may_continue kind) none
  where
    not-continued : (kind : TokenKind) (continues : Bool) → continues ≡ false
        → (if continues && false then None else Some (token_at place kind)) ≡ (if continues && ends then None else Some (token_at place kind))
    not-continued kind true none = cc
    not-continued kind false none = refl

-- what a function read

pub read-piece : (found : Option (PieceKind × List ℕ)) (read : Read) (piece : p.Piece) (behind : Bor (List ℕ)) → read ≡ r.Piece piece behind → IsRead found read
    → ◌≡◌ {A = Option (PieceKind × List ℕ)} found (Some (kind_of piece, behind.now))
read-piece found read piece behind is as_read = subst (λ (x : Read). IsRead found x) is as_read

pub read-refused : (found : Option (PieceKind × List ℕ)) (read : Read) (number : ℕ) → read ≡ r.Refused number → IsRead found read
    → (found ≡ None) × IsTrue (is_number number)
read-refused found read number is as_read = subst (λ (x : Read). IsRead found x) is as_read

-- The line counts the line feeds.
pub line-behind : (place : Place) (kind : PieceKind) (lines : ℕ) (token : Option Token) → (place_behind place kind lines token).line ≡ place.line + lines
line-behind place kind lines None = refl
line-behind place kind lines (Some token) = refl

pub line-next : (place next : Place) (kind : PieceKind) (lines : ℕ) (token : Option Token) → next ≡ place_behind place kind lines token → next.line ≡ place.line + lines
line-next place next kind lines token is = ap (λ (p : Place). p.line) is ∙ line-behind place kind lines token

-- at most one token more
before-length : (token : Option Token) → length (before_others token []) ≤ 1
before-length None = omega arith
before-length (Some token) = omega arith

pub push-length : (tokens longer : List Token) (token : Option Token) → longer ≡ tokens ++ before_others token [] → length longer ≤ length tokens + 1
push-length tokens longer token pushed =
    let whole : length longer ≡ length tokens + length (before_others token []) = ap length pushed ∙ length-append tokens (before_others token []) in
    let one : length (before_others token []) ≤ 1 = before-length token in
    omega arith

pub nothing-left : (bytes : List ℕ) → length bytes ≡ 0 → bytes ≡ []
nothing-left [] none = refl
nothing-left (b ∷ bytes) none = absurd (omega arith)

-- Tokens stand on lines of the source.

-- a token that has the line of its place
abbrev pub HasLine : ℕ → Option Token → Type 0
HasLine line None = Unit {0}
HasLine line (Some token) = token.line ≡ line

clause-end-line : (place : Place) (ends : Bool) → HasLine place.line (clause_end_at place ends)
clause-end-line place true = refl
clause-end-line place false = tt

written-line : (place : Place) (kind : TokenKind) (drops : Bool) → HasLine place.line (if drops then None else Some (token_at place kind))
written-line place kind true = tt
written-line place kind false = refl

token-line : (place : Place) (kind : PieceKind) (ends : Bool) → HasLine place.line (token_of place kind ends)
token-line place Blank ends = tt
token-line place Nothing ends = tt
token-line place LineEnd ends = clause-end-line place (place.has_token && not place.continued)
token-line place Semicolon ends = clause-end-line place place.has_token
token-line place (Written kind) ends = written-line place kind (may_continue kind && ends)

pub on-line-push : (source : List ℕ) (tokens longer : List Token) (token : Option Token) (line : ℕ) → All (IsOnLine source) tokens → HasLine line token
    → 1 ≤ line → line ≤ feeds source + 1 → longer ≡ tokens ++ before_others token [] → All (IsOnLine source) longer
on-line-push source tokens longer None line so_far has low high pushed =
    subst (λ (ts : List Token). All (IsOnLine source) ts) (sym (pushed ∙ append-nil tokens)) so_far
on-line-push source tokens longer (Some token) line so_far has low high pushed =
    subst (λ (ts : List Token). All (IsOnLine source) ts) (sym pushed)
    (All-push (IsOnLine source) tokens token so_far (omega arith, omega arith))

pub on-line-piece : (place : Place) (kind : PieceKind) (ends : Bool) (token : Option Token) → token ≡ token_of place kind ends → HasLine place.line token
on-line-piece place kind ends token is = subst (λ (t : Option Token). HasLine place.line t) (sym is) (token-line place kind ends)

pub on-line-end : (place : Place) (ends : Bool) → HasLine place.line (clause_end_at place ends)
on-line-end place ends = clause-end-line place ends
