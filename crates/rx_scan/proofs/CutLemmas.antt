-- Bytes are cut into pieces in one way, piece by piece.
use Rattle.std.proofs.Common.{◌≡◌, ◌+◌, ◌-◌, ◌<◌, ℕ, suc, Bool, true, false, List, [], ◌∷◌, ◌++◌, Option, None, Some, length, take, refl, sym, ◌∙◌, ap, subst, arith, length-append}
use Rattle.std.specs.Prelude.{option_map}
use Rattle.std.proofs.Common.{inl, inr}
use Rattle.std.proofs.Math.Seq.{take-append_seam}
use Rattle.std.proofs.lemmas.List.Sums.{sum_by-append}
use Rattle.std.proofs.lemmas.Bool.{eqb-true}
use Rattle.rx_tree.specs.Letters.{is_feed, is_symbol_byte, begins}
use Rattle.rx_tree.specs.Comments.{is_line_end}
use Rattle.rx_tree.specs.Pieces.{PieceKind, Blank, Nothing, LineEnd, Semicolon, Written, Piece, IsPiece, AreCut}
use Rattle.rx_tree.specs.Spelling.{feeds, ends_line, first_place, tokens_of, AtMostOneSpelling}
use Rattle.rx_scan.specs.Reader.{piece_at, space_at}
use Rattle.rx_scan.proofs.Prefixes.{not-so}
use Rattle.rx_scan.proofs.MarkLemmas.{is_plain, mark-plain}
use Rattle.rx_scan.proofs.PieceLemmas.{piece_at-is, piece_at-written, HasPiece, IsSpace, HasSpace, space_at-is, space_at-written}

pub none-not-some : {A : Type 0} (found : Option A) (x : A) → found ≡ None → found ≡ Some x → ⊥
none-not-some None x none some = cc
none-not-some (Some y) x none some = cc

-- what of some bytes stands before their rest
abbrev pub front_of : List ℕ → List ℕ → List ℕ
front_of bytes rest = take (length bytes - length rest) bytes

pub front_of-append : (front rest : List ℕ) → front_of (front ++ rest) rest ≡ front
front_of-append front rest =
    let whole : length (front ++ rest) ≡ length front + length rest = length-append front rest in
    let less : length (front ++ rest) - length rest ≡ length front = omega arith in
    ap (λ n. take n (front ++ rest)) less ∙ take-append_seam front rest

-- the piece that is read
abbrev pub piece_of : PieceKind → List ℕ → List ℕ → Piece
piece_of kind bytes rest = record { kind = kind; written = front_of bytes rest }

-- what the first piece of a cut is
pub record Cuts (piece : Piece) (pieces : List Piece) (bytes : List ℕ) : Type 0 where
  pub rest : List ℕ
  pub first : piece_at bytes ≡ Some (piece.kind, rest)
  pub same : piece ≡ piece_of piece.kind bytes rest
  pub others : AreCut pieces rest

pub cut-first : (piece : Piece) (pieces : List Piece) (bytes : List ℕ) → AreCut (piece ∷ pieces) bytes → Cuts piece pieces bytes
cut-first piece pieces bytes cut = record {
  rest = cut.rest;
  first = ap piece_at cut.is ∙ piece_at-is piece.kind cut.rest piece.written cut.fits;
  same = ap (λ xs. record piece { written = xs }) (sym (front_of-append piece.written cut.rest) ∙ ap (λ xs. front_of xs cut.rest) (sym cut.is));
  others = cut.others;
}

pub cut-more : (kind : PieceKind) (pieces : List Piece) (bytes rest : List ℕ) → piece_at bytes ≡ Some (kind, rest) → AreCut pieces rest
    → AreCut (piece_of kind bytes rest ∷ pieces) bytes
cut-more kind pieces bytes rest first others =
    let has : HasPiece kind rest bytes = piece_at-written bytes rest kind first in
    let same : has.written ≡ front_of bytes rest = sym (front_of-append has.written rest) ∙ ap (λ xs. front_of xs rest) (sym has.is) in
    record {
      rest = rest;
      is = has.is ∙ ap (λ xs. xs ++ rest) same;
      fits = subst (λ (xs : List ℕ). IsPiece kind xs rest) same has.fits;
      others = others;
    }

-- One way.

pub cuts-same : (pieces others : List Piece) (bytes : List ℕ) → AreCut pieces bytes → AreCut others bytes → pieces ≡ others
cuts-same [] [] bytes cut again = refl
cuts-same [] (other ∷ others) bytes cut again =
    let first : Cuts other others bytes = cut-first other others bytes again in
    absurd (none-not-some (piece_at bytes) (other.kind, first.rest) (ap piece_at cut) first.first)
cuts-same (piece ∷ pieces) [] bytes cut again =
    let first : Cuts piece pieces bytes = cut-first piece pieces bytes cut in
    absurd (none-not-some (piece_at bytes) (piece.kind, first.rest) (ap piece_at again) first.first)
cuts-same (piece ∷ pieces) (other ∷ others) bytes cut again =
    let first : Cuts piece pieces bytes = cut-first piece pieces bytes cut in
    let second : Cuts other others bytes = cut-first other others bytes again in
    let pair : ◌≡◌ {A = PieceKind × List ℕ} (piece.kind, first.rest) (other.kind, second.rest) =
    let all : ◌≡◌ {A = Option (PieceKind × List ℕ)} (Some (piece.kind, first.rest)) (Some (other.kind, second.rest)) = sym first.first ∙ second.first in cc in
    let here : piece ≡ other = first.same ∙ ap (λ (t : PieceKind × List ℕ). piece_of t.0 bytes t.1) pair ∙ sym second.same in
    let later : pieces ≡ others = cuts-same pieces others first.rest first.others
    (subst (λ (r : List ℕ). AreCut others r) (sym (ap (λ (t : PieceKind × List ℕ). t.1) pair)) second.others) in
    ap (λ (p : Piece). p ∷ pieces) here ∙ ap (λ (ps : List Piece). other ∷ ps) later

pub spells-once : AtMostOneSpelling
spells-once source tokens others spelled again =
    spelled.tokens_are ∙ ap (λ (ps : List Piece). tokens_of first_place ps) (cuts-same spelled.pieces again.pieces source spelled.cut again.cut) ∙ sym again.tokens_are

-- Lines that end.

pub feeds-append : (front rest : List ℕ) → feeds (front ++ rest) ≡ feeds front + feeds rest
feeds-append front rest = sum_by-append _ front rest

pub feeds-split : (bytes rest : List ℕ) (kind : PieceKind) → piece_at bytes ≡ Some (kind, rest) → feeds bytes ≡ feeds (front_of bytes rest) + feeds rest
feeds-split bytes rest kind first =
    let has : HasPiece kind rest bytes = piece_at-written bytes rest kind first in
    let same : front_of bytes rest ≡ has.written = ap (λ xs. front_of xs rest) has.is ∙ front_of-append has.written rest in
    ap feeds has.is ∙ feeds-append has.written rest ∙ ap (λ xs. feeds xs + feeds rest) (sym same)

-- A piece takes a byte at least.

append-shorter : (front rest : List ℕ) → (front ≡ [] → ⊥) → length rest < length (front ++ rest)
append-shorter [] rest some = absurd (some refl)
append-shorter (b ∷ front) rest some =
    let whole : length (b ∷ (front ++ rest)) ≡ suc (length front + length rest) = ap suc (length-append front rest) in omega arith

-- nothing is no piece
not-empty : (kind : PieceKind) (rest written : List ℕ) → IsPiece kind written rest → written ≡ [] → ⊥
not-empty Blank rest written piece none = let no : ◌≡◌ {A = List ℕ} (piece.0 ∷ []) [] = sym piece.2 ∙ none in cc
not-empty Nothing rest written (inl comment) none = let no : ◌≡◌ {A = List ℕ} _ [] = sym comment.is ∙ none in cc
not-empty Nothing rest written (inr (inl comment)) none = let no : ◌≡◌ {A = List ℕ} _ [] = sym comment.is ∙ none in cc
not-empty Nothing rest written (inr (inr return)) none = let no : ◌≡◌ {A = List ℕ} _ [] = sym return.is ∙ none in cc
not-empty LineEnd rest written piece none = let no : ◌≡◌ {A = List ℕ} _ [] = sym piece ∙ none in cc
not-empty Semicolon rest written piece none = let no : ◌≡◌ {A = List ℕ} _ [] = sym piece ∙ none in cc
not-empty (Written kind) rest written (inl symbol) none =
    let no : false ≡ true = ap (begins is_symbol_byte) (sym none) ∙ symbol.some in cc
not-empty (Written kind) rest written (inr (inl string)) none = let no : ◌≡◌ {A = List ℕ} _ [] = sym string.is ∙ none in cc
not-empty (Written kind) rest written (inr (inr mark)) none =
    let no : false ≡ true = ap (begins is_plain) (sym none) ∙ mark-plain written kind mark.mark in cc

has-shorter : (kind : PieceKind) (rest bytes : List ℕ) → HasPiece kind rest bytes → length rest < length bytes
has-shorter kind rest bytes has =
    subst (λ (xs : List ℕ). length rest < length xs) (sym has.is) (append-shorter has.written rest (not-empty kind rest has.written has.fits))

pub piece_at-shorter : (bytes rest : List ℕ) (kind : PieceKind) → piece_at bytes ≡ Some (kind, rest) → length rest < length bytes
piece_at-shorter bytes rest kind first = has-shorter kind rest bytes (piece_at-written bytes rest kind first)

pub space_at-shorter : (bytes rest : List ℕ) (kind : PieceKind) → space_at bytes ≡ Some (kind, rest) → length rest < length bytes
space_at-shorter bytes rest kind first = has-shorter kind rest bytes (space_at-written bytes rest kind first).piece

-- Where a line ends.

-- a space at the front changes nothing
space-passes : (kind : PieceKind) (written : List ℕ) (after : List Piece) → IsSpace kind
    → ends_line (record { kind = kind; written = written } ∷ after) ≡ ends_line after
space-passes Blank written after space = refl
space-passes Nothing written after space = refl
space-passes LineEnd written after space = absurd space
space-passes Semicolon written after space = absurd space
space-passes (Written kind) written after space = absurd space

-- the bytes lead to a rest, in front of which a line ends exactly where one ends in front of them
pub record LeadsTo (bytes rest : List ℕ) : Type 0 where
  pub leads : (cut : List Piece) → AreCut cut bytes → (more : List Piece) × AreCut more rest × (ends_line cut ≡ ends_line more)

pub LeadsTo-none : (bytes : List ℕ) → LeadsTo bytes bytes
LeadsTo-none bytes = record { leads = λ cut is. (cut, is, refl) }

space-cut : (rest behind : List ℕ) (kind : PieceKind) → space_at rest ≡ Some (kind, behind) → (cut : List Piece) → AreCut cut rest
    → (more : List Piece) × AreCut more behind × (ends_line cut ≡ ends_line more)
space-cut rest behind kind first [] is = absurd (none-not-some (space_at rest) (kind, behind) (ap space_at is) first)
space-cut rest behind kind first (piece ∷ more) is =
    let has : HasSpace kind behind rest = space_at-written rest behind kind first in
    let read : piece_at rest ≡ Some (kind, behind) = ap piece_at has.piece.is ∙ piece_at-is kind behind has.piece.written has.piece.fits in
    let cuts : Cuts piece more rest = cut-first piece more rest is in
    let pair : ◌≡◌ {A = PieceKind × List ℕ} (kind, behind) (piece.kind, cuts.rest) =
    let all : ◌≡◌ {A = Option (PieceKind × List ℕ)} (Some (kind, behind)) (Some (piece.kind, cuts.rest)) = sym read ∙ cuts.first in cc in (
      more,
      subst (λ (r : List ℕ). AreCut more r) (sym (ap (λ (t : PieceKind × List ℕ). t.1) pair)) cuts.others,
      space-passes piece.kind piece.written more (subst (λ (k : PieceKind). IsSpace k) (ap (λ (t : PieceKind × List ℕ). t.0) pair) has.space),
    )

pub LeadsTo-more : (bytes rest behind : List ℕ) (kind : PieceKind) → LeadsTo bytes rest → space_at rest ≡ Some (kind, behind) → LeadsTo bytes behind
LeadsTo-more bytes rest behind kind so_far first = record {
  leads = λ cut is.
      let here : (more : List Piece) × AreCut more rest × (ends_line cut ≡ ends_line more) = so_far.leads cut is in
      let next : (more : List Piece) × AreCut more behind × (ends_line here.0 ≡ ends_line more) = space-cut rest behind kind first here.0 here.1 in
      (next.0, next.1, here.2 ∙ next.2);
}

-- what is no space shows by its first byte whether a line ends
feed-first : (b : ℕ) (bytes rest : List ℕ) (kind : PieceKind) (here : Bool) → is_feed b ≡ here → piece_at (b ∷ bytes) ≡ Some (kind, rest)
    → (kind ≡ LineEnd → here ≡ true) × (here ≡ true → kind ≡ LineEnd)
feed-first b bytes rest kind true tested first =
    let same : b ≡ 10 = eqb-true b 10 tested in
    let read : piece_at (b ∷ bytes) ≡ Some (LineEnd, bytes) = ap (λ x. piece_at (x ∷ bytes)) same in
    let all : ◌≡◌ {A = Option (PieceKind × List ℕ)} (Some (LineEnd, bytes)) (Some (kind, rest)) = sym read ∙ first in
    let pair : ◌≡◌ {A = PieceKind × List ℕ} (LineEnd, bytes) (kind, rest) = cc in
    (λ is. refl, λ is. ap (λ (t : PieceKind × List ℕ). t.0) (sym pair))
feed-first b bytes rest kind false tested first =
    let has : HasPiece kind rest (b ∷ bytes) = piece_at-written (b ∷ bytes) rest kind first in
    (λ is. line-end-first b bytes rest (subst (λ (k : PieceKind). HasPiece k rest (b ∷ bytes)) is has) tested, λ is. cc)
  where
    line-end-first : (b : ℕ) (bytes rest : List ℕ) → HasPiece LineEnd rest (b ∷ bytes) → is_feed b ≡ false → false ≡ true
    line-end-first b bytes rest has tested =
        let whole : ◌≡◌ {A = List ℕ} (b ∷ bytes) (10 ∷ rest) = has.is ∙ ap (λ xs. xs ++ rest) has.fits in
        let same : b ≡ 10 = cc in
        sym tested ∙ ap is_feed same

line-end-piece : (kind : PieceKind) (written : List ℕ) (after : List Piece) (b : ℕ) (bytes behind : List ℕ) → space_at (b ∷ bytes) ≡ None
    → b ∷ bytes ≡ written ++ behind → IsPiece kind written behind → piece_at (b ∷ bytes) ≡ Some (kind, behind)
    → is_line_end (b ∷ bytes) ≡ ends_line (record { kind = kind; written = written } ∷ after)
line-end-piece Blank written after b bytes behind none is fits first =
    absurd (none-not-some (space_at (b ∷ bytes)) (Blank, behind) none (ap space_at is ∙ space_at-is Blank behind written tt fits))
line-end-piece Nothing written after b bytes behind none is fits first =
    absurd (none-not-some (space_at (b ∷ bytes)) (Nothing, behind) none (ap space_at is ∙ space_at-is Nothing behind written tt fits))
line-end-piece LineEnd written after b bytes behind none is fits first = (feed-first b bytes behind LineEnd (is_feed b) refl first).0 refl
line-end-piece Semicolon written after b bytes behind none is fits first =
    not-so (is_feed b) (λ feed. let same : Semicolon ≡ LineEnd = (feed-first b bytes behind Semicolon (is_feed b) refl first).1 feed in cc)
line-end-piece (Written kind) written after b bytes behind none is fits first =
    not-so (is_feed b) (λ feed. let same : Written kind ≡ LineEnd = (feed-first b bytes behind (Written kind) (is_feed b) refl first).1 feed in cc)

line-end-cut : (rest : List ℕ) (piece : Piece) (after : List Piece) → space_at rest ≡ None → AreCut (piece ∷ after) rest
    → is_line_end rest ≡ ends_line (piece ∷ after)
line-end-cut [] piece after none cut =
    let cuts : Cuts piece after [] = cut-first piece after [] cut in absurd (none-not-some (piece_at []) (piece.kind, cuts.rest) refl cuts.first)
line-end-cut (b ∷ bytes) piece after none cut =
    line-end-piece piece.kind piece.written after b bytes cut.rest none cut.is cut.fits
    (ap piece_at cut.is ∙ piece_at-is piece.kind cut.rest piece.written cut.fits)

line-end : (rest : List ℕ) (cut : List Piece) → space_at rest ≡ None → AreCut cut rest → is_line_end rest ≡ ends_line cut
line-end rest [] none is = ap is_line_end is
line-end rest (piece ∷ after) none is = line-end-cut rest piece after none is

pub LeadsTo-end : (bytes rest : List ℕ) → LeadsTo bytes rest → space_at rest ≡ None → (cut : List Piece) → AreCut cut bytes → is_line_end rest ≡ ends_line cut
LeadsTo-end bytes rest so_far none cut is =
    let here : (more : List Piece) × AreCut more rest × (ends_line cut ≡ ends_line more) = so_far.leads cut is in
    line-end rest here.0 none here.1 ∙ sym here.2

-- what stands behind a space
pub behind-some : (found : Option (PieceKind × List ℕ)) (behind : List ℕ) → option_map (λ read. read.1) found ≡ Some behind
    → (kind : PieceKind) × ◌≡◌ {A = Option (PieceKind × List ℕ)} found (Some (kind, behind))
behind-some None behind is = cc
behind-some (Some read) behind is =
    let same : read.1 ≡ behind = let all : Some read.1 ≡ Some behind = is in cc in
    (read.0, ap (λ (r : List ℕ). Some (read.0, r)) same)

pub behind-none : (found : Option (PieceKind × List ℕ)) → option_map (λ read. read.1) found ≡ None → found ≡ None
behind-none None is = refl
behind-none (Some read) is = let all : Some read.1 ≡ None = is in cc

pub LeadsTo-behind : (bytes rest behind : List ℕ) → LeadsTo bytes rest → option_map (λ read. read.1) (space_at rest) ≡ Some behind → LeadsTo bytes behind
LeadsTo-behind bytes rest behind so_far is =
    let found : (kind : PieceKind) × ◌≡◌ {A = Option (PieceKind × List ℕ)} (space_at rest) (Some (kind, behind)) = behind-some (space_at rest) behind is in
    LeadsTo-more bytes rest behind found.0 so_far found.1

pub behind-shorter : (rest behind : List ℕ) → option_map (λ read. read.1) (space_at rest) ≡ Some behind → length behind < length rest
behind-shorter rest behind is =
    let found : (kind : PieceKind) × ◌≡◌ {A = Option (PieceKind × List ℕ)} (space_at rest) (Some (kind, behind)) = behind-some (space_at rest) behind is in
    space_at-shorter rest behind found.0 found.1
