-- The piece at the front of some bytes is what `IsPiece` means.
use Rattle.std.proofs.Common.{◌≡◌, ◌==◌, inl, inr, ℕ, suc, Bool, true, false, not, cond, ◌||◌, ◌&&◌, List, [], ◌∷◌, ◌++◌, Option, None, Some, length, take, drop, refl, sym, ◌∙◌, ap, subst, arith}
use Rattle.std.proofs.lemmas.List.{take-append-drop}
use Rattle.std.proofs.Math.Seq.{take-append_seam, drop-append_seam}
use Rattle.std.proofs.lemmas.Bool.{eqb-true, cond-true, cond-false, or_cases, or_parts, and_parts, not-true}
use Rattle.std.specs.List.{list_all, prefix_len}
use Rattle.std.specs.Str.{str_to_ascii_uppercase}
use Rattle.rx_tree.specs.declared.token.TokenKind.{TokenKind}
use Rattle.rx_tree.specs.Letters.{is_blank, is_feed, is_quote, is_symbol_byte, begins}
use Rattle.rx_tree.specs.Symbols.{symbol_of, IsSymbol}
use Rattle.rx_tree.specs.Strings.{doubled, IsString}
use Rattle.rx_tree.specs.Marks.{IsMark}
use Rattle.rx_tree.specs.Comments.{Inside, inside_bytes, IsInside, is_opening, is_line_end}
use Rattle.rx_tree.specs.Pieces.{PieceKind, Blank, Nothing, LineEnd, Semicolon, Written, IsPiece}
use Rattle.rx_scan.specs.Reader.{symbol_at, string_at, close_from, line_rest, comment_at, nothing_before, space_at, mark_at, written_before, or_mark, other_at, piece_at}
use Rattle.rx_scan.proofs.Prefixes.{prefix_len-all, prefix_len-stops, prefix_len-is}
use Rattle.rx_scan.proofs.CommentLemmas.{closes, close_from-written, HasInside}
use Rattle.rx_scan.proofs.MarkLemmas.{mark_at-is, mark_at-written, mark-no_comment, mark-plain, is_plain, HasMark}
use Rattle.rx_scan.proofs.StringLemmas.{some-pair, string_at-is, string_at-written, HasString}

-- A piece that is written at the front is the one that is read.

line_end-stops : (rest : List ℕ) → is_line_end rest ≡ true → begins (λ b. not (is_feed b)) rest ≡ false
line_end-stops [] ends = refl
line_end-stops (b ∷ rest) ends = ap not ends

line_rest-text : (text rest : List ℕ) → list_all (λ b. not (is_feed b)) text ≡ true → is_line_end rest ≡ true → line_rest (text ++ rest) ≡ rest
line_rest-text text rest one_line ends =
    ap (λ n. drop n (text ++ rest)) (prefix_len-is (λ b. not (is_feed b)) text rest one_line (line_end-stops rest ends)) ∙ drop-append_seam text rest

blank-is : (b : ℕ) (rest : List ℕ) → is_blank b ≡ true → (space_at (b ∷ rest) ≡ Some (Blank, rest)) × (piece_at (b ∷ rest) ≡ Some (Blank, rest))
blank-is b rest is = elim (or_cases (b == 32) (b == 9) is) [
  | inl space ↦ subst (λ (x : ℕ). (space_at (x ∷ rest) ≡ Some (Blank, rest)) × (piece_at (x ∷ rest) ≡ Some (Blank, rest))) (sym (eqb-true b 32 space)) (refl, refl)
  | inr tab ↦ subst (λ (x : ℕ). (space_at (x ∷ rest) ≡ Some (Blank, rest)) × (piece_at (x ∷ rest) ≡ Some (Blank, rest))) (sym (eqb-true b 9 tab)) (refl, refl)
]

comment-space : (inside : Inside) (rest : List ℕ) → IsInside inside → space_at (47 ∷ (42 ∷ (inside_bytes inside ++ rest))) ≡ Some (Nothing, rest)
comment-space inside rest well = ap nothing_before (closes inside 0 rest well)

line-space : (text rest : List ℕ) → list_all (λ b. not (is_feed b)) text ≡ true → is_line_end rest ≡ true
    → space_at (45 ∷ (45 ∷ (text ++ rest))) ≡ Some (Nothing, rest)
line-space text rest one_line ends = ap (λ xs. Some (Nothing, xs)) (line_rest-text text rest one_line ends)

return-space : (rest : List ℕ) → begins is_feed rest ≡ true → space_at (13 ∷ rest) ≡ Some (Nothing, rest)
return-space rest ends = ap (λ t. cond t (Some (Nothing, rest)) (nothing_before (comment_at (13 ∷ rest)))) ends

nothing-space : (rest written : List ℕ) → IsPiece Nothing written rest → (space_at (written ++ rest) ≡ Some (Nothing, rest)) × (piece_at (written ++ rest) ≡ Some (Nothing, rest))
nothing-space rest written (inl comment) =
    let space : space_at (47 ∷ (42 ∷ (inside_bytes comment.inside ++ rest))) ≡ Some (Nothing, rest) = comment-space comment.inside rest comment.well in (
      ap (λ xs. space_at (xs ++ rest)) comment.is ∙ space,
      ap (λ xs. piece_at (xs ++ rest)) comment.is ∙ ap (λ s. or_mark s (47 ∷ (42 ∷ (inside_bytes comment.inside ++ rest)))) space,
    )
nothing-space rest written (inr (inl comment)) =
    let space : space_at (45 ∷ (45 ∷ (comment.text ++ rest))) ≡ Some (Nothing, rest) = line-space comment.text rest comment.one_line comment.ends in (
      ap (λ xs. space_at (xs ++ rest)) comment.is ∙ space,
      ap (λ xs. piece_at (xs ++ rest)) comment.is ∙ ap (λ s. or_mark s (45 ∷ (45 ∷ (comment.text ++ rest)))) space,
    )
nothing-space rest written (inr (inr return)) =
    let space : space_at (13 ∷ rest) ≡ Some (Nothing, rest) = return-space rest return.ends in (
      ap (λ xs. space_at (xs ++ rest)) return.is ∙ space,
      ap (λ xs. piece_at (xs ++ rest)) return.is ∙ ap (λ s. or_mark s (13 ∷ rest)) space,
    )

symbol_at-is : (kind : TokenKind) (rest written : List ℕ) → IsSymbol kind written rest → symbol_at (written ++ rest) ≡ (kind, rest)
symbol_at-is kind rest written token =
    let count : prefix_len is_symbol_byte (written ++ rest) ≡ length written = prefix_len-is is_symbol_byte written rest token.all token.ends in
    ap (λ n. (symbol_of (str_to_ascii_uppercase (take n (written ++ rest))), drop n (written ++ rest))) count
    ∙ ap (λ xs. (symbol_of (str_to_ascii_uppercase xs), drop (length written) (written ++ rest))) (take-append_seam written rest)
    ∙ ap (λ xs. (symbol_of (str_to_ascii_uppercase written), xs)) (drop-append_seam written rest)
    ∙ ap (λ (k : TokenKind). (k, rest)) (sym token.is)

symbol-is : (kind : TokenKind) (rest written : List ℕ) → IsSymbol kind written rest → piece_at (written ++ rest) ≡ Some (Written kind, rest)
symbol-is kind rest [] token = let none : false ≡ true = token.some in cc
symbol-is kind rest (b ∷ written) token =
    cond-true _ _ _ token.some ∙ ap (λ (r : TokenKind × List ℕ). written_before (Some r)) (symbol_at-is kind rest (b ∷ written) token)

string-is : (kind : TokenKind) (rest written : List ℕ) → IsString kind written rest → piece_at (written ++ rest) ≡ Some (Written kind, rest)
string-is kind rest written token = elim (or_cases (token.quote == 39) (token.quote == 34) token.quotes) [
  | inl single ↦ string-with kind rest written 39 token (eqb-true token.quote 39 single) (λ bytes. refl)
  | inr double ↦ string-with kind rest written 34 token (eqb-true token.quote 34 double) (λ bytes. refl)
]
  where
    string-with : (kind : TokenKind) (rest written : List ℕ) (quote : ℕ) (token : IsString kind written rest) → token.quote ≡ quote
        → ((bytes : List ℕ) → piece_at (quote ∷ bytes) ≡ string_at quote bytes) → piece_at (written ++ rest) ≡ Some (Written kind, rest)
    string-with kind rest written quote token same reads =
        ap (λ xs. piece_at (xs ++ rest)) token.is
        ∙ ap (λ q. piece_at (q ∷ ((doubled token.quote token.text ++ (token.quote ∷ token.suffix)) ++ rest))) same
        ∙ reads ((doubled token.quote token.text ++ (token.quote ∷ token.suffix)) ++ rest)
        ∙ ap (λ q. string_at q ((doubled token.quote token.text ++ (token.quote ∷ token.suffix)) ++ rest)) (sym same)
        ∙ string_at-is token.quote kind token.text token.suffix rest token.one_line token.ends token.meant

-- a byte that begins a mark begins nothing else
plain-piece : (b : ℕ) (bytes : List ℕ) → is_plain b ≡ true → comment_at (b ∷ bytes) ≡ None → piece_at (b ∷ bytes) ≡ written_before (mark_at (b ∷ bytes))
plain-piece b bytes plain none =
    let all : (is_symbol_byte b || (is_quote b || ((b == 10) || ((b == 59) || (is_blank b || (b == 13)))))) ≡ false = not-true _ plain in
    let one : (is_symbol_byte b ≡ false) × ((is_quote b || ((b == 10) || ((b == 59) || (is_blank b || (b == 13))))) ≡ false) = or_parts _ _ all in
    let two : (is_quote b ≡ false) × (((b == 10) || ((b == 59) || (is_blank b || (b == 13)))) ≡ false) = or_parts _ _ one.1 in
    let three : ((b == 10) ≡ false) × (((b == 59) || (is_blank b || (b == 13))) ≡ false) = or_parts _ _ two.1 in
    let four : ((b == 59) ≡ false) × ((is_blank b || (b == 13)) ≡ false) = or_parts _ _ three.1 in
    let five : (is_blank b ≡ false) × ((b == 13) ≡ false) = or_parts _ _ four.1 in
    let space : space_at (b ∷ bytes) ≡ None =
    cond-false _ _ _ five.0 ∙ ap (λ t. cond (t && begins is_feed bytes) (Some (Nothing, bytes)) (nothing_before (comment_at (b ∷ bytes)))) five.1
    ∙ ap nothing_before none in
    cond-false _ _ _ one.0 ∙ cond-false _ _ _ two.0 ∙ cond-false _ _ _ three.0 ∙ cond-false _ _ _ four.0 ∙ ap (λ s. or_mark s (b ∷ bytes)) space

mark-is : (kind : TokenKind) (rest written : List ℕ) → IsMark kind written rest → piece_at (written ++ rest) ≡ Some (Written kind, rest)
mark-is kind rest [] token = let none : false ≡ true = mark-plain [] kind token.mark in cc
mark-is kind rest (b ∷ written) token =
    plain-piece b (written ++ rest) (mark-plain (b ∷ written) kind token.mark) (mark-no_comment kind rest (b ∷ written) token)
    ∙ ap written_before (mark_at-is kind rest (b ∷ written) token)

pub piece_at-is : (kind : PieceKind) (rest written : List ℕ) → IsPiece kind written rest → piece_at (written ++ rest) ≡ Some (kind, rest)
piece_at-is Blank rest written piece = ap (λ xs. piece_at (xs ++ rest)) piece.2 ∙ (blank-is piece.0 rest piece.1).1
piece_at-is Nothing rest written piece = (nothing-space rest written piece).1
piece_at-is LineEnd rest written piece = ap (λ xs. piece_at (xs ++ rest)) piece
piece_at-is Semicolon rest written piece = ap (λ xs. piece_at (xs ++ rest)) piece
piece_at-is (Written kind) rest written (inl symbol) = symbol-is kind rest written symbol
piece_at-is (Written kind) rest written (inr (inl string)) = string-is kind rest written string
piece_at-is (Written kind) rest written (inr (inr mark)) = mark-is kind rest written mark

-- Blanks and what counts as nothing.
abbrev pub IsSpace : PieceKind → Type 0
IsSpace Blank = Unit {0}
IsSpace Nothing = Unit {0}
IsSpace _ = ⊥

pub space_at-is : (kind : PieceKind) (rest written : List ℕ) → IsSpace kind → IsPiece kind written rest → space_at (written ++ rest) ≡ Some (kind, rest)
space_at-is Blank rest written space piece = ap (λ xs. space_at (xs ++ rest)) piece.2 ∙ (blank-is piece.0 rest piece.1).0
space_at-is Nothing rest written space piece = (nothing-space rest written piece).0
space_at-is _ rest written space piece = absurd space

-- The piece that is read is written at the front.

pub record HasPiece (kind : PieceKind) (rest bytes : List ℕ) : Type 0 where
  pub written : List ℕ
  pub is : bytes ≡ written ++ rest
  pub fits : IsPiece kind written rest

pub record HasSpace (kind : PieceKind) (rest bytes : List ℕ) : Type 0 where
  pub space : IsSpace kind
  pub piece : HasPiece kind rest bytes

line_rest-ends : (bytes : List ℕ) → is_line_end (line_rest bytes) ≡ true
line_rest-ends bytes = stops-at (line_rest bytes) (prefix_len-stops (λ b. not (is_feed b)) bytes)
  where
    stops-at : (rest : List ℕ) → begins (λ b. not (is_feed b)) rest ≡ false → is_line_end rest ≡ true
    stops-at [] stops = refl
    stops-at (b ∷ rest) stops = feed-stops (is_feed b) stops
      where
        feed-stops : (feed : Bool) → not feed ≡ false → feed ≡ true
        feed-stops true stops = refl
        feed-stops false stops = cc

-- a comment is closed in front of the rest
comment-closed : (bytes rest : List ℕ) → close_from 0 bytes ≡ Some rest → HasSpace Nothing rest (47 ∷ (42 ∷ bytes))
comment-closed bytes rest is =
    let has : HasInside bytes (λ behind. behind ≡ rest) = close_from-written bytes 0 rest is in
    record {
      space = tt;
      piece = record {
        written = 47 ∷ (42 ∷ inside_bytes has.inside);
        is = ap (λ xs. 47 ∷ (42 ∷ xs)) (has.is ∙ ap (λ xs. inside_bytes has.inside ++ xs) has.then);
        fits = inl (record { inside = has.inside; is = refl; well = has.well });
      };
    }

line-closed : (bytes : List ℕ) → HasSpace Nothing (line_rest bytes) (45 ∷ (45 ∷ bytes))
line-closed bytes = record {
  space = tt;
  piece = record {
    written = 45 ∷ (45 ∷ take (prefix_len (λ b. not (is_feed b)) bytes) bytes);
    is = ap (λ xs. 45 ∷ (45 ∷ xs)) (sym (take-append-drop (prefix_len (λ b. not (is_feed b)) bytes) bytes));
    fits = inr (inl (record {
      text = take (prefix_len (λ b. not (is_feed b)) bytes) bytes;
      is = refl;
      one_line = prefix_len-all (λ b. not (is_feed b)) bytes;
      ends = line_rest-ends bytes;
    }));
  };
}

nothing-some : (found : Option (List ℕ)) (kind : PieceKind) (rest : List ℕ) → nothing_before found ≡ Some (kind, rest) → (found ≡ Some rest) × (kind ≡ Nothing)
nothing-some None kind rest is = cc
nothing-some (Some behind) kind rest is =
    let pair : (Nothing, behind) ≡ (kind, rest) = let all : Some (Nothing, behind) ≡ Some (kind, rest) = is in cc in
    (ap (λ (t : PieceKind × List ℕ). Some t.1) pair, ap (λ (t : PieceKind × List ℕ). t.0) (sym pair))

two-bytes : (b c first second : ℕ) → ((b == first) && (c == second)) ≡ true → (b ≡ first) × (c ≡ second)
two-bytes b c first second is =
    let both : ((b == first) ≡ true) × ((c == second) ≡ true) = and_parts (b == first) (c == second) is in
    (eqb-true b first both.0, eqb-true c second both.1)

hyphens-written : (b c : ℕ) (bytes rest : List ℕ) (hyphens : Bool) → ((b == 45) && (c == 45)) ≡ hyphens
    → cond hyphens (Some (line_rest bytes)) None ≡ Some rest → HasSpace Nothing rest (b ∷ (c ∷ bytes))
hyphens-written b c bytes rest true tested is =
    let same : (b ≡ 45) × (c ≡ 45) = two-bytes b c 45 45 tested in
    let behind : line_rest bytes ≡ rest = let all : Some (line_rest bytes) ≡ Some rest = is in cc in
    subst (λ (x : ℕ). HasSpace Nothing rest (x ∷ (c ∷ bytes))) (sym same.0)
    (subst (λ (y : ℕ). HasSpace Nothing rest (45 ∷ (y ∷ bytes))) (sym same.1)
    (subst (λ (r : List ℕ). HasSpace Nothing r (45 ∷ (45 ∷ bytes))) behind (line-closed bytes)))
hyphens-written b c bytes rest false tested is = cc

opening-written : (b c : ℕ) (bytes rest : List ℕ) (opens : Bool) → is_opening b c ≡ opens
    → cond opens (close_from 0 bytes) (cond ((b == 45) && (c == 45)) (Some (line_rest bytes)) None) ≡ Some rest → HasSpace Nothing rest (b ∷ (c ∷ bytes))
opening-written b c bytes rest true tested is =
    let same : (b ≡ 47) × (c ≡ 42) = two-bytes b c 47 42 tested in
    subst (λ (x : ℕ). HasSpace Nothing rest (x ∷ (c ∷ bytes))) (sym same.0)
    (subst (λ (y : ℕ). HasSpace Nothing rest (47 ∷ (y ∷ bytes))) (sym same.1) (comment-closed bytes rest is))
opening-written b c bytes rest false tested is = hyphens-written b c bytes rest ((b == 45) && (c == 45)) refl is

comment-written : (bytes rest : List ℕ) → comment_at bytes ≡ Some rest → HasSpace Nothing rest bytes
comment-written [] rest is = cc
comment-written (b ∷ []) rest is = cc
comment-written (b ∷ (c ∷ bytes)) rest is = opening-written b c bytes rest (is_opening b c) refl is

return-written : (b : ℕ) (bytes rest : List ℕ) (kind : PieceKind) (returns : Bool) → ((b == 13) && begins is_feed bytes) ≡ returns
    → cond returns (Some (Nothing, bytes)) (nothing_before (comment_at (b ∷ bytes))) ≡ Some (kind, rest) → HasSpace kind rest (b ∷ bytes)
return-written b bytes rest kind true tested is =
    let both : ((b == 13) ≡ true) × (begins is_feed bytes ≡ true) = and_parts (b == 13) (begins is_feed bytes) tested in
    some-pair Nothing kind bytes rest (λ k r. HasSpace k r (b ∷ bytes)) is (record {
      space = tt;
      piece = record {
        written = b ∷ [];
        is = refl;
        fits = inr (inr (record { is = ap (λ x. x ∷ []) (eqb-true b 13 both.0); ends = both.1 }));
      };
    })
return-written b bytes rest kind false tested is =
    let found : (comment_at (b ∷ bytes) ≡ Some rest) × (kind ≡ Nothing) = nothing-some (comment_at (b ∷ bytes)) kind rest is in
    subst (λ (k : PieceKind). HasSpace k rest (b ∷ bytes)) (sym found.1) (comment-written (b ∷ bytes) rest found.0)

blank-written : (b : ℕ) (bytes rest : List ℕ) (kind : PieceKind) (blank : Bool) → is_blank b ≡ blank
    → cond blank (Some (Blank, bytes)) (cond ((b == 13) && begins is_feed bytes) (Some (Nothing, bytes)) (nothing_before (comment_at (b ∷ bytes)))) ≡ Some (kind, rest)
    → HasSpace kind rest (b ∷ bytes)
blank-written b bytes rest kind true tested is =
    some-pair Blank kind bytes rest (λ k r. HasSpace k r (b ∷ bytes)) is
    (record { space = tt; piece = record { written = b ∷ []; is = refl; fits = (b, tested, refl) } })
blank-written b bytes rest kind false tested is = return-written b bytes rest kind ((b == 13) && begins is_feed bytes) refl is

pub space_at-written : (bytes rest : List ℕ) (kind : PieceKind) → space_at bytes ≡ Some (kind, rest) → HasSpace kind rest bytes
space_at-written [] rest kind is = cc
space_at-written (b ∷ bytes) rest kind is = blank-written b bytes rest kind (is_blank b) refl is

mark-written : (bytes rest : List ℕ) (kind : PieceKind) (found : Option (TokenKind × List ℕ)) → mark_at bytes ≡ found → written_before found ≡ Some (kind, rest)
    → HasPiece kind rest bytes
mark-written bytes rest kind None read is = cc
mark-written bytes rest kind (Some found) read is =
    let has : HasMark found.0 found.1 bytes = mark_at-written found.0 found.1 bytes read in
    some-pair (Written found.0) kind found.1 rest (λ k r. HasPiece k r bytes) is
    (record { written = has.written; is = has.is; fits = inr (inr has.mark) })

other-written : (bytes rest : List ℕ) (kind : PieceKind) (found : Option (PieceKind × List ℕ)) → space_at bytes ≡ found → or_mark found bytes ≡ Some (kind, rest)
    → HasPiece kind rest bytes
other-written bytes rest kind None read is = mark-written bytes rest kind (mark_at bytes) refl is
other-written bytes rest kind (Some found) read is = (space_at-written bytes rest kind (read ∙ is)).piece

semicolon-written : (b : ℕ) (bytes rest : List ℕ) (kind : PieceKind) (here : Bool) → (b == 59) ≡ here
    → cond here (Some (Semicolon, bytes)) (other_at (b ∷ bytes)) ≡ Some (kind, rest) → HasPiece kind rest (b ∷ bytes)
semicolon-written b bytes rest kind true tested is =
    some-pair Semicolon kind bytes rest (λ k r. HasPiece k r (b ∷ bytes)) is
    (record { written = b ∷ []; is = refl; fits = ap (λ x. x ∷ []) (eqb-true b 59 tested) })
semicolon-written b bytes rest kind false tested is = other-written (b ∷ bytes) rest kind (space_at (b ∷ bytes)) refl is

feed-written : (b : ℕ) (bytes rest : List ℕ) (kind : PieceKind) (here : Bool) → (b == 10) ≡ here
    → cond here (Some (LineEnd, bytes)) (cond (b == 59) (Some (Semicolon, bytes)) (other_at (b ∷ bytes))) ≡ Some (kind, rest) → HasPiece kind rest (b ∷ bytes)
feed-written b bytes rest kind true tested is =
    some-pair LineEnd kind bytes rest (λ k r. HasPiece k r (b ∷ bytes)) is
    (record { written = b ∷ []; is = refl; fits = ap (λ x. x ∷ []) (eqb-true b 10 tested) })
feed-written b bytes rest kind false tested is = semicolon-written b bytes rest kind (b == 59) refl is

quote-written : (b : ℕ) (bytes rest : List ℕ) (kind : PieceKind) (here : Bool) → is_quote b ≡ here
    → cond here (string_at b bytes) (cond (b == 10) (Some (LineEnd, bytes)) (cond (b == 59) (Some (Semicolon, bytes)) (other_at (b ∷ bytes)))) ≡ Some (kind, rest)
    → HasPiece kind rest (b ∷ bytes)
quote-written b bytes rest kind true tested is =
    let has : HasString kind rest (b ∷ bytes) = string_at-written b bytes rest kind tested is in
    subst (λ (k : PieceKind). HasPiece k rest (b ∷ bytes)) (sym has.kind_is)
    (record { written = has.written; is = has.is; fits = inr (inl has.string) })
quote-written b bytes rest kind false tested is = feed-written b bytes rest kind (b == 10) refl is

symbol-front : (b : ℕ) (bytes : List ℕ) → is_symbol_byte b ≡ true → begins is_symbol_byte (take (prefix_len is_symbol_byte (b ∷ bytes)) (b ∷ bytes)) ≡ true
symbol-front b bytes is =
    let next : prefix_len is_symbol_byte (b ∷ bytes) ≡ suc (prefix_len is_symbol_byte bytes) =
    cond-true _ _ _ is ∙ omega arith in
    ap (λ n. begins is_symbol_byte (take n (b ∷ bytes))) next ∙ is

symbol-written : (b : ℕ) (bytes rest : List ℕ) (kind : PieceKind) (here : Bool) → is_symbol_byte b ≡ here
    → cond here (written_before (Some (symbol_at (b ∷ bytes)))) (cond (is_quote b) (string_at b bytes) (cond (b == 10) (Some (LineEnd, bytes))
    (cond (b == 59) (Some (Semicolon, bytes)) (other_at (b ∷ bytes))))) ≡ Some (kind, rest)
    → HasPiece kind rest (b ∷ bytes)
symbol-written b bytes rest kind true tested is =
    let n : ℕ = prefix_len is_symbol_byte (b ∷ bytes) in
    let symbol : List ℕ = take n (b ∷ bytes) in
    some-pair (Written (symbol_of (str_to_ascii_uppercase symbol))) kind (drop n (b ∷ bytes)) rest (λ k r. HasPiece k r (b ∷ bytes)) is (record {
      written = symbol;
      is = sym (take-append-drop n (b ∷ bytes));
      fits = inl (record {
        some = symbol-front b bytes tested;
        all = prefix_len-all is_symbol_byte (b ∷ bytes);
        ends = prefix_len-stops is_symbol_byte (b ∷ bytes);
        is = refl;
      });
    })
symbol-written b bytes rest kind false tested is = quote-written b bytes rest kind (is_quote b) refl is

pub piece_at-written : (bytes rest : List ℕ) (kind : PieceKind) → piece_at bytes ≡ Some (kind, rest) → HasPiece kind rest bytes
piece_at-written [] rest kind is = cc
piece_at-written (b ∷ bytes) rest kind is = symbol-written b bytes rest kind (is_symbol_byte b) refl is
