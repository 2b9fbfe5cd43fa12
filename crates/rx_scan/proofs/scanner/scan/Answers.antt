use Rattle.std.proofs.Common.{◌≡◌, ◌+◌, ◌≤◌, ◌<◌, ◌++◌, ℕ, List, [], Option, Some, length, arith, rules}
use Rattle.rx_tree.specs.Pieces.{PieceKind}
use Rattle.rx_tree.specs.Spelling.{feeds, before_others, clause_end_at}
use Rattle.rx_scan.specs.Reader.{piece_at}
use Rattle.rx_scan.specs.Read.{kind_of, place_of}
use Rattle.rx_scan.proofs.CutLemmas.{front_of, feeds-split, piece_at-shorter}
use Rattle.rx_scan.proofs.ScanLemmas.{HasScanned-more, Spells-read, none-spell, read-piece, read-refused, line-next, push-length, nothing-left, on-line-push, on-line-piece, on-line-end}
use Rattle.rx_scan.proofs.scanner.scan.Goals as goal

pub returns-in-Refused-clause-tokens : goal.returns-in-Refused-clause-tokens
returns-in-Refused-clause-tokens c =
    let some : c.loop-rest.rest.now ≡ [] → ⊥ = search rules in
    let refused = read-refused (piece_at c.loop-rest.rest.now) c.in_ok-piece.field-0 c.in-Refused.number c.in-Refused.is c.in_ok-piece.ensures.piece in
    record {
      none = none-spell c.args.source.now c.loop-rest.rest.now c.loop-rest.tokens (place_of c.loop-rest.place) c.loop-rest.invariant.scanned some refused.0;
      number_is = refused.1;
      from_one = c.loop-rest.invariant.from_one;
      at_most = omega arith;
    }

pub slice_bounds-feeds-count : goal.slice_bounds-feeds-count
slice_bounds-feeds-count c =
    let first = read-piece (piece_at c.loop-rest.rest.now) c.in_ok-piece.field-0 c.in-Piece.piece c.in-Piece.behind c.in-Piece.is c.in_ok-piece.ensures.piece in
    let shorter : length c.in-Piece.behind.now < length c.loop-rest.rest.now = piece_at-shorter c.loop-rest.rest.now c.in-Piece.behind.now _ first in
    omega arith

pub loop-rest-smaller : goal.loop-rest-smaller
loop-rest-smaller c =
    let first = read-piece (piece_at c.loop-rest.rest.now) c.in_ok-piece.field-0 c.in-Piece.piece c.in-Piece.behind c.in-Piece.is c.in_ok-piece.ensures.piece in
    piece_at-shorter c.loop-rest.rest.now c.in-Piece.behind.now (kind_of c.in-Piece.piece) first

pub loop-rest-preserved : goal.loop-rest-preserved
loop-rest-preserved c =
    let kind : PieceKind = kind_of c.in-Piece.piece in
    let first : ◌≡◌ {A = Option (PieceKind × List ℕ)} (piece_at c.loop-rest.rest.now) (Some (kind, c.in-Piece.behind.now)) =
    read-piece (piece_at c.loop-rest.rest.now) c.in_ok-piece.field-0 c.in-Piece.piece c.in-Piece.behind c.in-Piece.is c.in_ok-piece.ensures.piece in
    let shorter : length c.in-Piece.behind.now < length c.loop-rest.rest.now = piece_at-shorter c.loop-rest.rest.now c.in-Piece.behind.now kind first in
    let split : feeds c.loop-rest.rest.now ≡ feeds (front_of c.loop-rest.rest.now c.in-Piece.behind.now) + feeds c.in-Piece.behind.now =
    feeds-split c.loop-rest.rest.now c.in-Piece.behind.now kind first in
    let counted : c.feeds-lines.result ≡ feeds (front_of c.loop-rest.rest.now c.in-Piece.behind.now) = c.feeds-lines.ensures in
    let line : c.pass-token.result.1.line ≡ c.loop-rest.place.line + c.feeds-lines.result =
    line-next (place_of c.loop-rest.place) (place_of c.pass-token.result.1) kind c.feeds-lines.result c.pass-token.result.0 c.pass-token.ensures.behind in
    let pushed : c.push.new.tokens ≡ c.loop-rest.tokens ++ before_others c.pass-token.result.0 [] = search rules in
    let longer : length c.push.new.tokens ≤ length c.loop-rest.tokens + 1 = push-length c.loop-rest.tokens c.push.new.tokens c.pass-token.result.0 pushed in
    record {
      scanned = HasScanned-more c.args.source.now c.loop-rest.rest.now c.in-Piece.behind.now c.loop-rest.tokens c.push.new.tokens
          (place_of c.loop-rest.place) (place_of c.pass-token.result.1) kind c.feeds-lines.result c.drops_out-at_end.result c.pass-token.result.0
          c.loop-rest.invariant.scanned first (c.drops_out-at_end.ensures (place_of c.loop-rest.place)) counted c.pass-token.ensures.token
          c.pass-token.ensures.behind pushed;
      lines = omega arith;
      from_one = let one : 1 ≤ c.loop-rest.place.line = c.loop-rest.invariant.from_one in omega arith;
      on_line = on-line-push c.args.source.now c.loop-rest.tokens c.push.new.tokens c.pass-token.result.0 c.loop-rest.place.line
          c.loop-rest.invariant.on_line (on-line-piece (place_of c.loop-rest.place) kind c.drops_out-at_end.result c.pass-token.result.0 c.pass-token.ensures.token)
          c.loop-rest.invariant.from_one (omega arith) pushed;
      few = omega arith;
    }

pub returns-clause-tokens : goal.returns-clause-tokens
returns-clause-tokens c =
    let empty : length c.loop-rest.rest.now ≡ 0 = search rules in
    let none : c.loop-rest.rest.now ≡ [] = nothing-left c.loop-rest.rest.now empty in
    let pushed : c.push-2.new.tokens ≡ c.loop-rest.tokens ++ before_others (clause_end_at (place_of c.loop-rest.place) c.loop-rest.place.has_token) [] = search rules in
    Spells-read c.args.source.now c.loop-rest.rest.now c.loop-rest.tokens c.push-2.new.tokens (place_of c.loop-rest.place) c.loop-rest.invariant.scanned none pushed

pub returns-clause-lines : goal.returns-clause-lines
returns-clause-lines c =
    let pushed : c.push-2.new.tokens ≡ c.loop-rest.tokens ++ before_others (clause_end_at (place_of c.loop-rest.place) c.loop-rest.place.has_token) [] = search rules in
    on-line-push c.args.source.now c.loop-rest.tokens c.push-2.new.tokens _ c.loop-rest.place.line c.loop-rest.invariant.on_line
    (on-line-end (place_of c.loop-rest.place) c.loop-rest.place.has_token) c.loop-rest.invariant.from_one (omega arith) pushed
