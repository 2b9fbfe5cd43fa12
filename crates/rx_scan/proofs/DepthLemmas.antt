-- The depth of brackets, token by token.
use Rattle.std.proofs.Common.{◌≡◌, ◌<◌, ◌≤◌, ◌+◌, ℕ, suc, List, [], ◌∷◌, length, drop, get_or, sym, ◌∙◌, ap, arith, add-one}
use Rattle.std.specs.Prelude.{max}
use Rattle.std.proofs.Math.Seq.{drop-cons}
use Rattle.rx_tree.specs.declared.token.Token.{Token}
use Rattle.rx_tree.specs.declared.token.TokenKind.{TokenKind}
use Rattle.rx_tree.specs.declared.token.TokenKind.TheVariants.{LeftParen, RightParen, LeftBracket, RightBracket}
use Rattle.rx_scan.specs.Depth.{depth_behind, depth_from, kind_of_token}

-- the greatest depth is no less than the first
pub depth_from-least : (depth : ℕ) (tokens : List Token) → depth ≤ depth_from depth tokens
depth_from-least depth [] = omega arith
depth_from-least depth (token ∷ tokens) = omega arith

-- one token more
pub depth_from-at : (tokens : List Token) (i depth : ℕ) (token : Token) → i < length tokens → token ≡ get_or tokens i token
    → depth_from depth (drop i tokens) ≡ max depth (depth_from (depth_behind depth (kind_of_token token)) (drop (i + 1) tokens))
depth_from-at tokens i depth token within is =
    ap (depth_from depth) (drop-cons tokens i token within)
    ∙ ap (λ (t : Token). max depth (depth_from (depth_behind depth (kind_of_token t)) (drop (suc i) tokens))) (sym is)
    ∙ ap (λ n. max depth (depth_from (depth_behind depth (kind_of_token token)) (drop n tokens))) (sym (add-one i))

-- one token adds one bracket at most
pub depth_behind-most : (depth : ℕ) (kind : TokenKind) → depth_behind depth kind ≤ depth + 1
depth_behind-most depth LeftParen = omega arith
depth_behind-most depth LeftBracket = omega arith
depth_behind-most depth RightParen = omega arith
depth_behind-most depth RightBracket = omega arith
depth_behind-most depth _ = omega arith

pub greatest-step : (greatest depth next here later whole : ℕ) → max greatest here ≡ whole → here ≡ max depth later → depth ≤ greatest → next ≤ later
    → max (max greatest next) later ≡ whole
greatest-step greatest depth next here later whole so_far is below least = omega arith
