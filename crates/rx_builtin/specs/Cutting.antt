-- The functions that cut, pad and join texts: each with its name, how many arguments it needs, the kinds of all that it
-- takes, and its value.
use Rattle.std.specs.Prelude.{ℕ, List, [], ◌∷◌, codes, Result}
use Rattle.rx_cutfn.specs.Cutting.{center, copies, delstr, insert, left, overlay, right, substr, turned}
use Rattle.rx_builtin.specs.declared.argument.Kind.TheVariants.{Text, Count, Byte}
use Rattle.rx_builtin.specs.declared.cutting.Cutting.{Cutting}
use Rattle.rx_builtin.specs.declared.cutting.Cutting.TheVariants as f
use Rattle.rx_builtin.specs.Arguments.{Arguments, text, count, number, pad}
use Rattle.rx_builtin.specs.Rows.{Row, row}

abbrev pub cutting : Cutting → Row (Arguments → Result (List ℕ) ℕ)
cutting f.Center = row (codes "CENTER") 2 (Text ∷ Count ∷ Byte ∷ []) (λ a. center (text 1 a) (count 2 a) (pad 3 a))
cutting f.Copies = row (codes "COPIES") 2 (Text ∷ Count ∷ []) (λ a. copies (text 1 a) (count 2 a))
cutting f.Delstr = row (codes "DELSTR") 2 (Text ∷ Count ∷ Count ∷ []) (λ a. delstr (text 1 a) (count 2 a) (number 3 a))
cutting f.Insert =
    row (codes "INSERT") 2 (Text ∷ Text ∷ Count ∷ Count ∷ Byte ∷ [])
    (λ a. insert (text 1 a) (text 2 a) (number 3 a) (number 4 a) (pad 5 a))
cutting f.Left = row (codes "LEFT") 2 (Text ∷ Count ∷ Byte ∷ []) (λ a. left (text 1 a) (count 2 a) (pad 3 a))
cutting f.Overlay =
    row (codes "OVERLAY") 2 (Text ∷ Text ∷ Count ∷ Count ∷ Byte ∷ [])
    (λ a. overlay (text 1 a) (text 2 a) (number 3 a) (number 4 a) (pad 5 a))
cutting f.Reverse = row (codes "REVERSE") 1 (Text ∷ []) (λ a. turned (text 1 a))
cutting f.Right = row (codes "RIGHT") 2 (Text ∷ Count ∷ Byte ∷ []) (λ a. right (text 1 a) (count 2 a) (pad 3 a))
cutting f.Substr =
    row (codes "SUBSTR") 2 (Text ∷ Count ∷ Count ∷ Byte ∷ [])
    (λ a. substr (text 1 a) (count 2 a) (number 3 a) (pad 4 a))
