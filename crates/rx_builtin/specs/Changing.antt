-- The functions that give a text with other bytes, or without some.
use Rattle.std.specs.Prelude.{ℕ, List, [], ◌∷◌, codes, Result}
use Rattle.rx_cutfn.specs.Letters.{lower, translate, upper}
use Rattle.rx_cutfn.specs.Replacing.{changestr}
use Rattle.rx_cutfn.specs.Stripping.{strip}
use Rattle.rx_builtin.specs.declared.argument.Kind.TheVariants.{Text, Byte}
use Rattle.rx_builtin.specs.declared.changing.Changing.{Changing}
use Rattle.rx_builtin.specs.declared.changing.Changing.TheVariants as f
use Rattle.rx_builtin.specs.Arguments.{Arguments, argument, text, byte}
use Rattle.rx_builtin.specs.Rows.{Row, row}

abbrev pub changing : Changing → Row (Arguments → Result (List ℕ) ℕ)
changing f.Changestr = row (codes "CHANGESTR") 3 (Text ∷ Text ∷ Text ∷ []) (λ a. changestr (text 1 a) (text 2 a) (text 3 a))
changing f.Lower = row (codes "LOWER") 1 (Text ∷ []) (λ a. lower (text 1 a))
changing f.Strip = row (codes "STRIP") 1 (Text ∷ Byte ∷ Byte ∷ []) (λ a. strip (text 1 a) (byte 2 a) (byte 3 a))
changing f.Translate =
    row (codes "TRANSLATE") 1 (Text ∷ Text ∷ Text ∷ Byte ∷ [])
    (λ a. translate (text 1 a) (argument 2 a) (argument 3 a) (byte 4 a))
changing f.Upper = row (codes "UPPER") 1 (Text ∷ []) (λ a. upper (text 1 a))
