-- The conversions, and DATATYPE; `d` is DIGITS.
use Rattle.std.specs.Prelude.{ℕ, List, [], ◌∷◌, codes, Result}
use Rattle.rx_convfn.specs.Conversions.{b2x, c2d, c2x, d2c, d2x, x2b, x2c, x2d, xrange}
use Rattle.rx_convfn.specs.Kinds.{datatype}
use Rattle.rx_builtin.specs.declared.argument.Kind.TheVariants.{Text, Count, Byte}
use Rattle.rx_builtin.specs.declared.conversion.Conversion.{Conversion}
use Rattle.rx_builtin.specs.declared.conversion.Conversion.TheVariants as f
use Rattle.rx_builtin.specs.Answers.{in_digits}
use Rattle.rx_builtin.specs.Arguments.{Arguments, text, count, byte}
use Rattle.rx_builtin.specs.Rows.{Row, row}

abbrev pub conversion : Conversion → Row (Arguments → ℕ → Result (List ℕ) ℕ)
conversion f.B2x = row (codes "B2X") 1 (Text ∷ []) (λ a d. b2x (text 1 a))
conversion f.C2d = row (codes "C2D") 1 (Text ∷ []) (λ a d. in_digits (c2d (text 1 a) d))
conversion f.C2x = row (codes "C2X") 1 (Text ∷ []) (λ a d. c2x (text 1 a))
conversion f.D2c = row (codes "D2C") 1 (Count ∷ []) (λ a d. d2c (count 1 a))
conversion f.D2x = row (codes "D2X") 1 (Count ∷ []) (λ a d. d2x (count 1 a))
conversion f.Datatype = row (codes "DATATYPE") 1 (Text ∷ Byte ∷ []) (λ a d. datatype (text 1 a) (byte 2 a))
conversion f.X2b = row (codes "X2B") 1 (Text ∷ []) (λ a d. x2b (text 1 a))
conversion f.X2c = row (codes "X2C") 1 (Text ∷ []) (λ a d. x2c (text 1 a))
conversion f.X2d = row (codes "X2D") 1 (Text ∷ []) (λ a d. in_digits (x2d (text 1 a) d))
conversion f.Xrange = row (codes "XRANGE") 0 (Byte ∷ Byte ∷ []) (λ a d. xrange (byte 1 a) (byte 2 a))
