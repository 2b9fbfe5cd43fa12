-- The functions that count, look for a place or compare.
use Rattle.std.specs.Prelude.{ℕ, [], ◌∷◌, length, codes, Result, Ok}
use Rattle.rx_cutfn.specs.Searching.{pos, lastpos, verify, compare, is_abbreviation}
use Rattle.rx_cutfn.specs.Replacing.{countstr}
use Rattle.rx_builtin.specs.declared.argument.Kind.TheVariants.{Text, Count, Byte}
use Rattle.rx_builtin.specs.declared.searching.Searching.{Searching}
use Rattle.rx_builtin.specs.declared.searching.Searching.TheVariants as f
use Rattle.rx_builtin.specs.Arguments.{Arguments, text, number, byte, pad}
use Rattle.rx_builtin.specs.Rows.{Row, row}

abbrev pub searching : Searching → Row (Arguments → Result ℕ ℕ)
searching f.Abbrev =
    row (codes "ABBREV") 2 (Text ∷ Text ∷ Count ∷ []) (λ a. Ok (is_abbreviation (text 1 a) (text 2 a) (number 3 a)))
searching f.Compare = row (codes "COMPARE") 2 (Text ∷ Text ∷ Byte ∷ []) (λ a. Ok (compare (text 1 a) (text 2 a) (pad 3 a)))
searching f.Countstr = row (codes "COUNTSTR") 2 (Text ∷ Text ∷ []) (λ a. Ok (countstr (text 1 a) (text 2 a)))
searching f.Lastpos = row (codes "LASTPOS") 2 (Text ∷ Text ∷ []) (λ a. Ok (lastpos (text 1 a) (text 2 a)))
searching f.Length = row (codes "LENGTH") 1 (Text ∷ []) (λ a. Ok (length (text 1 a)))
searching f.Pos = row (codes "POS") 2 (Text ∷ Text ∷ Count ∷ []) (λ a. pos (text 1 a) (text 2 a) (number 3 a))
searching f.Verify =
    row (codes "VERIFY") 2 (Text ∷ Text ∷ Byte ∷ Count ∷ [])
    (λ a. verify (text 1 a) (text 2 a) (byte 3 a) (number 4 a))
