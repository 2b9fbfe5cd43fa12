-- The built-in functions by their names, and the value of a call.
use Rattle.std.specs.Prelude.{ℕ, Bool, is_some, if◌then◌else◌, List, [], ◌∷◌, find, Option, option_map, Result, Err}
use Rattle.std.specs.Str.{bytes_eq}
use Rattle.rx_builtin.specs.declared.facts.Facts.{Facts}
use Rattle.rx_builtin.specs.declared.function.Function.{Function}
use Rattle.rx_builtin.specs.declared.function.Function.TheVariants as f
use Rattle.rx_builtin.specs.declared.changing.Changing.TheVariants as h
use Rattle.rx_builtin.specs.declared.conversion.Conversion.TheVariants as v
use Rattle.rx_builtin.specs.declared.cutting.Cutting.TheVariants as c
use Rattle.rx_builtin.specs.declared.frame.OfFrame.TheVariants as q
use Rattle.rx_builtin.specs.declared.number.OnNumbers.TheVariants as n
use Rattle.rx_builtin.specs.declared.searching.Searching.TheVariants as s
use Rattle.rx_builtin.specs.declared.word.OnWords.TheVariants as w
use Rattle.rx_builtin.specs.Answers.{in_digits, limited}
use Rattle.rx_builtin.specs.Arguments.{Arguments, fits}
use Rattle.rx_builtin.specs.Changing.{changing}
use Rattle.rx_builtin.specs.Conversions.{conversion}
use Rattle.rx_builtin.specs.Cutting.{cutting}
use Rattle.rx_builtin.specs.Frames.{of_frame}
use Rattle.rx_builtin.specs.Numbers.{on_numbers}
use Rattle.rx_builtin.specs.Rows.{Signature}
use Rattle.rx_builtin.specs.Searching.{searching}
use Rattle.rx_builtin.specs.Words.{on_words}

-- all functions
abbrev pub functions : List Function
functions =
    f.Searching s.Abbrev ∷ f.Number n.Abs ∷ f.Frame q.Arg ∷ f.Conversion v.B2x ∷ f.Conversion v.C2d ∷
    f.Conversion v.C2x ∷ f.Cutting c.Center ∷ f.Changing h.Changestr ∷ f.Searching s.Compare ∷ f.Frame q.Condition ∷
    f.Cutting c.Copies ∷ f.Searching s.Countstr ∷ f.Conversion v.D2c ∷ f.Conversion v.D2x ∷ f.Conversion v.Datatype ∷
    f.Cutting c.Delstr ∷ f.Word w.Delword ∷ f.Frame q.Digits ∷ f.Cutting c.Insert ∷ f.Searching s.Lastpos ∷
    f.Cutting c.Left ∷ f.Searching s.Length ∷ f.Changing h.Lower ∷ f.Number n.Max ∷ f.Number n.Min ∷
    f.Cutting c.Overlay ∷ f.Searching s.Pos ∷ f.Frame q.Queued ∷ f.Cutting c.Reverse ∷ f.Cutting c.Right ∷
    f.Number n.Sign ∷ f.Frame q.Sourceline ∷ f.Word w.Space ∷ f.Changing h.Strip ∷ f.Cutting c.Substr ∷
    f.Word w.Subword ∷ f.Changing h.Translate ∷ f.Changing h.Upper ∷ f.Searching s.Verify ∷ f.Word w.Word ∷
    f.Word w.Wordindex ∷ f.Word w.Wordlength ∷ f.Word w.Wordpos ∷ f.Word w.Words ∷ f.Conversion v.X2b ∷
    f.Conversion v.X2c ∷ f.Conversion v.X2d ∷ f.Conversion v.Xrange ∷ []

-- a function's name, and which arguments it takes
abbrev pub signature_of : Function → Signature
signature_of (f.Changing function) = (changing function).signature
signature_of (f.Conversion function) = (conversion function).signature
signature_of (f.Cutting function) = (cutting function).signature
signature_of (f.Frame function) = (of_frame function).signature
signature_of (f.Number function) = (on_numbers function).signature
signature_of (f.Searching function) = (searching function).signature
signature_of (f.Word function) = (on_words function).signature

-- the value of a function whose arguments fit
abbrev pub value_of : Function → Arguments → Facts → Result (List ℕ) ℕ
value_of (f.Changing function) args facts = limited ((changing function).value args)
value_of (f.Conversion function) args facts = limited ((conversion function).value args facts.digits)
value_of (f.Cutting function) args facts = limited ((cutting function).value args)
value_of (f.Frame function) args facts = (of_frame function).value args facts
value_of (f.Number function) args facts = (on_numbers function).value args facts.digits
value_of (f.Searching function) args facts = in_digits ((searching function).value args)
value_of (f.Word function) args facts = limited ((on_words function).value args)

-- the function of a name
abbrev pub function_named : List ℕ → Option Function
function_named name = find (λ function. bytes_eq (signature_of function).name name) functions

-- whether a name is that of a built-in function
abbrev pub is_builtin : List ℕ → Bool
is_builtin name = is_some (function_named name)

-- the value of a call of a function: 40 is raised where the arguments don't fit
abbrev pub called : Function → Arguments → Facts → Result (List ℕ) ℕ
called function args facts =
    if fits (signature_of function).needed (signature_of function).kinds args then value_of function args facts else Err 40

-- the value of a call of the function of a name, where there is one
abbrev pub function_value : List ℕ → Arguments → Facts → Option (Result (List ℕ) ℕ)
function_value name args facts = option_map (λ function. called function args facts) (function_named name)
