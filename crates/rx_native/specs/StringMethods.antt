-- What the methods of String come to. Each is a built-in function, with the receiver among its arguments; an argument that the
-- function would raise 40 for is a wrong one of the method, and raises 93.
use Rattle.std.specs.Prelude.{ℕ, ◌==◌, if◌then◌else◌, List, [], ◌∷◌, ◌++◌, codes, Option, Some, None, Result, Ok, Err}
use Rattle.rx_tree.specs.Object.{Object}
use Rattle.rx_tree.specs.declared.value.Value.{Value}
use Rattle.rx_tree.specs.declared.value.Value.TheVariants.{Str, Ref}
use Rattle.rx_builtin.specs.declared.facts.Facts.{Facts}
use Rattle.rx_builtin.specs.Functions.{function_value}
use Rattle.rx_native.specs.declared.string.Receiver.{Receiver}
use Rattle.rx_native.specs.declared.string.Receiver.TheVariants as r
use Rattle.rx_native.specs.declared.string.OfText.{OfText}
use Rattle.rx_native.specs.declared.string.OfText.TheVariants as t
use Rattle.rx_native.specs.declared.string.OfWords.{OfWords}
use Rattle.rx_native.specs.declared.string.OfWords.TheVariants as w
use Rattle.rx_native.specs.declared.string.OfValue.{OfValue}
use Rattle.rx_native.specs.declared.string.OfValue.TheVariants as v
use Rattle.rx_native.specs.declared.string.OfString.{OfString}
use Rattle.rx_native.specs.declared.string.OfString.TheVariants as s
use Rattle.rx_native.specs.Outcomes.{Outcome, incorrect_method_call, on, gives}
use Rattle.rx_native.specs.Arguments.{Arguments}

-- ---- which function a method is, and where the receiver stands among its arguments

pub record FunctionOf : Type 0 where
  pub name : List ℕ
  pub receiver : Receiver

abbrev pub first : List ℕ → FunctionOf
first name = record { name = name; receiver = r.First }

abbrev pub second : List ℕ → FunctionOf
second name = record { name = name; receiver = r.Second }

abbrev pub text_function : OfText → FunctionOf
text_function t.Length = first (codes "LENGTH")
text_function t.Substr = first (codes "SUBSTR")
text_function t.Left = first (codes "LEFT")
text_function t.Right = first (codes "RIGHT")
text_function t.Center = first (codes "CENTER")
text_function t.Strip = first (codes "STRIP")
text_function t.Reverse = first (codes "REVERSE")
text_function t.Copies = first (codes "COPIES")
text_function t.Delstr = first (codes "DELSTR")
text_function t.Translate = first (codes "TRANSLATE")
text_function t.Verify = first (codes "VERIFY")
text_function t.Compare = first (codes "COMPARE")
text_function t.Abbrev = first (codes "ABBREV")
text_function t.Upper = first (codes "UPPER")
text_function t.Lower = first (codes "LOWER")
text_function t.Pos = second (codes "POS")
text_function t.Lastpos = second (codes "LASTPOS")
text_function t.Countstr = second (codes "COUNTSTR")
text_function t.Insert = second (codes "INSERT")
text_function t.Overlay = second (codes "OVERLAY")
text_function t.Changestr = second (codes "CHANGESTR")

abbrev pub words_function : OfWords → FunctionOf
words_function w.Word = first (codes "WORD")
words_function w.Words = first (codes "WORDS")
words_function w.Wordindex = first (codes "WORDINDEX")
words_function w.Wordlength = first (codes "WORDLENGTH")
words_function w.Subword = first (codes "SUBWORD")
words_function w.Delword = first (codes "DELWORD")
words_function w.Space = first (codes "SPACE")
words_function w.Wordpos = second (codes "WORDPOS")

abbrev pub value_function : OfValue → FunctionOf
value_function v.D2x = first (codes "D2X")
value_function v.X2d = first (codes "X2D")
value_function v.C2x = first (codes "C2X")
value_function v.X2c = first (codes "X2C")
value_function v.B2x = first (codes "B2X")
value_function v.X2b = first (codes "X2B")
value_function v.C2d = first (codes "C2D")
value_function v.D2c = first (codes "D2C")
value_function v.Abs = first (codes "ABS")
value_function v.Sign = first (codes "SIGN")
value_function v.Datatype = first (codes "DATATYPE")

abbrev pub function_of : OfString → FunctionOf
function_of (s.Text method) = text_function method
function_of (s.Words method) = words_function method
function_of (s.Value method) = value_function method

-- ---- its arguments

-- the arguments with the receiver among them
abbrev pub with_receiver : Receiver → Value → Arguments → Arguments
with_receiver r.First target args = Some target ∷ args
with_receiver r.Second target [] = None ∷ Some target ∷ []
with_receiver r.Second target (argument ∷ args) = argument ∷ Some target ∷ args

-- the text of a value; an object is a wrong argument
abbrev pub value_text : Value → Result (List ℕ) ℕ
value_text (Str text) = Ok text
value_text (Ref object) = Err incorrect_method_call

abbrev pub argument_text : Option Value → Result (Option (List ℕ)) ℕ
argument_text None = Ok None
argument_text (Some value) = on (value_text value) (λ (text : List ℕ). Ok (Some text))

-- the texts of arguments
abbrev pub texts_of : Arguments → Result (List (Option (List ℕ))) ℕ
texts_of [] = Ok []
texts_of (argument ∷ args) =
    on (argument_text argument) (λ (text : Option (List ℕ)). on (texts_of args) (λ (texts : List (Option (List ℕ))). Ok (text ∷ texts)))

-- these texts, and those of arguments behind them
abbrev pub texts_behind : List (Option (List ℕ)) → Arguments → Result (List (Option (List ℕ))) ℕ
texts_behind texts args = on (texts_of args) (λ (more : List (Option (List ℕ))). Ok (texts ++ more))

-- ---- its value

-- the value of a function, where 93 stands in place of 40
abbrev pub of_method : Result (List ℕ) ℕ → Result (List ℕ) ℕ
of_method (Ok text) = Ok text
of_method (Err number) = if number == 40 then Err incorrect_method_call else Err number

abbrev pub of_function : Option (Result (List ℕ) ℕ) → Result (List ℕ) ℕ
of_function None = Err incorrect_method_call
of_function (Some value) = of_method value

-- Of the facts of a call, these functions read DIGITS alone.
abbrev pub string_answer : OfString → Facts → List Object → Value → Arguments → Outcome
string_answer method facts objects target args =
    let function = function_of method in
    on (texts_of (with_receiver function.receiver target args)) (λ (texts : List (Option (List ℕ))).
    on (of_function (function_value function.name texts facts)) (λ (text : List ℕ). gives objects (Str text)))
