-- The functions that the methods of String are.
use Rattle.std.proofs.Common.{◌≡◌, ℕ, List, Option, Some, None, refl, sym, ap, ◌∙◌, subst}
use Rattle.std.specs.Prelude.{if◌then◌else◌, is_some, option_map, true, IfSome, Result, Ok, Err}
use Rattle.rx_tree.specs.Object.{Object}
use Rattle.rx_tree.specs.declared.value.Value.{Value}
use Rattle.rx_tree.specs.declared.value.Value.TheVariants.{Str}
use Rattle.rx_builtin.specs.declared.facts.Facts.{Facts}
use Rattle.rx_builtin.specs.declared.conversion.Conversion.{Conversion}
use Rattle.rx_builtin.specs.declared.conversion.Conversion.TheVariants as c
use Rattle.rx_builtin.specs.declared.number.OnNumbers.{OnNumbers}
use Rattle.rx_builtin.specs.declared.number.OnNumbers.TheVariants as n
use Rattle.rx_answers.specs.declared.Refused.{Refused}
use Rattle.rx_builtin.specs.declared.function.Function.{Function}
use Rattle.rx_builtin.specs.Answers as function
use Rattle.rx_builtin.specs.Answers.{limited}
use Rattle.rx_builtin.specs.Arguments.{Arguments, fits}
use Rattle.rx_builtin.specs.Conversions.{conversion}
use Rattle.rx_builtin.specs.Numbers.{on_numbers}
use Rattle.rx_builtin.specs.Functions.{called as called_function, function_named, function_value, is_builtin}
use Rattle.rx_native.specs.declared.string.OfText.{OfText}
use Rattle.rx_native.specs.declared.string.OfText.TheVariants as t
use Rattle.rx_native.specs.declared.string.OfWords.{OfWords}
use Rattle.rx_native.specs.declared.string.OfWords.TheVariants as w
use Rattle.rx_native.specs.declared.string.OfValue.{OfValue}
use Rattle.rx_native.specs.declared.string.OfValue.TheVariants as v
use Rattle.rx_native.specs.declared.string.OfString.{OfString}
use Rattle.rx_native.specs.declared.string.OfString.TheVariants as s
use Rattle.rx_native.specs.declared.string.Receiver.{Receiver}
use Rattle.rx_native.specs.declared.answer.NativeAnswer.{NativeAnswer}
use Rattle.rx_native.specs.declared.answer.NativeRefused.{NativeRefused}
use Rattle.rx_native.specs.Answers.{Answers}
use Rattle.rx_native.specs.Arguments.{Arguments as Given}
use Rattle.rx_native.specs.Outcomes.{Outcome, gives, on}
use Rattle.rx_native.specs.StringMethods.{text_function, words_function, value_function, function_of, of_function, of_method, string_answer, texts_of, with_receiver}

-- ---- each is a built-in function

text-builtin : (method : OfText) → is_builtin (text_function method).name ≡ true
text-builtin t.Length = refl
text-builtin t.Substr = refl
text-builtin t.Left = refl
text-builtin t.Right = refl
text-builtin t.Center = refl
text-builtin t.Strip = refl
text-builtin t.Reverse = refl
text-builtin t.Copies = refl
text-builtin t.Delstr = refl
text-builtin t.Translate = refl
text-builtin t.Verify = refl
text-builtin t.Compare = refl
text-builtin t.Abbrev = refl
text-builtin t.Upper = refl
text-builtin t.Lower = refl
text-builtin t.Pos = refl
text-builtin t.Lastpos = refl
text-builtin t.Countstr = refl
text-builtin t.Insert = refl
text-builtin t.Overlay = refl
text-builtin t.Changestr = refl

words-builtin : (method : OfWords) → is_builtin (words_function method).name ≡ true
words-builtin w.Word = refl
words-builtin w.Words = refl
words-builtin w.Wordindex = refl
words-builtin w.Wordlength = refl
words-builtin w.Subword = refl
words-builtin w.Delword = refl
words-builtin w.Space = refl
words-builtin w.Wordpos = refl

value-builtin : (method : OfValue) → is_builtin (value_function method).name ≡ true
value-builtin v.D2x = refl
value-builtin v.X2d = refl
value-builtin v.C2x = refl
value-builtin v.X2c = refl
value-builtin v.B2x = refl
value-builtin v.X2b = refl
value-builtin v.C2d = refl
value-builtin v.D2c = refl
value-builtin v.Abs = refl
value-builtin v.Sign = refl
value-builtin v.Datatype = refl

pub builtin : (method : OfString) → is_builtin (function_of method).name ≡ true
builtin (s.Text method) = text-builtin method
builtin (s.Words method) = words-builtin method
builtin (s.Value method) = value-builtin method

-- ---- of the facts it reads DIGITS alone

abbrev pub SameValue : List ℕ → Type 0
SameValue name = (args : Arguments) (facts others : Facts) → facts.digits ≡ others.digits → function_value name args facts ≡ function_value name args others

text-same : (method : OfText) → SameValue (text_function method).name
text-same t.Length = λ args facts others same. refl
text-same t.Substr = λ args facts others same. refl
text-same t.Left = λ args facts others same. refl
text-same t.Right = λ args facts others same. refl
text-same t.Center = λ args facts others same. refl
text-same t.Strip = λ args facts others same. refl
text-same t.Reverse = λ args facts others same. refl
text-same t.Copies = λ args facts others same. refl
text-same t.Delstr = λ args facts others same. refl
text-same t.Translate = λ args facts others same. refl
text-same t.Verify = λ args facts others same. refl
text-same t.Compare = λ args facts others same. refl
text-same t.Abbrev = λ args facts others same. refl
text-same t.Upper = λ args facts others same. refl
text-same t.Lower = λ args facts others same. refl
text-same t.Pos = λ args facts others same. refl
text-same t.Lastpos = λ args facts others same. refl
text-same t.Countstr = λ args facts others same. refl
text-same t.Insert = λ args facts others same. refl
text-same t.Overlay = λ args facts others same. refl
text-same t.Changestr = λ args facts others same. refl

words-same : (method : OfWords) → SameValue (words_function method).name
words-same w.Word = λ args facts others same. refl
words-same w.Words = λ args facts others same. refl
words-same w.Wordindex = λ args facts others same. refl
words-same w.Wordlength = λ args facts others same. refl
words-same w.Subword = λ args facts others same. refl
words-same w.Delword = λ args facts others same. refl
words-same w.Space = λ args facts others same. refl
words-same w.Wordpos = λ args facts others same. refl

converted : (function : Conversion) (args : Arguments) (d e : ℕ) → d ≡ e
    → Some (if fits (conversion function).signature.needed (conversion function).signature.kinds args then limited ((conversion function).value args d) else Err 40)
    ≡ Some (if fits (conversion function).signature.needed (conversion function).signature.kinds args then limited ((conversion function).value args e) else Err 40)
converted function args d e same = ap (λ (digits : ℕ).
    Some (if fits (conversion function).signature.needed (conversion function).signature.kinds args then limited ((conversion function).value args digits) else Err 40)) same

counted : (function : OnNumbers) (args : Arguments) (d e : ℕ) → d ≡ e
    → Some (if fits (on_numbers function).signature.needed (on_numbers function).signature.kinds args then (on_numbers function).value args d else Err 40)
    ≡ Some (if fits (on_numbers function).signature.needed (on_numbers function).signature.kinds args then (on_numbers function).value args e else Err 40)
counted function args d e same = ap (λ (digits : ℕ).
    Some (if fits (on_numbers function).signature.needed (on_numbers function).signature.kinds args then (on_numbers function).value args digits else Err 40)) same

value-same : (method : OfValue) → SameValue (value_function method).name
value-same v.D2x = λ args facts others same. converted c.D2x args facts.digits others.digits same
value-same v.X2d = λ args facts others same. converted c.X2d args facts.digits others.digits same
value-same v.C2x = λ args facts others same. converted c.C2x args facts.digits others.digits same
value-same v.X2c = λ args facts others same. converted c.X2c args facts.digits others.digits same
value-same v.B2x = λ args facts others same. converted c.B2x args facts.digits others.digits same
value-same v.X2b = λ args facts others same. converted c.X2b args facts.digits others.digits same
value-same v.C2d = λ args facts others same. converted c.C2d args facts.digits others.digits same
value-same v.D2c = λ args facts others same. converted c.D2c args facts.digits others.digits same
value-same v.Datatype = λ args facts others same. converted c.Datatype args facts.digits others.digits same
value-same v.Abs = λ args facts others same. counted n.Abs args facts.digits others.digits same
value-same v.Sign = λ args facts others same. counted n.Sign args facts.digits others.digits same

pub same-value : (method : OfString) → SameValue (function_of method).name
same-value (s.Text method) = text-same method
same-value (s.Words method) = words-same method
same-value (s.Value method) = value-same method

-- ---- what a call of the function comes to

is_some-map : {X Y : Type 0} (f : X → Y) (o : Option X) → is_some (option_map f o) ≡ is_some o
is_some-map f None = refl
is_some-map f (Some x) = refl

-- the answer is that of the method, whatever else the facts are
pub called-as : (method : OfString) (target : Value) (args : Given) (facts own : Facts) (objects : List Object) (name : List ℕ) (receiver : Receiver)
    (texts : Arguments) (value : Result (List ℕ) Refused) (answer : Result NativeAnswer NativeRefused)
    → facts.digits ≡ own.digits → name ≡ (function_of method).name → receiver ≡ (function_of method).receiver
    → texts_of (with_receiver receiver target args) ≡ Ok texts → IfSome (function_value name texts own) (function.Answers value)
    → ((comes_to : Result (List ℕ) ℕ) (os : List Object) → function.Answers value comes_to
    → Answers answer os os (on (of_method comes_to) (λ (text : List ℕ). gives os (Str text))))
    → Answers answer objects objects (string_answer method facts objects target args)
called-as method target args facts own objects name receiver texts value answer digits named placed read called given =
    subst (λ (outcome : Outcome). Answers answer objects objects outcome) (sym comes)
    (by (function_value (function_of method).name texts own) there
    (subst (λ (n : List ℕ). IfSome (function_value n texts own) (function.Answers value)) named called))
  where
    told : Option (Result (List ℕ) ℕ) → Outcome
    told found = on (of_function found) (λ (text : List ℕ). gives objects (Str text))

    by : (found : Option (Result (List ℕ) ℕ)) → is_some found ≡ true → IfSome found (function.Answers value) → Answers answer objects objects (told found)
    by None missing is = cc
    by (Some comes_to) there is = given comes_to objects is

    there : is_some (function_value (function_of method).name texts own) ≡ true
    there = is_some-map (λ (f : Function). called_function f texts own) (function_named (function_of method).name) ∙ builtin method

    comes : string_answer method facts objects target args ≡ told (function_value (function_of method).name texts own)
    comes =
        ap (λ (r : Result Arguments ℕ). on r (λ (ts : Arguments). told (function_value (function_of method).name ts facts)))
        (ap (λ (r : Receiver). texts_of (with_receiver r target args)) (sym placed) ∙ read)
        ∙ ap told (same-value method texts facts own digits)
