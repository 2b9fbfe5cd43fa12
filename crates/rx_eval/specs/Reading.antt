-- What names come to: variables, environment symbols, and the symbols behind which a class stands.
use Rattle.std.specs.Prelude.{ℕ, ◌==◌, nat_le, Bool, true, false, if◌then◌else◌, List, [], ◌∷◌, ◌++◌, length, codes, decimal, Option, Some, None, Result, Ok, Err}
use Rattle.std.specs.Str.{bytes_eq}
use Rattle.rx_tree.specs.Bytes.{longest}
use Rattle.rx_tree.specs.declared.name.Derived.{Derived}
use Rattle.rx_tree.specs.declared.name.Derived.TheVariants as d
use Rattle.rx_tree.specs.declared.name.Name.{Name}
use Rattle.rx_tree.specs.declared.name.Name.TheVariants as n
use Rattle.rx_tree.specs.declared.name.Part.{Part}
use Rattle.rx_tree.specs.declared.name.Part.TheVariants.{Fixed, Of}
use Rattle.rx_tree.specs.declared.value.Value.{Value}
use Rattle.rx_tree.specs.declared.value.Value.TheVariants.{Str, Ref}
use Rattle.rx_vars.specs.Tables.{look_up}
use Rattle.rx_eval.specs.Bodies.{Body}
use Rattle.rx_eval.specs.declared.facts.Facts.{Facts}
use Rattle.rx_eval.specs.declared.naming.Named.{Named}
use Rattle.rx_eval.specs.declared.naming.Named.TheVariants.{Known, Missing, TooLong}
use Rattle.rx_eval.specs.declared.reading.Reading.{Reading}
use Rattle.rx_eval.specs.declared.reading.Reading.TheVariants as r
use Rattle.rx_eval.specs.Values.{read}

-- What expressions are evaluated over: what is fixed for the body in which they stand, and what it reads besides.
pub record Scene : Type 0 where
  pub body : Body
  pub facts : Facts

-- ---- names with the values of their tail parts in place of these

-- a value as a part of a tail: an object counts as a text, and is sent no message
abbrev pub value_text : Value → List ℕ
value_text (Str text) = text
value_text (Ref object) = codes "object " ++ decimal object

-- A variable in a tail stands for its value, or for its own name where it has none; but where NOVALUE is trapped, for nothing
-- then.
abbrev pub or_own : Bool → List ℕ → Option Value → Result (List ℕ) (List ℕ)
or_own novalue name (Some value) = Ok (value_text value)
or_own true name None = Err name
or_own false name None = Ok name

abbrev pub part_text : Bool → (Derived → Option Value) → Part → Result (List ℕ) (List ℕ)
part_text novalue value (Fixed text) = Ok text
part_text novalue value (Of name) = or_own novalue name (value (d.Simple name))

-- the texts of all parts, or the first variable that stands for nothing
abbrev pub with_text : Result (List ℕ) (List ℕ) → Result (List (List ℕ)) (List ℕ) → Result (List (List ℕ)) (List ℕ)
with_text (Ok text) (Ok texts) = Ok (text ∷ texts)
with_text (Ok text) (Err name) = Err name
with_text (Err name) texts = Err name

abbrev pub part_texts : Bool → (Derived → Option Value) → List Part → Result (List (List ℕ)) (List ℕ)
part_texts novalue value [] = Ok []
part_texts novalue value (part ∷ parts) = with_text (part_text novalue value part) (part_texts novalue value parts)

-- texts, each behind a period
abbrev pub behind_periods : List (List ℕ) → List ℕ
behind_periods [] = []
behind_periods (text ∷ texts) = 0x2E ∷ text ++ behind_periods texts

-- texts with periods between them
abbrev pub with_periods : List (List ℕ) → List ℕ
with_periods [] = []
with_periods (text ∷ texts) = text ++ behind_periods texts

-- a name as it is written, which is the value of a variable that has none
abbrev pub spelling : Derived → List ℕ
spelling (d.Simple name) = name
spelling (d.Stem stem) = stem
spelling (d.Compound stem tail) = stem ++ tail

-- a compound name of a stem and a tail
abbrev pub compound : List ℕ → List ℕ → Named
compound stem tail = if nat_le (length (stem ++ tail)) longest then Known (d.Compound stem tail) else TooLong

abbrev pub compound_of : List ℕ → Result (List (List ℕ)) (List ℕ) → Named
compound_of stem (Ok texts) = compound stem (with_periods texts)
compound_of stem (Err name) = Missing name

-- the derived name of a name, where variables have these values
abbrev pub derive : Bool → (Derived → Option Value) → Name → Named
derive novalue value (n.Simple name) = Known (d.Simple name)
derive novalue value (n.Stem stem) = Known (d.Stem stem)
derive novalue value (n.Compound stem parts) = compound_of stem (part_texts novalue value parts)

-- ---- what a name comes to

-- a variable's value; its own name where it has none, or NOVALUE where that is trapped
abbrev pub or_spelling : Bool → Derived → Option Value → Reading
or_spelling novalue name (Some value) = r.Gives value
or_spelling true name None = r.NoValue (spelling name)
or_spelling false name None = r.Gives (Str (spelling name))

abbrev pub named : Facts → Named → Reading
named facts (Known name) = or_spelling facts.novalue name (read facts.reads name)
named facts (Missing name) = r.NoValue name
named facts TooLong = r.Raises 5

-- a variable
abbrev pub variable : Facts → Name → Reading
variable facts name = named facts (derive facts.novalue (read facts.reads) name)

-- an environment symbol: the object that it names; else `.TRUE` and `.FALSE` are 1 and 0, and another is its own spelling
abbrev pub environment : List ℕ → Option ℕ → Value
environment name (Some object) = Ref object
environment name None =
    if bytes_eq name (codes ".TRUE") then Str (codes "1")
    else if bytes_eq name (codes ".FALSE") then Str (codes "0")
    else Str name

abbrev pub object_named : Body → List ℕ → Option ℕ
object_named body name = look_up body.objects name

-- a symbol at the front of which a period stands is an environment symbol
abbrev pub is_environment : List ℕ → Bool
is_environment [] = false
is_environment (byte ∷ bytes) = byte == 0x2E

-- the symbol that says in which class a method is sought, where an object is known of it or none
abbrev pub symbol : Facts → List ℕ → Option ℕ → Reading
symbol facts name object = if is_environment name then r.Gives (environment name object) else variable facts (n.Simple name)
