-- A row of the table of functions.
use Rattle.std.specs.Prelude.{ℕ, List}
use Rattle.rx_builtin.specs.declared.argument.Kind.{Kind}

-- a function's name, how many arguments it needs, and the kinds of all that it takes
pub record Signature : Type 0 where
  pub name : List ℕ
  pub needed : ℕ
  pub kinds : List Kind

-- that, and the value of the function, which is asked for only where the arguments fit
pub record Row (V : Type 0) : Type 0 where
  pub signature : Signature
  pub value : V

abbrev pub row : {V : Type 0} → List ℕ → ℕ → List Kind → V → Row V
row name needed kinds value =
    record { signature = record { name = name; needed = needed; kinds = kinds }; value = value }
