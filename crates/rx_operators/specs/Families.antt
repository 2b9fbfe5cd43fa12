-- Which operators do what, and what they are called as messages.
use Rattle.std.specs.Prelude.{ℕ, Bool, true, false, List, codes}
use Rattle.rx_tree.specs.declared.token.Oper.{Oper}
use Rattle.rx_tree.specs.declared.token.Oper.TheVariants as o
use Rattle.rx_operators.specs.declared.family.Family.{Family}
use Rattle.rx_operators.specs.declared.family.Family.TheVariants as f
use Rattle.rx_operators.specs.declared.family.Arithmetic.TheVariants as a
use Rattle.rx_operators.specs.declared.family.Comparison.TheVariants as c
use Rattle.rx_operators.specs.declared.family.Connective.TheVariants as l

-- the family of an operator between two operands
abbrev pub family : Oper → Family
family o.Plus = f.Arithmetic a.Add
family o.Minus = f.Arithmetic a.Subtract
family o.Times = f.Arithmetic a.Multiply
family o.Divide = f.Arithmetic a.Divide
family o.Quotient = f.Arithmetic a.Quotient
family o.Remainder = f.Arithmetic a.Remainder
family o.Power = f.Arithmetic a.Power
family o.Equal = f.Comparison c.Equal
family o.NotEqual = f.Comparison c.NotEqual
family o.Greater = f.Comparison c.Greater
family o.Less = f.Comparison c.Less
family o.GreaterOrEqual = f.Comparison c.GreaterOrEqual
family o.LessOrEqual = f.Comparison c.LessOrEqual
family o.StrictEqual = f.StrictComparison c.Equal
family o.StrictNotEqual = f.StrictComparison c.NotEqual
family o.StrictGreater = f.StrictComparison c.Greater
family o.StrictLess = f.StrictComparison c.Less
family o.StrictGreaterOrEqual = f.StrictComparison c.GreaterOrEqual
family o.StrictLessOrEqual = f.StrictComparison c.LessOrEqual
family o.And = f.Logic l.And
family o.Or = f.Logic l.Or
family o.ExclusiveOr = f.Logic l.ExclusiveOr
family o.Concat = f.Join
family o.Blank = f.BlankJoin
family o.Abuttal = f.Join
family o.Not = f.NotBetween
family o.Send = f.NotBetween
family o.SendBack = f.NotBetween

abbrev pub is_joining : Family → Bool
is_joining f.Join = true
is_joining f.BlankJoin = true
is_joining _ = false

-- whether an operator joins two strings. Objects are asked for their strings then; any other operator is a message to them
abbrev pub is_join : Oper → Bool
is_join oper = is_joining (family oper)

-- the name of the message that an operator is to an object
abbrev pub message_name : Oper → List ℕ
message_name o.Plus = codes "+"
message_name o.Minus = codes "-"
message_name o.Times = codes "*"
message_name o.Divide = codes "/"
message_name o.Quotient = codes "%"
message_name o.Remainder = codes "//"
message_name o.Power = codes "**"
message_name o.Equal = codes "="
message_name o.NotEqual = codes "\\="
message_name o.Greater = codes ">"
message_name o.Less = codes "<"
message_name o.GreaterOrEqual = codes ">="
message_name o.LessOrEqual = codes "<="
message_name o.StrictEqual = codes "=="
message_name o.StrictNotEqual = codes "\\=="
message_name o.StrictGreater = codes ">>"
message_name o.StrictLess = codes "<<"
message_name o.StrictGreaterOrEqual = codes ">>="
message_name o.StrictLessOrEqual = codes "<<="
message_name o.And = codes "&"
message_name o.Or = codes "|"
message_name o.ExclusiveOr = codes "&&"
message_name o.Not = codes "\\"
message_name o.Concat = codes "||"
message_name o.Blank = codes " "
message_name o.Abuttal = codes ""
message_name o.Send = codes "~"
message_name o.SendBack = codes "~~"
