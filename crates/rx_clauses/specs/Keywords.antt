-- The words that instructions begin with, each with what it is to the reader.
use Rattle.std.specs.Prelude.{ℕ, if◌then◌else◌, List, [], ◌∷◌, Option, Some, None, codes}
use Rattle.std.specs.Str.{bytes_eq}
use Rattle.rx_tree.specs.declared.token.TokenKind.{TokenKind}
use Rattle.rx_tree.specs.declared.token.TokenKind.TheVariants as k
use Rattle.rx_clauses.specs.declared.keyword.Keyword.{Keyword}
use Rattle.rx_clauses.specs.declared.keyword.Keyword.TheVariants as w
use Rattle.rx_clauses.specs.declared.keyword.Word.TheVariants as o

abbrev pub words : List (List ℕ × Keyword)
words =
    (codes "SAY", w.Other o.Say) ∷ ((codes "IF", w.If) ∷ ((codes "SELECT", w.Select) ∷ ((codes "DO", w.Do) ∷ ((codes "LOOP", w.Loop)
    ∷ ((codes "LEAVE", w.Other o.Leave) ∷ ((codes "ITERATE", w.Other o.Iterate) ∷ ((codes "NOP", w.Other o.Nop) ∷ ((codes "CALL", w.Other o.Call)
    ∷ ((codes "RETURN", w.Other o.Return) ∷ ((codes "EXIT", w.Other o.Exit) ∷ ((codes "SIGNAL", w.Other o.Signal)
    ∷ ((codes "PROCEDURE", w.Procedure) ∷ ((codes "EXPOSE", w.Expose) ∷ ((codes "USE", w.Other o.Use) ∷ ((codes "PARSE", w.Other o.Parse)
    ∷ ((codes "ARG", w.Other o.Arg) ∷ ((codes "PULL", w.Other o.Pull) ∷ ((codes "PUSH", w.Other o.Push) ∷ ((codes "QUEUE", w.Other o.Queue)
    ∷ ((codes "DROP", w.Other o.Drop) ∷ ((codes "NUMERIC", w.Other o.Numeric) ∷ ((codes "GUARD", w.Other o.Guard) ∷ ((codes "REPLY", w.Other o.Reply)
    ∷ ((codes "FORWARD", w.Other o.Forward) ∷ ((codes "RAISE", w.Other o.Raise) ∷ ((codes "TRACE", w.Other o.Trace) ∷ []))))))))))))))))))))))))))

-- what stands beside a name in a table
abbrev pub beside : List ℕ → List (List ℕ × Keyword) → Option Keyword
beside name [] = None
beside name (entry ∷ table) = if bytes_eq entry.0 name then Some entry.1 else beside name table

-- the word of an instruction that a token is
abbrev pub keyword_of : TokenKind → Option Keyword
keyword_of (k.Simple name) = beside name words
keyword_of _ = None
