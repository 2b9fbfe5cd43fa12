-- The words that instructions begin with.
use Rattle.std.proofs.Common.{◌≡◌, ℕ, Bool, true, false, ◌||◌, if◌then◌else◌, List, [], ◌∷◌, Option, Some, None, is_some, refl, sym, ◌∙◌, ap}
use Rattle.std.specs.Prelude.{codes}
use Rattle.std.specs.Str.{bytes_eq}
use Rattle.rx_tree.specs.declared.token.TokenKind.{TokenKind}
use Rattle.rx_tree.specs.declared.token.TokenKind.TheVariants as k
use Rattle.rx_clause_tree.specs.ClauseWords.{word, is_word, keywords, is_among}
use Rattle.rx_clauses.specs.declared.keyword.Keyword.{Keyword}
use Rattle.rx_clauses.specs.declared.keyword.Keyword.TheVariants as w
use Rattle.rx_clauses.specs.declared.keyword.Word.TheVariants as o
use Rattle.rx_clauses.specs.Keywords.{words, beside, keyword_of}
use Rattle.rx_exprs.proofs.Tables.{some-is}
use Rattle.rx_clauses.proofs.Words.{bytes-same}

abbrev pub spelling : Keyword → List ℕ
spelling w.If = codes "IF"
spelling w.Select = codes "SELECT"
spelling w.Do = codes "DO"
spelling w.Loop = codes "LOOP"
spelling w.Procedure = codes "PROCEDURE"
spelling w.Expose = codes "EXPOSE"
spelling (w.Other o.Say) = codes "SAY"
spelling (w.Other o.Leave) = codes "LEAVE"
spelling (w.Other o.Iterate) = codes "ITERATE"
spelling (w.Other o.Nop) = codes "NOP"
spelling (w.Other o.Call) = codes "CALL"
spelling (w.Other o.Return) = codes "RETURN"
spelling (w.Other o.Exit) = codes "EXIT"
spelling (w.Other o.Signal) = codes "SIGNAL"
spelling (w.Other o.Use) = codes "USE"
spelling (w.Other o.Parse) = codes "PARSE"
spelling (w.Other o.Arg) = codes "ARG"
spelling (w.Other o.Pull) = codes "PULL"
spelling (w.Other o.Push) = codes "PUSH"
spelling (w.Other o.Queue) = codes "QUEUE"
spelling (w.Other o.Drop) = codes "DROP"
spelling (w.Other o.Numeric) = codes "NUMERIC"
spelling (w.Other o.Guard) = codes "GUARD"
spelling (w.Other o.Reply) = codes "REPLY"
spelling (w.Other o.Forward) = codes "FORWARD"
spelling (w.Other o.Raise) = codes "RAISE"
spelling (w.Other o.Trace) = codes "TRACE"

-- each word of a table is spelled so
abbrev AreSpelled : List (List ℕ × Keyword) → Type 0
AreSpelled [] = Unit {0}
AreSpelled (entry ∷ table) = (entry.0 ≡ spelling entry.1) × AreSpelled table

words-spelled : AreSpelled words
words-spelled = (
  refl,
  (
    refl,
    (
      refl,
      (
        refl,
        (
          refl,
          (
            refl,
            (
              refl,
              (
                refl,
                (
                  refl,
                  (
                    refl,
                    (
                      refl,
                      (
                        refl,
                        (
                          refl,
                          (
                            refl,
                            (
                              refl,
                              (
                                refl,
                                (
                                  refl,
                                  (
                                    refl,
                                    (
                                      refl,
                                      (
                                        refl,
                                        (
                                          refl,
                                          (refl, (refl, (refl, (refl, (refl, (refl, tt)))))),
                                        ),
                                      ),
                                    ),
                                  ),
                                ),
                              ),
                            ),
                          ),
                        ),
                      ),
                    ),
                  ),
                ),
              ),
            ),
          ),
        ),
      ),
    ),
  ),
)

beside-is : (table : List (List ℕ × Keyword)) (name : List ℕ) (found : Keyword) → AreSpelled table → beside name table ≡ Some found → name ≡ spelling found
beside-is [] name found are is = cc
beside-is (entry ∷ table) name found are is = go (λ made. beside-is table name found are.1 made) (bytes_eq entry.0 name) refl is
  where
    go : (beside name table ≡ Some found → name ≡ spelling found) → (same : Bool) → bytes_eq entry.0 name ≡ same
        → (if same then Some entry.1 else beside name table) ≡ Some found → name ≡ spelling found
    go later true p made = sym (bytes-same entry.0 name p) ∙ are.0 ∙ ap spelling (some-is made)
    go later false p made = later made

pub keyword-is : (kind : TokenKind) (found : Keyword) → keyword_of kind ≡ Some found → kind ≡ word (spelling found)
keyword-is (k.Simple name) found is = ap k.Simple (beside-is words name found words-spelled is)
keyword-is _ found is = cc

-- ---- whether an instruction begins

firsts : List (List ℕ × Keyword) → List (List ℕ)
firsts [] = []
firsts (entry ∷ table) = entry.0 ∷ firsts table

among-beside : (table : List (List ℕ × Keyword)) (name : List ℕ) → is_among (firsts table) (k.Simple name) ≡ is_some (beside name table)
unfolding firsts
among-beside [] name = refl
among-beside (entry ∷ table) name = go (among-beside table name) (bytes_eq entry.0 name)
  where
    go : is_among (firsts table) (k.Simple name) ≡ is_some (beside name table) → (same : Bool)
        → (same || is_among (firsts table) (k.Simple name)) ≡ is_some (if same then Some entry.1 else beside name table)
    go later true = refl
    go later false = later

words-keywords : firsts words ≡ keywords
unfolding firsts
words-keywords = refl

no-among : (table : List (List ℕ)) (kind : TokenKind) → ((spelling : List ℕ) → is_word spelling kind ≡ false) → is_among table kind ≡ false
no-among [] kind none = refl
no-among (spelling ∷ table) kind none = rw (none spelling, no-among table kind none)

pub among-is : (kind : TokenKind) → is_among keywords kind ≡ is_some (keyword_of kind)
among-is (k.Simple name) = ap (λ (t : List (List ℕ)). is_among t (k.Simple name)) (sym words-keywords) ∙ among-beside words name
among-is kind = no-among keywords kind (λ spelling. refl)

none-is : {A : Type 0} (found : Option A) → is_some found ≡ false → found ≡ None
none-is None is = refl
none-is (Some x) is = cc

pub no-keyword : (kind : TokenKind) → is_among keywords kind ≡ false → keyword_of kind ≡ None
no-keyword kind is = none-is (keyword_of kind) (sym (among-is kind) ∙ is)

pub keyword-no : (kind : TokenKind) → keyword_of kind ≡ None → is_among keywords kind ≡ false
keyword-no kind is = among-is kind ∙ ap is_some is
