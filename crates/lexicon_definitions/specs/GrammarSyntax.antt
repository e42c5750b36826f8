-- How a tree of a phase grammar is written: an expression is sequences with `|` between, a sequence is items one after
-- another, and an item is a name or an expression in brackets, with signs of repetition after it (own).
use Rattle.std.specs.Prelude.{ℕ, List, [], ◌∷◌, ◌++◌}
use Rattle.lexicon_definitions.specs.Grammars.{Grammar, Name, Sequence, Either, AnyTimes, OnceOrMore, AtMostOnce}
use Rattle.lexicon_definitions.specs.GrammarTexts.{Token, Word, Open, Close, Bar, Star, Plus, Question, phase_named}

mutual
  -- the tokens spell the tree as an expression
  pub data IsExpression (names : List (List ℕ)) : Grammar → List Token → Type 0 where
    one_sequence : {tree : Grammar} {tokens : List Token} → IsSequence names tree tokens → IsExpression names tree tokens
    either : {left right : Grammar} {front rest : List Token} → IsExpression names left front → IsSequence names right rest
        → IsExpression names (Either left right) (front ++ Bar ∷ rest)

  -- the tokens spell the tree as a sequence
  pub data IsSequence (names : List (List ℕ)) : Grammar → List Token → Type 0 where
    one_item : {tree : Grammar} {tokens : List Token} → IsItem names tree tokens → IsSequence names tree tokens
    item_after : {first second : Grammar} {front rest : List Token} → IsSequence names first front → IsItem names second rest
        → IsSequence names (Sequence first second) (front ++ rest)

  -- the tokens spell the tree as an item
  pub data IsItem (names : List (List ℕ)) : Grammar → List Token → Type 0 where
    name : (bytes : List ℕ) → IsItem names (Name (phase_named names bytes)) (Word bytes ∷ [])
    bracketed : {tree : Grammar} {tokens : List Token} → IsExpression names tree tokens
        → IsItem names tree (Open ∷ (tokens ++ Close ∷ []))
    any_times : {tree : Grammar} {tokens : List Token} → IsItem names tree tokens → IsItem names (AnyTimes tree) (tokens ++ Star ∷ [])
    once_or_more : {tree : Grammar} {tokens : List Token} → IsItem names tree tokens → IsItem names (OnceOrMore tree) (tokens ++ Plus ∷ [])
    at_most_once : {tree : Grammar} {tokens : List Token} → IsItem names tree tokens → IsItem names (AtMostOnce tree) (tokens ++ Question ∷ [])
