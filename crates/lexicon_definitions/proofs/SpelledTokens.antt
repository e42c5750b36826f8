-- Tokens that spell an expression stand where tokens may stand: by recursion on how they are spelled, before any tokens that
-- come after them.
use Rattle.std.proofs.Common.{◌≡◌, ℕ, ◌+◌, ◌-◌, Bool, true, false, nat_lt, List, [], ◌∷◌, ◌++◌, refl, sym, ap, ◌∙◌, append_assoc, arith}
use Rattle.std.specs.Prelude.{◌&&◌, ◌||◌, not}
use Rattle.std.proofs.lemmas.Bool.{lt-ltb}
use Rattle.std.proofs.lemmas.List.{append-nil}
use Rattle.lexicon_definitions.specs.Grammars.{Grammar}
use Rattle.lexicon_definitions.specs.GrammarTexts.{Token, Word, Open, Close, Bar, Star, Plus, Question, Other}
use Rattle.lexicon_definitions.specs.GrammarSyntax.{IsExpression, IsSequence, IsItem, one_sequence, either, one_item, item_after, name, bracketed, any_times, once_or_more, at_most_once}

-- the tokens may stand where so many brackets are open and an item is needed or is not, and nothing is missing at their end
abbrev pub tokens_stand : ℕ → Bool → List Token → Bool
tokens_stand open_brackets needs_item [] = not (needs_item || nat_lt 0 open_brackets)
tokens_stand open_brackets needs_item (Word bytes ∷ tokens) = tokens_stand open_brackets false tokens
tokens_stand open_brackets needs_item (Open ∷ tokens) = tokens_stand (open_brackets + 1) true tokens
tokens_stand open_brackets needs_item (Close ∷ tokens) =
    (not needs_item && nat_lt 0 open_brackets) && tokens_stand (open_brackets - 1) false tokens
tokens_stand open_brackets needs_item (Bar ∷ tokens) = not needs_item && tokens_stand open_brackets true tokens
tokens_stand open_brackets needs_item (Star ∷ tokens) = not needs_item && tokens_stand open_brackets false tokens
tokens_stand open_brackets needs_item (Plus ∷ tokens) = not needs_item && tokens_stand open_brackets false tokens
tokens_stand open_brackets needs_item (Question ∷ tokens) = not needs_item && tokens_stand open_brackets false tokens
tokens_stand open_brackets needs_item (Other byte ∷ tokens) = false

-- after these tokens an item was read, wherever they stand
abbrev StandAsItem : List Token → Type 0
StandAsItem tokens = (open_brackets : ℕ) (needs_item : Bool) (more : List Token)
    → tokens_stand open_brackets needs_item (tokens ++ more) ≡ tokens_stand open_brackets false more

-- a bracket closes what another opened
closed : (open_brackets : ℕ) (more : List Token)
    → tokens_stand (open_brackets + 1) false (Close ∷ more) ≡ tokens_stand open_brackets false more
closed open_brackets more =
    let e : open_brackets + 1 - 1 ≡ open_brackets = omega arith in
    ap (λ b. b && tokens_stand (open_brackets + 1 - 1) false more) (lt-ltb 0 (open_brackets + 1) (omega arith))
    ∙ ap (λ n. tokens_stand n false more) e

mutual
  expression_stands : (names : List (List ℕ)) {tree : Grammar} {tokens : List Token} → IsExpression names tree tokens → StandAsItem tokens
  expression_stands names (one_sequence s) = sequence_stands names s
  expression_stands names (either {front = front} {rest = rest} e s) = λ open_brackets needs_item more.
      ap (tokens_stand open_brackets needs_item) (append_assoc front (Bar ∷ rest) more)
      ∙ (expression_stands names e open_brackets needs_item (Bar ∷ (rest ++ more))
      ∙ sequence_stands names s open_brackets true more)

  sequence_stands : (names : List (List ℕ)) {tree : Grammar} {tokens : List Token} → IsSequence names tree tokens → StandAsItem tokens
  sequence_stands names (one_item i) = item_stands names i
  sequence_stands names (item_after {front = front} {rest = rest} s i) = λ open_brackets needs_item more.
      ap (tokens_stand open_brackets needs_item) (append_assoc front rest more)
      ∙ (sequence_stands names s open_brackets needs_item (rest ++ more)
      ∙ item_stands names i open_brackets false more)

  item_stands : (names : List (List ℕ)) {tree : Grammar} {tokens : List Token} → IsItem names tree tokens → StandAsItem tokens
  item_stands names (name bytes) = λ open_brackets needs_item more. refl
  item_stands names (bracketed {tokens = tokens} e) = λ open_brackets needs_item more.
      ap (tokens_stand (open_brackets + 1) true) (append_assoc tokens (Close ∷ []) more)
      ∙ (expression_stands names e (open_brackets + 1) true (Close ∷ more)
      ∙ closed open_brackets more)
  item_stands names (any_times {tokens = tokens} i) = λ open_brackets needs_item more.
      ap (tokens_stand open_brackets needs_item) (append_assoc tokens (Star ∷ []) more)
      ∙ item_stands names i open_brackets needs_item (Star ∷ more)
  item_stands names (once_or_more {tokens = tokens} i) = λ open_brackets needs_item more.
      ap (tokens_stand open_brackets needs_item) (append_assoc tokens (Plus ∷ []) more)
      ∙ item_stands names i open_brackets needs_item (Plus ∷ more)
  item_stands names (at_most_once {tokens = tokens} i) = λ open_brackets needs_item more.
      ap (tokens_stand open_brackets needs_item) (append_assoc tokens (Question ∷ []) more)
      ∙ item_stands names i open_brackets needs_item (Question ∷ more)

pub spelled_tokens_stand : (names : List (List ℕ)) (tree : Grammar) (tokens : List Token) → IsExpression names tree tokens
    → tokens_stand 0 true tokens ≡ true
spelled_tokens_stand names tree tokens e =
    ap (tokens_stand 0 true) (sym (append-nil tokens)) ∙ expression_stands names e 0 true []
