-- The syntax tree of a grammar's text: names of phases, brackets, `|`, `*`, `+` and `?`, with blanks between (own).
use Rattle.std.specs.Prelude.{ℕ, ◌==◌, nat_le, ◌&&◌, ◌||◌, Bool, true, false, if◌then◌else◌, List, [], ◌∷◌, unwrap_or}
use Rattle.std.specs.List.{position}
use Rattle.std.specs.Str.{bytes_eq}
use Rattle.lexicon_definitions.specs.Grammars.{Grammar, Name, Sequence, Either, AnyTimes, OnceOrMore, AtMostOnce}

-- what a text is made of
pub data Token : Type 0 where
  Word : (bytes : List ℕ) → Token
  Open : Token
  Close : Token
  Bar : Token
  Star : Token
  Plus : Token
  Question : Token
  Other : (byte : ℕ) → Token

-- a name has small letters, digits and `_`
abbrev pub is_name_byte : ℕ → Bool
is_name_byte byte = (nat_le 97 byte && nat_le byte 122) || (nat_le 48 byte && nat_le byte 57) || byte == 95

-- a blank is the byte 32
abbrev pub is_blank : ℕ → Bool
is_blank byte = byte == 32

-- a name's byte stands before the text
abbrev pub begins_with_name_byte : List ℕ → Bool
begins_with_name_byte [] = false
begins_with_name_byte (byte ∷ text) = is_name_byte byte

-- a byte that is neither blank nor of a name is a token by itself
abbrev pub symbol_of : ℕ → Token
symbol_of byte =
    if byte == 40 then Open
    else if byte == 41 then Close
    else if byte == 124 then Bar
    else if byte == 42 then Star
    else if byte == 43 then Plus
    else if byte == 63 then Question
    else Other byte

-- a name's byte before these tokens, the first of which it joins where a name's byte comes next
abbrev pub with_name_byte : ℕ → Bool → List Token → List Token
with_name_byte byte true (Word bytes ∷ tokens) = Word (byte ∷ bytes) ∷ tokens
with_name_byte byte goes_on tokens = Word (byte ∷ []) ∷ tokens

-- the tokens of a text, from left to right
abbrev pub tokens_of : List ℕ → List Token
tokens_of [] = []
tokens_of (byte ∷ text) =
    if is_blank byte then tokens_of text
    else if is_name_byte byte then with_name_byte byte (begins_with_name_byte text) (tokens_of text)
    else symbol_of byte ∷ tokens_of text

-- the phase of a name is its number among the names of the phases, counted from 0
abbrev pub phase_named : List (List ℕ) → List ℕ → ℕ
phase_named names name = unwrap_or (position (bytes_eq name) names) 0

-- what stands between two brackets so far: the sequences before the last `|`, and the items since, the newest first
pub record Level : Type 0 where
  pub sequences : List Grammar
  pub items : List Grammar

abbrev pub empty_level : Level
empty_level = record { sequences = []; items = [] }

-- the items as one sequence
abbrev pub sequence_tree : List Grammar → Grammar
sequence_tree [] = Name 0
sequence_tree (item ∷ []) = item
sequence_tree (item ∷ before ∷ items) = Sequence (sequence_tree (before ∷ items)) item

-- the sequences as one expression
abbrev pub expression_tree : List Grammar → Grammar
expression_tree [] = Name 0
expression_tree (sequence ∷ []) = sequence
expression_tree (sequence ∷ before ∷ sequences) = Either (expression_tree (before ∷ sequences)) sequence

-- all that stands at a level, as one expression
abbrev pub level_tree : Level → Grammar
level_tree level = expression_tree (sequence_tree level.items ∷ level.sequences)

-- one item more
abbrev pub with_item : Grammar → Level → Level
with_item item level = record { sequences = level.sequences; items = item ∷ level.items }

-- the newest item, changed
abbrev pub with_newest : (Grammar → Grammar) → List Grammar → List Grammar
with_newest change [] = []
with_newest change (item ∷ items) = change item ∷ items

abbrev pub change_newest : (Grammar → Grammar) → Level → Level
change_newest change level = record { sequences = level.sequences; items = with_newest change level.items }

-- the level after a closed bracket
abbrev pub after_close : Level → List Level → List Level
after_close level [] = level ∷ []
after_close level (outer ∷ levels) = with_item (level_tree level) outer ∷ levels

-- the open levels, the innermost first, after one token more
abbrev pub after_token : List (List ℕ) → Token → List Level → List Level
after_token names token [] = []
after_token names (Word name) (level ∷ levels) = with_item (Name (phase_named names name)) level ∷ levels
after_token names Open (level ∷ levels) = empty_level ∷ level ∷ levels
after_token names Close (level ∷ levels) = after_close level levels
after_token names Bar (level ∷ levels) =
    record { sequences = sequence_tree level.items ∷ level.sequences; items = [] } ∷ levels
after_token names Star (level ∷ levels) = change_newest AnyTimes level ∷ levels
after_token names Plus (level ∷ levels) = change_newest OnceOrMore level ∷ levels
after_token names Question (level ∷ levels) = change_newest AtMostOnce level ∷ levels
after_token names (Other byte) (level ∷ levels) = level ∷ levels

abbrev pub after_tokens : List (List ℕ) → List Token → List Level → List Level
after_tokens names [] levels = levels
after_tokens names (token ∷ tokens) levels = after_tokens names tokens (after_token names token levels)

abbrev pub outermost_tree : List Level → Grammar
outermost_tree [] = Name 0
outermost_tree (level ∷ levels) = level_tree level

-- the syntax tree of a text over these names, where the text is a grammar text
unfoldable pub grammar_of : List (List ℕ) → List ℕ → Grammar
grammar_of names text = outermost_tree (after_tokens names (tokens_of text) (empty_level ∷ []))
