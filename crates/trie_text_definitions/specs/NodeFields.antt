-- What the two fields of a node's line tell: first their shapes, then the letters in them (own).
use Rattle.std.specs.Prelude.{ℕ, ◌==◌, ◌&&◌, nat_le, if◌then◌else◌, Option, Some, None, option_map, option_and_then, Ok, List, [], ◌∷◌, map, length, codes, decimal}
use Rattle.std.specs.List.{slice_split}
use Rattle.std.specs.Str.{bytes_eq}
use Rattle.std.specs.Str.Parse.{digits_value}
use Rattle.text_definitions.specs.Spellings.{Reading}
use Rattle.text_definitions.specs.Slp1.{word_of_slp1}
use Rattle.lexicon_definitions.specs.declared.limits.TheConstants.{MOST_FORM_LETTERS}
use Rattle.lexicon_definitions.specs.Deltas.{Delta}
use Rattle.lexicon_text_definitions.specs.FileContents.{is_tag_text}
use Rattle.lexicon_text_definitions.specs.FileSteps.{one_letter}
use Rattle.trie_text_definitions.specs.LimitedRules.{all_there}

-- ---- numbers and lists

-- the number that the text is in decimal digits, with no 0 before others
abbrev pub number_of : List ℕ → Option ℕ
number_of text = if bytes_eq text (decimal (digits_value 10 text)) then Some (digits_value 10 text) else None

-- the number of a node has at most so many digits
abbrev pub most_node_digits : ℕ
most_node_digits = 9

-- the number of a node, which has not too many digits
abbrev pub node_number : List ℕ → Option ℕ
node_number text = if nat_le (length text) most_node_digits then number_of text else None

-- the texts with `,` between them; `-` is no text
abbrev pub texts_of : List ℕ → List (List ℕ)
texts_of field = if bytes_eq field (codes "-") then [] else slice_split (λ byte. byte == 44) field

-- ---- shapes

-- the parts of a delta, with the text of its letters
pub record DeltaShape : Type 0 where
  pub cut : ℕ
  pub append : List ℕ
  pub tag : List ℕ

-- the parts of a child: the text of its letter, and the number to which it leads
pub record ChildShape : Type 0 where
  pub letter : List ℕ
  pub node : ℕ

abbrev pub delta_with : List ℕ → List ℕ → ℕ → Option DeltaShape
delta_with append tag cut =
    if nat_le cut MOST_FORM_LETTERS && is_tag_text tag then Some (record { cut = cut; append = append; tag = tag }) else None

-- three parts: a cut that is not too great, letters, and a tag
abbrev pub delta_of_parts : List (List ℕ) → Option DeltaShape
delta_of_parts (cut ∷ append ∷ tag ∷ []) = option_and_then (delta_with append tag) (number_of cut)
delta_of_parts parts = None

-- `CUT:APPEND:TAG`, with two `:` in all
abbrev pub delta_shape : List ℕ → Option DeltaShape
delta_shape text = delta_of_parts (slice_split (λ byte. byte == 58) text)

-- two parts: a letter, and the number of a node
abbrev pub child_of_parts : List (List ℕ) → Option ChildShape
child_of_parts (letter ∷ node ∷ []) = option_map (λ number. record { letter = letter; node = number }) (node_number node)
child_of_parts parts = None

-- `X=N`, with one `=` in all
abbrev pub child_shape : List ℕ → Option ChildShape
child_shape text = child_of_parts (slice_split (λ byte. byte == 61) text)

-- the shapes of all deltas that a field tells, and those of all children
abbrev pub delta_shapes : List ℕ → Option (List DeltaShape)
delta_shapes field = all_there (map delta_shape (texts_of field))

abbrev pub child_shapes : List ℕ → Option (List ChildShape)
child_shapes field = all_there (map child_shape (texts_of field))

-- ---- letters

-- the word that is spelled
abbrev pub word_read : Reading → Option (List ℕ)
word_read (Ok word) = Some word
word_read reading = None

-- the delta, where its letters are letters
abbrev pub delta_spelled : DeltaShape → Option Delta
delta_spelled shape =
    option_map (λ append. record { cut = shape.cut; append = append; tag = shape.tag }) (word_read (word_of_slp1 shape.append))

-- the child, where its letter is one letter
abbrev pub child_spelled : ChildShape → Option (ℕ × ℕ)
child_spelled shape = option_map (λ letter. (letter, shape.node)) (one_letter (word_of_slp1 shape.letter))
