-- What a block has of a text, and how its lines are handed out.
use Rattle.std.specs.Prelude.{◌≡◌, ℕ, ◌+◌, ◌<◌, ◌≤◌, List, [], ◌∷◌, ◌++◌, length}
use Rattle.std.specs.List.{AllZip}
use Rattle.text_definitions.specs.Schemes.{Scheme}
use Rattle.lexicon_text_definitions.specs.FileLines as file
use Rattle.lexicon_text_definitions.specs.FileLines.{lines_of_bytes}
use Rattle.text_line.specs.Values.{scheme_of}
use Rattle.batch_reader.specs.declared.asked.TextLine.{TextLine}
use Rattle.batch_reader.specs.declared.asked.Asked.{Asked}
use Rattle.batch_reader.specs.declared.asked.Asked.TheVariants as asked

-- this is that line of a text, in this scheme
abbrev pub IsLineOfText : Scheme → file.Line → TextLine → Type 0
IsLineOfText scheme line text = (scheme_of text.scheme ≡ scheme) × (text.bytes.now ≡ line.bytes)

-- the block has the first lines of the bytes, one after another, and these bytes come after them; there are fewer of these
pub record HasCutBlock (scheme : Scheme) (bytes : List ℕ) (block : List TextLine) (rest : List ℕ) : Type 0 where
  pub lines : List file.Line
  pub cut : lines_of_bytes bytes ≡ lines ++ lines_of_bytes rest
  pub are : AllZip (IsLineOfText scheme) lines block
  pub fit : length block + length rest ≤ length bytes
  pub shorter : 0 < length bytes → length rest < length bytes

-- workers are asked for the replies to these lines, portion by portion; the first line has this number
abbrev pub AskForReplies : ℕ → List TextLine → List Asked → Type 0
AskForReplies number lines [] = lines ≡ []
AskForReplies number lines (asked.Line other ∷ more) = ⊥
AskForReplies number lines (asked.Portion portion ∷ more) =
    (others : List TextLine) × (portion.number ≡ number) × (lines ≡ portion.lines.now ++ others)
    × AskForReplies (number + length portion.lines.now) others more
