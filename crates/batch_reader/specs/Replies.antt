-- What is replied to lines that are answered at once: to each line its printed page, and to a line of a text that is no line why it is none
-- (own).
use Rattle.std.specs.Prelude.{◌≡◌, ℕ, ◌+◌, List, [], ◌∷◌, ◌++◌, Bool, Option, Some, Result, Ok, Err}
use Rattle.std.specs.List.{AllZip}
use Rattle.std.specs.Global.{Vec}
use Rattle.text_definitions.specs.Lines.{Line}
use Rattle.text_definitions.specs.Schemes.{Scheme}
use Rattle.text_definitions.specs.LineTexts.{line_of_text}
use Rattle.lexicon_definitions.specs.Lexicons.{Lexicon}
use Rattle.segmentation_definitions.specs.Derivations.{Step}
use Rattle.segmentation_definitions.specs.Listings.{BeforeFirst, IsPage}
use Rattle.segmentation_definitions.specs.PrintedAnswers.{printed_page}
use Rattle.run_definitions.specs.BatchOutcomes.{IsLineReply, numbered_reply}
use Rattle.text_line.specs.Values.{scheme_of, text_fault}
use Rattle.text_line.specs.declared.text_fault.TextFault.{TextFault}
use Rattle.batch_reader.specs.declared.asked.TextLine.{TextLine}
use Rattle.batch_reader.specs.declared.asked.Asked.{Asked}
use Rattle.batch_reader.specs.declared.asked.Asked.TheVariants as asked

-- the text is the printed page of the line's first answers, at most so many, numbered from 1
pub record IsReply (lexicon : Lexicon) (count : ℕ) (line : Line) (text : List ℕ) : Type 0 where
  pub answers : List (List Step)
  pub more : Bool
  pub page : IsPage lexicon line [] BeforeFirst count answers more
  pub printed : text ≡ printed_page lexicon.rules 1 answers more

-- there is a text for each line, in the order of the lines, and it is the line's reply
abbrev pub AreReplies : Lexicon → ℕ → List Line → List (List ℕ) → Type 0
AreReplies lexicon count = AllZip (IsReply lexicon count)

-- what is read in the bytes: the line, or their fault
abbrev pub IsReadIn : Scheme → List ℕ → Result Line TextFault → Type 0
IsReadIn scheme bytes (Ok line) = line_of_text scheme bytes ≡ Ok line
IsReadIn scheme bytes (Err fault) = line_of_text scheme bytes ≡ Err (text_fault fault)

-- the line's reply comes after the old bytes
pub record HasReply (lexicon : Lexicon) (count : ℕ) (line : Line) (old new : List ℕ) : Type 0 where
  pub page : List ℕ
  pub is : IsReply lexicon count line page
  pub put : new ≡ old ++ page

-- the reply to the line of a text comes after the old bytes
pub record HasLineReply (lexicon : Lexicon) (count : ℕ) (line : TextLine) (old new : List ℕ) : Type 0 where
  pub reply : List ℕ
  pub is : IsLineReply lexicon (scheme_of line.scheme) count line.bytes.now reply
  pub put : new ≡ old ++ reply

-- the output is the reply to each of these lines of a text after its number; that of the first is given
abbrev pub ArePortionReplies : Lexicon → ℕ → ℕ → List TextLine → List ℕ → Type 0
ArePortionReplies lexicon count number [] output = output ≡ []
ArePortionReplies lexicon count number (line ∷ lines) output =
    (reply : List ℕ) × (rest : List ℕ) × IsLineReply lexicon (scheme_of line.scheme) count line.bytes.now reply
    × (output ≡ numbered_reply number reply ++ rest)
    × ArePortionReplies lexicon count (number + 1) lines rest

-- a worker is asked for the page of this line
abbrev pub AsksForPage : Line → Asked → Type 0
AsksForPage line (asked.Line other) = other.now ≡ line
AsksForPage line (asked.Portion other) = ⊥

-- the text is the reply, by what is asked: the page of a line, or the replies to the lines of a portion
abbrev pub IsReplyByAsked : Lexicon → ℕ → Asked → List ℕ → Type 0
IsReplyByAsked lexicon count (asked.Line line) text = IsReply lexicon count line.now text
IsReplyByAsked lexicon count (asked.Portion portion) text = ArePortionReplies lexicon count portion.number portion.lines.now text

-- the text is the reply to what is asked
pub record IsReplyTo (lexicon : Lexicon) (count : ℕ) (one : Asked) (text : List ℕ) : Type 0 where
  pub is : IsReplyByAsked lexicon count one text

-- there is a text for all that is asked, in its order, and it is the reply
abbrev pub AreRepliesTo : Lexicon → ℕ → List Asked → List (List ℕ) → Type 0
AreRepliesTo lexicon count = AllZip (IsReplyTo lexicon count)

-- a text that was found for what is asked is the reply
abbrev pub IsFound : Lexicon → ℕ → Asked → Option (Vec ℕ) → Type 0
IsFound lexicon count one found = (text : Vec ℕ) → found ≡ Some text → IsReplyTo lexicon count one text.items

-- there is a place for all that is asked, in its order, and a text that was found there is the reply
abbrev pub AreFound : Lexicon → ℕ → List Asked → List (Option (Vec ℕ)) → Type 0
AreFound lexicon count = AllZip (IsFound lexicon count)
