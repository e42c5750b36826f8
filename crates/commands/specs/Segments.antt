-- What `segment` writes over a lexicon for a text in a scheme.
use Rattle.std.specs.Prelude.{◌≡◌, ℕ, List, Ok, Err}
use Rattle.text_definitions.specs.Lines.{Line}
use Rattle.text_definitions.specs.Schemes.{Scheme}
use Rattle.text_definitions.specs.LineTexts.{line_of_text}
use Rattle.text_line.specs.declared.text_fault.TextFault.{TextFault}
use Rattle.text_line.specs.Values.{text_fault}
use Rattle.lexicon_definitions.specs.Lexicons.{Lexicon}
use Rattle.batch_reader.specs.Replies.{IsReply}
use Rattle.run_definitions.specs.declared.limits.TheConstants.{SEGMENT_PAGE}
use Rattle.run_definitions.specs.Refusals.{text_refusal}
use Rattle.commands.specs.declared.status.Status.{Status}
use Rattle.commands.specs.declared.status.Status.TheVariants.{Done, BadText}

-- what is written before the status: the page of the text's line, or the refusal of the text
pub data WritesSegmented (scheme : Scheme) (text : List ℕ) (lexicon : Lexicon) (status : Status) (output : List ℕ) : Type 0 where
  Page : (line : Line) → status ≡ Done → line_of_text scheme text ≡ Ok line → IsReply lexicon SEGMENT_PAGE line output
      → WritesSegmented scheme text lexicon status output
  OfText : (fault : TextFault) → status ≡ BadText fault → line_of_text scheme text ≡ Err (text_fault fault)
      → output ≡ text_refusal (text_fault fault) → WritesSegmented scheme text lexicon status output
