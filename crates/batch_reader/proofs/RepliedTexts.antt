-- The reply to a line of a text, by what was read of it.
use Rattle.std.proofs.Common.{◌≡◌, ◌++◌, ℕ, List, Ok, Err, codes, refl}
use Rattle.text_definitions.specs.Lines.{Line}
use Rattle.text_definitions.specs.LineTexts.{line_of_text}
use Rattle.lexicon_definitions.specs.Lexicons.{Lexicon}
use Rattle.segmentation_definitions.specs.PrintedAnswers.{output_line}
use Rattle.session_definitions.specs.LineWhys.{why_no_line}
use Rattle.run_definitions.specs.BatchOutcomes.{OfFault, OfPage}
use Rattle.text_line.specs.Values.{scheme_of, text_fault}
use Rattle.text_line.specs.declared.text_fault.TextFault.{TextFault}
use Rattle.batch_reader.specs.declared.asked.TextLine.{TextLine}
use Rattle.batch_reader.specs.Replies.{HasReply, HasLineReply}

module _ (lexicon : Lexicon) (count : ℕ) (text : TextLine) (old new : List ℕ) where
  -- to a line its page
  pub page_replied : (line : Line) → line_of_text (scheme_of text.scheme) text.bytes.now ≡ Ok line → HasReply lexicon count line old new
      → HasLineReply lexicon count text old new
  page_replied line is page = record {
    reply = page.page;
    is = OfPage line page.is.answers page.is.more is page.is.page page.is.printed;
    put = page.put;
  }

  -- to what is no line its fault
  pub fault_replied : (fault : TextFault) → line_of_text (scheme_of text.scheme) text.bytes.now ≡ Err (text_fault fault)
      → new ≡ old ++ output_line (codes "? " ++ why_no_line (text_fault fault)) → HasLineReply lexicon count text old new
  fault_replied fault is why = record { reply = _; is = OfFault (text_fault fault) is refl; put = why }
