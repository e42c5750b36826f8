-- What `convert` says of the outcome: the text file tells what was made of it, its fault, or that it is not there; and what was made is
-- written.
use Rattle.std.proofs.Common.{◌≡◌, ℕ, ◌≤◌, List, [], length, Option, Some, None, Ok, string_bytes, refl, sym, ap, ◌∙◌}
use Rattle.outside.specs.Files.{Files, contents_of, with_file}
use Rattle.conversion_definitions.specs.AnySchemes.{AnyScheme}
use Rattle.conversion_definitions.specs.Conversions.{converted_text}
use Rattle.lexicon_text_definitions.specs.declared.limits.TheConstants.{MOST_FILE_BYTES}
use Rattle.lexicon_text_definitions.specs.FileLines.{lines_of_bytes}
use Rattle.run_definitions.specs.Commands.{FileWord}
use Rattle.run_definitions.specs.Ends as ends
use Rattle.run_definitions.specs.Ends.{Outcome, outcome_over}
use Rattle.run_definitions.specs.Refusals.{file_refusal}
use Rattle.run_definitions.specs.SourceTells.{Missing, Refused, Holds, IsMissing}
use Rattle.run_definitions.specs.ConvertOutcomes.{Conversion, with_count, IsConversion, printed_lines, IsConvertedOutcome, IsConvertOutcome}
use Rattle.commands.specs.declared.status.Status.TheVariants.{Done, BadFile}
use Rattle.commands.specs.declared.status.AnyFault.{AnyFault}
use Rattle.commands.specs.declared.convert.ConvertedFile.{ConvertedFile}
use Rattle.commands.specs.Conversions.{IsConvertedFile}
use Rattle.commands.specs.Faults.{file_fault}
use Rattle.commands.specs.RunEnds.{HasOutcome}
use Rattle.commands.specs.Sources.{HoldsSource, IsRefusedSource}
use Rattle.commands.proofs.BuildRuns.{AreRead, told_held, told_refused}

module _ (from to : AnyScheme) (file out : FileWord) where
  pub text_missing : (told : Files) → contents_of told file.name ≡ None → IsConvertOutcome from to file out told (outcome_over told [] ends.ReadFault)
  text_missing told e = record { tells = Missing; do_tell = IsMissing e refl; is_outcome = refl }

  pub text_refused : (files : Option Files) (bytes : List ℕ) (fault : AnyFault) → AreRead files file.name bytes
      → IsRefusedSource (IsConversion from to) ends.Spelling bytes (file_fault fault) → (told : Files) → files ≡ Some told
      → HasOutcome (IsConvertOutcome from to file out told) (BadFile file.place fault) (file_refusal file.name (file_fault fault)) told
  text_refused files bytes fault read why told e = record {
    end = ends.BadFile file.place (file_fault fault);
    told = refl;
    is_it = record {
      tells = Refused (file_fault fault);
      do_tell = told_refused (IsConversion from to) ends.Spelling files told file.name bytes e read (file_fault fault) why;
      is_outcome = refl;
    };
  }

  pub text_held : (files : Option Files) (bytes : List ℕ) (conversion : Conversion) → AreRead files file.name bytes
      → HoldsSource (IsConversion from to) bytes conversion → (told : Files) → files ≡ Some told → (outcome : Outcome)
      → IsConvertedOutcome conversion out told outcome → IsConvertOutcome from to file out told outcome
  text_held files bytes conversion read holds told e outcome is = record {
    tells = Holds conversion;
    do_tell = told_held (IsConversion from to) ends.Spelling files told file.name bytes e read conversion holds;
    is_outcome = is;
  }

-- the text in the other scheme, and the line that counts its lines
pub file_converted : (from to : AnyScheme) (bytes : List ℕ) (converted : ConvertedFile) (lines : ℕ) → length bytes ≤ MOST_FILE_BYTES
    → converted_text from to bytes ≡ Ok converted.text.items → lines ≡ length (lines_of_bytes bytes)
    → string_bytes converted.output ≡ printed_lines lines → IsConvertedFile from to bytes converted
file_converted from to bytes converted lines within text same output = record {
  lines = lines;
  held = record {
    within = within;
    read = ap (with_count (length (lines_of_bytes bytes))) text ∙ ap (λ n. with_count n (Ok converted.text.items)) (sym same);
  };
  output = output;
}

-- the text is written, and then the number of its lines
pub text_written : (converted : ConvertedFile) (lines : ℕ) (out : FileWord) → string_bytes converted.output ≡ printed_lines lines → (told : Files)
    → HasOutcome (IsConvertedOutcome (record { bytes = converted.text.items; lines = lines }) out told) Done (string_bytes converted.output)
    (with_file told out.name converted.text.items)
text_written converted lines out printed told = record {
  end = ends.Done;
  told = refl;
  is_it = λ i. record { output = printed i; files = with_file told out.name converted.text.items; end = ends.Done };
}
