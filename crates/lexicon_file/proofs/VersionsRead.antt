-- The first line tells the version of a file; and what a file of version 1 is read as counts among all versions.
use Rattle.std.proofs.Common.{◌≡◌, ℕ, Option, Some, None, Result, Ok, Err, List, [], ◌∷◌, drop, refl, sym, ap, subst}
use Rattle.std.specs.Prelude.{IfOk, IfErr}
use Rattle.lexicon_text_definitions.specs.FileLines.{Line, lines_of_bytes}
use Rattle.lexicon_text_definitions.specs.FileReadings as first
use Rattle.trie_text_definitions.specs.Versions.{Version, version_told, version_of_lines, version_of}
use Rattle.trie_text_definitions.specs.VersionFaults.{FileResult, same_result}
use Rattle.trie_text_definitions.specs.VersionFaults as faults
use Rattle.trie_text_definitions.specs.VersionReadings.{reading_in, read_lines, IsResult, IsReadIn, IsReadAs}
use Rattle.trie_text_definitions.specs.VersionSteps.{head_told}
use Rattle.form_file.specs.Contents as forms
use Rattle.form_file.specs.declared.error.FileError as form_errors
use Rattle.form_file.specs.declared.error.FileError.TheVariants as form_error_cases
use Rattle.lexicon_file.specs.declared.error.FileError.{FileError}
use Rattle.lexicon_file.specs.declared.error.FileError.TheVariants as error_cases
use Rattle.lexicon_file.specs.Contents.{fault_of, IfFault}
use Rattle.lexicon_file.specs.Faults.{error_from}
use Rattle.lexicon_file.proofs.AnswerLemmas.{same_whys}

-- ---- the first line

module _ (bytes : List ℕ) (line : Line) (lines : List ℕ) (cut : lines_of_bytes bytes ≡ line ∷ lines_of_bytes lines) where
  pub by_line : version_of bytes ≡ version_told line
  unfolding version_of
  by_line = ap version_of_lines cut

  pub lines_after : drop 1 (lines_of_bytes bytes) ≡ lines_of_bytes lines
  lines_after = ap (drop 1) cut

pub no_line : (bytes : List ℕ) → bytes ≡ [] → version_of bytes ≡ None
unfolding version_of
no_line bytes e = ap (λ (bs : List ℕ). version_of_lines (lines_of_bytes bs)) e

-- ---- versions that tell a trie

module _ (bytes lines : List ℕ) (version : Version) (is : version_of bytes ≡ Some version) (after : drop 1 (lines_of_bytes bytes) ≡ lines_of_bytes lines) where
  as_lines : (result : FileResult) → IsResult (read_lines version head_told 2 (lines_of_bytes lines)) result → IsReadAs bytes result
  unfolding reading_in
  as_lines result h =
      subst (λ (v : Option Version). IsReadIn v bytes result) (sym is)
      (subst (λ (rest : List Line). IsResult (read_lines version head_told 2 rest) result) (sym after) h)

  -- of whatever is answered
  pub lines_ok : (C : Type 0) (result : Result C FileError) (P : C → FileResult) → IfOk result (λ contents. IsResult (read_lines version head_told 2 (lines_of_bytes lines)) (P contents))
      → IfOk result (λ contents. IsReadAs bytes (P contents))
  lines_ok C (Ok contents) P h = as_lines (P contents) h
  lines_ok C (Err error) P h = tt

  fault_as : (error : FileError) → IfFault error (λ fault. IsResult (read_lines version head_told 2 (lines_of_bytes lines)) (Err fault)) → IfFault error (λ fault. IsReadAs bytes (Err fault))
  fault_as (error_cases.Fault fault) h = as_lines (Err (fault_of fault)) h
  fault_as error_cases.Memory h = tt

  pub lines_fault : (C : Type 0) (result : Result C FileError) → IfErr result (λ error. IfFault error (λ fault. IsResult (read_lines version head_told 2 (lines_of_bytes lines)) (Err fault)))
      → IfErr result (λ error. IfFault error (λ fault. IsReadAs bytes (Err fault)))
  lines_fault C (Ok contents) h = tt
  lines_fault C (Err error) h = fault_as error h

-- ---- version 1

module _ (bytes : List ℕ) (first_version : version_of bytes ≡ None) where
  pub as_forms : (result : first.FileResult) → first.IsReadAs bytes result → IsReadAs bytes (same_result result)
  as_forms result h = subst (λ (v : Option Version). IsReadIn v bytes (same_result result)) (sym first_version) (result, h, refl)

  pub forms_fault : (error : form_errors.FileError) → forms.IfFault error (λ fault. first.IsReadAs bytes (Err fault)) → IfFault (error_from error) (λ fault. IsReadAs bytes (Err fault))
  forms_fault (form_error_cases.Fault fault) h =
      subst (λ (why : faults.Why). IsReadAs bytes (faults.fault_at fault.line why)) (same_whys fault.why) (as_forms (Err (forms.fault_of fault)) h)
  forms_fault form_error_cases.Memory h = tt
