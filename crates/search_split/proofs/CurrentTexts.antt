-- An answer that is printed with the number 0 is this digit, the text after the number, and the line's end; what is within is that text,
-- and is UTF-8.
use Rattle.std.proofs.Common.{◌≡◌, ℕ, ◌-◌, ◌≤◌, Some, String, Global, List, [], ◌∷◌, ◌++◌, length, take, drop, IsUtf8, string_bytes, codes, sym, ap, ◌∙◌, subst, arith}
use Rattle.std.proofs.Math.Seq.{take-append_seam}
use Rattle.std.proofs.lemmas.Fmt.{decimal_digit}
use Rattle.std.proofs.lemmas.List.{length-append}
use Rattle.lexicon_definitions.specs.Lexicons.{RuleSet}
use Rattle.segmentation_definitions.specs.Derivations.{Step}
use Rattle.segmentation_definitions.specs.Listings.{AtAnswer}
use Rattle.segmentation_definitions.specs.PrintedAnswers.{printed_answer, printed_steps, output_line, name_of}
use Rattle.derivation.specs.Steps.{steps_of}
use Rattle.derivation.specs.declared.step.Step.{Step as ProgramStep}
use Rattle.segmenter.specs.Searches.{SearchValue, IsCurrent}
use Rattle.search_split.specs.PrintedPages.{text_after_number}
use Rattle.search_split.proofs.FrontsReached.{same_answer}
use Rattle.search_split.proofs.PlainTexts.{text_utf8}

-- what was printed where nothing stood
pub record IsPrinted (rules : RuleSet) (steps : List Step) (line : List ℕ) : Type 0 where
  pub is : line ≡ 48 ∷ (text_after_number rules steps ++ 10 ∷ [])

pub is_printed : (rules : RuleSet) (steps : List Step) (old new line : List ℕ) → old ≡ [] → new ≡ old ++ output_line (printed_answer rules 0 steps) → line ≡ new
    → IsPrinted rules steps line
unfolding printed_answer
is_printed rules steps old new line none new_is same =
    record {
      is = same ∙ new_is ∙ ap (λ text. text ++ output_line (printed_answer rules 0 steps)) none
          ∙ ap (λ digits. digits ++ codes ": " ++ printed_steps rules steps ++ 10 ∷ []) (decimal_digit 0 (omega arith));
    }

module _ (rules : RuleSet) (steps : List Step) (line : List ℕ) (printed : IsPrinted rules steps line) where
  count : length line ≡ length (48 ∷ (text_after_number rules steps ++ 10 ∷ []))
  count = ap length printed.is

  pub both_there : 2 ≤ length line
  both_there = let longer = length-append (text_after_number rules steps) (10 ∷ []) in omega (arith, count, longer)

  within_is : take (length line - 2) (drop 1 line) ≡ text_after_number rules steps
  within_is =
      let text = text_after_number rules steps in
      let longer = length-append text (10 ∷ []) in
      let most : length line - 2 ≡ length text = omega (arith, count, longer) in
      ap (λ (whole : List ℕ). take (length line - 2) (drop 1 whole)) printed.is
      ∙ ap (λ (n : ℕ). take n (text ++ 10 ∷ [])) most
      ∙ take-append_seam text (10 ∷ [])

  pub within_utf8 : ((phase : ℕ) → IsUtf8 (name_of rules phase)) → IsUtf8 (take (length line - 2) (drop 1 line))
  within_utf8 names = subst IsUtf8 (sym within_is) (text_utf8 rules names steps)

-- the text of the answer at which the search stands
pub text_of_current : (search : SearchValue) (rules : RuleSet) (letters : List ℕ) (steps : List ProgramStep) (line : List ℕ) → IsCurrent search (Some steps)
    → search.searched.lexicon.rules ≡ rules → search.line.letters ≡ letters → IsPrinted rules (steps_of rules letters steps) line
    → (text : String Global) → string_bytes text ≡ take (length line - 2) (drop 1 line)
    → (answer : List Step) → search.cursor ≡ AtAnswer answer → string_bytes text ≡ text_after_number rules answer
text_of_current search rules letters steps line current same_rules same_letters printed text is answer at =
    let these : steps_of search.searched.lexicon.rules search.line.letters steps ≡ answer =
    same_answer (steps_of search.searched.lexicon.rules search.line.letters steps) answer (sym current.0 ∙ at) in
    is
    ∙ within_is rules (steps_of rules letters steps) line printed
    ∙ ap (λ (rs : RuleSet). text_after_number rules (steps_of rs letters steps)) (sym same_rules)
    ∙ ap (λ (ls : List ℕ). text_after_number rules (steps_of search.searched.lexicon.rules ls steps)) (sym same_letters)
    ∙ ap (text_after_number rules) these
