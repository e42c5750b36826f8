-- Each front of an answer that has more may go on: its laws and tests are those of the answer's first steps, and the next
-- form, which is not empty, has letters from a rule or from the line.
use Rattle.std.proofs.Common.{true, inl, inr, List, [], ◌∷◌, ◌++◌, length, sym, ap, subst, refl, arith}
use Rattle.std.specs.List.{AllByRecursion}
use Rattle.std.proofs.lemmas.Bool.{cases_lt}
use Rattle.std.proofs.lemmas.List.{map-append}
use Rattle.text_definitions.specs.Lines.{Line}
use Rattle.lexicon_definitions.specs.Lexicons.{Lexicon, IsLexicon, IsForm, IsPhaseWord}
use Rattle.lexicon_definitions.proofs.GrammarLists.{all_right}
use Rattle.segmentation_definitions.specs.Derivations.{Step, phases_of}
use Rattle.segmentation_definitions.specs.Items.{Choice, placed, placed_from, covered_from}
use Rattle.segmentation_definitions.specs.Answers.{IsAnswer}
use Rattle.segmentation_definitions.specs.LocalTests.{HasNoBlankInside, AllAllow}
use Rattle.segmentation_definitions.specs.Configurations.{Start, entrance_after, IsFront, PassesTests}
use Rattle.segmentation_definitions.proofs.Coverings.{form_not_empty, takes_first, Unchanged, Changed, rule_after_of_number}
use Rattle.segmentation_definitions.proofs.Fronts.{lead_after, covers_split, placed-append, ends_right}
use Rattle.segmentation_definitions.proofs.LocalBlanks.{locally_from_seams}
use Rattle.segmentation_definitions.proofs.LocalChoices.{allowed_if_kept}
use Rattle.answer_paths.specs.Fronts.{supplied, HasRoom, MayGoOn, IsLedTo}
use Rattle.answer_paths.proofs.FrontParts.{all_left, joined_left, joined_right, goes_on_left, supplied_after, left_after, allow_split}
use Rattle.segmentation_definitions.proofs.KeyFronts.{has_rule}

module _ (lexicon : Lexicon) (line : Line) (choices : List Choice) (front : List Step) (next : Step) (rest : List Step) (is : IsLexicon lexicon)
    (answer : IsAnswer lexicon line choices (front ++ next ∷ rest)) where
  front_lawful : IsFront lexicon front line.letters
  front_lawful =
      let both = covers_split lexicon.rules [] front (next ∷ rest) line.letters [] answer.derives.covers in
      record {
        forms = all_left (λ (step : Step). IsForm lexicon step.phase step.form) front (next ∷ rest) answer.derives.forms;
        joined = joined_left lexicon.rules front (next ∷ rest) answer.derives.joined;
        goes_on = goes_on_left lexicon.rules front next rest answer.derives.joined;
        rest = both.between;
        covers = both.first;
      }

  front_tests : PassesTests lexicon.rules line choices front
  front_tests =
      let cut = placed-append lexicon.rules 0 [] front (next ∷ rest) in
      let blanks = locally_from_seams lexicon line (front ++ next ∷ rest) is answer.derives answer.blanks_kept in
      let allowed = allowed_if_kept lexicon line.letters choices (front ++ next ∷ rest) is answer.derives answer.choices_kept in
      let qs = placed_from lexicon.rules (covered_from lexicon.rules 0 [] front) (lead_after lexicon.rules [] front) (next ∷ rest) in
      record {
        no_blank_inside = all_left (HasNoBlankInside line.blanks) (placed lexicon.rules front) qs
            (subst (AllByRecursion (HasNoBlankInside line.blanks)) cut blanks.inside);
        choices_allowed = (allow_split lexicon.rules (length line.letters) choices true (placed lexicon.rules front) qs
            (subst (AllAllow lexicon.rules (length line.letters) choices true) cut allowed)).0;
      }

  front_room : HasRoom lexicon.rules (length line.letters) front
  front_room =
      let both = covers_split lexicon.rules [] front (next ∷ rest) line.letters [] answer.derives.covers in
      let left = left_after lexicon.rules front line.letters both.between both.first in
      let second = both.second in
      let lead = lead_after lexicon.rules [] front in
      let first = takes_first lexicon.rules lead next both.between second.0 second.1 second.2 second.3 in
      let forms = all_right (λ (step : Step). IsForm lexicon step.phase step.form) front (next ∷ rest) answer.derives.forms in
      let some = form_not_empty lexicon next.phase next.form is forms.0 in
      let same = ap length (supplied_after lexicon.rules front) in
      let rule = rule_after_of_number lexicon.rules next is.rules
      (has_rule lexicon.rules next rest (joined_right lexicon.rules front (next ∷ rest) answer.derives.joined)
      (ends_right lexicon.rules front next rest answer.derives.ends)) in
      elim (cases_lt 0 (length (supplied (entrance_after lexicon.rules Start front)))) [
        | inl some_lead ↦ inl some_lead
        | inr none ↦ inr (elim rule [
          | Unchanged zero empty ↦ omega (arith, left.all, first.parts, first.rest, some, same, none, empty.u_empty)
          | Changed number u w ↦ omega (arith, left.all, first.rest, w)
        ])
      ]

  pub front_of_answer : MayGoOn lexicon line choices front
  front_of_answer = record {
    lawful = front_lawful;
    tests = front_tests;
    room = front_room;
    accepted = (phases_of (next ∷ rest), subst (IsPhaseWord lexicon.rules) (map-append (λ (step : Step). step.phase) front (next ∷ rest)) answer.accepted);
  }

-- a front that a search comes to is lawful and passes the tests; the empty one does
pub led_lawful : (lexicon : Lexicon) (line : Line) (choices : List Choice) (front : List Step) → IsLedTo lexicon line choices front
    → IsFront lexicon front line.letters × PassesTests lexicon.rules line choices front
led_lawful lexicon line choices front (inl none) =
    subst (λ front. IsFront lexicon front line.letters × PassesTests lexicon.rules line choices front) (sym none) (
      record { forms = tt; joined = tt; goes_on = tt; rest = line.letters; covers = refl },
      record { no_blank_inside = tt; choices_allowed = tt },
    )
led_lawful lexicon line choices front (inr goes) = (goes.lawful, goes.tests)
