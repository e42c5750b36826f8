-- What completes one front of an answer completes another that ends at the same configuration: clause by clause, each cut
-- where the front ends.
use Rattle.std.proofs.Common.{◌≡◌, ◌≢◌, ℕ, Bool, true, false, List, [], ◌∷◌, ◌++◌, length, refl, sym, ap, subst, ◌∙◌}
use Rattle.std.specs.List.{AllByRecursion}
use Rattle.std.proofs.lemmas.List.{map-append}
use Rattle.text_definitions.specs.Lines.{Line, IsLine}
use Rattle.lexicon_definitions.specs.Grammars.{Accepts, HaveSamePositions}
use Rattle.lexicon_definitions.specs.Lexicons.{Lexicon, RuleSet, tree_of, IsLexicon, IsForm, IsPhaseWord}
use Rattle.lexicon_definitions.proofs.GrammarLists.{all_append, all_right}
use Rattle.lexicon_definitions.proofs.GrammarPositions.{same_positions_go_on, same_state_same_positions}
use Rattle.segmentation_definitions.specs.Derivations.{Step, phases_of, Covers, Derives}
use Rattle.segmentation_definitions.specs.Items.{Placed, Choice, placed, placed_from, covered_from}
use Rattle.segmentation_definitions.specs.Answers.{IsAnswer}
use Rattle.segmentation_definitions.specs.LocalTests.{HasNoBlankInside, HasNoBlankAfterLast, KeepsBlanksLocally, AllAllow}
use Rattle.segmentation_definitions.specs.Configurations.{Configuration, Start, entrance_after, EndsAt, IsFront, PassesTests}
use Rattle.segmentation_definitions.proofs.LocalBlanks.{locally_from_seams, seams_from_locally}
use Rattle.segmentation_definitions.proofs.LocalChoices.{allowed_if_kept, kept_if_allowed}
use Rattle.segmentation_definitions.proofs.Fronts.{lead_after, covers_split, covers_join, same_rest_after, placed-append, lead_of, lead_of_entrance, no_start_after, JoinedBoth, joined_split, joined_join, ends_right, ends_join}

-- the last of two lists of placed steps decides whether a blank stands after
blank_right : (blanks : List ℕ) (ps : List Placed) (q : Placed) (qs : List Placed)
    → HasNoBlankAfterLast blanks (ps ++ q ∷ qs) → HasNoBlankAfterLast blanks (q ∷ qs)
blank_right blanks [] q qs h = h
blank_right blanks (p ∷ []) q qs h = h
blank_right blanks (p ∷ second ∷ ps) q qs h = blank_right blanks (second ∷ ps) q qs h

blank_join : (blanks : List ℕ) (ps : List Placed) (q : Placed) (qs : List Placed)
    → HasNoBlankAfterLast blanks (q ∷ qs) → HasNoBlankAfterLast blanks (ps ++ q ∷ qs)
blank_join blanks [] q qs h = h
blank_join blanks (p ∷ []) q qs h = h
blank_join blanks (p ∷ second ∷ ps) q qs h = blank_join blanks (second ∷ ps) q qs h

-- of steps after a first one, no step is first
module _ (rules : RuleSet) (line_length : ℕ) (choices : List Choice) where
  allow_right : (is_first : Bool) (p : Placed) (ps qs : List Placed)
      → AllAllow rules line_length choices is_first ((p ∷ ps) ++ qs) → AllAllow rules line_length choices false qs
  allow_right is_first p [] qs h = h.1
  allow_right is_first p (second ∷ ps) qs h = allow_right false second ps qs h.1

  allow_join : (is_first : Bool) (p : Placed) (ps qs : List Placed)
      → AllAllow rules line_length choices is_first (p ∷ ps) → AllAllow rules line_length choices false qs
      → AllAllow rules line_length choices is_first ((p ∷ ps) ++ qs)
  allow_join is_first p [] qs h k = (h.0, k)
  allow_join is_first p (second ∷ ps) qs h k = (h.0, allow_join false second ps qs h.1 k)

-- the steps are a front that passes the local tests, and end where others end
pub record SameEnds (lexicon : Lexicon) (line : Line) (choices : List Choice) (left right : List Step) : Type 0 where
  pub covered : covered_from lexicon.rules 0 [] left ≡ covered_from lexicon.rules 0 [] right
  pub entrance : entrance_after lexicon.rules Start left ≡ entrance_after lexicon.rules Start right
  pub places : HaveSamePositions (tree_of lexicon.rules) (phases_of left) (phases_of right)
  pub front : IsFront lexicon right line.letters
  pub tests : PassesTests lexicon.rules line choices right

-- both lists are empty or neither is, so what stands after them is first after both or after neither
choices_right : (lexicon : Lexicon) (line : Line) (choices : List Choice) (left right : List Step) (qs : List Placed)
    → SameEnds lexicon line choices left right
    → AllAllow lexicon.rules (length line.letters) choices true (placed lexicon.rules left ++ qs)
    → AllAllow lexicon.rules (length line.letters) choices true (placed lexicon.rules right ++ qs)
choices_right lexicon line choices [] [] qs ends h = h
choices_right lexicon line choices [] (step ∷ right) qs ends h =
    absurd (no_start_after lexicon.rules step right (sym ends.entrance))
choices_right lexicon line choices (step ∷ left) [] qs ends h =
    absurd (no_start_after lexicon.rules step left ends.entrance)
choices_right lexicon line choices (step ∷ left) (other ∷ right) qs ends h =
    allow_join lexicon.rules (length line.letters) choices true _ _ qs ends.tests.choices_allowed
    (allow_right lexicon.rules (length line.letters) choices true _ _ qs h)

module _ (lexicon : Lexicon) (line : Line) (choices : List Choice) (left right : List Step) (next : Step) (steps : List Step)
    (is : IsLexicon lexicon) (ends : SameEnds lexicon line choices left right) where
  same_lead : lead_after lexicon.rules [] left ≡ lead_after lexicon.rules [] right
  same_lead =
      lead_of_entrance lexicon.rules Start left
      ∙ (ap lead_of ends.entrance ∙ sym (lead_of_entrance lexicon.rules Start right))

  -- the rest stands after both at the same places
  same_placed :
      placed_from lexicon.rules (covered_from lexicon.rules 0 [] left) (lead_after lexicon.rules [] left) (next ∷ steps)
      ≡ placed_from lexicon.rules (covered_from lexicon.rules 0 [] right) (lead_after lexicon.rules [] right) (next ∷ steps)
  same_placed =
      ap (λ at. placed_from lexicon.rules at (lead_after lexicon.rules [] left) (next ∷ steps)) ends.covered
      ∙ ap (λ lead. placed_from lexicon.rules (covered_from lexicon.rules 0 [] right) lead (next ∷ steps)) same_lead

  derives_right : Derives lexicon (left ++ next ∷ steps) line.letters → Derives lexicon (right ++ next ∷ steps) line.letters
  derives_right d =
      let both = covers_split lexicon.rules [] left (next ∷ steps) line.letters [] d.covers in
      let joined = joined_split lexicon.rules left next steps d.joined in
      let following = same_rest_after lexicon.rules left right line.letters both.between ends.front.rest both.first ends.front.covers ends.covered in
      let rest = subst (λ lead. Covers lexicon.rules lead (next ∷ steps) both.between []) same_lead both.second in
      record {
        forms = all_append (λ (step : Step). IsForm lexicon step.phase step.form) right (next ∷ steps) ends.front.forms
            (all_right (λ (step : Step). IsForm lexicon step.phase step.form) left (next ∷ steps) d.forms);
        joined = joined_join lexicon.rules lexicon right next steps is ends.front.forms ends.front.joined ends.front.goes_on
            (subst (λ e. JoinedBoth lexicon.rules e next steps) ends.entrance joined);
        ends = ends_join lexicon.rules right next steps (ends_right lexicon.rules left next steps d.ends);
        covers = covers_join lexicon.rules [] right (next ∷ steps) line.letters ends.front.rest [] ends.front.covers
            (subst (λ b. Covers lexicon.rules (lead_after lexicon.rules [] right) (next ∷ steps) b []) following rest);
      }

  same_places_after :
      placed lexicon.rules (right ++ next ∷ steps)
      ≡ placed lexicon.rules right
      ++ placed_from lexicon.rules (covered_from lexicon.rules 0 [] left) (lead_after lexicon.rules [] left) (next ∷ steps)
  same_places_after =
      placed-append lexicon.rules 0 [] right (next ∷ steps) ∙ ap (λ qs. placed lexicon.rules right ++ qs) (sym same_placed)

  accepted_right : IsPhaseWord lexicon.rules (phases_of (left ++ next ∷ steps))
      → IsPhaseWord lexicon.rules (phases_of (right ++ next ∷ steps))
  accepted_right h =
      let phase : Step → ℕ = λ step. step.phase in
      let cut = subst (Accepts (tree_of lexicon.rules)) (map-append phase left (next ∷ steps)) h in
      subst (Accepts (tree_of lexicon.rules)) (sym (map-append phase right (next ∷ steps)))
      (same_positions_go_on (tree_of lexicon.rules) (phases_of left) (phases_of right) (phases_of (next ∷ steps)) ends.places cut)

  blanks_right : KeepsBlanksLocally lexicon.rules line.blanks (left ++ next ∷ steps)
      → KeepsBlanksLocally lexicon.rules line.blanks (right ++ next ∷ steps)
  blanks_right h =
      let cut = placed-append lexicon.rules 0 [] left (next ∷ steps) in
      let inside = subst (AllByRecursion (HasNoBlankInside line.blanks)) cut h.inside in
      let following = subst (HasNoBlankAfterLast line.blanks) cut h.following in
      record {
        inside = subst (AllByRecursion (HasNoBlankInside line.blanks)) (sym same_places_after)
            (all_append (HasNoBlankInside line.blanks) _ _ ends.tests.no_blank_inside
            (all_right (HasNoBlankInside line.blanks) (placed lexicon.rules left) _ inside));
        following = subst (HasNoBlankAfterLast line.blanks) (sym same_places_after)
            (blank_join line.blanks (placed lexicon.rules right) _ _ (blank_right line.blanks (placed lexicon.rules left) _ _ following));
      }

  allowed_right : AllAllow lexicon.rules (length line.letters) choices true (placed lexicon.rules (left ++ next ∷ steps))
      → AllAllow lexicon.rules (length line.letters) choices true (placed lexicon.rules (right ++ next ∷ steps))
  allowed_right h =
      let cut = placed-append lexicon.rules 0 [] left (next ∷ steps) in
      let P : List Placed → Type 0 = λ ps. AllAllow lexicon.rules (length line.letters) choices true ps in
      subst P (sym same_places_after) (choices_right lexicon line choices left right _ ends (subst P cut h))

  answer_right : IsLine line → IsAnswer lexicon line choices (left ++ next ∷ steps)
      → IsAnswer lexicon line choices (right ++ next ∷ steps)
  answer_right line_is a =
      let d = derives_right a.derives in
      let blanks = locally_from_seams lexicon line (left ++ next ∷ steps) is a.derives a.blanks_kept in
      let allowed = allowed_if_kept lexicon line.letters choices (left ++ next ∷ steps) is a.derives a.choices_kept in
      record {
        derives = d;
        accepted = accepted_right a.accepted;
        blanks_kept = seams_from_locally lexicon line (right ++ next ∷ steps) is line_is d (blanks_right blanks);
        choices_kept = kept_if_allowed lexicon line.letters choices (right ++ next ∷ steps) is d (allowed_right allowed);
      }

-- what completes one front completes another that ends at the same configuration
pub same_rests : (lexicon : Lexicon) (line : Line) (choices : List Choice) (configuration : Configuration) (left right rest : List Step)
    → IsLexicon lexicon → IsLine line
    → IsFront lexicon left line.letters → EndsAt lexicon.rules left configuration → PassesTests lexicon.rules line choices left
    → IsFront lexicon right line.letters → EndsAt lexicon.rules right configuration → PassesTests lexicon.rules line choices right
    → rest ≢ [] → IsAnswer lexicon line choices (left ++ rest) → IsAnswer lexicon line choices (right ++ rest)
same_rests lexicon line choices configuration left right [] is line_is front end tests other other_end other_tests some answer =
    absurd (some refl)
same_rests lexicon line choices configuration left right (next ∷ steps) is line_is front end tests other other_end other_tests some answer =
    let ends : SameEnds lexicon line choices left right = record {
      covered = sym end.covered ∙ other_end.covered;
      entrance = sym end.entrance ∙ other_end.entrance;
      places = same_state_same_positions (tree_of lexicon.rules) (phases_of left) (phases_of right) configuration.state end.state other_end.state;
      front = other;
      tests = other_tests;
    } in
    answer_right lexicon line choices left right next steps is ends line_is answer
