-- The next answer after a cursor is one: of two, neither comes after the other, and so they are the same. An only answer has no
-- next one, since no answer comes before itself.
use Rattle.std.proofs.Common.{◌≡◌, ◌≢◌, List, [], refl, sym, ◌∙◌, subst}
use Rattle.std.specs.declared.cmp.Ordering.{Ordering}
use Rattle.std.specs.declared.cmp.Ordering.TheVariants.{Less, Equal, Greater}
use Rattle.std.specs.Ordering.{ordering_reverse}
use Rattle.text_definitions.specs.Lines.{Line}
use Rattle.lexicon_definitions.specs.Lexicons.{Lexicon}
use Rattle.list_laws.proofs.Sorted.{not_Less-itself}
use Rattle.segmentation_definitions.specs.Derivations.{Step}
use Rattle.segmentation_definitions.specs.Items.{Choice}
use Rattle.segmentation_definitions.specs.Answers.{IsAnswer}
use Rattle.segmentation_definitions.specs.Listings.{compare_answers, Cursor, BeforeFirst, AtAnswer, IsNext}
use Rattle.segmentation_definitions.proofs.KeyLists.{compare_answers_total, compare_key_lists_exact, same_steps}
use Rattle.note_definitions.specs.Notes.{IsOnlyAnswer}

-- what is not above, and not below, is equal
equal_if_neither : (o : Ordering) → o ≢ Greater → ordering_reverse o ≢ Greater → o ≡ Equal
equal_if_neither Less above below = absurd (below refl)
equal_if_neither Equal above below = refl
equal_if_neither Greater above below = absurd (above refl)

module _ (lexicon : Lexicon) (line : Line) (choices : List Choice) where
  -- two answers that compare as equal are the same
  same_answers : (left right : List Step) → IsAnswer lexicon line choices left → IsAnswer lexicon line choices right
      → compare_answers lexicon.rules left right ≡ Equal → left ≡ right
  same_answers left right p q e =
      same_steps lexicon.rules left right 0 0 [] [] line.letters line.letters [] [] refl refl p.derives.covers q.derives.covers
      (compare_key_lists_exact _ _ e)

  -- there is one next answer at most
  pub one_next : (cursor : Cursor) (left right : List Step) → IsNext lexicon line choices cursor left
      → IsNext lexicon line choices cursor right → left ≡ right
  one_next cursor left right p q =
      let reversed = (compare_answers_total lexicon.rules).antisymm right left in
      let not_above : compare_answers lexicon.rules left right ≢ Greater = p.least right q.answer q.above in
      let not_below : ordering_reverse (compare_answers lexicon.rules left right) ≢ Greater =
      subst (λ o. o ≢ Greater) reversed (q.least left p.answer p.above) in
      same_answers left right p.answer q.answer (equal_if_neither (compare_answers lexicon.rules left right) not_above not_below)

  -- there is one only answer at most
  pub one_only : (left right : List Step) → IsOnlyAnswer lexicon line choices left → IsOnlyAnswer lexicon line choices right
      → left ≡ right
  one_only left right p q = q.only left p.answer

  -- after an only answer there is none
  pub none_after_only : (steps left right : List Step) → IsOnlyAnswer lexicon line choices steps
      → IsNext lexicon line choices BeforeFirst left → IsNext lexicon line choices (AtAnswer left) right → ⊥
  none_after_only steps left right p q r =
      let same : right ≡ left = p.only right r.answer ∙ sym (p.only left q.answer) in
      not_Less-itself (compare_answers_total lexicon.rules) left
      (subst (λ other. compare_answers lexicon.rules left other ≡ Less) same r.above)
