-- Fronts that are found one after another: the first answer after a front has the next front, since fronts come in the order of their
-- answers.
use Rattle.std.proofs.Common.{◌≡◌, ◌≢◌, ℕ, ◌<◌, true, false, Option, Some, None, List, [], ◌∷◌, ◌++◌, length, refl, sym, subst}
use Rattle.std.specs.declared.cmp.Ordering.TheVariants.{Less, Equal, Greater}
use Rattle.text_definitions.specs.Lines.{Line}
use Rattle.lexicon_definitions.specs.Lexicons.{Lexicon}
use Rattle.segmentation_definitions.specs.Derivations.{Step}
use Rattle.segmentation_definitions.specs.Items.{Choice}
use Rattle.segmentation_definitions.specs.Answers.{IsAnswer}
use Rattle.segmentation_definitions.specs.Listings.{Key, compare_key_lists}
use Rattle.segmentation_definitions.proofs.KeyLists.{compare_key_lists_exact}
use Rattle.front_definitions.specs.Fronts.{front_of, IsFront, IsAfterFront, IsFrontAbove, AreNextFronts, IsFirstOfFront, IsFirstAfter, HasNoneAfter}
use Rattle.front_definitions.proofs.NextOnes.{AreBefore, none_before, none_at_all, next_before, all_with_next, full_before}
use Rattle.front_definitions.proofs.KeyListFronts.{front_not_less}
use Rattle.front_definitions.proofs.SameFronts.{key_lists_total}

module _ (lexicon : Lexicon) (line : Line) (choices : List Choice) (depth : ℕ) where
  -- these are the first fronts after the earlier one, and one more stands right after them
  abbrev pub AreFrontsBefore : Option (List Key) → List (List Key) → List Key → Type 0
  AreFrontsBefore earlier fronts next = AreBefore compare_key_lists (IsFrontAbove lexicon line choices depth earlier) fronts next

  exact : (earlier : Option (List Key)) (left right : List Key) → IsFrontAbove lexicon line choices depth earlier left
      → IsFrontAbove lexicon line choices depth earlier right → compare_key_lists left right ≡ Equal → left ≡ right
  exact earlier left right of_left of_right = compare_key_lists_exact left right

  front_there : (answer : List Step) → IsAnswer lexicon line choices answer → IsFront lexicon line choices depth (front_of lexicon.rules depth answer)
  front_there answer is = (answer, (is, refl))

  -- its front is the least of those after the earlier one
  least_front : (earlier : Option (List Key)) (answer : List Step) → IsFirstAfter lexicon line choices depth earlier answer → (front : List Key)
      → IsFrontAbove lexicon line choices depth earlier front → compare_key_lists (front_of lexicon.rules depth answer) front ≢ Greater
  least_front earlier answer is front ((other, (of, same)), after) =
      subst (λ keys. compare_key_lists (front_of lexicon.rules depth answer) keys ≢ Greater) same
      (front_not_less lexicon.rules depth answer other (is.least other of (subst (IsAfterFront earlier) (sym same) after)))

  -- what comes after a later front comes after the earlier one
  after_later : (earlier : Option (List Key)) (front later : List Key) → IsAfterFront earlier front → compare_key_lists front later ≡ Less
      → IsAfterFront earlier later
  after_later None front later after less = tt
  after_later (Some first) front later after less = key_lists_total.trans first front later after less

  pub first_of_front : (earlier : Option (List Key)) (answer : List Step) → IsFirstAfter lexicon line choices depth earlier answer
      → IsFirstOfFront lexicon line choices depth (front_of lexicon.rules depth answer) answer
  first_of_front earlier answer is = record {
    has = (is.is_answer, refl);
    least = λ other of. is.least other of.0 (subst (IsAfterFront earlier) (sym of.1) is.after);
  }

  pub fronts_begin : (earlier : Option (List Key)) (answer : List Step) → IsFirstAfter lexicon line choices depth earlier answer
      → AreFrontsBefore earlier [] (front_of lexicon.rules depth answer)
  fronts_begin earlier answer is =
      none_before key_lists_total (IsFrontAbove lexicon line choices depth earlier) (exact earlier) (front_of lexicon.rules depth answer)
      (front_there answer is.is_answer, is.after) (least_front earlier answer is)

  pub no_fronts : (earlier : Option (List Key)) (most : ℕ) → HasNoneAfter lexicon line choices depth earlier
      → AreNextFronts lexicon line choices depth earlier most [] false
  no_fronts earlier most none =
      none_at_all key_lists_total (IsFrontAbove lexicon line choices depth earlier) (exact earlier) most
      (λ front (of, after). none of.0 of.1.0 (subst (IsAfterFront earlier) (sym of.1.1) after))

  module _ (earlier : Option (List Key)) (fronts : List (List Key)) (front : List Key) (are : AreFrontsBefore earlier fronts front) where
    pub fronts_go_on : (answer : List Step) → IsFirstAfter lexicon line choices depth (Some front) answer
        → AreFrontsBefore earlier (fronts ++ front ∷ []) (front_of lexicon.rules depth answer)
    fronts_go_on answer is =
        next_before key_lists_total (IsFrontAbove lexicon line choices depth earlier) (exact earlier) fronts front are (front_of lexicon.rules depth answer)
        (front_there answer is.is_answer, after_later earlier front (front_of lexicon.rules depth answer) are.has.1 is.after) is.after
        (λ other of above. least_front (Some front) answer is other (of.0, above))

    pub fronts_end : (most : ℕ) → length fronts < most → HasNoneAfter lexicon line choices depth (Some front)
        → AreNextFronts lexicon line choices depth earlier most (fronts ++ front ∷ []) false
    fronts_end most fewer none =
        all_with_next key_lists_total (IsFrontAbove lexicon line choices depth earlier) (exact earlier) fronts front are most fewer
        (λ other (of, after) above. none of.0 of.1.0 (subst (λ keys. compare_key_lists front keys ≡ Less) (sym of.1.1) above))

    pub fronts_full : (most : ℕ) → length fronts ≡ most → AreNextFronts lexicon line choices depth earlier most fronts true
    fronts_full = full_before key_lists_total (IsFrontAbove lexicon line choices depth earlier) (exact earlier) fronts front are
