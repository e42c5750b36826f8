-- Listed answers are a page: where all are listed no answer is left, and else what the search says next tells whether one is.
use Rattle.std.proofs.Common.{◌≡◌, ◌↔◌, ℕ, ◌<◌, Bool, true, false, IsTrue, List, length, refl, subst}
use Rattle.std.specs.Bool.{OnTrue, OnFalse}
use Rattle.segmentation_definitions.specs.Derivations.{Step}
use Rattle.segmentation_definitions.specs.Answers.{IsAnswer}
use Rattle.segmentation_definitions.specs.Listings.{IsAbove, IsPage}
use Rattle.answer_paths.proofs.NextPages.{page_if_full, page_if_ended}
use Rattle.segmenter.specs.Searches.{SearchValue, MovedOn, HasEnded}
use Rattle.answer_printing.specs.Pages.{HasListed}

-- an answer comes after where the search stands
abbrev pub HasLeft : SearchValue → Type 0
HasLeft search = (answer : List Step) × IsAnswer search.searched.lexicon search.line search.choices answer
    × IsAbove search.searched.lexicon.rules search.cursor answer

-- the search tells by its next move whether one does
pub left_if : (now new : SearchValue) (more : Bool) → OnTrue more (MovedOn now new) → OnFalse more (HasEnded now new) → IsTrue more ↔ HasLeft now
left_if now new true moved ended = (λ yes. (moved.answer, moved.next.answer, moved.next.above), λ found. refl)
left_if now new false moved ended = (λ yes. absurd (cc (yes)), λ found. absurd (ended.none found.0 found.1 found.2))

module _ (old now : SearchValue) (count : ℕ) (answers : List (List Step)) (listed : HasListed old now count answers) where
  -- fewer answers than were asked for are a page after which no answer is left
  pub page_ended : length answers < count → IsPage old.searched.lexicon old.line old.choices old.cursor count answers false
  page_ended fewer = page_if_ended old.searched.lexicon old.line old.choices old.cursor answers listed.first count listed.at_most (listed.ended fewer).none

  -- as many as were asked for are a page, and the search tells by its next move whether one is left
  pub page_full : length answers ≡ count → (new : SearchValue) (more : Bool) → OnTrue more (MovedOn now new) → OnFalse more (HasEnded now new)
      → IsPage old.searched.lexicon old.line old.choices old.cursor count answers more
  page_full full new more moved ended =
      let left = subst (λ (search : SearchValue). IsTrue more ↔ HasLeft search) (listed.full full) (left_if now new more moved ended) in
      subst (λ (n : ℕ). IsPage old.searched.lexicon old.line old.choices old.cursor n answers more) full
      (page_if_full old.searched.lexicon old.line old.choices old.cursor answers listed.first more left)
