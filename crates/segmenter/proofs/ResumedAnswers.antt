-- Where frames stand along keys from the opening, the search stands at the answer with these keys; and keys that are no path from
-- there are those of no answer.
use Rattle.std.proofs.Common.{◌≡◌, List, [], ◌∷◌, refl, subst}
use Rattle.text_definitions.specs.Lines.{Line}
use Rattle.segmentation_definitions.specs.Derivations.{Step}
use Rattle.segmentation_definitions.specs.Items.{Choice}
use Rattle.segmentation_definitions.specs.Answers.{IsAnswer}
use Rattle.segmentation_definitions.specs.Listings.{Key, keys_of, AtAnswer}
use Rattle.listing_laws.specs.Ways.{IsPath}
use Rattle.derivation.specs.Steps.{steps_of}
use Rattle.annotated_trie.specs.Searched.{SearchedLexicon, IsSearchedLexicon}
use Rattle.search_frames.specs.declared.cursor.Cursor.TheVariants as cursor
use Rattle.search_frames.specs.declared.resumption.Resumption.{Resumption}
use Rattle.search_frames.specs.Configurations.{opening, rules_in, ways_in}
use Rattle.search_frames.specs.Stacks.{KeepsBefore, steps_in, with_cursor}
use Rattle.segmenter.specs.Chains.{AreFrames}
use Rattle.segmenter.specs.Searches.{IsStackOf, StandsAtKeys, AreNoKeys}
use Rattle.segmenter.specs.Skips.{value_of}
use Rattle.segmenter.proofs.SearchStacks.{stack_restood}
use Rattle.segmenter.proofs.StandingAnswers.{frames_stand, path_of}

module _ (searched : SearchedLexicon) (line : Line) (choices : List Choice) (old new : Resumption) (is : IsSearchedLexicon searched)
    (stack_is : IsStackOf searched line choices old) (keys : List Key) where
  pub stack_at_keys : KeepsBefore 0 old new → AreFrames searched line new 0 opening keys → IsPath (ways_in searched line choices) opening keys
      → IsStackOf searched line choices (with_cursor new cursor.At)
  stack_at_keys keeps frames path =
      stack_restood searched line choices old new cursor.At stack_is keeps (λ at. record { keys = keys; frames = frames; path = path })

  pub stands_at_keys : AreFrames searched line new 0 opening keys → IsPath (ways_in searched line choices) opening keys
      → StandsAtKeys (value_of searched line choices (with_cursor new cursor.At)) keys
  stands_at_keys frames path =
      let stands = frames_stand searched line choices new keys is stack_is.is_line frames path in
      by_keys keys path (steps_of (rules_in searched) line.letters (steps_in new), refl, stands.answer, stands.same)
    where
      by_keys : (keys : List Key) → IsPath (ways_in searched line choices) opening keys
          → ((answer : List Step) × (AtAnswer (steps_of (rules_in searched) line.letters (steps_in new)) ≡ AtAnswer answer)
          × IsAnswer searched.lexicon line choices answer × (keys_of (rules_in searched) answer ≡ keys))
          → StandsAtKeys (value_of searched line choices (with_cursor new cursor.At)) keys
      by_keys [] path at = absurd path
      by_keys (key ∷ keys) path at = at

  pub no_keys : (IsPath (ways_in searched line choices) opening keys → ⊥) → AreNoKeys searched line choices keys
  no_keys none answer answer_is same =
      none (subst (IsPath (ways_in searched line choices) opening) same (path_of searched line choices is stack_is.is_line answer answer_is))
