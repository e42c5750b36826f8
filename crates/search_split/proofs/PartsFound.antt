-- Fronts that a search finds one after another: it stands at the first answer of the next one, or none is left. So for parts, each of
-- which stands at the first answer of its front.
use Rattle.std.proofs.Common.{◌≡◌, ℕ, ◌+◌, ◌≤◌, Bool, true, false, Option, Some, None, Bor, List, [], ◌∷◌, ◌++◌, length, map, MatchOption, refl, sym, ap, ◌∙◌, subst, arith}
use Rattle.std.specs.Bool.{OnTrue, OnFalse}
use Rattle.std.specs.Option.{option_map}
use Rattle.std.proofs.lemmas.List.{map-append}
use Rattle.text_definitions.specs.Lines.{Line}
use Rattle.segmentation_definitions.specs.Derivations.{Step}
use Rattle.segmentation_definitions.specs.Items.{Choice}
use Rattle.segmentation_definitions.specs.Listings.{Key, Cursor, AtAnswer}
use Rattle.front_definitions.specs.Fronts.{front_of, AreNextFronts, IsFirstOfFront}
use Rattle.front_definitions.proofs.FoundFronts.{first_of_front, fronts_begin, no_fronts, fronts_go_on, fronts_end, fronts_full}
use Rattle.annotated_trie.specs.Searched.{SearchedLexicon}
use Rattle.segmenter.specs.Searches.{SearchValue, StandsWhere}
use Rattle.search_split.specs.declared.part.Part.{Part}
use Rattle.search_split.specs.NextFronts.{IsFrontAt, HasNextFront, HasNoNextFront, searching, StandsAfter, IsUnderWay}
use Rattle.search_split.specs.Parts.{IsPart, front_in, cursor_of_part}

module _ (searched : SearchedLexicon) (line : Line) (choices : List Choice) (depth : ℕ) where
  pub front_at_start : (after : Option (Bor Part)) → MatchOption after (Unit {0}) (λ part. IsPart searched line choices depth part.now)
      → IsFrontAt searched.lexicon.rules depth (cursor_of_part searched line (option_map (λ part. part.now) after)) (option_map (λ part. front_in part.now) after)
  front_at_start None is = refl
  front_at_start (Some part) is =
      subst (λ cursor. IsFrontAt searched.lexicon.rules depth cursor (Some (front_in part.now))) (sym is.at) (ap Some (sym is.first.has.1))

  module _ (earlier : Option (List Key)) where
    pub fronts_begin_there : (cursor : Cursor) (old new : SearchValue) (found : Bool) → old ≡ searching searched line choices cursor
        → IsFrontAt searched.lexicon.rules depth cursor earlier → OnTrue found (HasNextFront depth old new) → OnFalse found (HasNoNextFront depth old)
        → IsUnderWay searched line choices depth earlier [] new found
    fronts_begin_there cursor old new true is at moved ended =
        let next : HasNextFront depth (searching searched line choices cursor) new = subst (λ (search : SearchValue). HasNextFront depth search new) is moved in
        record {
          answer = next.answer;
          is = next.is;
          first = first_of_front searched.lexicon line choices depth earlier next.answer (next.first earlier at);
          before = fronts_begin searched.lexicon line choices depth earlier next.answer (next.first earlier at);
        }
    fronts_begin_there cursor old new false is at moved ended =
        let none : HasNoNextFront depth (searching searched line choices cursor) = subst (HasNoNextFront depth) is ended in
        (no_fronts searched.lexicon line choices depth earlier 0 (none earlier at)).first

    module _ (fronts : List (List Key)) where
      pub fronts_on : (search new : SearchValue) (found : Bool) → (stands : StandsAfter searched line choices depth earlier fronts search)
          → OnTrue found (HasNextFront depth search new) → OnFalse found (HasNoNextFront depth search)
          → IsUnderWay searched line choices depth earlier (fronts ++ front_of searched.lexicon.rules depth stands.answer ∷ []) new found
      fronts_on search new true stands moved ended =
          let next : HasNextFront depth (searching searched line choices (AtAnswer stands.answer)) new =
          subst (λ (value : SearchValue). HasNextFront depth value new) stands.is moved in
          let first = next.first (Some (front_of searched.lexicon.rules depth stands.answer)) refl in
          record {
            answer = next.answer;
            is = next.is;
            first = first_of_front searched.lexicon line choices depth (Some (front_of searched.lexicon.rules depth stands.answer)) next.answer first;
            before = fronts_go_on searched.lexicon line choices depth earlier fronts (front_of searched.lexicon.rules depth stands.answer) stands.before
                next.answer first;
          }
      fronts_on search new false stands moved ended =
          let none : HasNoNextFront depth (searching searched line choices (AtAnswer stands.answer)) = subst (HasNoNextFront depth) stands.is ended in
          (fronts_end searched.lexicon line choices depth earlier fronts (front_of searched.lexicon.rules depth stands.answer) stands.before
          (length fronts + 1) (omega arith) (none (Some (front_of searched.lexicon.rules depth stands.answer)) refl)).first

      -- so many are found, and it is known whether a front is left
      pub fronts_found : (most : ℕ) (now : SearchValue) (found : Bool) → IsUnderWay searched line choices depth earlier fronts now found
          → length fronts ≤ most → (found ≡ true → length fronts ≡ most)
          → AreNextFronts searched.lexicon line choices depth earlier most fronts found
      fronts_found most now true stands few full =
          fronts_full searched.lexicon line choices depth earlier fronts (front_of searched.lexicon.rules depth stands.answer) stands.before most (full refl)
      fronts_found most now false first few full = record { first = first; at_most = few; full = λ never. absurd (cc (never)) }

    module _ (list : List Part) (search : SearchValue) (stands : StandsAfter searched line choices depth earlier (map front_in list) search)
        (part : Part) (from : StandsWhere search part.from)
        (front : (answer : List Step) → search.cursor ≡ AtAnswer answer → front_in part ≡ front_of search.searched.lexicon.rules depth answer) where
      front_is : front_in part ≡ front_of searched.lexicon.rules depth stands.answer
      front_is =
          subst (λ (value : SearchValue). (answer : List Step) → value.cursor ≡ AtAnswer answer → front_in part ≡ front_of value.searched.lexicon.rules depth answer)
          stands.is front stands.answer refl

      pub is_part : IsPart searched line choices depth part
      is_part =
          let there : StandsWhere (searching searched line choices (AtAnswer stands.answer)) part.from =
          subst (λ (value : SearchValue). StandsWhere value part.from) stands.is from in
          record {
            stack = there.is_stack;
            answer = stands.answer;
            at = there.cursor;
            first = subst (λ keys. IsFirstOfFront searched.lexicon line choices depth keys stands.answer) (sym front_is) stands.first;
          }

      pub parts_on : (new : SearchValue) (found : Bool) → OnTrue found (HasNextFront depth search new) → OnFalse found (HasNoNextFront depth search)
          → IsUnderWay searched line choices depth earlier (map front_in (list ++ part ∷ [])) new found
      parts_on new found moved ended =
          subst (λ fronts. IsUnderWay searched line choices depth earlier fronts new found)
          (ap (λ keys. map front_in list ++ keys ∷ []) (sym front_is) ∙ sym (map-append front_in list (part ∷ [])))
          (fronts_on (map front_in list) search new found stands moved ended)
