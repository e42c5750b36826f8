-- A worker lists the answers of a front one after another: the next answer has the front too, or none of it is left, since the answers of
-- one front stand together.
use Rattle.std.proofs.Common.{◌≡◌, ℕ, ◌+◌, true, false, String, Global, List, [], ◌∷◌, ◌++◌, length, map, string_bytes, refl, sym, ap, ◌∙◌, subst, arith}
use Rattle.std.specs.declared.cmp.Ordering.TheVariants.{Equal}
use Rattle.std.proofs.lemmas.List.{map-append}
use Rattle.text_definitions.specs.Lines.{Line}
use Rattle.segmentation_definitions.specs.Derivations.{Step}
use Rattle.segmentation_definitions.specs.Items.{Choice}
use Rattle.segmentation_definitions.specs.Listings.{Key, compare_answers, AtAnswer}
use Rattle.segmentation_definitions.proofs.KeyLists.{compare_answers_total, compare_key_lists_exact, same_steps}
use Rattle.list_laws.specs.Firsts.{AreFirst}
use Rattle.front_definitions.specs.Fronts.{HasFront}
use Rattle.front_definitions.proofs.NextOnes.{AreBefore, none_before, next_before, all_with_next, full_before}
use Rattle.annotated_trie.specs.Searched.{SearchedLexicon}
use Rattle.segmenter.specs.Searches.{SearchValue}
use Rattle.search_split.specs.declared.start.Start.{Start}
use Rattle.search_split.specs.declared.listing.Listed.{Listed}
use Rattle.search_split.specs.NextFronts.{searching}
use Rattle.search_split.specs.Starts.{front_from, IsStart, StandsAtStart}
use Rattle.search_split.specs.Listing.{IsListed, HasGoneOn, HasNoneLeft}
use Rattle.search_split.specs.PrintedPages.{text_after_number}

module _ (searched : SearchedLexicon) (line : Line) (choices : List Choice) (depth : ℕ) (front : List Key) where
  abbrev InFront : List Step → Type 0
  InFront = HasFront searched.lexicon line choices depth front

  exact : (left right : List Step) → InFront left → InFront right → compare_answers searched.lexicon.rules left right ≡ Equal → left ≡ right
  exact left right of_left of_right equal =
      same_steps searched.lexicon.rules left right 0 0 [] [] line.letters line.letters [] [] refl refl of_left.0.derives.covers of_right.0.derives.covers
      (compare_key_lists_exact _ _ equal)

  -- some answers of the front are listed, and the search stands at the next one
  pub record IsListing (texts : List (String Global)) (now : SearchValue) : Type 0 where
    pub answers : List (List Step)
    pub answer : List Step
    pub is : now ≡ searching searched line choices (AtAnswer answer)
    pub before : AreBefore (compare_answers searched.lexicon.rules) InFront answers answer
    pub texts_are : map string_bytes texts ≡ map (text_after_number searched.lexicon.rules) answers

  module _ (listed : Listed) (now : SearchValue) (under : IsListing listed.texts.items now) where
    -- one is left
    pub listed_so_far : listed.more ≡ true → IsListed searched line choices depth front listed
    listed_so_far told =
        let next = full_before (compare_answers_total searched.lexicon.rules) InFront exact under.answers under.answer under.before (length under.answers) refl in
        record {
          answers = under.answers;
          first = subst (AreFirst (compare_answers searched.lexicon.rules) InFront under.answers) (sym told) next.first;
          texts = under.texts_are;
        }

  module _ (texts : List (String Global)) (now : SearchValue) (under : IsListing texts now) (text : String Global)
      (current : (answer : List Step) → now.cursor ≡ AtAnswer answer → string_bytes text ≡ text_after_number searched.lexicon.rules answer) where
    this : string_bytes text ≡ text_after_number searched.lexicon.rules under.answer
    this = current under.answer (ap (λ (value : SearchValue). value.cursor) under.is)

    with_text : map string_bytes (texts ++ text ∷ []) ≡ map (text_after_number searched.lexicon.rules) (under.answers ++ under.answer ∷ [])
    with_text =
        map-append string_bytes texts (text ∷ [])
        ∙ ap (λ list. list ++ string_bytes text ∷ []) under.texts_are
        ∙ ap (λ last. map (text_after_number searched.lexicon.rules) under.answers ++ last ∷ []) this
        ∙ sym (map-append (text_after_number searched.lexicon.rules) under.answers (under.answer ∷ []))

    pub list_goes_on : (new : SearchValue) → HasGoneOn depth front now new → IsListing (texts ++ text ∷ []) new
    list_goes_on new gone =
        let on : HasGoneOn depth front (searching searched line choices (AtAnswer under.answer)) new =
        subst (λ (value : SearchValue). HasGoneOn depth front value new) under.is gone in
        let next = on.moved.next in
        record {
          answers = under.answers ++ under.answer ∷ [];
          answer = on.moved.answer;
          is = on.moved.is;
          before = next_before (compare_answers_total searched.lexicon.rules) InFront exact under.answers under.answer under.before
              on.moved.answer (next.answer, on.has) next.above (λ other of above. next.least other of.0 above);
          texts_are = with_text;
        }

    pub list_ends : (listed : Listed) → listed.texts.items ≡ texts ++ text ∷ [] → listed.more ≡ false → HasNoneLeft depth front now
        → IsListed searched line choices depth front listed
    list_ends listed items told none =
        let left : HasNoneLeft depth front (searching searched line choices (AtAnswer under.answer)) = subst (HasNoneLeft depth front) under.is none in
        let all = all_with_next (compare_answers_total searched.lexicon.rules) InFront exact under.answers under.answer under.before (length under.answers + 1)
        (omega arith) (λ other of above. left under.answer other refl under.before.has.1 of above) in
        record {
          answers = under.answers ++ under.answer ∷ [];
          first = subst (AreFirst (compare_answers searched.lexicon.rules) InFront (under.answers ++ under.answer ∷ [])) (sym told) all.first;
          texts = ap (map string_bytes) items ∙ with_text;
        }

pub list_begins : (searched : SearchedLexicon) (line : Line) (choices : List Choice) (depth : ℕ) (start : Start) (now : SearchValue) (texts : List (String Global))
    → texts ≡ [] → StandsAtStart searched line choices depth start now → IsListing searched line choices depth (front_from depth start) texts now
list_begins searched line choices depth start now texts none stands = record {
  answers = [];
  answer = stands.answer;
  is = stands.is;
  before = none_before (compare_answers_total searched.lexicon.rules) (InFront searched line choices depth (front_from depth start))
      (exact searched line choices depth (front_from depth start)) stands.answer stands.first.has (λ other of. stands.first.least other of);
  texts_are = ap (map string_bytes) none;
}

-- nothing is listed of a part that has answers
pub list_nothing : (searched : SearchedLexicon) (line : Line) (choices : List Choice) (depth : ℕ) (start : Start) (listed : Listed)
    → IsStart searched line choices depth start → listed.texts.items ≡ [] → listed.more ≡ true
    → IsListed searched line choices depth (front_from depth start) listed
list_nothing searched line choices depth start listed is none told =
    listed_so_far searched line choices depth (front_from depth start) listed (searching searched line choices (AtAnswer is.answer))
    (list_begins searched line choices depth start (searching searched line choices (AtAnswer is.answer)) listed.texts.items none
    (record { answer = is.answer; is = refl; first = is.first })) told
