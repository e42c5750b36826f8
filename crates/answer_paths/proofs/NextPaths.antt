-- Cursors, the next answer and the listing agree, since answers are paths by their keys, and are compared by them.
use Rattle.std.proofs.Common.{◌≡◌, ◌≢◌, List, [], ◌∷◌, map, Contains, inl, inr, refl, sym, subst}
use Rattle.std.specs.Cmp.Lexicographic.{slice_cmp}
use Rattle.std.specs.List.{AllByRecursion}
use Rattle.std.specs.List.Sorted.{IsStrictlySortedBy}
use Rattle.std.specs.declared.cmp.Ordering.{Ordering}
use Rattle.std.specs.declared.cmp.Ordering.TheVariants.{Less, Greater}
use Rattle.list_laws.proofs.Sorted.{Contains-first, Contains-later, Contains-cons_cases, not_Contains-nil}
use Rattle.text_definitions.specs.Lines.{Line}
use Rattle.lexicon_definitions.specs.Lexicons.{Lexicon, RuleSet, IsLexicon}
use Rattle.segmentation_definitions.specs.Derivations.{Step}
use Rattle.segmentation_definitions.specs.Items.{Choice}
use Rattle.segmentation_definitions.specs.Answers.{IsAnswer}
use Rattle.segmentation_definitions.specs.Listings.{Key, keys_of, compare_keys, Cursor, BeforeFirst, AtAnswer, PastLast, IsAbove, IsNext, IsListingAbove}
use Rattle.segmentation_definitions.proofs.KeyLists.{same_steps}
use Rattle.listing_laws.specs.Ways.{IsPath}
use Rattle.listing_laws.specs.Cursors.{IsAbove as IsPathAbove, IsFirst, IsListingAbove as IsPathListingAbove}
use Rattle.answer_paths.specs.Fronts.{ways_of}
use Rattle.answer_paths.specs.Cursors.{path_cursor}
use Rattle.answer_paths.proofs.AnswerPaths.{path_of_answer, answer_after}
use Rattle.list_laws.proofs.FirstOnes.{Contains-map, Contains-map_cases}
use Rattle.list_laws.proofs.Elements.{all_of_map}

-- an answer is above a cursor where its keys are
pub path_above : (rules : RuleSet) (cursor : Cursor) (steps : List Step) → IsAbove rules cursor steps
    → IsPathAbove compare_keys (path_cursor rules cursor) (keys_of rules steps)
path_above rules BeforeFirst steps above = above
path_above rules (AtAnswer here) steps above = above
path_above rules PastLast steps above = above

pub answer_above : (rules : RuleSet) (cursor : Cursor) (steps : List Step)
    → IsPathAbove compare_keys (path_cursor rules cursor) (keys_of rules steps) → IsAbove rules cursor steps
answer_above rules BeforeFirst steps above = above
answer_above rules (AtAnswer here) steps above = above
answer_above rules PastLast steps above = above

module _ (lexicon : Lexicon) (line : Line) (choices : List Choice) (is : IsLexicon lexicon) where
  -- the keys of the next answer are the first path above
  pub first_if_next : (cursor : Cursor) (steps : List Step) → IsNext lexicon line choices cursor steps
      → IsFirst (ways_of lexicon line choices) [] (IsPathAbove compare_keys (path_cursor lexicon.rules cursor)) (keys_of lexicon.rules steps)
  first_if_next cursor steps next = record {
    path = path_of_answer lexicon line choices steps is next.answer;
    wanted = path_above lexicon.rules cursor steps next.above;
    least = λ other path above.
        let found = answer_after lexicon line choices other [] path in
        let keys : keys_of lexicon.rules found.rest ≡ other = found.keys in
        subst (λ other. slice_cmp compare_keys (keys_of lexicon.rules steps) other ≢ Greater) keys
        (next.least found.rest found.answer (answer_above lexicon.rules cursor found.rest
        (subst (IsPathAbove compare_keys (path_cursor lexicon.rules cursor)) (sym keys) above)));
  }

  -- an answer whose keys are the first path above is the next
  pub next_if_first : (cursor : Cursor) (steps : List Step) → IsAnswer lexicon line choices steps
      → IsFirst (ways_of lexicon line choices) [] (IsPathAbove compare_keys (path_cursor lexicon.rules cursor)) (keys_of lexicon.rules steps)
      → IsNext lexicon line choices cursor steps
  next_if_first cursor steps answer first = record {
    answer = answer;
    above = answer_above lexicon.rules cursor steps first.wanted;
    least = λ other of_other above.
        first.least (keys_of lexicon.rules other) (path_of_answer lexicon line choices other is of_other)
        (path_above lexicon.rules cursor other above);
  }

  -- no path is above where no answer is
  pub no_path_above : (cursor : Cursor)
      → ((steps : List Step) → IsAnswer lexicon line choices steps → IsAbove lexicon.rules cursor steps → ⊥)
      → (path : List Key) → IsPath (ways_of lexicon line choices) [] path → IsPathAbove compare_keys (path_cursor lexicon.rules cursor) path → ⊥
  no_path_above cursor none path of_path above =
      let found = answer_after lexicon line choices path [] of_path in
      none found.rest found.answer (answer_above lexicon.rules cursor found.rest
      (subst (IsPathAbove compare_keys (path_cursor lexicon.rules cursor)) (sym found.keys) above))

  -- and no answer where no path is
  pub no_answer_above : (cursor : Cursor)
      → ((path : List Key) → IsPath (ways_of lexicon line choices) [] path → IsPathAbove compare_keys (path_cursor lexicon.rules cursor) path → ⊥)
      → (steps : List Step) → IsAnswer lexicon line choices steps → IsAbove lexicon.rules cursor steps → ⊥
  no_answer_above cursor none steps answer above =
      none (keys_of lexicon.rules steps) (path_of_answer lexicon line choices steps is answer) (path_above lexicon.rules cursor steps above)

-- the answer whose keys are the first path above
pub record NextOf (lexicon : Lexicon) (line : Line) (choices : List Choice) (cursor : Cursor) (path : List Key) : Type 0 where
  pub steps : List Step
  pub next : IsNext lexicon line choices cursor steps
  pub keys : keys_of lexicon.rules steps ≡ path

pub next_of_first : (lexicon : Lexicon) (line : Line) (choices : List Choice) (cursor : Cursor) (path : List Key) → IsLexicon lexicon
    → IsFirst (ways_of lexicon line choices) [] (IsPathAbove compare_keys (path_cursor lexicon.rules cursor)) path
    → NextOf lexicon line choices cursor path
next_of_first lexicon line choices cursor path is first =
    let found = answer_after lexicon line choices path [] first.path in
    let keys : keys_of lexicon.rules found.rest ≡ path = found.keys in
    record {
      steps = found.rest;
      next = next_if_first lexicon line choices is cursor found.rest found.answer
          (subst (IsFirst (ways_of lexicon line choices) [] (IsPathAbove compare_keys (path_cursor lexicon.rules cursor))) (sym keys) first);
      keys = keys;
    }

-- ---- listings

all_map : {X Y : Type 0} (P : Y → Type 0) (f : X → Y) (xs : List X) → AllByRecursion (λ x. P (f x)) xs → AllByRecursion P (map f xs)
all_map P f [] h = tt
all_map P f (x ∷ xs) h = (h.0, all_map P f xs h.1)

-- a list rises by what is told of its elements where the list of what is told rises
sorted_map : {X Y : Type 0} (R : Y → Y → Ordering) (f : X → Y) (xs : List X) → IsStrictlySortedBy (λ x y. R (f x) (f y)) xs
    → IsStrictlySortedBy R (map f xs)
unfolding IsStrictlySortedBy
sorted_map R f [] h = tt
sorted_map R f (x ∷ xs) h = (all_map (λ y. R (f x) y ≡ Less) f xs h.0, sorted_map R f xs h.1)

sorted_unmap : {X Y : Type 0} (R : Y → Y → Ordering) (f : X → Y) (xs : List X) → IsStrictlySortedBy R (map f xs)
    → IsStrictlySortedBy (λ x y. R (f x) (f y)) xs
unfolding IsStrictlySortedBy
sorted_unmap R f [] h = tt
sorted_unmap R f (x ∷ xs) h = (all_of_map (λ y. R (f x) y ≡ Less) f xs h.0, sorted_unmap R f xs h.1)

pub path_listing : (lexicon : Lexicon) (line : Line) (choices : List Choice) (cursor : Cursor) (answers : List (List Step)) → IsLexicon lexicon
    → IsListingAbove lexicon line choices cursor answers
    → IsPathListingAbove (ways_of lexicon line choices) [] (path_cursor lexicon.rules cursor) (map (keys_of lexicon.rules) answers)
path_listing lexicon line choices cursor answers is listing = record {
  rising = sorted_map (slice_cmp compare_keys) (keys_of lexicon.rules) answers listing.rising;
  only = λ path of.
      let found = Contains-map_cases (keys_of lexicon.rules) answers path of in
      subst (λ path. IsPath (ways_of lexicon line choices) [] path × IsPathAbove compare_keys (path_cursor lexicon.rules cursor) path) found.2 (
        path_of_answer lexicon line choices found.0 is (listing.only_answers found.0 found.1),
        path_above lexicon.rules cursor found.0 (listing.only_above found.0 found.1),
      );
  complete = λ path wanted.
      let found = answer_after lexicon line choices path [] wanted.0 in
      let keys : keys_of lexicon.rules found.rest ≡ path = found.keys in
      let above = answer_above lexicon.rules cursor found.rest
      (subst (IsPathAbove compare_keys (path_cursor lexicon.rules cursor)) (sym keys) wanted.1) in
      subst (Contains (map (keys_of lexicon.rules) answers)) keys
      (Contains-map (keys_of lexicon.rules) answers found.rest (listing.complete found.rest found.answer above));
}

-- the answers whose keys are these paths
record AnswersOf (lexicon : Lexicon) (line : Line) (choices : List Choice) (paths : List (List Key)) : Type 0 where
  answers : List (List Step)
  are : (steps : List Step) → Contains answers steps → IsAnswer lexicon line choices steps
  keys : map (keys_of lexicon.rules) answers ≡ paths

answers_of : (lexicon : Lexicon) (line : Line) (choices : List Choice) (paths : List (List Key))
    → ((path : List Key) → Contains paths path → IsPath (ways_of lexicon line choices) [] path) → AnswersOf lexicon line choices paths
answers_of lexicon line choices [] each = record { answers = []; are = λ steps none. absurd (not_Contains-nil steps none); keys = refl }
answers_of lexicon line choices (path ∷ paths) each =
    let first = answer_after lexicon line choices path [] (each path (Contains-first path paths)) in
    let rest = answers_of lexicon line choices paths (λ other later. each other (Contains-later path paths other later)) in
    let first_is : keys_of lexicon.rules first.rest ≡ path = first.keys in
    let rest_is = rest.keys in
    record {
      answers = first.rest ∷ rest.answers;
      are = λ steps found. elim (Contains-cons_cases first.rest rest.answers steps found) [
        | inl here ↦ subst (IsAnswer lexicon line choices) here first.answer
        | inr later ↦ rest.are steps later
      ];
      keys = λ i. first_is i ∷ rest_is i;
    }

-- the answers of a listing of paths
pub record ListingOf (lexicon : Lexicon) (line : Line) (choices : List Choice) (cursor : Cursor) (paths : List (List Key)) : Type 0 where
  pub answers : List (List Step)
  pub listing : IsListingAbove lexicon line choices cursor answers
  pub keys : map (keys_of lexicon.rules) answers ≡ paths

pub listing_of_paths : (lexicon : Lexicon) (line : Line) (choices : List Choice) (cursor : Cursor) (paths : List (List Key)) → IsLexicon lexicon
    → IsPathListingAbove (ways_of lexicon line choices) [] (path_cursor lexicon.rules cursor) paths
    → ListingOf lexicon line choices cursor paths
listing_of_paths lexicon line choices cursor paths is all =
    let found = answers_of lexicon line choices paths (λ path of. (all.only path of).0) in
    let keys = found.keys in
    let key_lists : List Step → List Key = keys_of lexicon.rules in
    record {
      answers = found.answers;
      listing = record {
        rising = sorted_unmap (slice_cmp compare_keys) key_lists found.answers
            (subst (IsStrictlySortedBy (slice_cmp compare_keys)) (sym keys) all.rising);
        only_answers = found.are;
        only_above = λ steps of. answer_above lexicon.rules cursor steps
            (all.only (key_lists steps) (subst (λ paths. Contains paths (key_lists steps)) keys (Contains-map key_lists found.answers steps of))).1;
        complete = λ steps answer above.
            let there = all.complete (key_lists steps)
            (path_of_answer lexicon line choices steps is answer, path_above lexicon.rules cursor steps above) in
            let other = Contains-map_cases key_lists found.answers (key_lists steps) (subst (λ paths. Contains paths (key_lists steps)) (sym keys) there) in
            let same : other.0 ≡ steps = same_steps lexicon.rules other.0 steps 0 0 [] [] line.letters line.letters [] [] refl refl
            (found.are other.0 other.1).derives.covers answer.derives.covers other.2 in
            subst (Contains found.answers) same other.1;
      };
      keys = keys;
    }
