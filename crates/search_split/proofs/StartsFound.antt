-- Where parts begin, one front after another: each is told by the keys of the answer at which the search stands, and a search that goes
-- there by the keys stands at that answer, since an answer is told by its keys. They are found one after another, wherever the search stood.
use Rattle.std.proofs.Common.{◌≡◌, ℕ, ◌<◌, Bool, true, false, Option, List, [], ◌∷◌, ◌++◌, length, map, take, All, refl, sym, ap, ◌∙◌, subst, arith}
use Rattle.std.specs.Bool.{OnTrue, OnFalse}
use Rattle.std.proofs.lemmas.List.{map-append, length-map, length-append, append_assoc, append-nil}
use Rattle.std.proofs.lemmas.List.Elements.{All-nil, All-cons, All-append}
use Rattle.text_definitions.specs.Lines.{Line}
use Rattle.segmentation_definitions.specs.Derivations.{Step}
use Rattle.segmentation_definitions.specs.Items.{Choice}
use Rattle.segmentation_definitions.specs.Answers.{IsAnswer}
use Rattle.segmentation_definitions.specs.Listings.{Key, keys_of, AtAnswer}
use Rattle.segmentation_definitions.proofs.KeyLists.{same_steps}
use Rattle.front_definitions.specs.Fronts.{front_of, IsFirstOfFront}
use Rattle.derivation.specs.Steps.{key_meant, keys_meant}
use Rattle.annotated_trie.specs.Searched.{SearchedLexicon}
use Rattle.segmenter.specs.Searches.{SearchValue, StandsAtKeys, AreNoKeys}
use Rattle.search_split.specs.declared.start.Start.{Start}
use Rattle.search_split.specs.declared.start.Starts.{Starts}
use Rattle.search_split.specs.NextFronts.{HasNextFront, HasNoNextFront, searching, StandsAfter, IsUnderWay}
use Rattle.search_split.specs.Starts.{front_from, IsStart, StandsAtStart, HasTaken}
use Rattle.search_split.proofs.PartsFound.{fronts_on}

-- the search stands at an answer that has the keys, where there are any
record IsAtKeys (search : SearchValue) (keys : List Key) : Type 0 where
  pub answer : List Step
  pub at : search.cursor ≡ AtAnswer answer
  pub is : IsAnswer search.searched.lexicon search.line search.choices answer
  pub keys_are : keys_of search.searched.lexicon.rules answer ≡ keys

at_keys : (search : SearchValue) (keys : List Key) → 0 < length keys → StandsAtKeys search keys → IsAtKeys search keys
at_keys search [] some stands = absurd (omega (arith, some))
at_keys search (key ∷ keys) some stands = record { answer = stands.0; at = stands.1; is = stands.2; keys_are = stands.3 }

module _ (searched : SearchedLexicon) (line : Line) (choices : List Choice) where
  module _ (depth : ℕ) (earlier : Option (List Key)) (fronts : List (List Key)) (list : List Start) (search : SearchValue)
      (stands : StandsAfter searched line choices depth earlier (fronts ++ map (front_from depth) list) search) (start : Start)
      (keys : (answer : List Step) → search.cursor ≡ AtAnswer answer
      → (0 < length start.keys.items) × (keys_of search.searched.lexicon.rules answer ≡ keys_meant start.keys.items)) where
    these : (0 < length start.keys.items) × (keys_of searched.lexicon.rules stands.answer ≡ keys_meant start.keys.items)
    these = subst (λ (value : SearchValue). (answer : List Step) → value.cursor ≡ AtAnswer answer
        → (0 < length start.keys.items) × (keys_of value.searched.lexicon.rules answer ≡ keys_meant start.keys.items)) stands.is keys stands.answer refl

    front_is : front_of searched.lexicon.rules depth stands.answer ≡ front_from depth start
    front_is = ap (take depth) these.1

    pub is_start : IsStart searched line choices depth start
    is_start = record {
      some = these.0;
      answer = stands.answer;
      keys = these.1;
      first = subst (λ front. IsFirstOfFront searched.lexicon line choices depth front stands.answer) front_is stands.first;
    }

    pub starts_on : (new : SearchValue) (found : Bool) → OnTrue found (HasNextFront depth search new) → OnFalse found (HasNoNextFront depth search)
        → IsUnderWay searched line choices depth earlier (fronts ++ map (front_from depth) (list ++ start ∷ [])) new found
    starts_on new found moved ended =
        subst (λ all. IsUnderWay searched line choices depth earlier all new found)
        (ap (λ front. fronts ++ map (front_from depth) list ++ front ∷ []) front_is
        ∙ append_assoc fronts (map (front_from depth) list) (front_from depth start ∷ [])
        ∙ ap (λ all. fronts ++ all) (sym (map-append (front_from depth) list (start ∷ []))))
        (fronts_on searched line choices depth earlier (fronts ++ map (front_from depth) list) search new found stands moved ended)

  module _ (start : Start) (depth : ℕ) (is : IsStart searched line choices depth start) where
    some_keys : 0 < length (keys_meant start.keys.items)
    some_keys = let count = length-map start.keys.items key_meant in let some = is.some in omega (arith, count, some)

    -- some answer has the keys
    pub has_keys : AreNoKeys searched line choices (keys_meant start.keys.items) → ⊥
    has_keys none = none is.answer is.first.has.0 is.keys

    pub stands_at_start : (search : SearchValue) → search ≡ searching searched line choices search.cursor
        → StandsAtKeys search (keys_meant start.keys.items) → StandsAtStart searched line choices depth start search
    stands_at_start search same stands =
        let there : IsAtKeys (searching searched line choices search.cursor) (keys_meant start.keys.items) =
        subst (λ (value : SearchValue). IsAtKeys value (keys_meant start.keys.items)) same (at_keys search (keys_meant start.keys.items) some_keys stands) in
        record {
          answer = there.answer;
          is = same ∙ ap (searching searched line choices) there.at;
          first = subst (IsFirstOfFront searched.lexicon line choices depth (front_from depth start))
              (same_steps searched.lexicon.rules is.answer there.answer 0 0 [] [] line.letters line.letters [] [] refl refl is.first.has.0.derives.covers
              there.is.derives.covers (is.keys ∙ sym there.keys_are)) is.first;
        }

-- wherever the search stood before, it stands after the fronts of these parts, which begin where they say
pub record IsTaking (depth : ℕ) (old : SearchValue) (list : List Start) (now : SearchValue) : Type 0 where
  pub under : (searched : SearchedLexicon) (line : Line) (choices : List Choice) (earlier : Option (List Key)) (fronts : List (List Key))
      → StandsAfter searched line choices depth earlier fronts old
      → StandsAfter searched line choices depth earlier (fronts ++ map (front_from depth) list) now
  pub each : (searched : SearchedLexicon) (line : Line) (choices : List Choice) (earlier : Option (List Key)) (fronts : List (List Key))
      → StandsAfter searched line choices depth earlier fronts old → All (IsStart searched line choices depth) list

pub taking_begins : (depth : ℕ) (old : SearchValue) (list : List Start) → list ≡ [] → IsTaking depth old list old
taking_begins depth old list none = record {
  under = λ searched line choices earlier fronts stands.
      subst (λ all. StandsAfter searched line choices depth earlier all old)
      (sym (append-nil fronts) ∙ ap (λ starts. fronts ++ map (front_from depth) starts) (sym none)) stands;
  each = λ searched line choices earlier fronts stands. subst (All (IsStart searched line choices depth)) (sym none) (All-nil (IsStart searched line choices depth));
}

module _ (depth : ℕ) (old : SearchValue) (list longer : List Start) (now new : SearchValue) (taking : IsTaking depth old list now) (start : Start)
    (is : longer ≡ list ++ start ∷ []) (keys : (answer : List Step) → now.cursor ≡ AtAnswer answer
    → (0 < length start.keys.items) × (keys_of now.searched.lexicon.rules answer ≡ keys_meant start.keys.items)) where
  each_with : (searched : SearchedLexicon) (line : Line) (choices : List Choice) (earlier : Option (List Key)) (fronts : List (List Key))
      → StandsAfter searched line choices depth earlier fronts old → All (IsStart searched line choices depth) longer
  each_with searched line choices earlier fronts stands =
      subst (All (IsStart searched line choices depth)) (sym is)
      (All-append (IsStart searched line choices depth) list (start ∷ []) (taking.each searched line choices earlier fronts stands)
      (All-cons (IsStart searched line choices depth) start []
      (is_start searched line choices depth earlier fronts list now (taking.under searched line choices earlier fronts stands) start keys)
      (All-nil (IsStart searched line choices depth))))

  pub taking_goes_on : HasNextFront depth now new → IsTaking depth old longer new
  taking_goes_on moved = record {
    under = λ searched line choices earlier fronts stands.
        subst (λ starts. StandsAfter searched line choices depth earlier (fronts ++ map (front_from depth) starts) new) (sym is)
        (starts_on searched line choices depth earlier fronts list now (taking.under searched line choices earlier fronts stands) start keys new true moved tt);
    each = each_with;
  }

  -- no front is left
  pub taking_ends : HasNoNextFront depth now → (starts : Starts) (most : ℕ) → starts.list.items ≡ longer → starts.more ≡ false → length list < most
      → (searched : SearchedLexicon) (line : Line) (choices : List Choice) (earlier : Option (List Key)) (fronts : List (List Key))
      → StandsAfter searched line choices depth earlier fronts old → HasTaken searched line choices depth earlier fronts most starts new
  taking_ends none starts most items told fewer searched line choices earlier fronts stands =
      let all : starts.list.items ≡ list ++ start ∷ [] = items ∙ is in
      let count = ap length all ∙ length-append list (start ∷ []) in
      record {
        under = subst (IsUnderWay searched line choices depth earlier (fronts ++ map (front_from depth) starts.list.items) new) (sym told)
            (subst (λ parts. IsUnderWay searched line choices depth earlier (fronts ++ map (front_from depth) parts) new false) (sym all)
            (starts_on searched line choices depth earlier fronts list now (taking.under searched line choices earlier fronts stands) start keys new false tt none));
        each = subst (All (IsStart searched line choices depth)) (sym items) (each_with searched line choices earlier fronts stands);
        at_most = omega (arith, count, fewer);
        full = λ yes_. absurd (cc (yes_, told));
      }

-- as many are found as were asked for
pub taking_full : (depth : ℕ) (old now : SearchValue) (starts : Starts) (most : ℕ) → IsTaking depth old starts.list.items now → starts.more ≡ true
    → length starts.list.items ≡ most
    → (searched : SearchedLexicon) (line : Line) (choices : List Choice) (earlier : Option (List Key)) (fronts : List (List Key))
    → StandsAfter searched line choices depth earlier fronts old → HasTaken searched line choices depth earlier fronts most starts now
taking_full depth old now starts most taking told full searched line choices earlier fronts stands = record {
  under = subst (IsUnderWay searched line choices depth earlier (fronts ++ map (front_from depth) starts.list.items) now) (sym told)
      (taking.under searched line choices earlier fronts stands);
  each = taking.each searched line choices earlier fronts stands;
  at_most = omega (arith, full);
  full = λ yes_. full;
}
