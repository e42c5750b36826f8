-- Block by block the page has the first answers of all fronts so far; it is done when no front is left, or when it is full.
use Rattle.std.proofs.Common.{◌≡◌, ◌⊎◌, inl, inr, ℕ, ◌+◌, ◌*◌, ◌-◌, ◌<◌, ◌≤◌, if◌then◌else◌, Bool, true, false, Option, None, List, [], ◌++◌, length, map, All, string_bytes, refl, sym, ap, ◌∙◌, subst, arith}
use Rattle.std.specs.List.Sorted.{IsStrictlySortedBy}
use Rattle.std.proofs.lemmas.List.{length-map}
use Rattle.text_definitions.specs.Lines.{Line}
use Rattle.segmentation_definitions.specs.Items.{Choice}
use Rattle.segmentation_definitions.specs.Listings.{Key, compare_answers, compare_key_lists}
use Rattle.list_laws.specs.Firsts.{AreFirst}
use Rattle.front_definitions.specs.Fronts.{IsFront, IsFrontAbove, IsAmongFronts}
use Rattle.front_definitions.specs.NextOnes.{AreNext}
use Rattle.front_definitions.proofs.FoundFronts.{fronts_full}
use Rattle.front_definitions.proofs.PutFronts.{put_none, page_of_fronts}
use Rattle.annotated_trie.specs.Searched.{SearchedLexicon}
use Rattle.segmenter.specs.Searches.{SearchValue}
use Rattle.search_split.specs.declared.start.Starts.{Starts}
use Rattle.search_split.specs.declared.listing.Listed.{Listed}
use Rattle.search_split.specs.NextFronts.{IsUnderWay}
use Rattle.search_split.specs.Starts.{front_from, IsStart, HasTaken}
use Rattle.search_split.specs.Listing.{IsPageOfFronts, IsListedPage}
use Rattle.search_split.specs.PrintedPages.{text_after_number}

-- a block more leaves fewer answers to be listed, or no front
pub blocks_fall : (limit old new count : ℕ) (more : Bool) → old < limit → new ≤ limit → (new ≡ limit) ⊎ (old + count ≤ new) → (more ≡ true → count ≡ 16)
    → 2 * (limit - new) + (if more then 1 else 0) < 2 * (limit - old) + 1
blocks_fall limit old new count true fewer room (inl full) many = omega (arith, fewer, full)
blocks_fall limit old new count true fewer room (inr longer) many = let some = many refl in omega (arith, fewer, room, longer, some)
blocks_fall limit old new count false fewer room (inl full) many = omega (arith, fewer, full)
blocks_fall limit old new count false fewer room (inr longer) many = omega (arith, fewer, room, longer)

module _ (searched : SearchedLexicon) (line : Line) (choices : List Choice) (depth limit : ℕ) where
  -- the page has the first answers of these fronts, which are all before that where the search stands, or all where none is left
  pub record IsSoFar (page : Listed) (search : SearchValue) (passed : ℕ) (more : Bool) : Type 0 where
    pub fronts : List (List Key)
    pub under : IsUnderWay searched line choices depth None fronts search more
    pub has : IsPageOfFronts searched line choices depth limit fronts page
    pub room : length page.texts.items ≤ limit
    pub few : passed ≤ 16 * length page.texts.items

  pub blocks_begin : (page : Listed) (search : SearchValue) (more : Bool) → page.texts.items ≡ [] → page.more ≡ false
      → IsUnderWay searched line choices depth None [] search more → IsSoFar page search 0 more
  blocks_begin page search more none ended under = record {
    fronts = [];
    under = under;
    has = record {
      answers = [];
      next = subst (λ left. AreNext (compare_answers searched.lexicon.rules)
          (IsAmongFronts searched.lexicon line choices depth []) limit [] left) (sym ended)
          (put_none searched.lexicon line choices depth limit);
      texts = ap (map string_bytes) none;
    };
    room = let count = ap length none in omega (arith, count);
    few = omega arith;
  }

  -- the first fronts, of which one may be left
  abbrev FirstFronts : List (List Key) → Bool → Type 0
  FirstFronts fronts more = AreFirst compare_key_lists (IsFront searched.lexicon line choices depth) fronts more

  -- after none, any front comes
  any_front : (fronts : List (List Key)) (more : Bool)
      → AreFirst compare_key_lists (IsFrontAbove searched.lexicon line choices depth None) fronts more → FirstFronts fronts more
  any_front fronts more are = record {
    rising = are.rising;
    only = λ front of. (are.only front of).0;
    complete = λ front is. are.complete front (is, tt);
    left = λ told. let found = are.left told in (found.0, found.1.0, found.2);
  }

  first_fronts : (fronts : List (List Key)) (search : SearchValue) (more : Bool) → IsUnderWay searched line choices depth None fronts search more
      → FirstFronts fronts more
  first_fronts fronts search true stands =
      any_front fronts true (fronts_full searched.lexicon line choices depth None fronts _ stands.before (length fronts) refl).first
  first_fronts fronts search false all = any_front fronts false all

  module _ (old new : Listed) (before after : SearchValue) (passed : ℕ) (so_far : IsSoFar old before passed true) (starts : Starts)
      (taken : (earlier : Option (List Key)) (fronts : List (List Key)) → IsUnderWay searched line choices depth earlier fronts before true
      → HasTaken searched line choices depth earlier fronts 16 starts after) where
    these : HasTaken searched line choices depth None so_far.fronts 16 starts after
    these = taken None so_far.fronts so_far.under

    abbrev later : List (List Key)
    later = so_far.fronts ++ map (front_from depth) starts.list.items

    pub block_starts : All (IsStart searched line choices depth) starts.list.items
    block_starts = these.each

    few_starts : length starts.list.items ≤ 16
    few_starts = these.at_most

    module _ (fewer : length old.texts.items < limit) (room : length new.texts.items ≤ limit)
        (grows : (length new.texts.items ≡ limit) ⊎ (length old.texts.items + length starts.list.items ≤ length new.texts.items))
        (page : (fronts : List (List Key)) → IsStrictlySortedBy compare_key_lists (fronts ++ map (front_from depth) starts.list.items)
        → IsPageOfFronts searched line choices depth limit fronts old
        → IsPageOfFronts searched line choices depth limit (fronts ++ map (front_from depth) starts.list.items) new) where
      few_passed : passed + length starts.list.items ≤ 16 * length new.texts.items
      few_passed =
          let few = so_far.few in
          elim grows [ inl same ↦ omega (arith, same, fewer, few, few_starts) | inr longer ↦ omega (arith, longer, few, few_starts) ]

      pub blocks_go_on : IsSoFar new after (passed + length starts.list.items) starts.more
      blocks_go_on = record {
        fronts = later;
        under = these.under;
        has = page so_far.fronts (first_fronts later after starts.more these.under).rising so_far.has;
        room = room;
        few = few_passed;
      }

  pub blocks_done : (page : Listed) (search : SearchValue) (passed : ℕ) (more : Bool) → IsSoFar page search passed more
      → (more ≡ true → limit ≤ length page.texts.items) → (final : Listed) → final.texts ≡ page.texts
      → ((page.more ≡ true) ⊎ (more ≡ true) → final.more ≡ true) → (final.more ≡ true → (page.more ≡ true) ⊎ (more ≡ true))
      → IsListedPage searched.lexicon line choices limit final
  blocks_done page search passed more so_far full final same told says =
      let has = so_far.has in
      let count : length page.texts.items ≡ length has.answers =
      sym (length-map page.texts.items string_bytes) ∙ ap length has.texts ∙ length-map has.answers (text_after_number searched.lexicon.rules) in
      let room = so_far.room in
      record {
        answers = has.answers;
        page = page_of_fronts searched.lexicon line choices depth so_far.fronts more (first_fronts so_far.fronts search more so_far.under) limit has.answers
            page.more has.next (λ left. let least = full left in omega (arith, count, room, least)) final.more told says;
        texts = ap (λ texts. map string_bytes texts.items) same ∙ has.texts;
      }
