-- The keys of the first ways of a list: at first no key, one more with each turn of a loop, and at its end all of them. A key that
-- leads on or ends the line from some state of the set is then one of them.
use Rattle.std.proofs.Common.{◌≡◌, ◌⊎◌, inl, inr, ℕ, ◌+◌, ◌<◌, ◌≤◌, List, [], ◌∷◌, ◌++◌, length, take, get_or, map, Contains, refl, sym, subst}
use Rattle.std.proofs.lemmas.List.{take_more, take_all, map-append}
use Rattle.std.proofs.lemmas.List.Elements.{Contains-append_left, Contains-push, Contains-push_cases}
use Rattle.list_laws.proofs.Sorted.{not_Contains-nil}
use Rattle.text_definitions.specs.Lines.{Line}
use Rattle.segmentation_definitions.specs.Items.{Item, Choice}
use Rattle.segmentation_definitions.specs.Listings.{Key}
use Rattle.annotated_trie.specs.Searched.{SearchedLexicon}
use Rattle.derivation.specs.declared.entrance.Entrance.{Entrance}
use Rattle.search_frames.specs.declared.letter_testing.LetterTest.TheVariants.{LeadsOn}
use Rattle.search_frames.specs.declared.configuration.Configuration.{Configuration}
use Rattle.search_frames.specs.declared.way.Way.{Way}
use Rattle.search_frames.specs.LetterTests.{MayLeadTo, IsLetterTestOf}
use Rattle.search_frames.specs.Configurations.{NumberedConfiguration}
use Rattle.search_frames.specs.WaysFrom.{IsWayFrom, key_of_way}
use Rattle.summary_chart.specs.declared.state_set.StateSet.{StateSet}
use Rattle.summary_chart.specs.declared.table.Table.{Table}
use Rattle.summary_chart.specs.PlaceWays.{HasEachKey, LeadsOnOrEnds}
use Rattle.summary_chart.specs.Spreading.{IsLedOnTo, GoesFurtherBy, OnlyKey, EveryKey}
use Rattle.summary_chart.specs.Summaries.{IsItemBy, IsItemFrom, AddsItems}
use Rattle.summary_chart.proofs.VisitedKeys.{Visit}
use Rattle.summary_chart.proofs.RisingItems.{adds_none, adds_both, adds_same}

-- the key of a way that leads on may do so as the letters tell
pub way_may_lead : (searched : SearchedLexicon) (line : Line) (choices : List Choice) (here : NumberedConfiguration) (way : Way) (at : ℕ) (entrance : Entrance)
    → IsWayFrom searched line choices here way → way.test ≡ LeadsOn at entrance → MayLeadTo searched line choices here (key_of_way way) at entrance
way_may_lead searched line choices here way at entrance from is = subst (IsLetterTestOf searched line choices here (key_of_way way)) is from.test

-- the key is that of one of the first so many ways
abbrev pub IsAmongFirst : ℕ → List Way → Key → Type 0
IsAmongFirst count ways key = Contains (map key_of_way (take count ways)) key

-- the way stands there in the list
pub record IsWayAt (ways : List Way) (count : ℕ) (way : Way) : Type 0 where
  pub below : count < length ways
  pub is : way ≡ get_or ways count way

pub none_at_first : (ways : List Way) (key : Key) → IsAmongFirst 0 ways key → ⊥
none_at_first ways key among = not_Contains-nil key among

module _ (ways : List Way) (count : ℕ) (way : Way) (way_at : IsWayAt ways count way) where
  keys_more : map key_of_way (take (count + 1) ways) ≡ map key_of_way (take count ways) ++ key_of_way way ∷ []
  keys_more = let same = way_at.is in let below = way_at.below in rw (take_more ways count way below, map-append, ← same) refl

  -- one way more is one key more
  pub one_more : (key : Key) → IsAmongFirst (count + 1) ways key → IsAmongFirst count ways key ⊎ OnlyKey (key_of_way way) key
  one_more key among =
      elim (Contains-push_cases (map key_of_way (take count ways)) (key_of_way way) key (subst (λ keys. Contains keys key) keys_more among)) [
        | inl before ↦ inl before
        | inr same ↦ inr (sym same)
      ]

  and_more : (key : Key) → IsAmongFirst count ways key ⊎ OnlyKey (key_of_way way) key → IsAmongFirst (count + 1) ways key
  and_more key (inl before) =
      subst (λ keys. Contains keys key) (sym keys_more) (Contains-append_left (map key_of_way (take count ways)) (key_of_way way ∷ []) key before)
  and_more key (inr same) =
      subst (λ keys. Contains keys key) (sym keys_more)
      (subst (λ k. Contains (map key_of_way (take count ways) ++ key_of_way way ∷ []) k) (sym same)
      (Contains-push (map key_of_way (take count ways)) (key_of_way way)))

-- at the end the key of any way is one of them
pub among_all : (ways : List Way) (count : ℕ) → length ways ≤ count → (key : Key) → Contains (map key_of_way ways) key → IsAmongFirst count ways key
among_all ways count enough key among = subst (λ all. Contains (map key_of_way all) key) (sym (take_all count ways enough)) among

-- what the ways do to a table by which they lead on, and to the states that go further by them
module _ (searched : SearchedLexicon) (line : Line) (choices : List Choice) (place : Configuration) (S : Type 0)
    (visit : Visit searched line choices place S) (ways : List Way) where
  pub visit_no_way : (s : S) → visit.Adds (IsAmongFirst 0 ways) s s
  visit_no_way s = visit.none (IsAmongFirst 0 ways) s (λ key does among. none_at_first ways key among)

  pub visit_way : (count : ℕ) (way : Way) → IsWayAt ways count way → (s t u : S) → visit.Adds (IsAmongFirst count ways) s t
      → visit.Adds (OnlyKey (key_of_way way)) t u → visit.Adds (IsAmongFirst (count + 1) ways) s u
  visit_way count way way_at s t u so_far one =
      visit.same (λ key. IsAmongFirst count ways key ⊎ OnlyKey (key_of_way way) key) (IsAmongFirst (count + 1) ways) s u
      (λ key does among. one_more ways count way way_at key among)
      (and_more ways count way way_at)
      (visit.both (IsAmongFirst count ways) (OnlyKey (key_of_way way)) s t u so_far one)

  pub visit_all_ways : (count : ℕ) → length ways ≤ count → ((key : Key) → visit.Does key → Contains (map key_of_way ways) key)
      → (s t : S) → visit.Adds (IsAmongFirst count ways) s t → visit.Adds EveryKey s t
  visit_all_ways count enough each s t so_far =
      visit.same (IsAmongFirst count ways) EveryKey s t
      (λ key does told. among_all ways count enough key (each key does))
      (λ key among. tt)
      so_far

-- a key that leads on from a state of the set is that of a way
pub has_if_led : (searched : SearchedLexicon) (line : Line) (choices : List Choice) (place : Configuration) (set : StateSet) (ways : List Way)
    → HasEachKey searched (LeadsOnOrEnds searched line choices) place.at place.entrance set ways
    → (key : Key) → (next : Configuration) × IsLedOnTo searched line choices place.at place.entrance set key next → Contains (map key_of_way ways) key
has_if_led searched line choices place set ways each key (next, (number, state, leads)) = each number key state (inr (next, leads))

-- ---- items

-- the item of one of the first so many ways by which some state goes further
abbrev pub IsItemAmongFirst : SearchedLexicon → Line → List Choice → Table → Configuration → StateSet → List Way → ℕ → Item → Type 0
IsItemAmongFirst searched line choices table place set ways count item =
    (key : Key) × IsAmongFirst count ways key × IsItemBy searched line choices table place.at place.entrance set key item

module _ (searched : SearchedLexicon) (line : Line) (choices : List Choice) (table : Table) (place : Configuration) (set : StateSet) (ways : List Way) where
  -- at first there is no item
  pub items_at_first : (items : List Item) → AddsItems (IsItemAmongFirst searched line choices table place set ways 0) items items
  items_at_first items = adds_none (IsItemAmongFirst searched line choices table place set ways 0) items
      (λ item (key, among, by). absurd (none_at_first ways key among))

  -- one way more
  pub items_more : (count : ℕ) (way : Way) → IsWayAt ways count way → (old items new : List Item)
      → AddsItems (IsItemAmongFirst searched line choices table place set ways count) old items
      → AddsItems (IsItemBy searched line choices table place.at place.entrance set (key_of_way way)) items new
      → AddsItems (IsItemAmongFirst searched line choices table place set ways (count + 1)) old new
  items_more count way way_at old items new so_far one =
      adds_both (IsItemAmongFirst searched line choices table place set ways count) (IsItemBy searched line choices table place.at place.entrance set (key_of_way way))
      (IsItemAmongFirst searched line choices table place set ways (count + 1)) old items new
      (λ item (key, among, by). elim (one_more ways count way way_at key among) [
        | inl before ↦ inl (key, before, by)
        | inr same ↦ inr (subst (λ (k : Key). IsItemBy searched line choices table place.at place.entrance set k item) same by)
      ])
      (λ item (key, among, by). (key, and_more ways count way way_at key (inl among), by))
      (λ item by. (key_of_way way, and_more ways count way way_at (key_of_way way) (inr refl), by))
      so_far one

  -- at the end every item is there
  pub items_at_last : (count : ℕ) → length ways ≤ count → HasEachKey searched (GoesFurtherBy searched line choices table) place.at place.entrance set ways → (old items : List Item)
      → AddsItems (IsItemAmongFirst searched line choices table place set ways count) old items
      → AddsItems (IsItemFrom searched line choices table place.at place.entrance set) old items
  items_at_last count enough each old items so_far =
      adds_same (IsItemAmongFirst searched line choices table place set ways count) (IsItemFrom searched line choices table place.at place.entrance set) old items
      (λ item (key, by).
      (key, among_all ways count enough key (each by.number key by.state by.further), by))
      (λ item (key, among, by). (key, by))
      so_far
