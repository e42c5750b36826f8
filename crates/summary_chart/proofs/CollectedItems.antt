-- A key adds its item where some state goes further by it; so after each rule, front and phase the items of those so far are there, and
-- at the end those of all keys. A rule whose u was seen after a front adds nothing there, since its item is that of the rule with the same u.
use Rattle.std.proofs.Common.{◌≡◌, ◌≢◌, ◌⊎◌, ℕ, zero, suc, ◌+◌, ◌<◌, ◌≤◌, inl, inr, List, [], ◌∷◌, ◌++◌, length, take, drop, get_or, All, Contains, sym, ap, subst, ◌∙◌, refl, arith}
use Rattle.std.proofs.lemmas.List.{take_more}
use Rattle.std.proofs.lemmas.List.Elements.{All-get_or, Contains-push, Contains-push_cases, Contains-append_left}
use Rattle.text_definitions.specs.Lines.{Line}
use Rattle.lexicon_definitions.specs.Lexicons.{rule_of}
use Rattle.lexicon_definitions.specs.Tries.{row_of}
use Rattle.segmentation_definitions.specs.Items.{Item, Choice, item_of}
use Rattle.segmentation_definitions.specs.Listings.{Key}
use Rattle.answer_paths.specs.Fronts.{supplied}
use Rattle.answer_paths.specs.Following.{MayStand}
use Rattle.annotated_trie.specs.Choices.{choices_with}
use Rattle.annotated_trie.specs.Searched.{SearchedLexicon, IsSearchedLexicon}
use Rattle.derivation.specs.Guides.{entrance_of}
use Rattle.derivation.specs.declared.entrance.Entrance.{Entrance}
use Rattle.search_frames.specs.declared.ahead.Ahead.{Ahead}
use Rattle.search_frames.specs.declared.configuration.Configuration.{Configuration}
use Rattle.search_frames.specs.Ahead.{IsAhead, MayBegin}
use Rattle.search_frames.specs.Configurations.{NumberedConfiguration, IsPossible, rules_in}
use Rattle.search_frames.specs.Frames.{numbered_of}
use Rattle.search_frames.proofs.PossibleKeys.{possible_phase}
use Rattle.search_frames.proofs.AheadTests.{near_if_stands, begins_if_stands}
use Rattle.list_laws.proofs.Sorted.{not_Contains-nil}
use Rattle.summary_chart.specs.declared.collected.Collected.{Collected}
use Rattle.summary_chart.specs.declared.state_set.StateSet.{StateSet}
use Rattle.summary_chart.specs.declared.table.Table.{Table}
use Rattle.summary_chart.specs.StateSets.{HasState, IsLedTo}
use Rattle.summary_chart.specs.Fronts.{IsFrontAt, AreFronts}
use Rattle.summary_chart.specs.Spreading.{AreGoingFurther, GoesFurtherBy, OnlyKey, leads_in, standing_with}
use Rattle.summary_chart.specs.Summaries.{IsItemBy, IsItemFrom, IsItemInPhase, IsItemAtFront, IsItemByRule, AddsItems, HasSeen, item_with, key_with, made_of}
use Rattle.summary_chart.proofs.FurtherKeys.{possible_if_further}
use Rattle.summary_chart.proofs.Visits.{further_stands, further_leads}
use Rattle.summary_chart.proofs.FrontKeys.{ends_if_unchanged, among_written, letters_left}
use Rattle.summary_chart.proofs.RisingItems.{adds_one, adds_none, adds_both, adds_same}
use Rattle.summary_chart.proofs.VisitedKeys.{below_or_at}

-- ---- one key

module _ (searched : SearchedLexicon) (line : Line) (choices : List Choice) (table : Table) (at : ℕ) (entrance : Entrance) (set : StateSet)
    (key : Key) (further : StateSet) (are : AreGoingFurther searched line choices table at entrance set (OnlyKey key) further) where
  -- where no state goes further, there is no item
  pub none_added : (items : List Item) → ((number : ℕ) → HasState further number → ⊥)
      → AddsItems (IsItemBy searched line choices table at entrance set key) items items
  none_added items none =
      adds_none (IsItemBy searched line choices table at entrance set key) items
      (λ item by. absurd (none by.number ((are by.number).1 (by.state, (key, refl, by.further)))))

  -- where one does, there is just the step's item
  item_of_state : (number : ℕ) → HasState further number → (item : Item) → item ≡ item_with searched line at entrance key
      → IsItemBy searched line choices table at entrance set key item
  item_of_state number has item is =
      let (state, (other, same, by)) = (are number).0 has in
      record {
        number = number;
        state = state;
        further = subst (GoesFurtherBy searched line choices table (standing_with searched at entrance number)) same by;
        is = is;
      }

  -- and this is added where it is put in
  pub one_added : (items new : List Item) (item : Item) → (number : ℕ) × HasState further number
      → item ≡ item_with searched line at entrance key → new ≡ items ++ item ∷ []
      → AddsItems (IsItemBy searched line choices table at entrance set key) items new
  one_added items new item (number, has) is put =
      adds_one (IsItemBy searched line choices table at entrance set key) items new item put (item_of_state number has item is)
      (λ other by. is ∙ sym by.is)

-- rules with the same u have the same item after a front
pub same_item : (searched : SearchedLexicon) (line : Line) (at : ℕ) (entrance : Entrance) (phase taken left right : ℕ)
    → (rule_of (rules_in searched) left).u ≡ (rule_of (rules_in searched) right).u
    → item_with searched line at entrance (key_with phase taken left) ≡ item_with searched line at entrance (key_with phase taken right)
same_item searched line at entrance phase taken left right same =
    ap (λ (u : List ℕ). item_of (record {
      step = record { phase = phase; form = supplied (entrance_of (leads_in searched) entrance) ++ take taken (drop at line.letters) ++ u; rule = 0 };
      at = at;
      lead = length (supplied (entrance_of (leads_in searched) entrance));
      taken = taken;
    })) same

-- what was seen stays so where items are put in, and a rule whose item was put in may be seen besides
pub seen_more : (searched : SearchedLexicon) (line : Line) (at : ℕ) (entrance : Entrance) (phase taken since rule : ℕ) (old new : Collected) (item : Item)
    → item ≡ item_with searched line at entrance (key_with phase taken rule) → new.items.items ≡ old.items.items ++ item ∷ []
    → ((other : ℕ) → other ≤ length (rules_in searched).rules
    → (made_of new other ≡ made_of old other) ⊎ ((rule_of (rules_in searched) other).u ≡ (rule_of (rules_in searched) rule).u))
    → HasSeen searched line at entrance phase taken since old → HasSeen searched line at entrance phase taken since new
seen_more searched line at entrance phase taken since rule old new item is put made seen other few above =
    subst (λ items. Contains items (item_with searched line at entrance (key_with phase taken other))) (sym put) (elim (made other few) [
      | inl same ↦ Contains-append_left old.items.items (item ∷ []) (item_with searched line at entrance (key_with phase taken other))
          (seen other few (subst (λ (n : ℕ). since < n) same above))
      | inr same ↦
          let same_item = is ∙ sym (same_item searched line at entrance phase taken other rule same) in
          subst (λ (i : Item). Contains (old.items.items ++ item ∷ []) i) same_item (Contains-push old.items.items item)
    ])

-- ---- one rule after another

-- a rule whose keys are possible is one of the lexicon
pub possible_number : (searched : SearchedLexicon) (line : Line) (here : NumberedConfiguration) (phase taken : ℕ) (rules : List ℕ) (count rule : ℕ)
    → count < length rules → rule ≡ get_or rules count rule → All (λ (r : ℕ). IsPossible searched line here (key_with phase taken r)) rules
    → rule ≤ length (rules_in searched).rules
possible_number searched line here phase taken rules count rule low is possible =
    let one = All-get_or (λ (r : ℕ). IsPossible searched line here (key_with phase taken r)) rules count rule low possible in
    let number = one.number in
    omega (arith, number, is)

module _ (searched : SearchedLexicon) (line : Line) (choices : List Choice) (table : Table) (at : ℕ) (entrance : Entrance) (set : StateSet)
    (phase taken : ℕ) (rules : List ℕ) where
  abbrev IsItemOf : List ℕ → Item → Type 0
  IsItemOf some item = IsItemByRule searched line choices table at entrance set phase taken some item

  pub rules_at_first : (items : List Item) → AddsItems (IsItemByRule searched line choices table at entrance set phase taken (take 0 rules)) items items
  rules_at_first items = adds_none (IsItemOf []) items (λ item (rule, among, by). absurd (not_Contains-nil rule among))

  module _ (count rule : ℕ) (low : count < length rules) (is : rule ≡ get_or rules count rule) where
    more : take (count + 1) rules ≡ take count rules ++ rule ∷ []
    more = take_more rules count rule low ∙ ap (λ (r : ℕ). take count rules ++ r ∷ []) (sym is)

    either : (item : Item) → IsItemOf (take (count + 1) rules) item
        → IsItemOf (take count rules) item ⊎ IsItemBy searched line choices table at entrance set (key_with phase taken rule) item
    either item (other, among, by) =
        elim (Contains-push_cases (take count rules) rule other (subst (λ (some : List ℕ). Contains some other) more among)) [
          | inl before ↦ inl (other, before, by)
          | inr same ↦ inr (subst (λ (r : ℕ). IsItemBy searched line choices table at entrance set (key_with phase taken r) item) (sym same) by)
        ]

    before : (item : Item) → IsItemOf (take count rules) item → IsItemOf (take (count + 1) rules) item
    before item (other, among, by) =
        (other, subst (λ (some : List ℕ). Contains some other) (sym more) (Contains-append_left (take count rules) (rule ∷ []) other among), by)

    last : (item : Item) → IsItemBy searched line choices table at entrance set (key_with phase taken rule) item → IsItemOf (take (count + 1) rules) item
    last item by = (rule, subst (λ (some : List ℕ). Contains some rule) (sym more) (Contains-push (take count rules) rule), by)

    pub rule_more : (old items new : List Item)
        → AddsItems (IsItemByRule searched line choices table at entrance set phase taken (take count rules)) old items
        → AddsItems (IsItemBy searched line choices table at entrance set (key_with phase taken rule)) items new
        → AddsItems (IsItemByRule searched line choices table at entrance set phase taken (take (count + 1) rules)) old new
    rule_more old items new so_far one =
        adds_both (IsItemOf (take count rules)) (IsItemBy searched line choices table at entrance set (key_with phase taken rule)) (IsItemOf (take (count + 1) rules))
        old items new either before last so_far one

    -- its item is there already
    pub rule_seen : (old items : List Item) → Contains items (item_with searched line at entrance (key_with phase taken rule))
        → AddsItems (IsItemByRule searched line choices table at entrance set phase taken (take count rules)) old items
        → AddsItems (IsItemByRule searched line choices table at entrance set phase taken (take (count + 1) rules)) old items
    rule_seen old items there so_far =
        rule_more old items items so_far
        (adds_none (IsItemBy searched line choices table at entrance set (key_with phase taken rule)) items (λ item by. subst (Contains items) (sym by.is) there))

-- ---- a front

module _ (searched : SearchedLexicon) (is : IsSearchedLexicon searched) (line : Line) (choices : List Choice) (table : Table) (place : Configuration) (set : StateSet)
    (phase taken node : ℕ) (front : IsFrontAt searched line (numbered_of searched place) phase taken node) where
  abbrev IsOfKey : ℕ → Item → Type 0
  IsOfKey rule item = IsItemBy searched line choices table place.at place.entrance set (key_with phase taken rule) item

  -- an item of the front is that of no change, or of a rule
  by_rule : (item : Item) → IsItemAtFront searched line choices table place.at place.entrance set phase taken item → (rule : ℕ) × IsOfKey rule item
  by_rule item (key, same_phase, same_taken, by) =
      let same : key ≡ key_with phase taken key.rule = (λ i. record { phase = same_phase i; taken = same_taken i; rule = key.rule }) in
      (key.rule, subst (λ (k : Key). IsItemBy searched line choices table place.at place.entrance set k item) same by)

  at_front : (item : Item) (rule : ℕ) → IsOfKey rule item → IsItemAtFront searched line choices table place.at place.entrance set phase taken item
  at_front item rule by = (key_with phase taken rule, refl, refl, by)

  -- what may stand there
  possible_by : (item : Item) (rule : ℕ) → IsOfKey rule item → IsPossible searched line (numbered_of searched place) (key_with phase taken rule)
  possible_by item rule by = possible_if_further searched line choices table place set (key_with phase taken rule) by.number by.further

  stands_by : (item : Item) (rule : ℕ) → IsOfKey rule item
      → MayStand searched.lexicon line choices place.at (numbered_of searched place).entrance (key_with phase taken rule)
  stands_by item rule by = further_stands searched line choices place set table (key_with phase taken rule) by.number by.further

  -- no letter is left, so only no change is there
  pub front_without_letter : (old items : List Item) → length line.letters ≤ place.at + taken
      → AddsItems (λ item. ((row_of searched.tries.trie.rows node).deltas ≢ []) × IsOfKey 0 item) old items
      → AddsItems (IsItemAtFront searched line choices table place.at place.entrance set phase taken) old items
  front_without_letter old items none unchanged =
      adds_same (λ item. ((row_of searched.tries.trie.rows node).deltas ≢ []) × IsOfKey 0 item)
      (IsItemAtFront searched line choices table place.at place.entrance set phase taken) old items
      (λ item told. (let (rule, by) = by_rule item told in only_unchanged item rule by))
      (λ item told. at_front item 0 told.1)
      unchanged
    where
      only_unchanged : (item : Item) (rule : ℕ) → IsOfKey rule item → ((row_of searched.tries.trie.rows node).deltas ≢ []) × IsOfKey 0 item
      only_unchanged item zero by = (ends_if_unchanged searched is line (numbered_of searched place) phase taken node front (possible_by item 0 by), by)
      only_unchanged item (suc rule) by =
          let left = letters_left searched is line (numbered_of searched place) phase taken node front choices (suc rule) (omega arith) (stands_by item (suc rule) by) in
          absurd (omega (arith, left, none))

  -- the items of no change and those of the rules that begin with the next letter
  pub front_with_letter : (letter : ℕ) (old mid new : List Item) → letter ≡ get_or line.letters (place.at + taken) letter
      → AddsItems (λ item. ((row_of searched.tries.trie.rows node).deltas ≢ []) × IsOfKey 0 item) old mid
      → AddsItems (IsItemByRule searched line choices table place.at place.entrance set phase taken (choices_with searched.tries node letter)) mid new
      → AddsItems (IsItemAtFront searched line choices table place.at place.entrance set phase taken) old new
  front_with_letter letter old mid new next unchanged changed =
      adds_both (λ item. ((row_of searched.tries.trie.rows node).deltas ≢ []) × IsOfKey 0 item)
      (IsItemByRule searched line choices table place.at place.entrance set phase taken (choices_with searched.tries node letter))
      (IsItemAtFront searched line choices table place.at place.entrance set phase taken) old mid new
      (λ item told. (let (rule, by) = by_rule item told in either item rule by))
      (λ item told. at_front item 0 told.1)
      (λ item (rule, among, by). at_front item rule by)
      unchanged changed
    where
      either : (item : Item) (rule : ℕ) → IsOfKey rule item
          → (((row_of searched.tries.trie.rows node).deltas ≢ []) × IsOfKey 0 item)
          ⊎ IsItemByRule searched line choices table place.at place.entrance set phase taken (choices_with searched.tries node letter) item
      either item zero by = inl (ends_if_unchanged searched is line (numbered_of searched place) phase taken node front (possible_by item 0 by), by)
      either item (suc rule) by =
          inr (
            suc rule,
            among_written searched is line (numbered_of searched place) phase taken node front choices (suc rule) (omega arith) (stands_by item (suc rule) by)
                letter next (possible_by item (suc rule) by),
            by,
          )

  -- no change, where a form ends or not
  pub unchanged_added : (old new : List Item) → (row_of searched.tries.trie.rows node).deltas ≢ []
      → AddsItems (IsItemBy searched line choices table place.at place.entrance set (key_with phase taken 0)) old new
      → AddsItems (λ item. ((row_of searched.tries.trie.rows node).deltas ≢ []) × IsItemBy searched line choices table place.at place.entrance set (key_with phase taken 0) item) old new
  unchanged_added old new ends added =
      adds_same (IsOfKey 0) (λ item. ((row_of searched.tries.trie.rows node).deltas ≢ []) × IsOfKey 0 item) old new
      (λ item told. told.1) (λ item by. (ends, by)) added

  pub not_unchanged : (items : List Item) → ((row_of searched.tries.trie.rows node).deltas ≢ [] → ⊥)
      → AddsItems (λ item. ((row_of searched.tries.trie.rows node).deltas ≢ []) × IsItemBy searched line choices table place.at place.entrance set (key_with phase taken 0) item) items items
  not_unchanged items none = adds_none (λ item. ((row_of searched.tries.trie.rows node).deltas ≢ []) × IsOfKey 0 item) items (λ item told. absurd (none told.0))

-- ---- one front after another, and one phase after another

-- by a key of the phase that takes fewer letters
abbrev pub IsItemBelow : SearchedLexicon → Line → List Choice → Table → Configuration → StateSet → ℕ → ℕ → Item → Type 0
IsItemBelow searched line choices table place set phase taken item =
    (key : Key) × (key.phase ≡ phase) × (key.taken < taken) × IsItemBy searched line choices table place.at place.entrance set key item

-- by a key of an earlier phase
abbrev pub IsItemEarlier : SearchedLexicon → Line → List Choice → Table → Configuration → StateSet → ℕ → Item → Type 0
IsItemEarlier searched line choices table place set phase item =
    (key : Key) × (key.phase < phase) × IsItemBy searched line choices table place.at place.entrance set key item

module _ (searched : SearchedLexicon) (line : Line) (choices : List Choice) (table : Table) (place : Configuration) (set : StateSet) where
  module _ (phase : ℕ) where
    pub fronts_at_first : (items : List Item) → AddsItems (IsItemBelow searched line choices table place set phase 0) items items
    fronts_at_first items = adds_none (IsItemBelow searched line choices table place set phase 0) items
        (λ item (key, same, low, by). absurd (omega (arith, low)))

    pub front_more : (taken : ℕ) (old items new : List Item) → AddsItems (IsItemBelow searched line choices table place set phase taken) old items
        → AddsItems (IsItemAtFront searched line choices table place.at place.entrance set phase taken) items new
        → AddsItems (IsItemBelow searched line choices table place set phase (taken + 1)) old new
    front_more taken old items new so_far one =
        adds_both (IsItemBelow searched line choices table place set phase taken) (IsItemAtFront searched line choices table place.at place.entrance set phase taken)
        (IsItemBelow searched line choices table place set phase (taken + 1)) old items new
        (λ item (key, same, low, by). elim (below_or_at key.taken taken low) [
          | inl below ↦ inl (key, same, below, by)
          | inr at ↦ inr (key, same, at, by)
        ])
        (λ item (key, same, low, by). (key, same, omega (arith, low), by))
        (λ item (key, same, at, by). (key, same, omega (arith, at), by))
        so_far one

    -- no key with an item goes further than the limit
    pub fronts_at_last : (ahead : Ahead) → IsAhead (rules_in searched) line place.at (numbered_of searched place).entrance ahead
        → (count : ℕ) (nodes : List ℕ) → length nodes ≤ count → AreFronts searched line (numbered_of searched place) phase ahead.limit nodes
        → (old items : List Item) → AddsItems (IsItemBelow searched line choices table place set phase count) old items
        → AddsItems (IsItemInPhase searched line choices table place.at place.entrance set phase) old items
    fronts_at_last ahead is count nodes enough fronts old items so_far =
        adds_same (IsItemBelow searched line choices table place set phase count) (IsItemInPhase searched line choices table place.at place.entrance set phase) old items
        (λ item (key, same, by).
        let near = near_if_stands searched line choices (numbered_of searched place) key ahead is
        (further_stands searched line choices place set table key by.number by.further) in
        let low = fronts.all key (possible_if_further searched line choices table place set key by.number by.further) same near in
        (key, same, omega (arith, low, enough), by))
        (λ item (key, same, low, by). (key, same, by))
        so_far

  pub phases_at_first : (items : List Item) → AddsItems (IsItemEarlier searched line choices table place set 0) items items
  phases_at_first items = adds_none (IsItemEarlier searched line choices table place set 0) items (λ item (key, low, by). absurd (omega (arith, low)))

  pub phase_more : (phase : ℕ) (old items new : List Item) → AddsItems (IsItemEarlier searched line choices table place set phase) old items
      → AddsItems (IsItemInPhase searched line choices table place.at place.entrance set phase) items new
      → AddsItems (IsItemEarlier searched line choices table place set (phase + 1)) old new
  phase_more phase old items new so_far one =
      adds_both (IsItemEarlier searched line choices table place set phase) (IsItemInPhase searched line choices table place.at place.entrance set phase)
      (IsItemEarlier searched line choices table place set (phase + 1)) old items new
      (λ item (key, low, by). elim (below_or_at key.phase phase low) [
        | inl below ↦ inl (key, below, by)
        | inr at ↦ inr (key, at, by)
      ])
      (λ item (key, low, by). (key, omega (arith, low), by))
      (λ item (key, at, by). (key, omega (arith, at), by))
      so_far one

  -- a phase to which no state of the set leads has no item
  pub phase_without_state : (phase : ℕ) (after : StateSet) → ((number : ℕ) → HasState after number → ⊥)
      → ((number : ℕ) → IsLedTo searched.machine set phase number → HasState after number) → (old items : List Item)
      → AddsItems (IsItemEarlier searched line choices table place set phase) old items
      → AddsItems (IsItemEarlier searched line choices table place set (phase + 1)) old items
  phase_without_state phase after none led old items so_far =
      phase_more phase old items items so_far
      (adds_none (IsItemInPhase searched line choices table place.at place.entrance set phase) items (λ item (key, same, by).
      let somewhere = further_leads searched line choices place set table key by.number by.state by.further in
      absurd (none somewhere.0 (led somewhere.0 (subst (λ (p : ℕ). IsLedTo searched.machine set p somewhere.0) same somewhere.1)))))

  -- nor has one that may not begin
  pub phase_not_begun : (phase : ℕ) → (MayBegin (numbered_of searched place).entrance phase → ⊥) → (old items : List Item)
      → AddsItems (IsItemEarlier searched line choices table place set phase) old items
      → AddsItems (IsItemEarlier searched line choices table place set (phase + 1)) old items
  phase_not_begun phase unbegun old items so_far =
      phase_more phase old items items so_far
      (adds_none (IsItemInPhase searched line choices table place.at place.entrance set phase) items (λ item (key, same, by).
      absurd (unbegun (subst (MayBegin (numbered_of searched place).entrance) same
      (begins_if_stands searched line choices (numbered_of searched place) key
      (further_stands searched line choices place set table key by.number by.further))))))

  pub phases_at_last : (count : ℕ) → IsSearchedLexicon searched → length (rules_in searched).names ≤ count → (old items : List Item)
      → AddsItems (IsItemEarlier searched line choices table place set count) old items
      → AddsItems (IsItemFrom searched line choices table place.at place.entrance set) old items
  phases_at_last count is enough old items so_far =
      adds_same (IsItemEarlier searched line choices table place set count) (IsItemFrom searched line choices table place.at place.entrance set) old items
      (λ item (key, by).
      let low = possible_phase searched is line (numbered_of searched place) key (possible_if_further searched line choices table place set key by.number by.further) in
      (key, omega (arith, low, enough), by))
      (λ item (key, low, by). (key, by))
      so_far
