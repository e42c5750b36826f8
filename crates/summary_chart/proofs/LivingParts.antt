-- The part of some ways from the first to the last that is living: no part at first, and with each way more the part stays where that way is
-- dead, begins with it where it is the first living one, and else is longer. So the keys of all living ways stay those of ways of the part.
use Rattle.std.proofs.Common.{◌≡◌, inl, inr, ℕ, ◌+◌, ◌-◌, ◌<◌, ◌≤◌, List, length, drop, get_or, map, Contains, refl, sym, ap, subst, ◌∙◌, arith}
use Rattle.std.proofs.lemmas.List.{get_or-take, get_or-drop, get_or_default, length-take, length-drop}
use Rattle.list_laws.proofs.FirstOnes.{Contains-map}
use Rattle.text_definitions.specs.Lines.{Line}
use Rattle.segmentation_definitions.specs.Items.{Choice}
use Rattle.segmentation_definitions.specs.Listings.{Key}
use Rattle.derivation.specs.declared.entrance.Entrance.{Entrance}
use Rattle.annotated_trie.specs.Searched.{SearchedLexicon}
use Rattle.search_frames.specs.declared.way.Way.{Way}
use Rattle.search_frames.specs.WaysFrom.{key_of_way}
use Rattle.summary_chart.specs.declared.state_set.StateSet.{StateSet}
use Rattle.summary_chart.specs.declared.table.Table.{Table}
use Rattle.summary_chart.specs.StateSets.{HasState}
use Rattle.summary_chart.specs.PlaceWays.{IsLivingKey, IsLivingPart, part_of}
use Rattle.summary_chart.specs.Spreading.{AreGoingFurther, GoesFurtherBy, OnlyKey, standing_with}
use Rattle.summary_chart.proofs.WayKeys.{IsAmongFirst, IsWayAt, among_all, none_at_first, one_more}

-- the key is that of a way from the first number to before the end
pub record IsKeyBetween (ways : List Way) (first end : ℕ) (key : Key) : Type 0 where
  pub number : ℕ
  pub above : first ≤ number
  pub below : number < end
  pub way : Way
  pub at : IsWayAt ways number way
  pub is : key ≡ key_of_way way

-- of the first ways so many are the part from the first living one to the last
pub record HasLivingPart (IsLiving : Key → Type 0) (ways : List Way) (count first end : ℕ) : Type 0 where
  pub rises : first ≤ end
  pub some : 0 < end → first < end
  pub within : end ≤ count
  pub all : (key : Key) → IsLiving key → IsAmongFirst count ways key → IsKeyBetween ways first end key
  pub begins : (way : Way) → first < end → get_or ways first way ≡ way → IsLiving (key_of_way way)
  pub ends : (way : Way) → first < end → get_or ways (end - 1) way ≡ way → IsLiving (key_of_way way)

-- a way between is one of the part
in_part : (ways : List Way) (first end : ℕ) (key : Key) → IsKeyBetween ways first end key → Contains (map key_of_way (part_of ways first end)) key
in_part ways first end key between =
    let way = between.way in
    let number = between.number in
    let above = between.above in
    let below = between.below in
    let inside = between.at.below in
    let part = part_of ways first end in
    let dropped = length-drop first ways in
    let taken = length-take (end - first) (drop first ways) in
    let low : number - first < length part = omega (arith, above, below, inside, dropped, taken) in
    let back : first + (number - first) ≡ number = omega (arith, above) in
    let same : get_or part (number - first) way ≡ way =
    get_or-take (end - first) (drop first ways) (number - first) way (omega (arith, above, below)) ∙ get_or-drop first ways (number - first) way
    ∙ ap (λ n. get_or ways n way) back ∙ sym between.at.is in
    subst (Contains (map key_of_way part)) (sym between.is) (Contains-map key_of_way part way (number - first, low, same))

module _ (IsLiving : Key → Type 0) (ways : List Way) where
  pub no_part : HasLivingPart IsLiving ways 0 0 0
  no_part = record {
    rises = omega arith;
    some = λ above. absurd (omega (arith, above));
    within = omega arith;
    all = λ key lives among. absurd (none_at_first ways key among);
    begins = λ way some is. absurd (omega (arith, some));
    ends = λ way some is. absurd (omega (arith, some));
  }

  module _ (count first end : ℕ) (way : Way) (at : IsWayAt ways count way) (so_far : HasLivingPart IsLiving ways count first end) where
    -- one way more that is dead
    pub part_stays : (IsLiving (key_of_way way) → ⊥) → HasLivingPart IsLiving ways (count + 1) first end
    part_stays dead = record {
      rises = so_far.rises;
      some = so_far.some;
      within = (let within = so_far.within in omega (arith, within));
      all = λ key lives among. elim (one_more ways count way at key among) [
        | inl before ↦ so_far.all key lives before
        | inr same ↦ absurd (dead (subst IsLiving same lives))
      ];
      begins = so_far.begins;
      ends = so_far.ends;
    }

    -- the way that stands there is this one
    same_way : (other : Way) → get_or ways count other ≡ other → key_of_way way ≡ key_of_way other
    same_way other is = ap key_of_way (at.is ∙ get_or_default ways count way other at.below ∙ is)

    here : (low : ℕ) (key : Key) → low ≤ count → key ≡ key_of_way way → IsKeyBetween ways low (count + 1) key
    here low key rises same = record { number = count; above = rises; below = omega arith; way = way; at = at; is = same }

    -- the first one that is living
    pub part_begins : end ≡ 0 → IsLiving (key_of_way way) → HasLivingPart IsLiving ways (count + 1) count (count + 1)
    part_begins none lives = record {
      rises = omega arith;
      some = λ above. omega arith;
      within = omega arith;
      all = λ key living among. elim (one_more ways count way at key among) [
        | inl before ↦ (let is = so_far.all key living before in let below = is.below in absurd (omega (arith, below, none)))
        | inr same ↦ here count key (omega arith) same
      ];
      begins = λ other some is. subst IsLiving (same_way other is) lives;
      ends = λ other some is.
          let last : count + 1 - 1 ≡ count = omega arith in
          subst IsLiving (same_way other (ap (λ n. get_or ways n other) (sym last) ∙ is)) lives;
    }

    -- another one
    pub part_grows : 0 < end → IsLiving (key_of_way way) → HasLivingPart IsLiving ways (count + 1) first (count + 1)
    part_grows some lives =
        let rises = so_far.rises in
        let within = so_far.within in
        let low : first ≤ count = omega (arith, rises, within) in
        record {
          rises = omega (arith, low);
          some = λ above. omega (arith, low);
          within = omega arith;
          all = λ key living among. elim (one_more ways count way at key among) [
            | inl before ↦
                let is = so_far.all key living before in
                let below = is.below in
                record { number = is.number; above = is.above; below = omega (arith, below, within); way = is.way; at = is.at; is = is.is }
            | inr same ↦ here first key low same
          ];
          begins = λ other more is. so_far.begins other (so_far.some some) is;
          ends = λ other more is.
              let last : count + 1 - 1 ≡ count = omega arith in
              subst IsLiving (same_way other (ap (λ n. get_or ways n other) (sym last) ∙ is)) lives;
        }

  -- at the end the part has all that are living
  pub living_part : (count first end : ℕ) → count ≤ length ways → length ways ≤ count → HasLivingPart IsLiving ways count first end
      → IsLivingPart IsLiving ways first end
  living_part count first end low enough part = record {
    rises = part.rises;
    within = (let within = part.within in omega (arith, within, low));
    all = λ key lives among. in_part ways first end key (part.all key lives (among_all ways count enough key among));
    begins = part.begins;
    ends = part.ends;
  }

-- the key of a way is living where some state goes further by it
module _ (searched : SearchedLexicon) (line : Line) (choices : List Choice) (table : Table) (at : ℕ) (entrance : Entrance) (set further : StateSet)
    (key : Key) (are : AreGoingFurther searched line choices table at entrance set (OnlyKey key) further) where
  pub living_if_some : (number : ℕ) × HasState further number → IsLivingKey searched line choices table at entrance set key
  living_if_some (number, has) =
      let (state, (other, same, goes)) = (are number).0 has in
      (number, state, subst (GoesFurtherBy searched line choices table (standing_with searched at entrance number)) same goes)

  pub dead_if_none : ((number : ℕ) → HasState further number → ⊥) → IsLivingKey searched line choices table at entrance set key → ⊥
  dead_if_none none (number, state, goes) = none number ((are number).1 (state, (key, refl, goes)))
