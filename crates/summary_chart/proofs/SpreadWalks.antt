-- What the memo of walks keeps on the way forward: it stays so while the table grows, what it has is there already, and what was spread from
-- a front on serves wherever a walk goes on from its node.
use Rattle.std.proofs.Common.{◌≡◌, inl, inr, ℕ, ◌+◌, ◌-◌, ◌<◌, ◌≤◌, refl, sym, subst, arith}
use Rattle.text_definitions.specs.Lines.{Line}
use Rattle.segmentation_definitions.specs.Listings.{Key}
use Rattle.derivation.specs.declared.entrance.Entrance.{Entrance}
use Rattle.annotated_trie.specs.Searched.{SearchedLexicon}
use Rattle.search_frames.specs.declared.configuration.Configuration.{Configuration}
use Rattle.search_frames.specs.Ahead.{MayBegin}
use Rattle.search_frames.specs.Configurations.{IsPossible, rules_in}
use Rattle.search_frames.specs.Frames.{numbered_of}
use Rattle.search_frames.specs.LetterTests.{MayLeadTo}
use Rattle.search_frames.proofs.AheadTests.{near_if_stands}
use Rattle.summary_chart.specs.declared.room.WalkRoom.{WalkRoom}
use Rattle.summary_chart.specs.declared.site.Front.{Front}
use Rattle.summary_chart.specs.declared.site.SiteAhead.{SiteAhead}
use Rattle.summary_chart.specs.declared.state_set.StateSet.{StateSet}
use Rattle.summary_chart.specs.declared.table.Table.{Table}
use Rattle.summary_chart.specs.declared.walk_memo.Walk.{Walk}
use Rattle.summary_chart.specs.declared.walk_memo.WalkMemo.{WalkMemo}
use Rattle.summary_chart.specs.declared.walk_memo.Walked.{Walked}
use Rattle.summary_chart.specs.Fronts.{IsFrontAt}
use Rattle.summary_chart.specs.Memos.{AreSpread}
use Rattle.summary_chart.specs.Sites.{IsSiteAhead}
use Rattle.summary_chart.specs.Onward.{Puts, PutsAt}
use Rattle.summary_chart.specs.Spreading.{place_with}
use Rattle.summary_chart.specs.StateSets.{HasState}
use Rattle.summary_chart.specs.Summaries.{key_with}
use Rattle.summary_chart.specs.Tables.{IsIn}
use Rattle.summary_chart.specs.Walked.{AreWalksSpread, ChangeLeadsTo, FitWithLetter, IsFromFront, IsKept, IsKeptWith, IsSpreadRoom, IsWalkFrom, IsWalkSpread, KeepsWalked}
use Rattle.summary_chart.proofs.AlikeKeys.{alike_back}
use Rattle.summary_chart.proofs.Changes.{change_leads, leads_alike, leads_by_change}
use Rattle.summary_chart.proofs.WalkedFronts.{key_of_front, met_possible, off_walk, on_walk, possible_met}

-- ---- while the table grows

module _ (searched : SearchedLexicon) (line : Line) where
  pub walk_grown : (old new : Table) (walked : Walked) → ((place : Configuration) → IsIn old place → IsIn new place)
      → IsWalkSpread searched line old walked → IsWalkSpread searched line new walked
  walk_grown old new walked keeps is further node rule at number entrance on change leads has =
      keeps (place_with at entrance number) (is further node rule at number entrance on change leads has)

  -- a room whose memo of single nodes is told anew
  pub room_grown : (old new : Table) (room later : WalkRoom) → ((place : Configuration) → IsIn old place → IsIn new place) → later.walks ≡ room.walks
      → AreSpread searched line new later.memo → IsSpreadRoom searched line old room → IsSpreadRoom searched line new later
  room_grown old new room later keeps same memo is = record {
    memo = memo;
    walks = λ walked kept. walk_grown old new walked keeps (is.walks walked (subst (λ (walks : WalkMemo). IsKept walks walked) same kept));
  }

  -- one walk more
  pub room_with : (table : Table) (from : Walk) (states : StateSet) (old new : WalkRoom) → KeepsWalked from states old.walks new.walks → new.memo ≡ old.memo
      → IsWalkSpread searched line table (record { walk = from; states = states }) → IsSpreadRoom searched line table old → IsSpreadRoom searched line table new
  room_with table from states old new keeps same is room = record {
    memo = subst (AreSpread searched line table) (sym same) room.memo;
    walks = λ walked kept. elim (keeps walked kept) [
      | inl before ↦ room.walks walked before
      | inr this ↦ subst (IsWalkSpread searched line table) (sym this) is
    ];
  }

-- ---- at a place

module _ (here : SiteAhead) (is : IsSiteAhead here) (front : Front) (from : Walk)
    (at_front : IsFrontAt here.site.lexicon.now here.site.line.now (numbered_of here.site.lexicon.now here.site.place.now) front.phase front.taken front.node)
    (some : 0 < front.taken) (walks : IsWalkFrom here front from) (after : StateSet) where
  -- where the memo has all states that come after the forms, nothing is left to be put into the table
  pub walk_known : (table : Table) (kept : WalkMemo) → AreWalksSpread here.site.lexicon.now here.site.line.now table kept
      → ((number : ℕ) → HasState after number → IsKeptWith kept from number)
      → Puts here.site.lexicon.now here.site.line.now here.site.choices.now (numbered_of here.site.lexicon.now here.site.place.now) after
      (IsFromFront front.phase front.taken) table table
  walk_known table kept are has = record {
    keeps = λ other there. there;
    adds = λ key next told put. added key next told put;
    only = λ other within there. inl there;
  }
    where
      added : (key : Key) (next : Configuration) → IsFromFront front.phase front.taken key
          → PutsAt here.site.lexicon.now here.site.line.now here.site.choices.now (numbered_of here.site.lexicon.now here.site.place.now) after key next → IsIn table next
      added key next (same_phase, longer) put =
          let searched = here.site.lexicon.now in
          let line = here.site.line.now in
          let choices = here.site.choices.now in
          let place = here.site.place.now in
          let stands = numbered_of searched place in
          let further = key.taken - front.taken in
          let count : key.taken ≡ front.taken + further = omega (arith, longer) in
          let may_stand = put.leads.may.stands in
          let possible : IsPossible searched line stands key = record { number = may_stand.number; within = may_stand.within; form = may_stand.form } in
          let same = key_of_front front.phase (front.taken + further) key same_phase count in
          let (reached, walked, change) = possible_met searched is.site.searched line stands front.phase front.taken front.node at_front further key.rule
          (subst (IsPossible searched line stands) same possible) in
          let near = near_if_stands searched line choices stands key here.ahead is.ahead may_stand in
          let on = on_walk here front from table is at_front walks further reached (omega (arith, near, count)) walked in
          let does = change_leads searched line choices stands key (omega (arith, longer, some)) next.at next.entrance put.leads in
          let by_phase = subst (λ (p : ℕ). ChangeLeadsTo (rules_in searched) line (place.at + key.taken) p key.rule next.at next.entrance) same_phase does in
          let end : place.at + key.taken ≡ from.end + further = omega (arith, walks.end, count) in
          let by_end = subst (λ (e : ℕ). ChangeLeadsTo (rules_in searched) line e front.phase key.rule next.at next.entrance) end by_phase in
          let alike = alike_back (rules_in searched) from.phase front.phase walks.alike in
          let on_it = leads_alike (rules_in searched) line front.phase from.phase alike (from.end + further) key.rule possible.number next.at next.entrance by_end in
          let (states, known, has_number) = has put.number put.has in
          let there = are (record { walk = from; states = states }) known further reached key.rule next.at put.number next.entrance on change on_it has_number in
          subst (IsIn table) (λ i. record { at = next.at; entrance = next.entrance; state = sym put.is i }) there

  -- where every key fits the place, and what the keys of the phase lead on to is in the table with each of the states
  pub walk_spread : (new : Table) → MayBegin (numbered_of here.site.lexicon.now here.site.place.now).entrance front.phase → FitWithLetter here
      → ((key : Key) → key.phase ≡ front.phase → front.taken ≤ key.taken → (at : ℕ) (entrance : Entrance) (number : ℕ)
      → MayLeadTo here.site.lexicon.now here.site.line.now here.site.choices.now (numbered_of here.site.lexicon.now here.site.place.now) key at entrance
      → HasState after number → IsIn new (place_with at entrance number))
      → IsWalkSpread here.site.lexicon.now here.site.line.now new (record { walk = from; states = after })
  walk_spread new begins fits there further node rule at number entrance on change leads has =
      let searched = here.site.lexicon.now in
      let line = here.site.line.now in
      let choices = here.site.choices.now in
      let place = here.site.place.now in
      let stands = numbered_of searched place in
      let key = key_with front.phase (front.taken + further) rule in
      let (near, walked) = off_walk here front from new is at_front walks further node on in
      let within = is.ahead.within in
      let possible = met_possible searched is.site.searched line stands front.phase front.taken front.node at_front further node rule (omega (arith, near, within)) walked change in
      let end : from.end + further ≡ place.at + (front.taken + further) = omega (arith, walks.end) in
      let by_end = subst (λ (e : ℕ). ChangeLeadsTo (rules_in searched) line e from.phase rule at entrance) end leads in
      let by_phase = leads_alike (rules_in searched) line from.phase front.phase walks.alike (place.at + (front.taken + further)) rule possible.number at entrance by_end in
      let above : 0 < key.taken = omega (arith, some) in
      let may : MayLeadTo searched line choices stands key at entrance =
      leads_by_change searched line choices stands key above at entrance (fits key above (omega (arith, near)) possible begins) by_phase in
      there key refl (omega arith) at entrance number may has
