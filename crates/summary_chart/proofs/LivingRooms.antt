-- What is kept on the way back stays right: the works end and the walks begin after the place at hand or at it, so that what they tell of
-- are places that come later in the table, and these do not change any more.
use Rattle.std.proofs.Common.{◌≡◌, ◌≢◌, inl, inr, ℕ, ◌+◌, ◌*◌, ◌≤◌, length, sym, subst, arith}
use Rattle.std.proofs.lemmas.Bool.{cases_lt}
use Rattle.text_definitions.specs.Lines.{Line}
use Rattle.derivation.specs.declared.entrance.Entrance.{Entrance}
use Rattle.annotated_trie.specs.Searched.{SearchedLexicon, IsSearchedLexicon}
use Rattle.search_frames.specs.Configurations.{rules_in}
use Rattle.summary_chart.specs.declared.memo.Done.{Done}
use Rattle.summary_chart.specs.declared.room.WalkRoom.{WalkRoom}
use Rattle.summary_chart.specs.declared.state_set.StateSet.{StateSet}
use Rattle.summary_chart.specs.declared.table.Table.{Table}
use Rattle.summary_chart.specs.declared.walk_memo.Walked.{Walked}
use Rattle.summary_chart.specs.Effects.{AreEffects}
use Rattle.summary_chart.specs.Memos.{IsKnown}
use Rattle.summary_chart.specs.Spreading.{leads_in}
use Rattle.summary_chart.specs.StateSets.{HasState}
use Rattle.summary_chart.specs.Tables.{ChangesAt, IsIndexed, IsTable, index_of, width_over}
use Rattle.summary_chart.specs.Walked.{ChangeLeadsTo, IsKept, IsLater, IsLivingRoom, IsWalkLiving}
use Rattle.summary_chart.proofs.LivingMemos.{LeadPast, nothing_living, nothing_past, ends_if_past, past_if_ends, living_stays, same_elsewhere}
use Rattle.summary_chart.proofs.LivingMemos as memos
use Rattle.summary_chart.proofs.TableOrder.{column_within, row_after}

-- what is kept tells only of places that do not come before the index
pub record LeadsPast (searched : SearchedLexicon) (index : ℕ) (room : WalkRoom) : Type 0 where
  pub memo : LeadPast searched index room.memo
  pub walks : (walked : Walked) → IsKept room.walks walked → index ≤ walked.walk.end * width_over (length (leads_in searched))

-- where nothing is kept
pub nothing_in_room : (searched : SearchedLexicon) (line : Line) (table : Table) (room : WalkRoom) → ((done : Done) → IsKnown room.memo done → ⊥)
    → ((walked : Walked) → IsKept room.walks walked → ⊥) → AreEffects (rules_in searched) room.memo.effects → IsLivingRoom searched line table room
nothing_in_room searched line table room none no_walk effects = record {
  memo = nothing_living searched line table room.memo none effects;
  walks = λ walked kept. absurd (no_walk walked kept);
}

pub room_past : (searched : SearchedLexicon) (index : ℕ) (room : WalkRoom) → ((done : Done) → IsKnown room.memo done → ⊥)
    → ((walked : Walked) → IsKept room.walks walked → ⊥) → LeadsPast searched index room
room_past searched index room none no_walk = record {
  memo = nothing_past searched index room.memo none;
  walks = λ walked kept. absurd (no_walk walked kept);
}

-- what does not come before an index does not come before an earlier one
pub past_down : (searched : SearchedLexicon) (low high : ℕ) (room : WalkRoom) → low ≤ high → LeadsPast searched high room → LeadsPast searched low room
past_down searched low high room rises past = record {
  memo = memos.past_down searched low high room.memo rises past.memo;
  walks = λ walked kept. (let far = past.walks walked kept in omega (arith, rises, far));
}

module _ (searched : SearchedLexicon) (line : Line) (index at : ℕ) (entrance : Entrance)
    (indexed : IsIndexed (leads_in searched) (length line.letters) index at entrance) where
  -- where all come after a place, the walks begin after its letters
  pub later_if_past : (room : WalkRoom) → LeadsPast searched (index + 1) room → IsLater at room
  later_if_past room past = record {
    memo = ends_if_past searched line index at entrance indexed room.memo past.memo;
    walks = λ walked kept.
        let width = width_over (length (leads_in searched)) in
        let far = past.walks walked kept in
        let is = indexed.is in
        elim (cases_lt at walked.walk.end) [
          | inl later ↦ later
          | inr low ↦ elim (cases_lt walked.walk.end at) [
            | inl before ↦ (let after = row_after width walked.walk.end at before in absurd (omega (arith, far, is, after)))
            | inr high ↦
                let same : walked.walk.end ≡ at = omega (arith, low, high) in
                let far_here = subst (λ (n : ℕ). index + 1 ≤ n * width) same far in
                absurd (omega (arith, far_here, is))
          ]
        ];
  }

  -- and the other way
  pub past_if_later : (room : WalkRoom) → IsLater at room → LeadsPast searched (index + 1) room
  past_if_later room later = record {
    memo = past_if_ends searched line index at entrance indexed room.memo later.memo;
    walks = λ walked kept.
        let width = width_over (length (leads_in searched)) in
        let low = later.walks walked kept in
        let is = indexed.is in
        let column = column_within (leads_in searched) entrance indexed.proper indexed.over in
        let after = row_after width at walked.walk.end low in
        omega (arith, is, column, after);
  }

module _ (searched : SearchedLexicon) (line : Line) (index : ℕ) (old new : Table) (is : IsSearchedLexicon searched)
    (lawful : IsTable (leads_in searched) (length line.letters) old) (changes : ChangesAt index old new) where
  -- a change that is met on a walk leads past the letters before the walk
  met_past : (end further phase rule at : ℕ) (entrance : Entrance) → index + 1 ≤ end * width_over (length (leads_in searched))
      → ChangeLeadsTo (rules_in searched) line (end + further) phase rule at entrance → index_of (length (leads_in searched)) at entrance ≢ index
  met_past end further phase rule at entrance far leads same =
      let width = width_over (length (leads_in searched)) in
      let at_is = leads.at_is in
      elim (cases_lt end at) [
        | inl later ↦ (let after = row_after width end at later in absurd (omega (arith, after, far, same)))
        | inr low ↦
            let here : at ≡ end = omega (arith, at_is, low) in
            let there = subst (λ (n : ℕ). index + 1 ≤ n * width) (sym here) far in
            absurd (omega (arith, there, same))
      ]

  walk_stays : (walked : Walked) → index + 1 ≤ walked.walk.end * width_over (length (leads_in searched))
      → IsWalkLiving searched line old walked → IsWalkLiving searched line new walked
  walk_stays walked far are number = (
    λ has.
        let (further, node, rule, on, change, does) = (are number).0 has in (
          further,
          node,
          rule,
          on,
          change,
          elim does [
            | inl (at, entrance, leads, there) ↦
                let same = same_elsewhere searched line index old new is lawful changes at entrance
                (met_past walked.walk.end further walked.walk.phase rule at entrance far leads) in
                inl (
                  at,
                  entrance,
                  leads,
                  record { entrance = there.entrance; state = subst (λ (s : StateSet). HasState s number) (sym same) there.state },
                )
            | inr ends ↦ inr ends
          ],
        ),
    λ lives.
        let (further, node, rule, on, change, does) = lives in
        (are number).1 (
          further,
          node,
          rule,
          on,
          change,
          elim does [
            | inl (at, entrance, leads, there) ↦
                let same = same_elsewhere searched line index old new is lawful changes at entrance
                (met_past walked.walk.end further walked.walk.phase rule at entrance far leads) in
                inl (
                  at,
                  entrance,
                  leads,
                  record { entrance = there.entrance; state = subst (λ (s : StateSet). HasState s number) same there.state },
                )
            | inr ends ↦ inr ends
          ],
        ),
  )

  -- what is kept is right of the new table as of the old one
  pub room_stays : (room : WalkRoom) → LeadsPast searched (index + 1) room → IsLivingRoom searched line old room → IsLivingRoom searched line new room
  room_stays room past are = record {
    memo = living_stays searched line index old new is lawful changes room.memo past.memo are.memo;
    walks = λ walked kept. walk_stays walked (past.walks walked kept) (are.walks walked kept);
  }
