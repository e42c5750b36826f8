-- What the memo keeps on the way back stays right: each work ends after the place at hand or at it, so its rules lead to places that come
-- later in the table, and these do not change any more.
use Rattle.std.proofs.Common.{◌≡◌, ◌≢◌, inl, inr, ℕ, ◌+◌, ◌*◌, ◌<◌, ◌≤◌, length, Contains, sym, ap, subst, ◌∙◌, arith}
use Rattle.std.proofs.lemmas.Bool.{cases_lt}
use Rattle.text_definitions.specs.Lines.{Line}
use Rattle.lexicon_definitions.specs.Lexicons.{rule_of}
use Rattle.segmentation_definitions.proofs.Coverings.{some_letters, rule_at_number}
use Rattle.derivation.specs.declared.entrance.Entrance.{Entrance}
use Rattle.annotated_trie.specs.Choices.{choices_of}
use Rattle.annotated_trie.specs.Searched.{SearchedLexicon, IsSearchedLexicon}
use Rattle.search_frames.specs.Ahead.{RuleLeadsTo}
use Rattle.search_frames.specs.Configurations.{rules_in}
use Rattle.summary_chart.specs.declared.memo.Done.{Done}
use Rattle.summary_chart.specs.declared.memo.Memo.{Memo}
use Rattle.summary_chart.specs.declared.state_set.StateSet.{StateSet}
use Rattle.summary_chart.specs.declared.table.Table.{Table}
use Rattle.summary_chart.specs.Effects.{AreEffects}
use Rattle.summary_chart.specs.Memos.{AreLiving, AreSpread, EndFrom, IsKnown, rules_at}
use Rattle.summary_chart.specs.Spreading.{leads_in}
use Rattle.summary_chart.specs.StateSets.{HasState}
use Rattle.summary_chart.specs.Tables.{ChangesAt, IsIndexed, IsTable, index_in, index_of, set_at, set_of, width_over}
use Rattle.summary_chart.proofs.LivingKeys.{choice_number}
use Rattle.summary_chart.proofs.SpreadMemos.{choice_at_work}
use Rattle.summary_chart.proofs.TableOrder.{column_within, row_after}
use Rattle.summary_chart.proofs.TablePlaces.{same_index_in}
use Rattle.summary_chart.proofs.TableStates.{same_configuration}

-- the rules of each work that the memo keeps lead only to places that do not come before the index
abbrev pub LeadPast : SearchedLexicon → ℕ → Memo → Type 0
LeadPast searched index memo = (done : Done) → IsKnown memo done → index ≤ done.work.end * width_over (length (leads_in searched)) + width_over (length (leads_in searched))

-- a memo that keeps nothing
pub nothing_living : (searched : SearchedLexicon) (line : Line) (table : Table) (memo : Memo) → ((done : Done) → IsKnown memo done → ⊥)
    → AreEffects (rules_in searched) memo.effects → AreLiving searched line table memo
nothing_living searched line table memo none effects = record {
  works = λ done known. absurd (none done known);
  living = λ done known. absurd (none done known);
  effects = effects;
}

pub nothing_spread : (searched : SearchedLexicon) (line : Line) (table : Table) (memo : Memo) → ((done : Done) → IsKnown memo done → ⊥)
    → AreEffects (rules_in searched) memo.effects → AreSpread searched line table memo
nothing_spread searched line table memo none effects = record {
  works = λ done known. absurd (none done known);
  spread = λ done known. absurd (none done known);
  effects = effects;
}

pub nothing_past : (searched : SearchedLexicon) (index : ℕ) (memo : Memo) → ((done : Done) → IsKnown memo done → ⊥) → LeadPast searched index memo
nothing_past searched index memo none done known = absurd (none done known)

-- what does not come before an index does not come before an earlier one
pub past_down : (searched : SearchedLexicon) (low high : ℕ) (memo : Memo) → low ≤ high → LeadPast searched high memo → LeadPast searched low memo
past_down searched low high memo rises past done known = (let far = past done known in omega (arith, rises, far))

module _ (searched : SearchedLexicon) (line : Line) (index at : ℕ) (entrance : Entrance)
    (indexed : IsIndexed (leads_in searched) (length line.letters) index at entrance) where
  -- where all lead past a place, all end after its letters at least
  pub ends_if_past : (memo : Memo) → LeadPast searched (index + 1) memo → EndFrom at memo
  ends_if_past memo past done known = elim (cases_lt done.work.end at) [
    | inl before ↦
        let far = past done known in
        let is = indexed.is in
        let after = row_after (width_over (length (leads_in searched))) done.work.end at before in
        absurd (omega (arith, far, is, after))
    | inr high ↦ omega (arith, high)
  ]

  -- and the other way
  pub past_if_ends : (memo : Memo) → EndFrom at memo → LeadPast searched (index + 1) memo
  past_if_ends memo ends done known =
      let width = width_over (length (leads_in searched)) in
      let low = ends done known in
      let is = indexed.is in
      let column = column_within (leads_in searched) entrance indexed.proper indexed.over in
      let here : index + 1 ≤ at * width + width = omega (arith, is, column) in
      elim (cases_lt at done.work.end) [
        | inl before ↦ (let after = row_after width at done.work.end before in omega (arith, here, after))
        | inr high ↦
            let same : at ≡ done.work.end = omega (arith, low, high) in
            subst (λ (n : ℕ). index + 1 ≤ n * width + width) same here
      ]

module _ (searched : SearchedLexicon) (line : Line) (index : ℕ) (old new : Table) (is : IsSearchedLexicon searched)
    (lawful : IsTable (leads_in searched) (length line.letters) old) (changes : ChangesAt index old new) where
  -- at another index the same stands in both tables
  pub same_elsewhere : (at : ℕ) (entrance : Entrance) → index_of (length (leads_in searched)) at entrance ≢ index → set_at new at entrance ≡ set_at old at entrance
  same_elsewhere at entrance other =
      let there = same_configuration (leads_in searched) (length line.letters) at entrance old lawful in
      ap (set_of new) (same_index_in index at entrance old new changes)
      ∙ changes.others (index_in old at entrance) (λ same. other (sym there ∙ same))

  -- a rule that leads to a place leads past the letters before it
  led_past : (node end phase rule at : ℕ) (entrance : Entrance) → node < length searched.tries.trie.rows → Contains (choices_of searched.tries node) rule
      → index + 1 ≤ end * width_over (length (leads_in searched)) + width_over (length (leads_in searched))
      → RuleLeadsTo (rules_in searched) line end phase rule at entrance → index_of (length (leads_in searched)) at entrance ≢ index
  led_past node end phase rule at entrance there among far led same =
      let width = width_over (length (leads_in searched)) in
      let number = choice_number searched node rule is there among in
      let some : 0 < length (rule_of (rules_in searched) rule).w = some_letters (rule_at_number (rules_in searched) rule is.lexicon.rules (number.0, number.1)).strict.1 in
      let at_is = led.at_is in
      let after = row_after width end at (omega (arith, at_is, some)) in
      omega (arith, after, far, same)

  -- what the memo keeps is right of the new table as of the old one
  pub living_stays : (memo : Memo) → LeadPast searched (index + 1) memo → AreLiving searched line old memo → AreLiving searched line new memo
  living_stays memo past are = record {
    works = are.works;
    effects = are.effects;
    living = λ done known number.
        let Among = Contains (rules_at searched.tries done.work) in
        let living = are.living done known number in
        let there = are.works done known in
        let far = past done known in (
          λ has.
              let lives = living.0 has in (
                lives.0,
                lives.1,
                elim lives.2 [
                  | inl leads ↦
                      let same = same_elsewhere leads.0 leads.1
                      (led_past done.work.node done.work.end done.work.phase lives.0 leads.0 leads.1 there.node (choice_at_work searched done.work lives.0 is there lives.1) far leads.2) in
                      inl (
                        leads.0,
                        leads.1,
                        leads.2,
                        record {
                          entrance = leads.3.entrance;
                          state = subst (λ (s : StateSet). HasState s number) (sym same) leads.3.state;
                        },
                      )
                  | inr ends ↦ inr ends
                ],
              ),
          λ lives. living.1 (
            lives.0,
            lives.1,
            elim lives.2 [
              | inl leads ↦
                  let same = same_elsewhere leads.0 leads.1
                  (led_past done.work.node done.work.end done.work.phase lives.0 leads.0 leads.1 there.node (choice_at_work searched done.work lives.0 is there lives.1) far leads.2) in
                  inl (
                    leads.0,
                    leads.1,
                    leads.2,
                    record {
                      entrance = leads.3.entrance;
                      state = subst (λ (s : StateSet). HasState s number) same leads.3.state;
                    },
                  )
              | inr ends ↦ inr ends
            ],
          ),
        );
  }
