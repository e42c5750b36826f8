-- An empty table with the opening's state added at the start has the opening alone: only at its place anything stands, and only
-- the start stands for the start.
use Rattle.std.proofs.Common.{◌≡◌, ◌≢◌, ℕ, ◌↔◌, inl, inr, Some, List, length, refl, sym, ap, subst, ◌∙◌, arith}
use Rattle.std.proofs.lemmas.Bool.{cases_lt}
use Rattle.text_definitions.specs.Lines.{Line}
use Rattle.lexicon_definitions.specs.Leads.{Lead}
use Rattle.segmentation_definitions.specs.Configurations as defined
use Rattle.derivation.specs.Guides.{entrance_of}
use Rattle.derivation.specs.declared.entrance.Entrance.{Entrance}
use Rattle.derivation.specs.declared.entrance.Entrance.TheVariants.{Start, Plain, Lead as ByLead}
use Rattle.annotated_trie.specs.Searched.{SearchedLexicon}
use Rattle.search_frames.specs.declared.configuration.Configuration.{Configuration}
use Rattle.search_frames.specs.Configurations.{NumberedConfiguration, opening}
use Rattle.search_frames.specs.Frames.{IsConfigurationIn, numbered_of}
use Rattle.summary_chart.specs.declared.state_set.StateSet.{StateSet}
use Rattle.summary_chart.specs.declared.table.Table.{Table}
use Rattle.summary_chart.specs.StateSets.{HasState}
use Rattle.summary_chart.specs.Tables.{IsTable, AreEntrances, IsIn, ChangesAt, HasThisState, index_of, index_in, set_of, set_at}
use Rattle.summary_chart.specs.Spreading.{leads_in, place_with}
use Rattle.summary_chart.specs.Charts.{IsOpenTable, index_of_place}
use Rattle.summary_chart.proofs.TableOrder.{same_index}
use Rattle.summary_chart.proofs.TableStates.{numbered_in, numbered_at, same_configuration}

-- only the start stands for the start
only_start : (leads : List Lead) (entrance : Entrance) → entrance_of leads entrance ≡ defined.Start → entrance ≡ Start
only_start leads Start e = refl
only_start leads (Plain letter) e = cc
only_start leads (ByLead place) e = cc

opening_place : (searched : SearchedLexicon) (place : Configuration) → numbered_of searched place ≡ opening → place ≡ place_with 0 Start 0
opening_place searched place e =
    let entrance = only_start (leads_in searched) place.entrance (ap (λ (s : NumberedConfiguration). s.entrance) e) in
    λ i. record { at = (e i).at; entrance = entrance i; state = (e i).state }

-- the state of the opening is added to an empty table
pub record IsBegun (searched : SearchedLexicon) (line : Line) (old new : Table) : Type 0 where
  pub lawful : IsTable (leads_in searched) (length line.letters) old
  pub empty : (index number : ℕ) → HasState (set_of old index) number → ⊥
  pub changes : ChangesAt (index_in old 0 Start) old new
  pub added : (number : ℕ) → HasState (set_at new 0 Start) number ↔ (number ≡ 0)

module _ (searched : SearchedLexicon) (line : Line) (old new : Table) (begun : IsBegun searched line old new) where
  lawful_new : IsTable (leads_in searched) (length line.letters) new
  lawful_new = record {
    entrances = subst (λ entrances. AreEntrances (length (leads_in searched)) entrances) (ap (λ e. e.items) (sym begun.changes.entrances)) begun.lawful.entrances;
    count = begun.changes.count ∙ begun.lawful.count;
    bits = begun.changes.bits;
  }

  start_index : index_in old 0 Start ≡ index_of (length (leads_in searched)) 0 Start
  start_index = same_configuration (leads_in searched) (length line.letters) 0 Start old begun.lawful

  -- nothing stands elsewhere
  none_elsewhere : (place : Configuration) → IsIn new place → index_of_place searched place ≢ index_of (length (leads_in searched)) 0 Start → ⊥
  none_elsewhere place inside other =
      let here = numbered_at searched line (index_of_place searched place) new place lawful_new inside refl in
      begun.empty (index_of_place searched place) here.number
      (subst (λ (s : StateSet). HasState s here.number) (begun.changes.others (index_of_place searched place) (λ e. other (e ∙ start_index))) here.has)

  at_start : (place : Configuration) → IsConfigurationIn searched line place → IsIn new place → index_of_place searched place ≡ index_of (length (leads_in searched)) 0 Start
      → numbered_of searched place ≡ opening
  at_start place within inside same =
      let here = same_index (leads_in searched) place.at 0 place.entrance Start inside.entrance tt within.over tt same in
      let set_same : set_at new place.at place.entrance ≡ set_at new 0 Start =
      ap (set_of new) (same_configuration (leads_in searched) (length line.letters) place.at place.entrance new lawful_new ∙ same
      ∙ sym (same_configuration (leads_in searched) (length line.letters) 0 Start new lawful_new)) in
      let told = numbered_in (set_at new 0 Start) place.state (subst (λ (s : StateSet). HasThisState s place.state) set_same inside.state) in
      let zero_is = (begun.added told.number).0 told.has in
      λ i. record {
        at = here.at_is i;
        entrance = entrance_of (leads_in searched) (here.entrance_is i);
        state = (told.is ∙ ap Some zero_is) i;
      }

  pub open_if_begun : IsOpenTable searched line new
  open_if_begun = record {
    lawful = lawful_new;
    exact = λ place within. (
      (λ inside.
          let start = index_of (length (leads_in searched)) 0 Start in
          elim (cases_lt (index_of_place searched place) start) [
            | inl low ↦ absurd (none_elsewhere place inside (λ e. omega arith))
            | inr high ↦ elim (cases_lt start (index_of_place searched place)) [
              | inl above ↦ absurd (none_elsewhere place inside (λ e. omega arith))
              | inr low ↦ at_start place within inside (omega arith)
            ]
          ]),
      (λ opened. subst (IsIn new) (sym (opening_place searched place opened)) (record { entrance = tt; state = (begun.added 0).1 refl })),
    );
  }
