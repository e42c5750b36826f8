-- What is put into the table by one key, by some and by others, and by all that are possible: where a key leads on to is one place, which
-- gets the states that come after it.
use Rattle.std.proofs.Common.{◌≡◌, ◌⊎◌, inl, inr, ℕ, List, length, refl, sym, ◌∙◌, subst}
use Rattle.text_definitions.specs.Lines.{Line}
use Rattle.lexicon_definitions.specs.Leads.{leads_of}
use Rattle.lexicon_definitions.proofs.LeadLaws.{leads_rise}
use Rattle.segmentation_definitions.specs.Items.{Choice}
use Rattle.segmentation_definitions.specs.Listings.{Key}
use Rattle.derivation.specs.declared.entrance.Entrance.{Entrance}
use Rattle.annotated_trie.specs.Searched.{SearchedLexicon}
use Rattle.search_frames.specs.declared.configuration.Configuration.{Configuration}
use Rattle.search_frames.specs.Configurations.{rules_in}
use Rattle.search_frames.specs.Frames.{IsConfigurationIn, numbered_of}
use Rattle.search_frames.specs.declared.letter_testing.LetterTest.{LetterTest}
use Rattle.search_frames.specs.declared.letter_testing.LetterTest.TheVariants as test
use Rattle.search_frames.specs.LetterTests.{IsLetterTestOf, MayLeadOn, MayLeadTo}
use Rattle.search_frames.proofs.ConfigurationRanks.{not_both_ways}
use Rattle.summary_chart.specs.declared.state_set.StateSet.{StateSet}
use Rattle.summary_chart.specs.declared.table.Table.{Table}
use Rattle.summary_chart.specs.Onward.{Puts, PutsAt}
use Rattle.summary_chart.specs.Spreading.{OnlyKey, leads_in}
use Rattle.summary_chart.specs.StateSets.{HasState}
use Rattle.summary_chart.specs.Tables.{IsEntrance, IsIn, IsTable, index_in, set_at, set_of}
use Rattle.summary_chart.proofs.TableOrder.{same_index}
use Rattle.summary_chart.proofs.TablePlaces.{IsGrown, had_or_added, in_with, same_entrance, same_index_in, still_in}
use Rattle.summary_chart.proofs.TableStates.{IsNumbered, numbered_in, same_configuration}
use Rattle.summary_chart.proofs.VisitedKeys.{Visit}

module _ (searched : SearchedLexicon) (line : Line) (choices : List Choice) (place : Configuration) (after : StateSet) where
  -- where keys lead on to
  abbrev pub put_visit : Visit searched line choices place Table
  put_visit = record {
    Adds = Puts searched line choices (numbered_of searched place) after;
    Does = λ key. (next : Configuration) × PutsAt searched line choices (numbered_of searched place) after key next;
    none = λ IsTold table nothing. record {
      keeps = λ other there. there;
      adds = λ key next told put. absurd (nothing key (next, put) told);
      only = λ other within there. inl there;
    };
    both = λ IsFirst IsSecond old mid new first second. record {
      keeps = λ other there. second.keeps other (first.keeps other there);
      adds = λ key next told put. elim told [
        | inl one ↦ second.keeps next (first.adds key next one put)
        | inr other ↦ second.adds key next other put
      ];
      only = λ other within there. elim (second.only other within there) [
        | inl mid_has ↦ elim (first.only other within mid_has) [
          | inl had ↦ inl had
          | inr (key, told, put) ↦ inr (key, inl told, put)
        ]
        | inr (key, told, put) ↦ inr (key, inr told, put)
      ];
    };
    same = λ IsFirst IsSecond old new back forth puts. record {
      keeps = puts.keeps;
      adds = λ key next told put. puts.adds key next (back key (next, put) told) put;
      only = λ other within there. elim (puts.only other within there) [
        | inl had ↦ inl had
        | inr (key, told, put) ↦ inr (key, forth key told, put)
      ];
    };
    possible = λ key does. record {
      number = does.1.leads.may.stands.number;
      within = does.1.leads.may.stands.within;
      form = does.1.leads.may.stands.form;
    };
    stands = λ key does. does.1.leads.may.stands;
  }

  -- a key that does not lead on as the letters tell puts nothing there
  pub puts_nothing : (key : Key) (does : LetterTest) → IsLetterTestOf searched line choices (numbered_of searched place) key does
      → ((at : ℕ) (entrance : Entrance) → does ≡ test.LeadsOn at entrance → ⊥) → (table : Table)
      → Puts searched line choices (numbered_of searched place) after (OnlyKey key) table table
  puts_nothing key does is not table = record {
    keeps = λ other there. there;
    adds = λ other next told put. absurd (stays does is not (subst (MayLeadOn searched line choices (numbered_of searched place)) told put.leads.may));
    only = λ other within there. inl there;
  }
    where
      stays : (does : LetterTest) → IsLetterTestOf searched line choices (numbered_of searched place) key does
          → ((at : ℕ) (entrance : Entrance) → does ≡ test.LeadsOn at entrance → ⊥) → MayLeadOn searched line choices (numbered_of searched place) key → ⊥
      stays test.Refused is not leads = is.leads_on leads
      stays test.Ends is not leads = not_both_ways searched line choices (numbered_of searched place) key is leads
      stays (test.LeadsOn at entrance) is not leads = not at entrance refl

  -- where it leads on, the states were put into the table there
  pub puts_one : (key : Key) (at : ℕ) (entrance : Entrance) → MayLeadTo searched line choices (numbered_of searched place) key at entrance → (old new : Table)
      → IsEntrance entrance → IsTable (leads_in searched) (length line.letters) old → IsGrown (index_in old at entrance) after old new
      → Puts searched line choices (numbered_of searched place) after (OnlyKey key) old new
  puts_one key at entrance may old new proper is grown = record {
    keeps = λ other was. still_in (index_in old at entrance) after old new other grown was;
    adds = λ other next told put. put_in next (subst (λ (k : Key). PutsAt searched line choices (numbered_of searched place) after k next) told put);
    only = λ other within in_new. there other within in_new (numbered_in (set_at new other.at other.entrance) other.state in_new.state);
  }
    where
      put_in : (next : Configuration) → PutsAt searched line choices (numbered_of searched place) after key next → IsIn new next
      put_in next put =
          let same_at = put.leads.at_is ∙ sym may.at_is in
          let same_there = same_entrance (leads_of (rules_in searched).rules) next.entrance entrance (leads_rise (rules_in searched).rules) put.leads.over may.over
          (put.leads.entrance_is ∙ sym may.entrance_is) in
          in_with new next at put.number entrance same_at same_there put.is proper
          (subst (λ (i : ℕ). HasState (set_of new i) put.number) (sym (same_index_in (index_in old at entrance) at entrance old new grown.changes))
          ((grown.grown put.number).1 (inr put.has)))

      there : (other : Configuration) → IsConfigurationIn searched line other → IsIn new other → IsNumbered (set_at new other.at other.entrance) other.state
          → IsIn old other ⊎ ((k : Key) × OnlyKey key k × PutsAt searched line choices (numbered_of searched place) after k other)
      there other within in_new told =
          let index = index_in old at entrance in
          let number = told.number in
          let in_order = subst (λ (i : ℕ). HasState (set_of new i) number) (same_index_in index other.at other.entrance old new grown.changes) told.has in
          elim (had_or_added index after old new grown (index_in old other.at other.entrance) number in_order) [
            | inl had ↦ inl (in_with old other other.at number other.entrance refl refl told.is in_new.entrance had)
            | inr (same, put) ↦
                let leads = leads_in searched in
                let left = same_configuration leads (length line.letters) other.at other.entrance old is in
                let right = same_configuration leads (length line.letters) at entrance old is in
                let cut = same_index leads other.at at other.entrance entrance in_new.entrance proper within.over may.over (sym left ∙ same ∙ right) in
                inr (
                  key,
                  refl,
                  record {
                    leads = subst (λ (a : ℕ). MayLeadTo searched line choices (numbered_of searched place) key a other.entrance) (sym cut.at_is)
                        (subst (MayLeadTo searched line choices (numbered_of searched place) key at) (sym cut.entrance_is) may);
                    number = number;
                    has = put;
                    is = told.is;
                  },
                )
          ]
