-- Entries in another order are the same set; and phases that have just the entries of sources are their lexicon, which has a newest text.
use Rattle.std.proofs.Common.{◌≡◌, ℕ, ◌≤◌, List, length, map, All, refl, sym, ◌∙◌, ap, subst, arith}
use Rattle.std.specs.List.Sorted.{IsPermutation}
use Rattle.std.proofs.lemmas.List.Sorted.{Contains-permutation, IsPermutation-sym, IsPermutation-map}
use Rattle.std.proofs.lemmas.List.{length-map}
use Rattle.std.proofs.lemmas.Map.Views.{All-map-IsPermutation}
use Rattle.lexicon_definitions.specs.declared.limits.TheConstants.{MOST_FORM_LINES, MOST_PHASES}
use Rattle.lexicon_definitions.specs.FormEntries.{IsListedPhase}
use Rattle.lexicon_definitions.specs.Lexicons.{RuleSet, Form}
use Rattle.lexicon_definitions.specs.Limits.{count_lines}
use Rattle.lexicon_definitions.specs.Tries.{Trie, IsTrieOf}
use Rattle.trie_text_definitions.specs.TrieForms.{phases_of}
use Rattle.morphology_definitions.specs.Inflection.{Class, Stem, AreAllInflected}
use Rattle.run_definitions.specs.SoundSources.{IsSoundEntry}
use Rattle.run_definitions.specs.SourceLexicons.{IsLexiconOf}
use Rattle.run_definitions.proofs.SourcesSound.{entries_sound}
use Rattle.form_tags.specs.declared.entry.Entry.{Entry}
use Rattle.form_tags.specs.Entries.{text_entry}
use Rattle.form_file.proofs.ListsTold.{lists_tell}
use Rattle.lexicon_file.specs.Writing.{HasNewestText}
use Rattle.lexicon_builder.specs.Sources.{AreSources, HaveTooManyLines}
use Rattle.lexicon_builder.specs.Collected.{AreCollectedIn, AreTooMany}
use Rattle.list_laws.proofs.Elements.{some_by_length}

-- names are as many as the texts that hold them
pub as_many : {X : Type 0} (name_of : X → List ℕ) (texts : List X) (names : List (List ℕ)) → map name_of texts ≡ names → length texts ≡ length names
as_many name_of texts names e = sym (length-map texts name_of) ∙ ap length e

module _ (rules : RuleSet) (classes : List Class) (stems : List Stem) (sources : AreSources rules classes stems) (phases : ℕ) (phases_are : phases ≡ length rules.names) where
  -- there are not too many phases
  pub few_phases : phases ≤ MOST_PHASES
  few_phases = let few = sources.limits.phases in omega (arith, few, phases_are)

  module _ (entries sorted : List Entry) (are : AreAllInflected classes stems (map text_entry entries)) (moved : IsPermutation entries sorted) where
    -- the entries in order may stand in a lexicon
    pub sorted_sound : All (IsSoundEntry phases) (map text_entry sorted)
    sorted_sound =
        subst (λ (count : ℕ). All (IsSoundEntry count) (map text_entry sorted)) (sym phases_are)
        (All-map-IsPermutation text_entry (IsSoundEntry (length rules.names)) entries sorted moved
        (entries_sound (length rules.names) classes stems (map text_entry entries) sources.rows sources.words sources.inflectable are))

    -- phases that have just these are the lexicon of the sources
    pub built : (lists : List (List Form)) → AreCollectedIn phases (map text_entry sorted) lists → IsLexiconOf rules classes stems (record { rules = rules; phases = lists })
    built lists c =
        let there = IsPermutation-map text_entry entries sorted moved in
        let back = IsPermutation-sym (map text_entry entries) (map text_entry sorted) there in
        record {
          same_rules = refl;
          lexicon_itself = record {
            rules = sources.rule_set;
            count = c.count_is ∙ phases_are;
            phases = λ k d below. (c.listed k d below).phase;
          };
          entries = map text_entry entries;
          inflected = are;
          just_these = λ entry. (
            (λ h. Contains-permutation (map text_entry sorted) (map text_entry entries) entry back ((c.just_these entry).0 h)),
            (λ m. (c.just_these entry).1 (Contains-permutation (map text_entry entries) (map text_entry sorted) entry there m)),
          );
        }

    -- of which there are too many
    pub too_many_lines : AreTooMany phases (map text_entry sorted) → HaveTooManyLines rules classes stems
    too_many_lines many =
        record {
          lexicon = record { rules = rules; phases = many.phases };
          is_of = built many.phases many.collected;
          lines = many.lines;
        }

    module _ (lists : List (List Form)) (c : AreCollectedIn phases (map text_entry sorted) lists) (lines : count_lines lists ≤ MOST_FORM_LINES) where
      -- the lexicon has a text
      has_text : HasNewestText (record { rules = rules; phases = lists })
      has_text =
          record {
            lexicon_itself = (built lists c).lexicon_itself;
            limits = record {
              rule_set = sources.limits;
              short_forms = λ k d below j e low. record {
                letters = ((c.listed k d below).each j e low).short;
                stems = λ i f l. (((c.listed k d below).each j e low).stems i f l).short;
              };
              lines = lines;
            };
            stems = λ k d below j e low i f l.
                let here : IsListedPhase _ = c.listed k d below in
                (((here.phase.each j e low).analyses i f l).stem, some_by_length _ (((here.each j e low).stems i f l).not_empty));
          }

      module _ (store : Trie) (is : IsTrieOf store lists) where
        same : phases_of store ≡ lists
        same = lists_tell store lists is c.listed

        -- and all of it is told by the trie of its forms
        pub built_store : IsLexiconOf rules classes stems (record { rules = rules; phases = phases_of store })
        built_store = subst (λ (l : List (List Form)). IsLexiconOf rules classes stems (record { rules = rules; phases = l })) (sym same) (built lists c)

        pub store_text : HasNewestText (record { rules = rules; phases = phases_of store })
        store_text = subst (λ (l : List (List Form)). HasNewestText (record { rules = rules; phases = l })) (sym same) has_text

        pub store_lines : count_lines lists ≡ count_lines (phases_of store)
        store_lines = ap count_lines (sym same)

        pub store_itself : IsTrieOf store (phases_of store)
        store_itself = subst (IsTrieOf store) (sym same) is
