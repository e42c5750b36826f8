-- What is read are sources: a rule set, rows and stems that are sound.
use Rattle.std.proofs.Common.{◌≡◌, ℕ, Ok, List}
use Rattle.lexicon_definitions.specs.Lexicons.{RuleSet}
use Rattle.morphology_definitions.specs.Inflection.{Class, Stem}
use Rattle.paradigm_file_definitions.specs.TableFiles.{tables_of}
use Rattle.paradigm_file_definitions.specs.StemFiles.{stems_of}
use Rattle.paradigm_file_definitions.proofs.StemsTaken.{all_inflectable_stems}
use Rattle.rule_file_definitions.specs.RuleFileReadings.{IsReadAs}
use Rattle.rule_file_definitions.proofs.SoundSets.{read_sound}
use Rattle.run_definitions.proofs.SourcesSound.{tables_sound, stems_are_words}
use Rattle.lexicon_builder.specs.Sources.{AreSources}

pub sources_read : (rule_bytes table_bytes stem_bytes : List ℕ) (rules : RuleSet) (classes : List Class) (stems : List Stem)
    → IsReadAs rule_bytes (Ok rules) → tables_of rules.names table_bytes ≡ Ok classes → stems_of classes stem_bytes ≡ Ok stems → AreSources rules classes stems
sources_read rule_bytes table_bytes stem_bytes rules classes stems r t s =
    let set = read_sound rule_bytes rules r in
    record {
      rule_set = set.set_itself;
      limits = set.limits;
      rows = tables_sound rules.names table_bytes classes t;
      words = stems_are_words classes stem_bytes stems s;
      inflectable = all_inflectable_stems classes stem_bytes stems s;
    }
