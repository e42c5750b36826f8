-- What a run of `migrate` leaves: its text is written, or its lexicon file is refused; and the nodes that are counted are those of the
-- only trie that the text tells.
use Rattle.std.proofs.Common.{◌≡◌, ℕ, ◌≤◌, List, length, Option, Some, string_bytes, refl, sym, ◌∙◌, ap, subst}
use Rattle.outside.specs.Files.{Files, with_file}
use Rattle.lexicon_definitions.specs.Lexicons.{Lexicon, Form}
use Rattle.lexicon_definitions.specs.Tries.{Trie}
use Rattle.lexicon_text_definitions.specs.declared.limits.TheConstants.{MOST_FILE_BYTES}
use Rattle.trie_text_definitions.specs.VersionTexts.{IsNewestText, IsOrderedTrieOf}
use Rattle.trie_text_definitions.proofs.OneTrie.{one_trie}
use Rattle.run_definitions.specs.Commands.{FileWord}
use Rattle.run_definitions.specs.Ends as ends
use Rattle.run_definitions.specs.Ends.{Outcome, outcome_over}
use Rattle.run_definitions.specs.Refusals.{file_refusal}
use Rattle.run_definitions.specs.LexiconTells.{NotThere, Refused, Holds, DoesTell}
use Rattle.run_definitions.specs.LongTexts.{HasLongText}
use Rattle.run_definitions.specs.MigrateOutcomes.{text_fault, printed_nodes, IsMigratedOutcome, OfLimit, OfText, IsMigrateOutcome}
use Rattle.commands.specs.declared.status.Status.TheVariants.{Done, BadFile}
use Rattle.commands.specs.declared.status.AnyFault.{AnyFault}
use Rattle.commands.specs.declared.migrate.Migrated.{Migrated}
use Rattle.commands.specs.Faults.{file_fault}
use Rattle.commands.specs.Openings.{IsUnopened, Missing, Faulty}
use Rattle.commands.specs.Migrations.{IsMigrated}
use Rattle.commands.specs.RunEnds.{HasOutcome}

-- ---- the text

-- as many nodes as one ordered trie has, any other of the same phases has
pub nodes_counted : (phases : List (List Form)) (one : Trie) (count : ℕ) (output : List ℕ) → IsOrderedTrieOf one phases → length one.rows ≡ count
    → output ≡ printed_nodes count → (other : Trie) → IsOrderedTrieOf other phases → output ≡ printed_nodes (length other.rows)
nodes_counted phases one count output ordered many printed other is =
    printed ∙ ap printed_nodes (sym many ∙ ap (λ (t : Trie). length t.rows) (one_trie one other phases ordered is))

-- the newest text with what is printed of it
pub migrated : (lexicon : Lexicon) (newest : Migrated) (bytes : List ℕ) → IsNewestText lexicon bytes → newest.text.items ≡ bytes
    → length bytes ≤ MOST_FILE_BYTES
    → ((trie : Trie) → IsOrderedTrieOf trie lexicon.phases → string_bytes newest.output ≡ printed_nodes (length trie.rows)) → IsMigrated lexicon newest
migrated lexicon newest bytes text same within printed = record {
  version = text.0;
  is_text = record { has_text = text.1.has_text; trie = text.1.trie; ordered = text.1.ordered; text = same ∙ text.1.text };
  within = subst (λ (b : List ℕ). length b ≤ MOST_FILE_BYTES) (sym same) within;
  output = printed text.1.trie text.1.ordered;
}

module _ (lexicon : Lexicon) (lex out : FileWord) where
  -- it is written, and then the number of its nodes
  pub text_written : (newest : Migrated) → IsMigrated lexicon newest → (told : Files)
      → HasOutcome (IsMigratedOutcome lexicon lex out told) Done (string_bytes newest.output) (with_file told out.name newest.text.items)
  text_written newest is told = record {
    end = ends.Done;
    told = refl;
    is_it = OfText is.version newest.text.items is.is_text is.within
        (λ i. record { output = is.output i; files = with_file told out.name newest.text.items; end = ends.Done });
  }

  -- or the file is refused, since it would be too long
  pub text_refused : (fault : AnyFault) → file_fault fault ≡ text_fault → HasLongText lexicon → (told : Files)
      → HasOutcome (IsMigratedOutcome lexicon lex out told) (BadFile lex.place fault) (file_refusal lex.name (file_fault fault)) told
  text_refused fault same long told = record {
    end = ends.BadFile lex.place (file_fault fault);
    told = refl;
    is_it = OfLimit long (λ i. outcome_over told (file_refusal lex.name (same i)) (ends.BadFile lex.place (same i)));
  }

-- ---- the lexicon file

module _ (lex out : FileWord) where
  -- a run without a lexicon has its outcome
  pub migrate_unopened : (told : Files) (outcome : Outcome) → IsUnopened lex told outcome → IsMigrateOutcome lex out told outcome
  migrate_unopened told outcome (Missing tells is) = record { tells = NotThere; does_tell = tells; is_outcome = is }
  migrate_unopened told outcome (Faulty fault tells is) = record { tells = Refused fault; does_tell = tells; is_outcome = is }

  -- with the lexicon it goes on to write it
  pub migrate_goes_on : (lexicon : Lexicon) (files : Option Files) → ((told : Files) → files ≡ Some told → DoesTell told lex.name (Holds lexicon))
      → (told : Files) → files ≡ Some told → (outcome : Outcome) → IsMigratedOutcome lexicon lex out told outcome
      → IsMigrateOutcome lex out told outcome
  migrate_goes_on lexicon files holds told e outcome is = record { tells = Holds lexicon; does_tell = holds told e; is_outcome = is }
