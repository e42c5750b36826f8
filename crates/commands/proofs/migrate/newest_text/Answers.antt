-- The text is the newest one, and its trie has as many nodes as are counted.
use Rattle.std.proofs.Common.{refl}
use Rattle.form_file.specs.Contents.{lexicon_of}
use Rattle.commands.proofs.MigrateRuns.{migrated}
use Rattle.commands.proofs.migrate.newest_text.Goals as goal

pub returns : goal.returns
returns c =
    let written = rw c.in-Some.is at c.in_ok-text.ensures.ok in record {
      ok = migrated (lexicon_of c.args.contents.now) (record { text = c.in-Some.text; output = c.in_ok-output.output }) c.in-Some.text.items
          written.0 refl written.1 c.in_ok-output.ensures.ok;
    }
