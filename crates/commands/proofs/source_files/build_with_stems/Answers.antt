-- The lexicon of the sources is written, or the stem file is refused since it is too large.
use Rattle.commands.proofs.source_files.build_with_stems.Goals as goal

pub returns-in-Ok : goal.returns-in-Ok
returns-in-Ok g c = c.write_built.ensures c.args.sources.read.file.value.rules c.args.sources.read.tables.value c.args.sources.stems.value c.in-Ok.ensures.ok
