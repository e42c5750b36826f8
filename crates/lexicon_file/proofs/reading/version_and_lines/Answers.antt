-- The version is that of the first line.
use Rattle.std.proofs.Common.{◌∙◌}
use Rattle.lexicon_file.proofs.VersionsRead.{by_line, lines_after, no_line}
use Rattle.lexicon_file.proofs.reading.version_and_lines.Goals as goal

pub returns-in_default-clause-told : goal.returns-in_default-clause-told
returns-in_default-clause-told c = no_line c.args.bytes.now c.in_default.ensures.line

pub returns-in_default-version_told-clause-told : goal.returns-in_default-version_told-clause-told
returns-in_default-version_told-clause-told c =
    by_line c.args.bytes.now _ c.in-Some.lines.now c.in-Some.ensures.line ∙ c.in_default-version_told.ensures

pub returns-clause-told : goal.returns-clause-told
returns-clause-told c = (
  by_line c.args.bytes.now _ c.in-Some.lines.now c.in-Some.ensures.line ∙ c.in-Some-version_told.ensures,
  lines_after c.args.bytes.now _ c.in-Some.lines.now c.in-Some.ensures.line,
)
