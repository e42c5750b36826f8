-- What the definitions see of an entry: the tag of its analysis as its text.
use Rattle.form_tags.specs.declared.entry.Entry.{Entry}
use Rattle.form_tags.specs.Analyses.{text_analysis}
use Rattle.lexicon_definitions.specs.FormEntries.{Entry as TextEntry}

-- an entry with its tag's text
abbrev pub text_entry : Entry → TextEntry
text_entry entry = record { phase = entry.phase; letters = entry.form; analysis = text_analysis entry.analysis }
