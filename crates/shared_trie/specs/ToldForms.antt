-- The forms of phases as they were told entry by entry.
use Rattle.std.specs.Prelude.{ℕ, ◌+◌, Option, None, Some, List, [], replicate}
use Rattle.std.specs.declared.snapshot.Snapshot.{Snapshot}
use Rattle.form_tags.specs.declared.entry.Entry.{Entry}
use Rattle.form_tags.specs.Entries.{text_entry}
use Rattle.lexicon_definitions.specs.FormEntries.{with_entry}
use Rattle.lexicon_definitions.specs.Lexicons.{Form}

-- the forms after an entry, and how many were told; or so many phases without forms, where nothing was told
abbrev pub told_after : ℕ → Option (Snapshot (List (List Form) × ℕ) × Snapshot Entry) → List (List Form) × ℕ
told_after phases None = (replicate phases [], 0)
told_after phases (Some last) = (with_entry last.0.value.0 (text_entry last.1.value), last.0.value.1 + 1)
