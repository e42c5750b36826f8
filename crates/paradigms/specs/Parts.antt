-- The entries of one stem among those of all.
use Rattle.std.specs.Prelude.{List, map}
use Rattle.std.specs.declared.vec.Vec.{Vec}
use Rattle.std.specs.declared.alloc.Global.{Global}
use Rattle.form_tags.specs.declared.entry.Entry.{Entry}
use Rattle.form_tags.specs.Entries.{text_entry}
use Rattle.morphology_definitions.specs.Inflection.{AreInflected, Class, rows_of}
use Rattle.paradigms.specs.declared.stem.Stem.{Stem}

-- the entries are those of the stem by the rows of its class
abbrev pub IsPartOf : List Class → Stem → Vec Entry Global → Type 0
IsPartOf classes stem part = AreInflected (rows_of classes stem.class) stem.letters (map text_entry part.items)
