-- The program's notations, as the definitions have them.
use Rattle.std.specs.Prelude.{ℕ, Option, Some, None, List}
use Rattle.std.specs.Borrow.{Bor}
use Rattle.rule_file_definitions.specs.RuleNotations as notations
use Rattle.rule_file_definitions.specs.EntryPhases as phases
use Rattle.rule_file.specs.declared.notation.Part.{Part}
use Rattle.rule_file.specs.declared.notation.Notation.{Notation}
use Rattle.rule_file.specs.declared.fields.Fields.{Fields}

-- the name of the class, where there is one
abbrev pub name_of : Option (Bor (List ℕ)) → Option (List ℕ)
name_of None = None
name_of (Some name) = Some name.now

-- the part of a notation
abbrev pub part_of : Part → notations.Part
part_of part = record { before = part.before.now; class = name_of part.class; after = part.after.now }

-- the notation
abbrev pub written : Notation → notations.Notation
written notation =
    record { x = notation.x.now; u = notation.u.now; v = part_of notation.v; w = part_of notation.w }

-- the fields BEFORE and AFTER of an entry, where it has them
abbrev pub limits_of : Option (Bor (List ℕ) × Bor (List ℕ)) → Option (List ℕ × List ℕ)
limits_of None = None
limits_of (Some limits) = Some (limits.0.now, limits.1.now)

-- the fields of an entry
abbrev pub fields_written : Fields → phases.Fields
fields_written fields = record { notation = fields.notation.now; limits = limits_of fields.limits }
