-- The files that the entries of a map in memory stand for.
use Rattle.std.specs.Prelude.{ℕ, List, [], ◌∷◌, Vec, String}
use Rattle.std.specs.declared.alloc.Global.{Global}
use Rattle.std.specs.String.{string_bytes}
use Rattle.outside.specs.Files.{Files, no_files, with_file}

-- the file of each entry; where a name stands twice, the first entry counts
abbrev pub files_of : List (String Global × Vec ℕ Global) → Files
files_of [] = no_files
files_of (entry ∷ entries) = with_file (files_of entries) (string_bytes entry.0) entry.1.items
