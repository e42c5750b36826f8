-- The files of a shelf: a finite map from names to bytes, and what a shelf tells of it. `None` is a shelf that doesn't.
use Rattle.std.specs.Prelude.{◌≡◌, ℕ, List, take, Option, None, Some}
use Rattle.std.specs.Option.{option_map}
use Rattle.std.specs.Ordering.{nat_cmp}
use Rattle.std.specs.Cmp.Lexicographic.{slice_cmp}
use Rattle.std.specs.FinMap as map

-- a finite map from names to bytes
abbrev pub Files : Type 0
Files = map.FinMap (slice_cmp nat_cmp) (List ℕ)

-- the map without a name
abbrev pub no_files : Files
no_files = map.empty

-- the bytes under a name, or `None` where it is not there
abbrev pub contents_of : Files → List ℕ → Option (List ℕ)
contents_of files name = map.get files name

-- the map with these bytes under a name, and all other names as before
abbrev pub with_file : Files → List ℕ → List ℕ → Files
with_file files name bytes = map.insert files name bytes

-- the map without this name, and all other names as before
abbrev pub without_file : Files → List ℕ → Files
without_file files name = map.remove files name

-- the first `most` bytes under a name, all of them where they are fewer
abbrev pub first_bytes : Files → List ℕ → ℕ → Option (List ℕ)
first_bytes files name most = option_map (λ bytes. take most bytes) (contents_of files name)

-- where the files are told, the name is there and these are its first `most` bytes
abbrev pub AreFirstBytes : Option Files → List ℕ → ℕ → List ℕ → Type 0
AreFirstBytes None name most bytes = Unit {0}
AreFirstBytes (Some files) name most bytes = first_bytes files name most ≡ Some bytes

-- the files are told, and the name is not there
abbrev pub Lacks : Option Files → List ℕ → Type 0
Lacks None name = ⊥
Lacks (Some files) name = contents_of files name ≡ None

-- the told files with these bytes under a name
abbrev pub told_with : Option Files → List ℕ → List ℕ → Option Files
told_with None name bytes = None
told_with (Some files) name bytes = Some (with_file files name bytes)

-- the told files without a name
abbrev pub told_without : Option Files → List ℕ → Option Files
told_without None name = None
told_without (Some files) name = Some (without_file files name)
