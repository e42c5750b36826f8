-- What the readers of a text's parts answer.
use Rattle.std.specs.Prelude.{◌≡◌, Option, Some, None, Result, Ok, Err}
use Rattle.joiner.specs.declared.shape_error.ShapeError.{ShapeError}
use Rattle.joiner.specs.declared.shape_error.ShapeError.TheVariants.{Shape, Memory}

-- the answer stands for what is told; it is refused for its shape only where nothing is told; memory may be wanting
abbrev pub IsReadWith : {A B : Type 0} → Result B ShapeError → Option A → (B → A) → Type 0
IsReadWith (Ok read) told value = told ≡ Some (value read)
IsReadWith (Err Shape) told value = told ≡ None
IsReadWith (Err Memory) told value = Unit {0}

-- the same of an answer that is itself what is told
abbrev pub IsRead : {A : Type 0} → Result A ShapeError → Option A → Type 0
IsRead result told = IsReadWith result told (λ read. read)
