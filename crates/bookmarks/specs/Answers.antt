-- What the readers of a bookmark's parts answer.
use Rattle.std.specs.Prelude.{◌≡◌, Option, Some, None, Result, Ok, Err}
use Rattle.bookmarks.specs.declared.error.BookmarkError.{BookmarkError}
use Rattle.bookmarks.specs.declared.error.BookmarkError.TheVariants.{Form, Memory}

-- the answer stands for what is told; it is refused for its form only where nothing is told; memory may be wanting
abbrev pub IsReadWith : {A B : Type 0} → Result B BookmarkError → Option A → (B → A) → Type 0
IsReadWith (Ok read) told value = told ≡ Some (value read)
IsReadWith (Err Form) told value = told ≡ None
IsReadWith (Err Memory) told value = Unit {0}

-- the same of an answer that is itself what is told
abbrev pub IsRead : {A : Type 0} → Result A BookmarkError → Option A → Type 0
IsRead result told = IsReadWith result told (λ read. read)
