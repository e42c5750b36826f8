-- What is said of a single answer of a device, and of all the others.
use Rattle.std.specs.Prelude.{Result, Ok, Err}
use Rattle.outside.specs.declared.shelf.ShelfError.{ShelfError}
use Rattle.outside.specs.declared.shelf.ShelfError.TheVariants as read
use Rattle.outside.specs.declared.sink.WriteError.{WriteError}
use Rattle.outside.specs.declared.sink.WriteError.TheVariants as write

-- where a read found no such name
abbrev pub OnMissing : {T : Type 0} → Result T ShelfError → Type 0 → Type 0
OnMissing (Ok value) P = Unit {0}
OnMissing (Err read.Missing) P = P
OnMissing (Err read.Failed) P = Unit {0}
OnMissing (Err read.Memory) P = Unit {0}

-- where a read failed
abbrev pub OnFailedRead : {T : Type 0} → Result T ShelfError → Type 0 → Type 0
OnFailedRead (Ok value) P = Unit {0}
OnFailedRead (Err read.Missing) P = Unit {0}
OnFailedRead (Err read.Failed) P = P
OnFailedRead (Err read.Memory) P = Unit {0}

-- where a read did not fail: it gave bytes, or found no such name, or no memory
abbrev pub OnOtherRead : {T : Type 0} → Result T ShelfError → Type 0 → Type 0
OnOtherRead (Ok value) P = P
OnOtherRead (Err read.Missing) P = P
OnOtherRead (Err read.Failed) P = Unit {0}
OnOtherRead (Err read.Memory) P = P

-- where a write failed
abbrev pub OnFailedWrite : {T : Type 0} → Result T WriteError → Type 0 → Type 0
OnFailedWrite (Ok value) P = Unit {0}
OnFailedWrite (Err write.Failed) P = P
OnFailedWrite (Err write.Memory) P = Unit {0}

-- where a write did not fail: it took bytes, or found no memory
abbrev pub OnOtherWrite : {T : Type 0} → Result T WriteError → Type 0 → Type 0
OnOtherWrite (Ok value) P = P
OnOtherWrite (Err write.Failed) P = Unit {0}
OnOtherWrite (Err write.Memory) P = P
