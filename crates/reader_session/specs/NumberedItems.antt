-- The item with a number in the summary of a session, or why there is no such item (own).
use Rattle.std.specs.Prelude.{◌≡◌, ℕ, ◌-◌, Option, Some, None, Vec}
use Rattle.std.specs.declared.alloc.Global.{Global}
use Rattle.std.specs.List.{slice_get}
use Rattle.segmentation_definitions.specs.Items.{Item}
use Rattle.reader_session.specs.declared.numbered_item.NoItem.{NoItem}
use Rattle.reader_session.specs.declared.numbered_item.NoItem.TheVariants.{NoSummary, NoNumber, Memory}

-- there is a summary, and its item with this number, counted from 1, is this one
abbrev pub IsNumberedItem : Option (Vec Item Global) → ℕ → Item → Type 0
IsNumberedItem None number item = ⊥
IsNumberedItem (Some items) number item = slice_get items.items (number - 1) ≡ Some item

-- there is a summary, and it has no item with this number
abbrev pub HasNoNumber : Option (Vec Item Global) → ℕ → Type 0
HasNoNumber None number = ⊥
HasNoNumber (Some items) number = slice_get items.items (number - 1) ≡ None

-- there is no such item, for this reason, or memory was wanting
abbrev pub IsNoItem : Option (Vec Item Global) → ℕ → NoItem → Type 0
IsNoItem summary number NoSummary = summary ≡ None
IsNoItem summary number NoNumber = HasNoNumber summary number
IsNoItem summary number Memory = Unit {0}
