-- The numbers that words of a session and of the command line write (own).
use Rattle.std.specs.Prelude.{ℕ, ◌&&◌, nat_le, if◌then◌else◌, Option, Some, None, List}
use Rattle.std.specs.Str.Parse.{digits_value}
use Rattle.text_definitions.specs.TypedNumbers.{are_digits_up_to}
use Rattle.session_definitions.specs.declared.limits.TheConstants.{MOST_PAGE}

-- how many answers a page may have, as one to four digits write it: at least 1, and not too many
abbrev pub page_size_of : List ℕ → Option ℕ
page_size_of text =
    if are_digits_up_to 4 text && nat_le 1 (digits_value 10 text) && nat_le (digits_value 10 text) MOST_PAGE
    then Some (digits_value 10 text) else None

-- the number of an item, counted from 1, as one to nine digits write it
abbrev pub item_number_of : List ℕ → Option ℕ
item_number_of text =
    if are_digits_up_to 9 text && nat_le 1 (digits_value 10 text) then Some (digits_value 10 text) else None
