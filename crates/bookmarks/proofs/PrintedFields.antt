-- The text of a bookmark is its five fields with `;` between.
use Rattle.std.proofs.Common.{◌≡◌, ℕ, List, ◌∷◌, ◌++◌, map, codes, ◌∙◌}
use Rattle.std.specs.Fmt.{decimal}
use Rattle.std.specs.List.{join_with_byte}
use Rattle.bookmark_definitions.specs.Bookmarks.{Bookmark}
use Rattle.bookmark_definitions.specs.BookmarkTexts.{text_of_line, text_of_choice, text_of_key, text_of_bookmark}

pub fields_printed : (mark : Bookmark) (text line choices keys : List ℕ) → line ≡ text_of_line mark.line → choices ≡ join_with_byte 44 (map text_of_choice mark.choices)
    → keys ≡ join_with_byte 44 (map text_of_key mark.keys)
    → text ≡ codes "1;" ++ (line ++ (codes ";" ++ (choices ++ (codes ";" ++ (decimal mark.printed ++ (codes ";" ++ keys)))))) → text ≡ text_of_bookmark mark
unfolding text_of_bookmark
fields_printed mark text line choices keys line_is choices_are keys_are text_is =
    text_is ∙ (λ i. 49 ∷ 59 ∷ (line_is i ++ 59 ∷ (choices_are i ++ 59 ∷ (decimal mark.printed ++ 59 ∷ keys_are i))))
