-- An error that is handed on: by cases on it.
use Rattle.std.proofs.Common.{◌≡◌, Result, Err, Option, None}
use Rattle.bookmarks.specs.declared.error.BookmarkError.{BookmarkError}
use Rattle.bookmarks.specs.declared.error.BookmarkError.TheVariants.{Form, Memory}
use Rattle.bookmarks.specs.Answers.{IsReadWith}

-- where nothing is told of a part, nothing is told of the whole
pub handed_on : {A C : Type 0} (B D : Type 0) (v : B → A) (w : D → C) (error : BookmarkError) (part : Option A) (whole : Option C)
    → IsReadWith {A = A} {B = B} (Err error) part v → (part ≡ None → whole ≡ None) → IsReadWith {A = C} {B = D} (Err error) whole w
handed_on B D v w Form part whole h on = on h
handed_on B D v w Memory part whole h on = tt

-- the same of an answer that is refused for its form
pub if_form : {A D : Type 0} (B : Type 0) (v : B → A) (error other : BookmarkError) (part : Option A) (P : Type 0) (result : Result D BookmarkError) → result ≡ Err other → other ≡ error
    → IsReadWith {A = A} {B = B} (Err error) part v → (part ≡ None → P) → result ≡ Err Form → P
if_form B v Form other part P result r e h on f = on h
if_form B v Memory other part P result r e h on f = absurd (cc)
