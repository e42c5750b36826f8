-- A bookmark is read field by field, and then by its bounds; what is read is a bookmark by the law of the definitions.
use Rattle.std.proofs.Common.{◌≡◌, ◌≢◌, ℕ, Bool, true, false, cond, not, List, [], ◌∷◌, length, codes, Option, Some, None, refl, sym, ◌∙◌, ap}
use Rattle.std.specs.Str.{bytes_eq}
use Rattle.text_definitions.specs.Lines.{Line}
use Rattle.segmentation_definitions.specs.declared.limits.TheConstants.{LAST_ANSWER_NUMBER}
use Rattle.segmentation_definitions.specs.Items.{Choice}
use Rattle.segmentation_definitions.specs.Listings.{Key}
use Rattle.bookmark_definitions.specs.Bookmarks.{Bookmark}
use Rattle.bookmark_definitions.specs.BookmarkReadings.{number_up_to, each_read, parts_of_list, line_of, choice_of, key_of_text, bookmark_with, bookmark_of_fields, bookmark_of_text}
use Rattle.bookmarks.specs.Parts.{parts_at}
use Rattle.bookmarks.specs.Values.{is_within_bounds}

-- ---- the fields

not_five_by : (fields : List (List ℕ)) → length fields ≢ 5 → bookmark_of_fields fields ≡ None
not_five_by [] n = refl
not_five_by (version ∷ []) n = refl
not_five_by (version ∷ line ∷ []) n = refl
not_five_by (version ∷ line ∷ choices ∷ []) n = refl
not_five_by (version ∷ line ∷ choices ∷ printed ∷ []) n = refl
not_five_by (version ∷ line ∷ choices ∷ printed ∷ keys ∷ []) n = absurd (n refl)
not_five_by (version ∷ line ∷ choices ∷ printed ∷ keys ∷ other ∷ fields) n = refl

pub not_five : (text : List ℕ) → length (parts_at 59 text) ≢ 5 → bookmark_of_text text ≡ None
unfolding bookmark_of_text
not_five text n = not_five_by (parts_at 59 text) n

-- what is read of the four fields after the version
abbrev pub read_of_fields : List ℕ → List ℕ → List ℕ → List ℕ → Option Bookmark
read_of_fields line choices printed keys =
    bookmark_with (line_of line) (each_read choice_of (parts_of_list choices)) (number_up_to LAST_ANSWER_NUMBER printed)
    (each_read key_of_text (parts_of_list keys))

pub by_version : (text version line choices printed keys : List ℕ) (test : Bool) → parts_at 59 text ≡ version ∷ line ∷ choices ∷ printed ∷ keys ∷ []
    → bytes_eq version (codes "1") ≡ test → bookmark_of_text text ≡ cond test (read_of_fields line choices printed keys) None
unfolding bookmark_of_text
by_version text version line choices printed keys test cut h =
    ap bookmark_of_fields cut ∙ ap (λ t. cond t (read_of_fields line choices printed keys) None) h

-- ---- a field of which nothing is read

pub no_line : (line choices printed keys : List ℕ) → line_of line ≡ None → read_of_fields line choices printed keys ≡ None
no_line line choices printed keys h =
    ap (λ l. bookmark_with l (each_read choice_of (parts_of_list choices)) (number_up_to LAST_ANSWER_NUMBER printed) (each_read key_of_text (parts_of_list keys))) h

pub no_choices : (line choices printed keys : List ℕ) (l : Line) → line_of line ≡ Some l → each_read choice_of (parts_of_list choices) ≡ None
    → read_of_fields line choices printed keys ≡ None
no_choices line choices printed keys l e h =
    λ i. bookmark_with (e i) (h i) (number_up_to LAST_ANSWER_NUMBER printed) (each_read key_of_text (parts_of_list keys))

pub no_number : (line choices printed keys : List ℕ) (l : Line) (c : List Choice) → line_of line ≡ Some l → each_read choice_of (parts_of_list choices) ≡ Some c
    → number_up_to LAST_ANSWER_NUMBER printed ≡ None → read_of_fields line choices printed keys ≡ None
no_number line choices printed keys l c e f h = λ i. bookmark_with (e i) (f i) (h i) (each_read key_of_text (parts_of_list keys))

pub no_keys : (line choices printed keys : List ℕ) (l : Line) (c : List Choice) (p : ℕ) → line_of line ≡ Some l → each_read choice_of (parts_of_list choices) ≡ Some c
    → number_up_to LAST_ANSWER_NUMBER printed ≡ Some p → each_read key_of_text (parts_of_list keys) ≡ None → read_of_fields line choices printed keys ≡ None
no_keys line choices printed keys l c p e f g h = λ i. bookmark_with (e i) (f i) (g i) (h i)

-- ---- all fields are read

by_bounds : (line choices printed keys : List ℕ) (l : Line) (c : List Choice) (p : ℕ) (k : List Key) (test : Bool) → line_of line ≡ Some l
    → each_read choice_of (parts_of_list choices) ≡ Some c → number_up_to LAST_ANSWER_NUMBER printed ≡ Some p → each_read key_of_text (parts_of_list keys) ≡ Some k
    → is_within_bounds (record { line = l; choices = c; printed = p; keys = k }) ≡ test
    → read_of_fields line choices printed keys ≡ cond test (Some (record { line = l; choices = c; printed = p; keys = k })) None
by_bounds line choices printed keys l c p k test e f g h is =
    (λ i. bookmark_with (e i) (f i) (g i) (h i))
    ∙ ap (λ t. cond t (Some (record { line = l; choices = c; printed = p; keys = k })) None) is

pub all_read : (line choices printed keys : List ℕ) (l : Line) (c : List Choice) (p : ℕ) (k : List Key) (test : Bool) → line_of line ≡ Some l
    → each_read choice_of (parts_of_list choices) ≡ Some c → number_up_to LAST_ANSWER_NUMBER printed ≡ Some p → each_read key_of_text (parts_of_list keys) ≡ Some k
    → test ≡ is_within_bounds (record { line = l; choices = c; printed = p; keys = k }) → test ≡ true
    → read_of_fields line choices printed keys ≡ Some (record { line = l; choices = c; printed = p; keys = k })
all_read line choices printed keys l c p k test e f g h is holds = by_bounds line choices printed keys l c p k true e f g h (sym is ∙ holds)

pub out_of_bounds : (line choices printed keys : List ℕ) (l : Line) (c : List Choice) (p : ℕ) (k : List Key) (test : Bool) → line_of line ≡ Some l
    → each_read choice_of (parts_of_list choices) ≡ Some c → number_up_to LAST_ANSWER_NUMBER printed ≡ Some p → each_read key_of_text (parts_of_list keys) ≡ Some k
    → test ≡ is_within_bounds (record { line = l; choices = c; printed = p; keys = k }) → test ≡ false
    → read_of_fields line choices printed keys ≡ None
out_of_bounds line choices printed keys l c p k test e f g h is fails = by_bounds line choices printed keys l c p k false e f g h (sym is ∙ fails)

-- ---- the version

from_not : (test other : Bool) → not test ≡ not other → test ≡ other
from_not true true h = refl
from_not true false h = absurd (cc)
from_not false true h = absurd (cc)
from_not false false h = refl

pub version_tested : (version wanted : List ℕ) (differs test : Bool) → differs ≡ not (bytes_eq version wanted) → wanted ≡ 49 ∷ [] → differs ≡ not test
    → bytes_eq version (codes "1") ≡ test
version_tested version wanted differs test h is d =
    ap (λ (text : List ℕ). bytes_eq version text) (sym is) ∙ from_not (bytes_eq version wanted) test (sym h ∙ d)
