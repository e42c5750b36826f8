-- One choice more or one less: the items of the choices stay within the bounds, and the session's state begins anew.
use Rattle.std.proofs.Common.{◌≡◌, ℕ, ◌+◌, ◌-◌, ◌<◌, ◌≤◌, inl, inr, nat_le, Bool, true, false, List, [], ◌∷◌, ◌++◌, length, take, All, Option, Some, None, Result, Ok, Err, IfOk, OnOk, Vec, refl, sym, ◌∙◌, ap, subst, arith}
use Rattle.std.specs.Prelude.{codes, if◌then◌else◌}
use Rattle.std.specs.declared.alloc.Global.{Global}
use Rattle.std.specs.Global.{Box}
use Rattle.std.specs.List.{slice_get}
use Rattle.std.specs.Option.{option_map}
use Rattle.std.proofs.lemmas.Bool.{cases_lt, lt-leb, le-leb}
use Rattle.std.proofs.lemmas.List.{length-append, take-append-le, take_all}
use Rattle.std.proofs.lemmas.List.Elements.{All-push, All-pop}
use Rattle.std.proofs.lemmas.Option.{slice_get_within, get_or_from_slice_get}
use Rattle.lexicon_definitions.specs.Lexicons.{RuleSet}
use Rattle.segmentation_definitions.specs.declared.limits.TheConstants.{MOST_CHOICES}
use Rattle.segmentation_definitions.specs.Items.{Item, Choice}
use Rattle.segmentation_definitions.specs.PrintedAnswers.{output_line}
use Rattle.bookmark_definitions.specs.Bookmarks.{IsItemWithinBounds}
use Rattle.session_definitions.specs.States.{State, fresh, after_choice, after_undo}
use Rattle.session_definitions.specs.Requests.{Request, Choose}
use Rattle.session_definitions.specs.Replies.{Reply, Open, agreed, refused, with_summary, with_item, reply_about, reply_to_choice, reply_to_undo, IsReplyTo}
use Rattle.annotated_trie.specs.Searched.{SearchedLexicon, IsSearchedLexicon}
use Rattle.reader_session.specs.declared.reading.Reading.{Reading}
use Rattle.reader_session.specs.Readings.{IsReading, IsReadingOver, GoesOn, GoesOnWith, state_with, state_of}
use Rattle.reader_session.proofs.AnswerBounds.{item_of_summary_within}
use Rattle.reader_session.proofs.RefusedReplies.{if_refused}
use Rattle.reader_session.specs.NumberedItems.{IsNumberedItem}

abbrev pub AreWithin : List Choice → Type 0
AreWithin choices = All (λ (choice : Choice). IsItemWithinBounds choice.item) choices

-- one choice more
pub more_within : (old new : List Choice) (choice : Choice) → AreWithin old → IsItemWithinBounds choice.item → new ≡ old ++ choice ∷ []
    → AreWithin new
more_within old new choice within item is =
    subst AreWithin (sym is) (All-push (λ (c : Choice). IsItemWithinBounds c.item) old choice within item)

-- there is room for a choice where there are not too many, nor just as many as there may be
pub room_before : (choices : List Choice) → length choices ≤ MOST_CHOICES → (length choices ≡ MOST_CHOICES → ⊥) → length choices < MOST_CHOICES
room_before choices few fewer = elim (cases_lt (length choices) MOST_CHOICES) [
  | inl below ↦ below
  | inr above ↦ absurd (fewer (omega (arith, few, above)))
]

-- and then there are not too many
pub more_fit : (old new : List Choice) (choice : Choice) → length old < MOST_CHOICES → new ≡ old ++ choice ∷ [] → length new ≤ MOST_CHOICES
more_fit old new choice room is = let longer = ap length is ∙ length-append old (choice ∷ []) in omega (arith, room, longer)

pub fewer_fit : (old new : List Choice) (choice : Choice) → length old ≤ MOST_CHOICES → old ≡ new ++ choice ∷ [] → length new ≤ MOST_CHOICES
fewer_fit old new choice few is = let longer = ap length is ∙ length-append new (choice ∷ []) in omega (arith, few, longer)

-- one choice less
pub fewer_within : (old new : List Choice) (choice : Choice) → AreWithin old → old ≡ new ++ choice ∷ [] → AreWithin new
fewer_within old new choice within is = (All-pop (λ (c : Choice). IsItemWithinBounds c.item) old new (Some choice) is within).0

without_newest : (choices : List Choice) (choice : Choice) → take (length (choices ++ choice ∷ []) - 1) (choices ++ choice ∷ []) ≡ choices
without_newest choices choice =
    ap (λ n. take n (choices ++ choice ∷ [])) (one_fewer (length-append choices (choice ∷ [])))
    ∙ take-append-le (length choices) choices (choice ∷ []) (omega arith) ∙ take_all (length choices) choices (omega arith)
  where
    one_fewer : length (choices ++ choice ∷ []) ≡ length choices + 1 → length (choices ++ choice ∷ []) - 1 ≡ length choices
    one_fewer longer = omega (arith, longer)

-- the item with a number in the summary is within the bounds
within_by : (searched : SearchedLexicon) (reading : Reading) (summary : Option (Vec Item Global)) (number : ℕ) (item : Item)
    → IsSearchedLexicon searched → IsReading searched reading → reading.summary ≡ summary → IsNumberedItem summary number item
    → IsItemWithinBounds item
within_by searched reading None number item is is_reading e there = absurd there
within_by searched reading (Some items) number item is is_reading e there =
    item_of_summary_within searched reading.line reading.choices items.items item is is_reading.line
    (is_reading.summary items.items (ap (λ s. option_map (λ (i : Vec Item Global). i.items) s) e))
    (number - 1, slice_get_within items.items (number - 1) item there, get_or_from_slice_get items.items (number - 1) item item there)

pub numbered_within : (searched : SearchedLexicon) (reading : Reading) (number : ℕ) (item : Item) → IsSearchedLexicon searched
    → IsReading searched reading → IsNumberedItem reading.summary number item → IsItemWithinBounds item
numbered_within searched reading number item is is_reading there =
    within_by searched reading reading.summary number item is is_reading refl there

-- what was asked for was agreed to, and the line is read anew with these choices
agreed_with : {T E : Type 0} (searched : SearchedLexicon) (reading now : Reading) (choices : List Choice) (reply : Reply) (before after : List ℕ)
    (result : Result T E) → reply ≡ agreed (fresh (Some reading.line) choices) → after ≡ before ++ output_line (codes "ok")
    → OnOk result (IsReading searched now) → OnOk result (state_with searched.lexicon.rules now ≡ fresh (Some reading.line) choices)
    → OnOk result (GoesOnWith searched (λ r. r ≡ reply) before after now)
agreed_with searched reading now choices reply before after (Ok done) reply_is bytes is_reading state = record {
  reply = reply;
  is_it = refl;
  bytes = bytes ∙ ap (λ (r : Reply). before ++ r.bytes) (sym reply_is);
  is_reading = is_reading;
  stands = ap (λ (r : Reply). r.after) reply_is ∙ ap Open (sym state);
}
agreed_with searched reading now choices reply before after (Err e) reply_is bytes is_reading state = tt

-- a choice is agreed to where there is room
pub chosen : {T E : Type 0} (searched : SearchedLexicon) (reading now : Reading) (kept : Bool) (item : Item) (new : List Choice)
    (before after : List ℕ) (result : Result T E) → length reading.choices < MOST_CHOICES
    → new ≡ reading.choices ++ record { kept = kept; item = item } ∷ [] → after ≡ before ++ output_line (codes "ok")
    → OnOk result (IsReading searched now) → OnOk result (state_with searched.lexicon.rules now ≡ fresh (Some reading.line) new)
    → OnOk result (GoesOnWith searched (λ reply. reply ≡ reply_to_choice (state_with searched.lexicon.rules reading) kept item) before after now)
chosen searched reading now kept item new before after result room is bytes is_reading state =
    let state_is = state_with searched.lexicon.rules reading in
    agreed_with searched reading now new (reply_to_choice state_is kept item) before after result
    (ap (λ b. if b then refused state_is (codes "too many") else agreed (after_choice state_is kept item)) (too_few room)
    ∙ ap (λ choices. agreed (fresh (Some reading.line) choices)) (sym is))
    bytes is_reading state
  where
    too_few : length reading.choices < MOST_CHOICES → nat_le MOST_CHOICES (length reading.choices) ≡ false
    too_few room = lt-leb MOST_CHOICES (length reading.choices) room

-- the request was refused, and the line is read on as it was
refused_with : (searched : SearchedLexicon) (reading : Reading) (why : List ℕ) (reply : Reply) (before after : List ℕ)
    → reply ≡ refused (state_with searched.lexicon.rules reading) why → after ≡ before ++ output_line (codes "? " ++ why)
    → IsReading searched reading → GoesOnWith searched (λ r. r ≡ reply) before after reading
refused_with searched reading why reply before after reply_is bytes is_reading = record {
  reply = reply;
  is_it = refl;
  bytes = bytes ∙ ap (λ (r : Reply). before ++ r.bytes) (sym reply_is);
  is_reading = is_reading;
  stands = ap (λ (r : Reply). r.after) reply_is;
}

-- the line that is read, with other choices
abbrev pub with_choices : Reading → List Choice → Reading
with_choices reading choices = record reading { choices = choices }

-- a choice is refused where there are too many
pub too_many : (searched : SearchedLexicon) (reading : Reading) (kept : Bool) (item : Item) (new : List Choice) (before after : List ℕ)
    → length reading.choices ≡ MOST_CHOICES → new ≡ reading.choices → after ≡ before ++ output_line (codes "? " ++ codes "too many")
    → IsReading searched reading
    → GoesOnWith searched (λ reply. reply ≡ reply_to_choice (state_with searched.lexicon.rules reading) kept item) before after (with_choices reading new)
too_many searched reading kept item new before after full is bytes is_reading =
    let state_is = state_with searched.lexicon.rules reading in
    let IsIt : Reply → Type 0 = λ reply. reply ≡ reply_to_choice state_is kept item in
    subst (λ choices. GoesOnWith searched IsIt before after (with_choices reading choices)) (sym is)
    (refused_with searched reading (codes "too many") (reply_to_choice state_is kept item) before after
    (ap (λ b. if b then refused state_is (codes "too many") else agreed (after_choice state_is kept item)) too_full) bytes is_reading)
  where
    too_full : nat_le MOST_CHOICES (length reading.choices) ≡ true
    too_full = le-leb MOST_CHOICES (length reading.choices) (omega (arith, full))

undone_is : (state : State) (choices : List Choice) (choice : Choice) → reply_to_undo state (choices ++ choice ∷ []) ≡ agreed (after_undo state)
undone_is state [] choice = refl
undone_is state (first ∷ choices) choice = refl

-- the newest choice is taken back
pub taken_back : {T E : Type 0} (searched : SearchedLexicon) (reading now : Reading) (choice : Choice) (new : List Choice) (before after : List ℕ)
    (result : Result T E) → reading.choices ≡ new ++ choice ∷ [] → after ≡ before ++ output_line (codes "ok")
    → OnOk result (IsReading searched now) → OnOk result (state_with searched.lexicon.rules now ≡ fresh (Some reading.line) new)
    → OnOk result (GoesOnWith searched (λ reply. reply ≡ reply_to_undo (state_with searched.lexicon.rules reading) reading.choices) before after now)
taken_back searched reading now choice new before after result is bytes is_reading state =
    let state_is = state_with searched.lexicon.rules reading in
    agreed_with searched reading now new (reply_to_undo state_is reading.choices) before after result
    (ap (reply_to_undo state_is) is ∙ undone_is state_is new choice
    ∙ ap (λ choices. agreed (fresh (Some reading.line) choices))
    (ap (λ (choices : List Choice). take (length choices - 1) choices) is ∙ without_newest new choice))
    bytes is_reading state

-- there is no choice to be taken back
pub none_taken_back : (searched : SearchedLexicon) (reading : Reading) (new : List Choice) (before after : List ℕ)
    → reading.choices ≡ [] → new ≡ reading.choices → after ≡ before ++ output_line (codes "? " ++ codes "nothing to undo")
    → IsReading searched reading
    → GoesOnWith searched (λ reply. reply ≡ reply_to_undo (state_with searched.lexicon.rules reading) reading.choices) before after (with_choices reading new)
none_taken_back searched reading new before after none is bytes is_reading =
    let state_is = state_with searched.lexicon.rules reading in
    let IsIt : Reply → Type 0 = λ reply. reply ≡ reply_to_undo state_is reading.choices in
    subst (λ choices. GoesOnWith searched IsIt before after (with_choices reading choices)) (sym is)
    (refused_with searched reading (codes "nothing to undo") (reply_to_undo state_is reading.choices) before after
    (ap (reply_to_undo state_is) none) bytes is_reading)

-- where there is no summary, what is asked of an item is refused
no_summary_for : {E : Type 0} (searched : SearchedLexicon) (reading : Box Reading) (number : ℕ) (following : Item → Reply) (before after : List ℕ)
    (result : Result (Option (Box Reading)) E) → reading.value.summary ≡ None → IsReading searched reading.value
    → OnOk result (after ≡ before ++ output_line (codes "? " ++ codes "no summary")) → IfOk result (λ same. same ≡ Some reading)
    → IfOk result (GoesOn searched (λ reply. reply ≡ reply_about (state_with searched.lexicon.rules reading.value) (Some number) following) before after)
no_summary_for searched reading number following before after result none is_reading bytes same_is =
    let state = state_with searched.lexicon.rules reading.value in
    if_refused searched (Some reading) (λ reply. reply ≡ reply_about state (Some number) following) (codes "no summary") before after result
    is_reading
    (sym (ap (λ summary. with_summary state (option_map (λ (i : Vec Item Global). i.items) summary)
    (λ items. with_item state (slice_get items (number - 1)) following)) none))
    bytes same_is

-- the same, where there is a line and a number
pub no_summary : {E : Type 0} (searched : SearchedLexicon) (old : Option (Box Reading)) (reading : Box Reading) (asked : Option ℕ) (number : ℕ)
    (request : Option ℕ → Request) (before after : List ℕ) (result : Result (Option (Box Reading)) E)
    → ((following : Option ℕ → State → Item → Reply) × ((k : ℕ) → IsReplyTo searched.lexicon (state_of searched.lexicon.rules (Some reading)) (request (Some k))
    ≡ (λ reply. reply ≡ reply_about (state_of searched.lexicon.rules (Some reading)) (Some k) (following (Some k) (state_of searched.lexicon.rules (Some reading))))))
    → old ≡ Some reading → asked ≡ Some number → reading.value.summary ≡ None → IsReadingOver searched old
    → OnOk result (after ≡ before ++ output_line (codes "? " ++ codes "no summary")) → IfOk result (λ same. same ≡ Some reading)
    → IfOk result (GoesOn searched (IsReplyTo searched.lexicon (state_of searched.lexicon.rules old) (request asked)) before after)
no_summary searched old reading asked number request before after result (following, means) old_is asked_is none is_reading bytes same_is =
    let rules = searched.lexicon.rules in
    subst (λ o. IfOk result (GoesOn searched (IsReplyTo searched.lexicon (state_of rules o) (request asked)) before after)) (sym old_is)
    (subst (λ a. IfOk result (GoesOn searched (IsReplyTo searched.lexicon (state_of rules (Some reading)) (request a)) before after)) (sym asked_is)
    (subst (λ IsIt. IfOk result (GoesOn searched IsIt before after)) (sym (means number))
    (no_summary_for searched reading number (following (Some number) (state_of rules (Some reading))) before after result none
    (subst (IsReadingOver searched) old_is is_reading) bytes same_is)))

-- where the summary has the item, what is replied about its number is what is replied about the item
about_item : (rules : RuleSet) (reading : Reading) (summary : Option (Vec Item Global)) (number : ℕ) (item : Item) (following : Item → Reply)
    → reading.summary ≡ summary → IsNumberedItem summary number item → reply_about (state_with rules reading) (Some number) following ≡ following item
about_item rules reading None number item following e there = absurd there
about_item rules reading (Some items) number item following e there =
    let state = state_with rules reading in
    ap (λ summary. with_summary state (option_map (λ (i : Vec Item Global). i.items) summary) (λ listed. with_item state (slice_get listed (number - 1)) following)) e
    ∙ ap (λ found. with_item state found following) there

-- so what follows the choice of such an item is the reply to the request for it
pub item_chosen : (searched : SearchedLexicon) (old : Option (Box Reading)) (reading : Box Reading) (now : Reading) (asked : Option ℕ) (number : ℕ)
    (kept : Bool) (item : Item) (before after : List ℕ) → old ≡ Some reading → asked ≡ Some number → IsNumberedItem reading.value.summary number item
    → GoesOnWith searched (λ reply. reply ≡ reply_to_choice (state_with searched.lexicon.rules reading.value) kept item) before after now
    → GoesOnWith searched (IsReplyTo searched.lexicon (state_of searched.lexicon.rules old) (Choose kept asked)) before after now
item_chosen searched old reading now asked number kept item before after old_is asked_is there goes =
    let rules = searched.lexicon.rules in
    let state = state_with rules reading.value in
    subst (λ o. GoesOnWith searched (IsReplyTo searched.lexicon (state_of rules o) (Choose kept asked)) before after now) (sym old_is)
    (subst (λ a. GoesOnWith searched (IsReplyTo searched.lexicon state (Choose kept a)) before after now) (sym asked_is)
    (subst (λ (said : Reply). GoesOnWith searched (λ reply. reply ≡ said) before after now)
    (sym (about_item rules reading.value reading.value.summary number item (reply_to_choice state kept) refl there)) goes))
