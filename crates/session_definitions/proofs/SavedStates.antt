-- The bookmark of a state that a session reaches is within the bounds, since each reply keeps these: the line is one, the choices are
-- items of answers or of a bookmark, and where something was printed the session stands at an answer. The bookmark's keys are those
-- of this answer, so that it resumes the state, but for its summary.
use Rattle.std.proofs.Common.{◌≡◌, ℕ, zero, suc, slice_index_or, ◌+◌, ◌-◌, ◌*◌, ◌<◌, ◌≤◌, Option, Some, None, List, [], ◌∷◌, ◌++◌, length, take, All, Contains, refl, sym, ap, subst, ◌∙◌, arith}
use Rattle.std.specs.Prelude.{◌↔◌, min}
use Rattle.std.specs.List.{slice_get}
use Rattle.std.proofs.lemmas.Bool.{leb-false}
use Rattle.std.proofs.lemmas.List.{length-append, length-take-le}
use Rattle.std.proofs.lemmas.List.Elements.{All-cons, All-nil, All-append, All-take, Contains-get_or}
use Rattle.std.proofs.lemmas.Option.{slice_get_within, get_or_from_slice_get}
use Rattle.text_definitions.specs.Lines.{Line, IsLine}
use Rattle.text_definitions.proofs.SpelledLines.{reads_lines}
use Rattle.lexicon_definitions.specs.Lexicons.{Lexicon}
use Rattle.segmentation_definitions.specs.declared.limits.TheConstants.{LAST_ANSWER_NUMBER, MOST_CHOICES}
use Rattle.segmentation_definitions.specs.Derivations.{Step}
use Rattle.segmentation_definitions.specs.Items.{Item, Choice}
use Rattle.segmentation_definitions.specs.Answers.{IsAnswer}
use Rattle.segmentation_definitions.specs.Listings.{Cursor, BeforeFirst, AtAnswer, cursor_after, Key, keys_of, IsSummary}
use Rattle.bookmark_definitions.specs.Bookmarks.{Bookmark, IsBookmark, IsKeyWithinBounds}
use Rattle.bookmark_definitions.specs.BookmarkTexts.{text_of_bookmark}
use Rattle.bookmark_definitions.specs.BookmarkReadings.{bookmark_of_text}
use Rattle.bookmark_definitions.proofs.WrittenBookmarks.{bookmark_tells, bookmark_back}
use Rattle.session_definitions.specs.States.{State, fresh, after_resume, keys_at, bookmark_at}
use Rattle.session_definitions.specs.Replies.{Reply, agreed, IsCursorOfKeys, IsCursorOfBookmark, IsResumeReply, OfCursor, OfNoCursor}
use Rattle.session_definitions.specs.ReachedStates.{IsReached}
use Rattle.session_definitions.proofs.OneReply.{one_cursor}
use Rattle.session_definitions.proofs.KeptStates.{AreKept, kept}
use Rattle.session_definitions.proofs.AnswerBounds.{IsSound, IsItemOver, item_of_summary_within, keys_of_answer_within, few_keys_of_answer}

-- ---- what holds in each state

abbrev pub IsChoiceOver : Lexicon → Choice → Type 0
IsChoiceOver lexicon choice = IsItemOver lexicon choice.item

-- nothing was printed and the session stands before the first answer, or it stands at an answer of its line
pub data IsPlaceOf (lexicon : Lexicon) (found : Option Line) (choices : List Choice) (printed : ℕ) (cursor : Cursor) : Type 0 where
  Before : cursor ≡ BeforeFirst → printed ≡ 0 → IsPlaceOf lexicon found choices printed cursor
  At : (line : Line) (steps : List Step) → found ≡ Some line → IsAnswer lexicon line choices steps → cursor ≡ AtAnswer steps → 0 < printed
      → IsPlaceOf lexicon found choices printed cursor

pub record IsSaved (lexicon : Lexicon) (state : State) : Type 0 where
  pub line : (line : Line) → state.line ≡ Some line → IsLine line
  pub few : length state.choices ≤ MOST_CHOICES
  pub items : All (IsChoiceOver lexicon) state.choices
  pub summary : (items : List Item) → state.summary ≡ Some items → All (IsItemOver lexicon) items
  pub printed : state.printed ≤ LAST_ANSWER_NUMBER
  pub place : IsPlaceOf lexicon state.line state.choices state.printed state.cursor

-- ---- each kind of reply

no_summary : (lexicon : Lexicon) (items : List Item) → None ≡ Some items → All (IsItemOver lexicon) items
no_summary lexicon items e = absurd (cc (e))

is_fresh : (lexicon : Lexicon) (found : Option Line) (choices : List Choice) → ((line : Line) → found ≡ Some line → IsLine line)
    → length choices ≤ MOST_CHOICES → All (IsChoiceOver lexicon) choices → IsSaved lexicon (fresh found choices)
is_fresh lexicon found choices line few items = record {
  line = line;
  few = few;
  items = items;
  summary = no_summary lexicon;
  printed = omega arith;
  place = Before refl refl;
}

one_line : (line other : Line) → Some line ≡ Some other → IsLine line → IsLine other
one_line line other e is = let same : line ≡ other = cc (e) in subst IsLine same is

-- a page with answers leaves the session at one of them
last_of : (steps : List Step) (answers : List (List Step)) → (last : List Step) × Contains (steps ∷ answers) last
    × (cursor_after (AtAnswer steps) answers ≡ AtAnswer last)
last_of steps [] = (steps, Contains-get_or (steps ∷ []) 0 steps (omega arith), refl)
last_of steps (next ∷ answers) =
    let (last, (place, within, is), e) = last_of next answers in (last, (suc place, omega arith, is), e)

place_after : (lexicon : Lexicon) (line : Line) (found : Option Line) (choices : List Choice) (printed : ℕ) (cursor : Cursor) (answers : List (List Step))
    → found ≡ Some line → ((steps : List Step) → Contains answers steps → IsAnswer lexicon line choices steps) → printed ≤ LAST_ANSWER_NUMBER
    → IsPlaceOf lexicon found choices printed cursor
    → IsPlaceOf lexicon found choices (min (printed + length answers) LAST_ANSWER_NUMBER) (cursor_after cursor answers)
place_after lexicon line found choices printed cursor [] e are within (Before p none) = Before p (omega (arith, none))
place_after lexicon line found choices printed cursor [] e are within (At other steps f answer p some) = At other steps f answer p (omega (arith, some))
place_after lexicon line found choices printed cursor (steps ∷ answers) e are within place =
    let (last, among, p) = last_of steps answers in At line last e (are last among) p (omega arith)

some_printed : (printed : ℕ) (key : Key) (keys : List Key) → (key ∷ keys ≡ []) ↔ (printed ≡ 0) → 0 < printed
some_printed zero key keys none = absurd (cc (none.1 refl))
some_printed (suc printed) key keys none = omega arith

place_of_keys : (lexicon : Lexicon) (line : Line) (choices : List Choice) (printed : ℕ) (keys : List Key) (cursor : Cursor)
    → (keys ≡ []) ↔ (printed ≡ 0) → IsCursorOfKeys lexicon line choices keys cursor
    → IsPlaceOf lexicon (Some line) choices printed cursor
place_of_keys lexicon line choices printed [] cursor none e = Before e (none.0 refl)
place_of_keys lexicon line choices printed (key ∷ keys) cursor none (steps, answer, same, e) =
    At line steps refl answer e (some_printed printed key keys none)

summed : (lexicon : Lexicon) (line : Line) (choices : List Choice) (items others : List Item) → IsSound lexicon → IsLine line
    → IsSummary lexicon line choices items → Some items ≡ Some others → All (IsItemOver lexicon) others
summed lexicon line choices items others sound is_line summary e =
    let same : items ≡ others = cc (e) in
    subst (All (IsItemOver lexicon)) same (λ k d lt.
    item_of_summary_within lexicon line choices items (slice_index_or items k d) sound is_line summary (Contains-get_or items k d lt))

chosen : (lexicon : Lexicon) (items : List Item) (number : ℕ) (item : Item) → All (IsItemOver lexicon) items
    → slice_get items number ≡ Some item → IsItemOver lexicon item
chosen lexicon items number item are e =
    let within = slice_get_within items number item e in
    subst (IsItemOver lexicon) (get_or_from_slice_get items number item item e) (are number item within)

resumed : (lexicon : Lexicon) (text : List ℕ) (mark : Bookmark) (cursor : Cursor) → bookmark_of_text text ≡ Some mark
    → IsCursorOfBookmark lexicon mark cursor → IsSaved lexicon (after_resume mark cursor)
resumed lexicon text mark cursor e is =
    let mark_is : IsBookmark mark = (bookmark_tells text mark e).1 in record {
      line = λ other f. one_line mark.line other f mark_is.line;
      few = mark_is.few_choices;
      items = λ k d lt. record { within = mark_is.items k d lt; phase = is.phases k d lt };
      summary = no_summary lexicon;
      printed = mark_is.printed;
      place = place_of_keys lexicon mark.line mark.choices mark.printed mark.keys cursor mark_is.no_keys is.keys;
    }

are_kept : (lexicon : Lexicon) → IsSound lexicon → AreKept lexicon (IsSaved lexicon)
are_kept lexicon sound = record {
  opens = is_fresh lexicon None [] (λ line e. absurd (cc (e))) (omega arith) (All-nil (IsChoiceOver lexicon));
  reads = λ scheme text line e.
      is_fresh lexicon (Some line) [] (λ other f. one_line line other f (reads_lines scheme text line e)) (omega arith) (All-nil (IsChoiceOver lexicon));
  prints = λ state line count answers more p e page. record {
    line = p.line;
    few = p.few;
    items = p.items;
    summary = p.summary;
    printed = omega arith;
    place = place_after lexicon line state.line state.choices state.printed state.cursor answers e page.only_answers p.printed p.place;
  };
  sums = λ state line items p e summary. record {
    line = p.line;
    few = p.few;
    items = p.items;
    summary = λ other f. summed lexicon line state.choices items other sound (p.line line e) summary f;
    printed = p.printed;
    place = p.place;
  };
  chooses = λ state items kept number item p e f few. is_fresh lexicon state.line (state.choices ++ record { kept = kept; item = item } ∷ []) p.line
      (omega (arith, length-append state.choices (record { kept = kept; item = item } ∷ []), leb-false MOST_CHOICES (length state.choices) few))
      (All-append (IsChoiceOver lexicon) state.choices (record { kept = kept; item = item } ∷ []) p.items
      (All-cons (IsChoiceOver lexicon) (record { kept = kept; item = item }) [] (chosen lexicon items number item (p.summary items e) f) (All-nil (IsChoiceOver lexicon))));
  undoes = λ state p. is_fresh lexicon state.line (take (length state.choices - 1) state.choices) p.line
      (omega (arith, p.few, length-take-le (length state.choices - 1) state.choices))
      (All-take (IsChoiceOver lexicon) (length state.choices - 1) state.choices p.items);
  resumes = λ text mark cursor e is. resumed lexicon text mark cursor e is;
}

-- ---- the bookmark of such a state

-- what the keys of a cursor of the line are
record AreKeysAt (lexicon : Lexicon) (line : Line) (choices : List Choice) (printed : ℕ) (cursor : Cursor) (keys : List Key) : Type 0 where
  few : length keys ≤ 2 * length line.letters
  within : All IsKeyWithinBounds keys
  none : (keys ≡ []) ↔ (printed ≡ 0)
  stands : IsCursorOfKeys lexicon line choices keys cursor

module _ (lexicon : Lexicon) (state : State) (line : Line) (sound : IsSound lexicon) (p : IsSaved lexicon state) (here : state.line ≡ Some line) where
  abbrev mark : Bookmark
  mark = bookmark_at lexicon.rules state line

  of_answer : (steps : List Step) → IsAnswer lexicon line state.choices steps → 0 < state.printed
      → AreKeysAt lexicon line state.choices state.printed (AtAnswer steps) (keys_of lexicon.rules steps)
  of_answer [] answer some = absurd answer.derives.ends
  of_answer (step ∷ steps) answer some = record {
    few = few_keys_of_answer lexicon line state.choices (step ∷ steps) sound answer;
    within = keys_of_answer_within lexicon line state.choices (step ∷ steps) sound answer;
    none = (λ e. absurd (cc (e)), λ e. absurd (omega (arith, e, some)));
    stands = (step ∷ steps, answer, refl, refl);
  }

  keys_of_place : (cursor : Cursor) → IsPlaceOf lexicon state.line state.choices state.printed cursor
      → AreKeysAt lexicon line state.choices state.printed cursor (keys_at lexicon.rules cursor)
  keys_of_place cursor (Before e none) =
      subst (λ (x : Cursor). AreKeysAt lexicon line state.choices state.printed x (keys_at lexicon.rules x)) (sym e) (record {
        few = omega arith;
        within = All-nil IsKeyWithinBounds;
        none = (λ same. none, λ same. refl);
        stands = refl;
      })
  keys_of_place cursor (At other steps f answer e some) =
      let found : Some other ≡ Some line = sym f ∙ here in
      let same : other ≡ line = cc (found) in
      subst (λ (x : Cursor). AreKeysAt lexicon line state.choices state.printed x (keys_at lexicon.rules x)) (sym e)
      (of_answer steps (subst (λ (l : Line). IsAnswer lexicon l state.choices steps) same answer) some)

  pub mark_is_bookmark : IsBookmark mark
  mark_is_bookmark =
      let keys = keys_of_place state.cursor p.place in record {
        line = p.line line here;
        few_choices = p.few;
        items = λ k d lt. (p.items k d lt).within;
        printed = p.printed;
        few_keys = keys.few;
        keys = keys.within;
        no_keys = keys.none;
      }

  pub mark_is_read_back : bookmark_of_text (text_of_bookmark mark) ≡ Some mark
  mark_is_read_back = bookmark_back mark mark_is_bookmark

  cursor_is : IsCursorOfBookmark lexicon mark state.cursor
  cursor_is = record { phases = λ k d lt. (p.items k d lt).phase; keys = (keys_of_place state.cursor p.place).stands }

  same_state : agreed (after_resume mark state.cursor) ≡ agreed (record state { summary = None })
  same_state = λ i. agreed (record {
    line = sym here i;
    choices = state.choices;
    printed = state.printed;
    cursor = state.cursor;
    summary = None;
  })

  resumes_to : (other : State) (reply : Reply) → IsResumeReply lexicon other mark reply → reply ≡ agreed (record state { summary = None })
  resumes_to other reply (OfCursor cursor is e) =
      let same : cursor ≡ state.cursor = one_cursor lexicon line state.choices mark.keys cursor state.cursor is.keys cursor_is.keys in
      e ∙ ap (λ (x : Cursor). agreed (after_resume mark x)) same ∙ same_state
  resumes_to other reply (OfNoCursor none e) = absurd (none state.cursor cursor_is)

  pub mark_resumes : (other : State) (reply : Reply)
      → IsResumeReply lexicon other mark reply ↔ (reply ≡ agreed (record state { summary = None }))
  mark_resumes other reply = (resumes_to other reply, λ e. OfCursor state.cursor cursor_is (e ∙ sym same_state))

-- each state that a session reaches is such a state
pub saved : (lexicon : Lexicon) (state : State) → IsSound lexicon → IsReached lexicon state → IsSaved lexicon state
saved lexicon state sound reached = kept lexicon (IsSaved lexicon) (are_kept lexicon sound) state reached
