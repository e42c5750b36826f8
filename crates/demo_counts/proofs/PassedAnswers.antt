-- Answers that a search has come to one after another are the first ones after where it stood.
use Rattle.std.proofs.Common.{◌≡◌, ℕ, ◌+◌, ◌<◌, ◌≤◌, Bool, false, List, [], ◌∷◌, ◌++◌, length, refl, sym, ap, ◌∙◌, subst, arith}
use Rattle.std.proofs.lemmas.List.{length-append}
use Rattle.std.specs.Bool.{OnTrue, OnFalse}
use Rattle.segmentation_definitions.specs.Derivations.{Step}
use Rattle.segmentation_definitions.specs.Listings.{Cursor, AtAnswer, PastLast, cursor_after, IsNext}
use Rattle.answer_paths.specs.Pages.{AreFirstAnswers}
use Rattle.answer_paths.proofs.NextPages.{first_of_none, first_with_next, cursor_after_last}
use Rattle.segmenter.specs.Searches.{SearchValue, MovedOn, HasEnded}
use Rattle.answer_printing.specs.Pages.{standing_at}
use Rattle.answer_printing.proofs.PrintedPages.{page_ended, page_full}
use Rattle.demo_counts.specs.Pages.{HasPassed, IsCounted}

-- so many answers were passed, and the search stands at the last of them
pub record IsUnderWay (old now : SearchValue) (count : ℕ) : Type 0 where
  pub answers : List (List Step)
  pub many : length answers ≡ count
  pub first : AreFirstAnswers old.searched.lexicon old.line old.choices old.cursor answers
  pub is : now ≡ standing_at old (cursor_after old.cursor answers)

pub at_first : (search : SearchValue) → IsUnderWay search search 0
at_first search =
    record { answers = []; many = refl; first = first_of_none search.searched.lexicon search.line search.choices search.cursor; is = refl }

-- one answer more
pub one_more : (old now new : SearchValue) (count : ℕ) → IsUnderWay old now count → MovedOn now new → IsUnderWay old new (count + 1)
one_more old now new count so_far moved =
    let answer = moved.answer in
    let many = so_far.many in
    let next = subst (λ (search : SearchValue). IsNext search.searched.lexicon search.line search.choices search.cursor answer) so_far.is moved.next in
    record {
      answers = so_far.answers ++ answer ∷ [];
      many = omega (arith, length-append so_far.answers (answer ∷ []));
      first = first_with_next old.searched.lexicon old.line old.choices old.cursor so_far.answers so_far.first answer next;
      is = moved.is ∙ ap (λ (search : SearchValue). standing_at search (AtAnswer answer)) so_far.is
          ∙ ap (standing_at old) (sym (cursor_after_last old.cursor so_far.answers answer));
    }

-- a search that stands at another cursor is still the same
stays : (old new : SearchValue) (cursor : Cursor) → new ≡ standing_at old cursor → new ≡ standing_at old new.cursor
stays old new cursor is = is ∙ ap (standing_at old) (sym (ap (λ (search : SearchValue). search.cursor) is))

-- all that were asked for are passed
pub passed_all : (old now : SearchValue) (count : ℕ) → IsUnderWay old now count → HasPassed old now count count
passed_all old now count so_far =
    let many = so_far.many in
    record {
      answers = so_far.answers;
      many = many;
      listed = record {
        same = stays old now (cursor_after old.cursor so_far.answers) so_far.is;
        first = so_far.first;
        at_most = omega arith;
        full = λ same. so_far.is;
        ended = λ fewer. absurd (omega arith);
      };
    }

-- no answer is left before so many are passed
pub passed_some : (old now new : SearchValue) (count passed : ℕ) → IsUnderWay old now passed → passed < count → HasEnded now new
    → HasPassed old new count passed
passed_some old now new count passed so_far fewer ended =
    let many = so_far.many in
    let past = subst (λ (search : SearchValue). HasEnded search new) so_far.is ended in
    record {
      answers = so_far.answers;
      many = many;
      listed = record {
        same = stays old new PastLast past.is;
        first = so_far.first;
        at_most = omega arith;
        full = λ same. absurd (omega arith);
        ended = λ less. past;
      };
    }

-- ---- the page

pub counted_fewer : (old now : SearchValue) (count passed : ℕ) → HasPassed old now count passed → passed < count
    → IsCounted old count (record { answers = passed; more = false })
counted_fewer old now count passed so_far fewer =
    let many = so_far.many in
    record { answers = so_far.answers; many = many; is_page = page_ended old now count so_far.answers so_far.listed (omega arith) }

pub counted_full : (old now new : SearchValue) (count passed : ℕ) (more : Bool) → HasPassed old now count passed → count ≤ passed
    → OnTrue more (MovedOn now new) → OnFalse more (HasEnded now new) → IsCounted old count (record { answers = passed; more = more })
counted_full old now new count passed more so_far full moved ended =
    let many = so_far.many in
    let most = so_far.listed.at_most in
    record {
      answers = so_far.answers;
      many = many;
      is_page = page_full old now count so_far.answers so_far.listed (omega arith) new more moved ended;
    }
