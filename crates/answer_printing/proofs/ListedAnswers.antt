-- Answers that a search has come to one after another are the first ones after where it stood, printed with rising numbers.
use Rattle.std.proofs.Common.{◌≡◌, ℕ, ◌+◌, ◌<◌, ◌≤◌, Bool, false, Some, List, [], ◌∷◌, ◌++◌, length, refl, sym, ap, ◌∙◌, subst, arith}
use Rattle.std.proofs.lemmas.List.{append-nil, append_assoc, length-append}
use Rattle.std.specs.Bool.{OnTrue, OnFalse}
use Rattle.lexicon_definitions.specs.Lexicons.{RuleSet}
use Rattle.segmentation_definitions.specs.declared.limits.TheConstants.{LAST_ANSWER_NUMBER}
use Rattle.segmentation_definitions.specs.Derivations.{Step}
use Rattle.segmentation_definitions.specs.Listings.{Cursor, AtAnswer, PastLast, cursor_after, IsNext}
use Rattle.segmentation_definitions.specs.PrintedAnswers.{printed_answer, printed_answers, printed_rest, output_line, next_number}
use Rattle.answer_paths.specs.Pages.{AreFirstAnswers}
use Rattle.answer_paths.proofs.NextPages.{first_of_none, first_with_next, cursor_after_last}
use Rattle.derivation.specs.declared.step.Step.{Step as ProgramStep}
use Rattle.segmenter.specs.Searches.{SearchValue, MovedOn, HasEnded, IsCurrent}
use Rattle.answer_printing.specs.Pages.{standing_at, HasListed, KeepsLast, HasPrinted, HasPrintedPage}
use Rattle.answer_printing.specs.Turns.{HasPrintedNext, HasPrintedNone}
use Rattle.answer_printing.proofs.PrintedPages.{page_ended, page_full}

-- the number of the answer after these, where the first of them has this one
abbrev pub number_after : ℕ → List (List Step) → ℕ
number_after number [] = number
number_after number (answer ∷ answers) = number_after (next_number number) answers

number_after_next : (number : ℕ) (answers : List (List Step)) (next : List Step)
    → number_after number (answers ++ next ∷ []) ≡ next_number (number_after number answers)
number_after_next number [] next = refl
number_after_next number (answer ∷ answers) next = number_after_next (next_number number) answers next

printed_with_next : (rules : RuleSet) (number : ℕ) (answers : List (List Step)) (next : List Step)
    → printed_answers rules number (answers ++ next ∷ [])
    ≡ printed_answers rules number answers ++ output_line (printed_answer rules (number_after number answers) next)
printed_with_next rules number [] next = append-nil (output_line (printed_answer rules number next))
printed_with_next rules number (answer ∷ answers) next =
    ap (λ rest. output_line (printed_answer rules number answer) ++ rest) (printed_with_next rules (next_number number) answers next)
    ∙ sym (append_assoc (output_line (printed_answer rules number answer)) (printed_answers rules (next_number number) answers)
    (output_line (printed_answer rules (number_after (next_number number) answers) next)))

-- these answers were listed and printed, the search stands at the last of them, and the next one has this number
pub record AreListed (old now : SearchValue) (first_number : ℕ) (before after : List ℕ) (number : ℕ) (answers : List (List Step)) : Type 0 where
  pub first : AreFirstAnswers old.searched.lexicon old.line old.choices old.cursor answers
  pub is : now ≡ standing_at old (cursor_after old.cursor answers)
  pub lines : after ≡ before ++ printed_answers old.searched.lexicon.rules first_number answers
  pub next : number ≡ number_after first_number answers
  pub within : number ≤ LAST_ANSWER_NUMBER

-- so many answers were
pub record IsUnderWay (old now : SearchValue) (first_number count : ℕ) (before after : List ℕ) (number : ℕ) : Type 0 where
  pub answers : List (List Step)
  pub many : length answers ≡ count
  pub listed : AreListed old now first_number before after number answers

-- and the steps of the last of them are kept
pub record IsKeeping (old now : SearchValue) (first_number count : ℕ) (before after : List ℕ) (number : ℕ) (last_before last_after : List ProgramStep) :
    Type 0 where
  pub answers : List (List Step)
  pub many : length answers ≡ count
  pub listed : AreListed old now first_number before after number answers
  pub last : KeepsLast old answers last_before last_after

pub listed_none : (search : SearchValue) (number : ℕ) (before : List ℕ) → number ≤ LAST_ANSWER_NUMBER → AreListed search search number before before number []
listed_none search number before within = record {
  first = first_of_none search.searched.lexicon search.line search.choices search.cursor;
  is = refl;
  lines = sym (append-nil before);
  next = refl;
  within = within;
}

-- the new search stands at the answer to which it has moved
now_at : (old now new : SearchValue) (first_number : ℕ) (before after : List ℕ) (number : ℕ) (answers : List (List Step))
    → AreListed old now first_number before after number answers → (moved : MovedOn now new) → new ≡ standing_at old (AtAnswer moved.answer)
now_at old now new first_number before after number answers so_far moved =
    moved.is ∙ ap (λ (search : SearchValue). standing_at search (AtAnswer moved.answer)) so_far.is

listed_next : (old now new : SearchValue) (first_number : ℕ) (before after latest : List ℕ) (number : ℕ) (answers : List (List Step))
    → AreListed old now first_number before after number answers → (turn : HasPrintedNext now new number after latest)
    → AreListed old new first_number before latest (next_number number) (answers ++ turn.moved.answer ∷ [])
listed_next old now new first_number before after latest number answers so_far turn =
    let answer = turn.moved.answer in
    let rules = old.searched.lexicon.rules in
    let is_next = subst (λ (search : SearchValue). IsNext search.searched.lexicon search.line search.choices search.cursor answer) so_far.is turn.moved.next in
    let line_is = ap (λ (search : SearchValue). after ++ output_line (printed_answer search.searched.lexicon.rules number answer)) so_far.is in
    record {
      first = first_with_next old.searched.lexicon old.line old.choices old.cursor answers so_far.first answer is_next;
      is = now_at old now new first_number before after number answers so_far turn.moved
          ∙ ap (standing_at old) (sym (cursor_after_last old.cursor answers answer));
      lines = turn.line ∙ line_is
          ∙ ap (λ front. front ++ output_line (printed_answer rules number answer)) so_far.lines
          ∙ append_assoc before (printed_answers rules first_number answers) (output_line (printed_answer rules number answer))
          ∙ ap (λ n. before ++ (printed_answers rules first_number answers ++ output_line (printed_answer rules n answer))) so_far.next
          ∙ ap (λ rest. before ++ rest) (sym (printed_with_next rules first_number answers answer));
      next = ap next_number so_far.next ∙ sym (number_after_next first_number answers answer);
      within = omega arith;
    }

-- the line of the answer to which the search has moved is the one of this turn
pub printed_next : (now new : SearchValue) (rules : RuleSet) (number : ℕ) (before after : List ℕ) → now.searched.lexicon.rules ≡ rules → MovedOn now new
    → ((answer : List Step) → new.cursor ≡ AtAnswer answer → after ≡ before ++ output_line (printed_answer rules number answer))
    → HasPrintedNext now new number before after
printed_next now new rules number before after same moved appended = record {
  moved = moved;
  line = appended moved.answer (ap (λ (search : SearchValue). search.cursor) moved.is)
      ∙ ap (λ (r : RuleSet). before ++ output_line (printed_answer r number moved.answer)) (sym same);
}

one_more : (answers : List (List Step)) (next : List Step) (count : ℕ) → length answers ≡ count → length (answers ++ next ∷ []) ≡ count + 1
one_more answers next count many = length-append answers (next ∷ []) ∙ omega (arith, many)

last_with_next : (search : SearchValue) (answers : List (List Step)) (next : List Step) (before after : List ProgramStep)
    → IsCurrent (standing_at search (AtAnswer next)) (Some after) → KeepsLast search (answers ++ next ∷ []) before after
last_with_next search [] next before after current = current
last_with_next search (answer ∷ answers) next before after current =
    subst (λ cursor. IsCurrent (standing_at search cursor) (Some after)) (sym (cursor_after_last (AtAnswer answer) answers next)) current

-- ---- the search lists them

pub under_way_at_first : (search : SearchValue) (number : ℕ) (before : List ℕ) → number ≤ LAST_ANSWER_NUMBER
    → IsUnderWay search search number 0 before before number
under_way_at_first search number before within = record { answers = []; many = refl; listed = listed_none search number before within }

pub keeping_at_first : (search : SearchValue) (number : ℕ) (before : List ℕ) (last : List ProgramStep) → number ≤ LAST_ANSWER_NUMBER
    → IsKeeping search search number 0 before before number last last
keeping_at_first search number before last within =
    record { answers = []; many = refl; listed = listed_none search number before within; last = refl }

pub under_way_next : (old now new : SearchValue) (first_number count : ℕ) (before after latest : List ℕ) (number next : ℕ)
    → IsUnderWay old now first_number count before after number → HasPrintedNext now new number after latest → next ≡ next_number number
    → IsUnderWay old new first_number (count + 1) before latest next
under_way_next old now new first_number count before after latest number next so_far turn next_is = record {
  answers = so_far.answers ++ turn.moved.answer ∷ [];
  many = one_more so_far.answers turn.moved.answer count so_far.many;
  listed = subst (λ n. AreListed old new first_number before latest n (so_far.answers ++ turn.moved.answer ∷ [])) (sym next_is)
      (listed_next old now new first_number before after latest number so_far.answers so_far.listed turn);
}

pub keeping_next : (old now new : SearchValue) (first_number count : ℕ) (before after latest : List ℕ) (number next : ℕ)
    (last_before last_after last_latest : List ProgramStep) → IsKeeping old now first_number count before after number last_before last_after
    → HasPrintedNext now new number after latest → ((answer : List Step) → new.cursor ≡ AtAnswer answer → IsCurrent new (Some last_latest))
    → next ≡ next_number number → IsKeeping old new first_number (count + 1) before latest next last_before last_latest
keeping_next old now new first_number count before after latest number next last_before last_after last_latest so_far turn current next_is =
    let at = now_at old now new first_number before after number so_far.answers so_far.listed turn.moved in
    record {
      answers = so_far.answers ++ turn.moved.answer ∷ [];
      many = one_more so_far.answers turn.moved.answer count so_far.many;
      listed = subst (λ n. AreListed old new first_number before latest n (so_far.answers ++ turn.moved.answer ∷ [])) (sym next_is)
          (listed_next old now new first_number before after latest number so_far.answers so_far.listed turn);
      last = last_with_next old so_far.answers turn.moved.answer last_before last_latest
          (subst (λ (search : SearchValue). IsCurrent search (Some last_latest)) at
          (current turn.moved.answer (ap (λ (search : SearchValue). search.cursor) at)));
    }

-- a search that stands at another cursor is still the same
stays : (old new : SearchValue) (cursor : Cursor) → new ≡ standing_at old cursor → new ≡ standing_at old new.cursor
stays old new cursor is = is ∙ ap (standing_at old) (sym (ap (λ (search : SearchValue). search.cursor) is))

-- all that were asked for are listed
pub listed_full : (old now : SearchValue) (first_number : ℕ) (before after : List ℕ) (number most : ℕ) (answers : List (List Step))
    → AreListed old now first_number before after number answers → length answers ≡ most → HasListed old now most answers
listed_full old now first_number before after number most answers so_far full = record {
  same = stays old now (cursor_after old.cursor answers) so_far.is;
  first = so_far.first;
  at_most = omega arith;
  full = λ same. so_far.is;
  ended = λ fewer. absurd (omega arith);
}

-- no answer is left before so many are listed
pub listed_ended : (old now new : SearchValue) (first_number : ℕ) (before after : List ℕ) (number most : ℕ) (answers : List (List Step))
    → AreListed old now first_number before after number answers → length answers < most → HasEnded now new → HasListed old new most answers
listed_ended old now new first_number before after number most answers so_far fewer ended =
    let past = subst (λ (search : SearchValue). HasEnded search new) so_far.is ended in
    record {
      same = stays old new PastLast past.is;
      first = so_far.first;
      at_most = omega arith;
      full = λ same. absurd (omega arith);
      ended = λ less. past;
    }

-- ---- what is printed in the end

pub printed_full : (old now : SearchValue) (first_number count : ℕ) (before after : List ℕ) (number : ℕ) (last_before last_after : List ProgramStep)
    (most : ℕ) → IsKeeping old now first_number count before after number last_before last_after → count ≡ most
    → HasPrinted old now first_number most before after last_before last_after most
printed_full old now first_number count before after number last_before last_after most so_far full = record {
  answers = so_far.answers;
  many = so_far.many ∙ full;
  listed = listed_full old now first_number before after number most so_far.answers so_far.listed (so_far.many ∙ full);
  lines = so_far.listed.lines;
  last = so_far.last;
}

pub printed_ended : (old now new : SearchValue) (first_number count : ℕ) (before after latest : List ℕ) (number : ℕ)
    (last_before last_after : List ProgramStep) (most : ℕ) → IsKeeping old now first_number count before after number last_before last_after
    → count < most → HasPrintedNone now new after latest → HasPrinted old new first_number most before latest last_before last_after count
printed_ended old now new first_number count before after latest number last_before last_after most so_far fewer turn =
    let many = so_far.many in
    record {
      answers = so_far.answers;
      many = many;
      listed = listed_ended old now new first_number before after number most so_far.answers so_far.listed (omega (arith, many)) turn.ended;
      lines = turn.nothing ∙ so_far.listed.lines;
      last = so_far.last;
    }

module _ (old now : SearchValue) (first_number count : ℕ) (before after : List ℕ) (number most : ℕ)
    (so_far : IsUnderWay old now first_number count before after number) where
  -- the last line comes after those of the answers
  page_lines : (output : List ℕ) (more : Bool) → output ≡ after ++ printed_rest more
      → output ≡ before ++ (printed_answers old.searched.lexicon.rules first_number so_far.answers ++ printed_rest more)
  page_lines output more output_is =
      output_is ∙ ap (λ front. front ++ printed_rest more) so_far.listed.lines
      ∙ append_assoc before (printed_answers old.searched.lexicon.rules first_number so_far.answers) (printed_rest more)

  pub page_at_end : (new : SearchValue) (latest output : List ℕ) → count < most → HasPrintedNone now new after latest
      → output ≡ latest ++ printed_rest false → HasPrintedPage old first_number most before output
  page_at_end new latest output fewer turn output_is =
      let many = so_far.many in
      let less : length so_far.answers < most = omega (arith, many) in
      record {
        answers = so_far.answers;
        more = false;
        page = page_ended old new most so_far.answers
            (listed_ended old now new first_number before after number most so_far.answers so_far.listed less turn.ended) less;
        lines = page_lines output false (output_is ∙ ap (λ front. front ++ printed_rest false) turn.nothing);
      }

  pub page_at_last : (new : SearchValue) (output : List ℕ) (more : Bool) → count ≡ most → OnTrue more (MovedOn now new) → OnFalse more (HasEnded now new)
      → output ≡ after ++ printed_rest more → HasPrintedPage old first_number most before output
  page_at_last new output more full moved ended output_is =
      let all : length so_far.answers ≡ most = so_far.many ∙ full in
      record {
        answers = so_far.answers;
        more = more;
        page = page_full old now most so_far.answers (listed_full old now first_number before after number most so_far.answers so_far.listed all) all new
            more moved ended;
        lines = page_lines output more output_is;
      }
