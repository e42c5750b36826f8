-- What a run of `annotate` leaves: the first answers that were listed are the first and the next after it; the choices of a bookmark are
-- over its lexicon; and each way in which it ends is that of an outcome.
use Rattle.std.proofs.Common.{◌≡◌, ℕ, ◌<◌, ◌++◌, inl, inr, List, [], ◌∷◌, length, Option, Some, codes, refl, sym, ◌∙◌, ap, subst, arith}
use Rattle.std.specs.Fmt.{decimal}
use Rattle.std.specs.List.{All, AllByRecursion}
use Rattle.std.specs.declared.cmp.Ordering.TheVariants.{Less, Greater}
use Rattle.std.specs.Ordering.{ordering_reverse}
use Rattle.std.proofs.lemmas.List.Elements.{All-head, All-tail, All-from_recursion, recursion_from_All}
use Rattle.std.proofs.lemmas.Map.Keys.{sorted_tail}
use Rattle.list_laws.proofs.Sorted.{Contains-first, Contains-later, Contains-cons_cases, Less-from_later, not_Less-itself}
use Rattle.outside.specs.Files.{Files, with_file}
use Rattle.text_definitions.specs.Lines.{Line}
use Rattle.lexicon_definitions.specs.Lexicons.{Lexicon}
use Rattle.segmentation_definitions.specs.Derivations.{Step}
use Rattle.segmentation_definitions.specs.Items.{Choice}
use Rattle.segmentation_definitions.specs.Answers.{IsAnswer}
use Rattle.segmentation_definitions.specs.Listings.{compare_answers, BeforeFirst, AtAnswer, IsAbove, IsNext, keys_of}
use Rattle.segmentation_definitions.specs.PrintedAnswers.{output_line, printed_answers}
use Rattle.segmentation_definitions.proofs.KeyLists.{compare_answers_total}
use Rattle.answer_paths.specs.Pages.{AreFirstAnswers}
use Rattle.derivation.specs.declared.step.Step.{Step as ProgramStep}
use Rattle.annotated_trie.specs.Searched.{SearchedLexicon}
use Rattle.segmenter.specs.Searches.{SearchValue}
use Rattle.answer_printing.specs.Pages.{HasListed, HasPrinted}
use Rattle.bookmark_definitions.specs.Bookmarks.{IsItemWithinBounds}
use Rattle.bookmark_definitions.proofs.WrittenBookmarks.{bookmark_tells}
use Rattle.note_definitions.specs.Notes.{IsChoiceOver}
use Rattle.annotation.specs.declared.written_note.WrittenNote.{WrittenNote}
use Rattle.annotation.specs.Answers.{IsCounted}
use Rattle.reader_session.specs.declared.marks.MarkedLine.{MarkedLine}
use Rattle.reader_session.specs.Marks.{IsMarked}
use Rattle.run_definitions.specs.Commands.{FileWord}
use Rattle.run_definitions.specs.Ends as ends
use Rattle.run_definitions.specs.Ends.{Outcome, outcome_over}
use Rattle.run_definitions.specs.LexiconTells.{NotThere, Refused, Holds, DoesTell}
use Rattle.run_definitions.specs.AnnotateOutcomes.{IsNotedOutcome, OfOnly, OfSeveral, IsMarkOutcome, OfMark, IsAnnotateOutcome}
use Rattle.commands.specs.declared.status.Status.{Status}
use Rattle.commands.specs.declared.status.Status.TheVariants.{Done, Usage}
use Rattle.commands.specs.Faults.{Tells}
use Rattle.commands.specs.RunEnds.{HasOutcome}
use Rattle.commands.specs.Openings.{IsUnopened, Missing, Faulty}
use Rattle.commands.specs.Annotations.{IsPrintedSeveral, TellsSeveral}

-- ---- the first two answers

module _ (lexicon : Lexicon) (line : Line) (choices : List Choice) (first second : List Step)
    (is_first : IsNext lexicon line choices BeforeFirst first) (is_second : IsNext lexicon line choices (AtAnswer first) second) where
  -- the second is another one
  not_same : second ≡ first → ⊥
  not_same e =
      not_Less-itself (compare_answers_total lexicon.rules) first (subst (λ other. compare_answers lexicon.rules first other ≡ Less) e is_second.above)

  -- what is below the other way round is above
  above_if_below : (left right : List Step) → compare_answers lexicon.rules left right ≡ Less → compare_answers lexicon.rules right left ≡ Greater
  above_if_below left right less =
      (compare_answers_total lexicon.rules).antisymm right left ∙ ap ordering_reverse less

  -- no answer comes before the first
  none_before_first : (x : List Step) → IsAnswer lexicon line choices x → compare_answers lexicon.rules x first ≡ Less → ⊥
  none_before_first x answer less = is_first.least x answer tt (above_if_below x first less)

  -- and none between the two
  none_between : (y : List Step) → IsAnswer lexicon line choices y → compare_answers lexicon.rules first y ≡ Less
      → compare_answers lexicon.rules y second ≡ Less → ⊥
  none_between y answer above less = is_second.least y answer above (above_if_below y second less)

  -- the first one listed is the first
  listed_first : (x : List Step) (xs : List (List Step)) → AreFirstAnswers lexicon line choices BeforeFirst (x ∷ xs) → x ≡ first
  listed_first x xs a =
      let answer = a.only_answers x (Contains-first x xs) in
      elim (a.others first is_first.answer tt) [
        | inl among ↦ elim (Contains-cons_cases x xs first among) [
          | inl same ↦ same
          | inr later ↦ absurd (none_before_first x answer (Less-from_later (compare_answers_total lexicon.rules) x xs first a.rising later))
        ]
        | inr after ↦ absurd (none_before_first x answer (All-head (λ before. compare_answers lexicon.rules before first ≡ Less) x xs after))
      ]

  -- the next one listed is the second
  listed_second : (x y : List Step) (xs : List (List Step)) → AreFirstAnswers lexicon line choices BeforeFirst (x ∷ y ∷ xs) → y ≡ second
  listed_second x y xs a =
      let total = compare_answers_total lexicon.rules in
      let same_first = listed_first x (y ∷ xs) a in
      let in_list = Contains-later x (y ∷ xs) y (Contains-first y xs) in
      let answer = a.only_answers y in_list in
      let above : compare_answers lexicon.rules first y ≡ Less =
      subst (λ s. compare_answers lexicon.rules s y ≡ Less) same_first (Less-from_later total x (y ∷ xs) y a.rising (Contains-first y xs)) in
      elim (a.others second is_second.answer tt) [
        | inl among ↦ elim (Contains-cons_cases x (y ∷ xs) second among) [
          | inl same ↦ absurd (not_same (sym same ∙ same_first))
          | inr later ↦ elim (Contains-cons_cases y xs second later) [
            | inl same ↦ same
            | inr last ↦ absurd (none_between y answer above
                (Less-from_later total y xs second (sorted_tail (compare_answers lexicon.rules) x (y ∷ xs) a.rising) last))
          ]
        ]
        | inr after ↦ absurd (none_between y answer above
            (All-head (λ before. compare_answers lexicon.rules before second ≡ Less) y xs (All-tail (λ before. compare_answers lexicon.rules before second ≡ Less) x (y ∷ xs) after)))
      ]

-- two that a search has listed from before the first are these two
pub listed_two : (old new : SearchValue) (answers : List (List Step)) (first second : List Step) → old.cursor ≡ BeforeFirst
    → HasListed old new 2 answers → IsNext old.searched.lexicon old.line old.choices BeforeFirst first
    → IsNext old.searched.lexicon old.line old.choices (AtAnswer first) second → answers ≡ first ∷ second ∷ []
listed_two old new [] first second at listed p q =
    let none = (listed.ended (omega arith)).none in
    absurd (none first p.answer (subst (λ cursor. IsAbove old.searched.lexicon.rules cursor first) (sym at) tt))
listed_two old new (x ∷ []) first second at listed p q =
    let lexicon = old.searched.lexicon in
    let a : AreFirstAnswers lexicon old.line old.choices BeforeFirst (x ∷ []) =
    subst (λ cursor. AreFirstAnswers lexicon old.line old.choices cursor (x ∷ [])) at listed.first in
    let none = (listed.ended (omega arith)).none in
    let same = listed_first lexicon old.line old.choices first second p q x [] a in
    absurd (none second q.answer (subst (λ s. compare_answers lexicon.rules s second ≡ Less) (sym same) q.above))
listed_two old new (x ∷ y ∷ []) first second at listed p q =
    let lexicon = old.searched.lexicon in
    let a : AreFirstAnswers lexicon old.line old.choices BeforeFirst (x ∷ y ∷ []) =
    subst (λ cursor. AreFirstAnswers lexicon old.line old.choices cursor (x ∷ y ∷ [])) at listed.first in
    let left = listed_first lexicon old.line old.choices first second p q x (y ∷ []) a in
    let right = listed_second lexicon old.line old.choices first second p q x y [] a in
    λ i. left i ∷ right i ∷ []
listed_two old new (x ∷ y ∷ z ∷ answers) first second at listed p q = let few = listed.at_most in absurd (omega (arith, few))

-- so what was printed of them is what is told of the two
pub several_printed : (lexicon : SearchedLexicon) (line : Line) (choices : List Choice) (search new : SearchValue) (before after : List ℕ)
    (last_before last_after : List ProgramStep) (printed : ℕ) → search ≡ record { searched = lexicon; line = line; choices = choices; cursor = BeforeFirst }
    → before ≡ output_line (codes "several") → HasPrinted search new 1 2 before after last_before last_after printed
    → IsPrintedSeveral lexicon.lexicon line choices after
several_printed lexicon line choices search new before after last_before last_after printed is begun has first second p q =
    let start : SearchValue = record { searched = lexicon; line = line; choices = choices; cursor = BeforeFirst } in
    let h : HasPrinted start new 1 2 before after last_before last_after printed =
    subst (λ (s : SearchValue). HasPrinted s new 1 2 before after last_before last_after printed) is has in
    let two = listed_two start new h.answers first second refl h.listed p q in
    h.lines ∙ ap (λ front. front ++ printed_answers lexicon.lexicon.rules 1 h.answers) begun
    ∙ ap (λ answers. output_line (codes "several") ++ printed_answers lexicon.lexicon.rules 1 answers) two

-- ---- the bookmark

-- a choice within the bounds whose phase the lexicon has is one over the lexicon
each_over : (lexicon : Lexicon) (choices : List Choice) → AllByRecursion (λ (choice : Choice). IsItemWithinBounds choice.item) choices
    → AllByRecursion (λ (choice : Choice). choice.item.phase < length lexicon.phases) choices → AllByRecursion (IsChoiceOver lexicon) choices
each_over lexicon [] items phases = tt
each_over lexicon (choice ∷ choices) items phases =
    (record { item = items.0; phase = phases.0 }, each_over lexicon choices items.1 phases.1)

-- the choices of a bookmark are
pub choices_over : (lexicon : Lexicon) (text : List ℕ) (marked : MarkedLine) → IsMarked lexicon text marked → All (IsChoiceOver lexicon) marked.choices
choices_over lexicon text marked is =
    let bounds = (bookmark_tells text is.mark is.read).1 in
    subst (All (IsChoiceOver lexicon)) (sym is.choices)
    (All-from_recursion (IsChoiceOver lexicon) is.mark.choices
    (each_over lexicon is.mark.choices
    (recursion_from_All (λ (choice : Choice). IsItemWithinBounds choice.item) is.mark.choices bounds.items)
    (recursion_from_All (λ (choice : Choice). choice.item.phase < length lexicon.phases) is.mark.choices is.is_cursor.phases)))

-- the outcome for its line and choices is that for the bookmark
pub of_mark : (lexicon : Lexicon) (text : List ℕ) (marked : MarkedLine) → IsMarked lexicon text marked → (out : FileWord) (files : Files)
    (outcome : Outcome) → IsNotedOutcome lexicon marked.line marked.choices out files outcome → IsMarkOutcome lexicon text out files outcome
of_mark lexicon text marked is out files outcome noted =
    OfMark is.mark (record { read = is.read; cursor = is.cursor; is_cursor = is.is_cursor })
    (subst (λ (line : Line). IsNotedOutcome lexicon line is.mark.choices out files outcome) is.line
    (subst (λ (choices : List Choice). IsNotedOutcome lexicon marked.line choices out files outcome) is.choices noted))

-- ---- the note

module _ (lexicon : Lexicon) (line : Line) (choices : List Choice) (out : FileWord) where
  -- the note is written, and then the number of its segments
  pub note_noted : (note : WrittenNote) (output : List ℕ) → IsCounted lexicon line choices note
      → output ≡ output_line (codes "segments " ++ decimal note.segments) → (told : Files)
      → HasOutcome (IsNotedOutcome lexicon line choices out told) Done output (with_file told out.name note.text.items)
  note_noted note output is printed told = record {
    end = ends.Done;
    told = refl;
    is_it = OfOnly is.steps is.answer
        (λ i. record {
          output = (printed ∙ ap (λ n. output_line (codes "segments " ++ decimal n)) is.segments) i;
          files = with_file told out.name (is.text i);
          end = ends.Done;
        });
  }

  -- or what is told of several
  pub several_noted : (status : Status) (output : List ℕ) → TellsSeveral lexicon line choices status output → (told : Files)
      → HasOutcome (IsNotedOutcome lexicon line choices out told) status output told
  several_noted status output s told =
      let end : ends.End = ends.Several (keys_of lexicon.rules s.first) (keys_of lexicon.rules s.second) in record {
        end = end;
        told = s.told;
        is_it = OfSeveral s.first s.second s.is_first s.is_second (ap (λ o. outcome_over told o end) s.printed);
      }

-- no refusal of words is written
pub several_not_usage : (lexicon : Lexicon) (line : Line) (choices : List Choice) (status : Status) (output : List ℕ)
    → TellsSeveral lexicon line choices status output → status ≡ Usage → ⊥
several_not_usage lexicon line choices status output s e =
    let end : ends.End = ends.Several (keys_of lexicon.rules s.first) (keys_of lexicon.rules s.second) in
    let usage : end ≡ ends.Usage = subst (λ (x : Status). Tells x end) e s.told in cc (usage)

-- ---- the lexicon file

module _ (lex : FileWord) (mark : List ℕ) (out : FileWord) where
  -- a run without a lexicon has its outcome
  pub annotate_unopened : (told : Files) (outcome : Outcome) → IsUnopened lex told outcome → IsAnnotateOutcome lex mark out told outcome
  annotate_unopened told outcome (Missing tells is) = record { tells = NotThere; does_tell = tells; is_outcome = is }
  annotate_unopened told outcome (Faulty fault tells is) = record { tells = Refused fault; does_tell = tells; is_outcome = is }

  -- with the lexicon it goes on with the bookmark
  pub annotate_goes_on : (lexicon : Lexicon) (files : Option Files) → ((told : Files) → files ≡ Some told → DoesTell told lex.name (Holds lexicon))
      → (told : Files) → files ≡ Some told → (outcome : Outcome) → IsMarkOutcome lexicon mark out told outcome
      → IsAnnotateOutcome lex mark out told outcome
  annotate_goes_on lexicon files holds told e outcome is = record { tells = Holds lexicon; does_tell = holds told e; is_outcome = is }
