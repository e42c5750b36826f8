-- What is above the last of the first answers is what is above the cursor and comes after all of them; so the next answer
-- after it is the next of them.
use Rattle.std.proofs.Common.{◌≡◌, ◌≢◌, ◌⊎◌, ◌↔◌, inl, inr, ℕ, ◌≤◌, Bool, false, IsTrue, List, [], ◌∷◌, ◌++◌, length, Contains, refl, subst, arith}
use Rattle.std.specs.List.Sorted.{IsStrictlySortedBy}
use Rattle.std.specs.declared.cmp.Ordering.{Ordering}
use Rattle.std.specs.declared.cmp.Ordering.TheVariants.{Less, Equal, Greater}
use Rattle.std.proofs.lemmas.Bool.{false≢true}
use Rattle.std.proofs.lemmas.List.Elements.{All-nil, All-cons, All-append, Contains-append_left, Contains-append_right, Contains-append_cases}
use Rattle.list_laws.proofs.Sorted.{Contains-first, Contains-cons_cases, not_Contains-nil, sorted_append}
use Rattle.text_definitions.specs.Lines.{Line}
use Rattle.lexicon_definitions.specs.Lexicons.{Lexicon, RuleSet}
use Rattle.segmentation_definitions.specs.Derivations.{Step}
use Rattle.segmentation_definitions.specs.Items.{Choice}
use Rattle.segmentation_definitions.specs.Answers.{IsAnswer}
use Rattle.segmentation_definitions.specs.Listings.{compare_answers, Cursor, AtAnswer, cursor_after, IsAbove, IsNext, ComesAfter, IsPage}
use Rattle.segmentation_definitions.proofs.KeyLists.{compare_answers_total, compare_key_lists_exact, same_steps}
use Rattle.segmentation_definitions.proofs.Listings.{above_last, from_above_last}
use Rattle.answer_paths.specs.Pages.{AreFirstAnswers}

pub cursor_after_last : (cursor : Cursor) (answers : List (List Step)) (next : List Step) → cursor_after cursor (answers ++ next ∷ []) ≡ AtAnswer next
cursor_after_last cursor [] next = refl
cursor_after_last cursor (first ∷ answers) next = cursor_after_last (AtAnswer first) answers next

one_sorted : (rules : RuleSet) (next : List Step) → IsStrictlySortedBy (compare_answers rules) (next ∷ [])
unfolding IsStrictlySortedBy
one_sorted rules next = (tt, tt)

none_sorted : (rules : RuleSet) → IsStrictlySortedBy (compare_answers rules) []
unfolding IsStrictlySortedBy
none_sorted rules = tt

not_greater_cases : (o : Ordering) → o ≢ Greater → (o ≡ Less) ⊎ (o ≡ Equal)
not_greater_cases Less not = inl refl
not_greater_cases Equal not = inr refl
not_greater_cases Greater not = absurd (not refl)

in_one : {X : Type 0} (x y : X) → Contains (x ∷ []) y → x ≡ y
in_one x y of = elim (Contains-cons_cases x [] y of) [ inl here ↦ here | inr later ↦ absurd (not_Contains-nil y later) ]

module _ (lexicon : Lexicon) (line : Line) (choices : List Choice) (cursor : Cursor) where
  pub first_of_none : AreFirstAnswers lexicon line choices cursor []
  first_of_none = record {
    rising = none_sorted lexicon.rules;
    only_answers = λ steps of. absurd (not_Contains-nil steps of);
    only_above = λ steps of. absurd (not_Contains-nil steps of);
    others = λ steps answer above. inr (All-nil (λ before. compare_answers lexicon.rules before steps ≡ Less));
  }

  module _ (answers : List (List Step)) (firsts : AreFirstAnswers lexicon line choices cursor answers) where
    -- above the last of them: above the cursor and after them
    apart : (steps : List Step) → IsAbove lexicon.rules (cursor_after cursor answers) steps
        → IsAbove lexicon.rules cursor steps × ComesAfter lexicon.rules answers steps
    apart steps above = from_above_last lexicon.rules answers cursor steps firsts.only_above firsts.rising above

    next_or_after : (next steps : List Step) → IsAnswer lexicon line choices next → IsAnswer lexicon line choices steps
        → compare_answers lexicon.rules next steps ≢ Greater → ComesAfter lexicon.rules answers steps
        → Contains (answers ++ next ∷ []) steps ⊎ ComesAfter lexicon.rules (answers ++ next ∷ []) steps
    next_or_after next steps of_next of_steps not later = elim (not_greater_cases (compare_answers lexicon.rules next steps) not) [
      | inl less ↦
          let P : List Step → Type 0 = λ before. compare_answers lexicon.rules before steps ≡ Less in
          inr (All-append P answers (next ∷ []) later (All-cons P next [] less (All-nil P)))
      | inr equal ↦
          let same : next ≡ steps = same_steps lexicon.rules next steps 0 0 [] [] line.letters line.letters [] [] refl refl
          of_next.derives.covers of_steps.derives.covers (compare_key_lists_exact _ _ equal) in
          inl (Contains-append_right answers (next ∷ []) steps (subst (Contains (next ∷ [])) same (Contains-first next [])))
    ]

    pub first_with_next : (next : List Step) → IsNext lexicon line choices (cursor_after cursor answers) next
        → AreFirstAnswers lexicon line choices cursor (answers ++ next ∷ [])
    first_with_next next is =
        let placed = apart next is.above in
        record {
          rising = sorted_append (compare_answers_total lexicon.rules) answers (next ∷ []) firsts.rising (one_sorted lexicon.rules next)
              (λ steps of. subst (ComesAfter lexicon.rules answers) (in_one next steps of) placed.1);
          only_answers = λ steps of. elim (Contains-append_cases answers (next ∷ []) steps of) [
            | inl here ↦ firsts.only_answers steps here
            | inr last ↦ subst (IsAnswer lexicon line choices) (in_one next steps last) is.answer
          ];
          only_above = λ steps of. elim (Contains-append_cases answers (next ∷ []) steps of) [
            | inl here ↦ firsts.only_above steps here
            | inr last ↦ subst (IsAbove lexicon.rules cursor) (in_one next steps last) placed.0
          ];
          others = λ steps answer above. elim (firsts.others steps answer above) [
            | inl here ↦ inl (Contains-append_left answers (next ∷ []) steps here)
            | inr later ↦ next_or_after next steps is.answer answer
                (is.least steps answer (above_last lexicon.rules answers cursor steps above later)) later
          ];
        }

    pub page_if_full : (more : Bool)
        → (IsTrue more ↔ ((steps : List Step) × IsAnswer lexicon line choices steps × IsAbove lexicon.rules (cursor_after cursor answers) steps))
        → IsPage lexicon line choices cursor (length answers) answers more
    page_if_full more left = record {
      rising = firsts.rising;
      only_answers = firsts.only_answers;
      only_above = firsts.only_above;
      at_most = omega arith;
      first = λ steps answer above. elim (firsts.others steps answer above) [ inl here ↦ inl here | inr later ↦ inr (refl, later) ];
      left = (
        λ some. let found = left.0 some in let placed = apart found.0 found.2 in (found.0, found.1, placed.0, placed.1),
        λ found. left.1 (found.0, found.1, above_last lexicon.rules answers cursor found.0 found.2 found.3),
      );
    }

    pub page_if_ended : (count : ℕ) → length answers ≤ count
        → ((steps : List Step) → IsAnswer lexicon line choices steps → IsAbove lexicon.rules (cursor_after cursor answers) steps → ⊥)
        → IsPage lexicon line choices cursor count answers false
    page_if_ended count within none = record {
      rising = firsts.rising;
      only_answers = firsts.only_answers;
      only_above = firsts.only_above;
      at_most = within;
      first = λ steps answer above. elim (firsts.others steps answer above) [
        | inl here ↦ inl here
        | inr later ↦ absurd (none steps answer (above_last lexicon.rules answers cursor steps above later))
      ];
      left = (
        λ some. absurd (false≢true some),
        λ found. absurd (none found.0 found.1 (above_last lexicon.rules answers cursor found.0 found.2 found.3)),
      );
    }
