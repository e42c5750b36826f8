-- The outcome of writing is one, by its cases; and it is read off a list of all answers, whose first two are the first answer and
-- the next after it.
use Rattle.std.proofs.Common.{◌≡◌, ◌≢◌, inl, inr, List, [], ◌∷◌, refl, sym, ◌∙◌, ap, ap₂, subst}
use Rattle.std.specs.List.{Contains}
use Rattle.std.specs.List.Sorted.{IsStrictlySortedBy}
use Rattle.std.specs.declared.cmp.Ordering.TheVariants.{Greater}
use Rattle.std.proofs.lemmas.Cmp.{tied_itself}
use Rattle.std.proofs.lemmas.Map.Keys.{sorted_tail}
use Rattle.text_definitions.specs.Lines.{Line}
use Rattle.lexicon_definitions.specs.Lexicons.{Lexicon}
use Rattle.list_laws.proofs.Sorted.{Contains-first, Contains-later, Contains-cons_cases, not_Contains-nil, Less-from_later, later_from_Less}
use Rattle.segmentation_definitions.specs.Derivations.{Step}
use Rattle.segmentation_definitions.specs.Items.{Choice}
use Rattle.segmentation_definitions.specs.Listings.{compare_answers, BeforeFirst, AtAnswer, IsListing, IsNext, keys_of}
use Rattle.segmentation_definitions.proofs.KeyLists.{compare_answers_total}
use Rattle.note_definitions.specs.NoteTexts.{text_of_note}
use Rattle.note_definitions.specs.NoteOutcomes.{Outcome, Written, NoAnswer, Several, IsOutcome, outcome_of}
use Rattle.note_definitions.proofs.OnlyAnswers.{one_next, one_only, none_after_only}

module _ (lexicon : Lexicon) (line : Line) (choices : List Choice) where
  pub same_outcome : (left right : Outcome) → IsOutcome lexicon line choices left → IsOutcome lexicon line choices right → left ≡ right
  same_outcome (Written text) (Written other) p q =
      let steps = one_only lexicon line choices p.0 q.0 p.1 q.1 in
      ap Written (p.2 ∙ ap (λ (s : List Step). text_of_note lexicon (record { line = line; choices = choices; steps = s })) steps ∙ sym q.2)
  same_outcome (Written text) NoAnswer p q = absurd (q p.0 p.1.answer)
  same_outcome (Written text) (Several first second) p q = absurd (none_after_only lexicon line choices p.0 q.0 q.1 p.1 q.2 q.3)
  same_outcome NoAnswer (Written text) p q = absurd (p q.0 q.1.answer)
  same_outcome NoAnswer NoAnswer p q = refl
  same_outcome NoAnswer (Several first second) p q = absurd (p q.0 q.2.answer)
  same_outcome (Several first second) (Written text) p q = absurd (none_after_only lexicon line choices q.0 p.0 p.1 q.1 p.2 p.3)
  same_outcome (Several first second) NoAnswer p q = absurd (q p.0 p.2.answer)
  same_outcome (Several first second) (Several third fourth) p q =
      let left = one_next lexicon line choices BeforeFirst p.0 q.0 p.2 q.2 in
      let right = one_next lexicon line choices (AtAnswer q.0) p.1 q.1 (subst (λ (s : List Step). IsNext lexicon line choices (AtAnswer s) p.1) left p.3) q.3 in
      ap₂ Several (p.4 ∙ ap (keys_of lexicon.rules) left ∙ sym q.4) (p.5 ∙ ap (keys_of lexicon.rules) right ∙ sym q.5)

  -- nothing in a strictly sorted list is below its first element
  not_below_first : (x : List Step) (xs : List (List Step)) (y : List Step) → IsStrictlySortedBy (compare_answers lexicon.rules) (x ∷ xs)
      → Contains (x ∷ xs) y → compare_answers lexicon.rules x y ≢ Greater
  not_below_first x xs y s m greater = elim (Contains-cons_cases x xs y m) [
    | inl same ↦ let tied = tied_itself (compare_answers_total lexicon.rules) x in
        let this : compare_answers lexicon.rules x x ≡ Greater = subst (λ (z : List Step). compare_answers lexicon.rules x z ≡ Greater) (sym same) greater in
        cc
    | inr later ↦ let less = Less-from_later (compare_answers_total lexicon.rules) x xs y s later in cc
  ]

  pub outcome_listed : (answers : List (List Step)) → IsListing lexicon line choices answers
      → IsOutcome lexicon line choices (outcome_of lexicon line choices answers)
  outcome_listed [] p = λ steps answer. not_Contains-nil steps (p.complete steps answer tt)
  outcome_listed (steps ∷ []) p = (
    steps,
    record {
      answer = p.only_answers steps (Contains-first steps []);
      only = λ other answer. elim (Contains-cons_cases steps [] other (p.complete other answer tt)) [
        | inl same ↦ sym same
        | inr later ↦ absurd (not_Contains-nil other later)
      ];
    },
    refl,
  )
  outcome_listed (first ∷ second ∷ answers) p = (
    first,
    second,
    record {
      answer = p.only_answers first (Contains-first first (second ∷ answers));
      above = tt;
      least = λ other answer above. not_below_first first (second ∷ answers) other p.rising (p.complete other answer tt);
    },
    record {
      answer = p.only_answers second (Contains-later first (second ∷ answers) second (Contains-first second answers));
      above = Less-from_later (compare_answers_total lexicon.rules) first (second ∷ answers) second p.rising (Contains-first second answers);
      least = λ other answer above.
          not_below_first second answers other (sorted_tail (compare_answers lexicon.rules) first (second ∷ answers) p.rising)
          (later_from_Less (compare_answers_total lexicon.rules) first (second ∷ answers) other (p.complete other answer tt) above);
    },
    refl,
    refl,
  )
