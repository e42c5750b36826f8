-- The last form of a rising list, and a word above it: which words begin forms, and what the list is with the word.
use Rattle.std.proofs.Common.{◌≡◌, ◌≢◌, ◌⊎◌, inl, inr, ℕ, ◌<◌, ◌≤◌, List, [], ◌∷◌, ◌++◌, length, refl, sym, ◌∙◌, ap, subst, arith, append_assoc, append-nil}
use Rattle.std.specs.Prelude.{All, Contains}
use Rattle.std.specs.declared.cmp.Ordering.{Ordering}
use Rattle.std.specs.declared.cmp.Ordering.TheVariants.{Less, Equal}
use Rattle.std.specs.Cmp.{IsTotalOrder}
use Rattle.std.specs.List.Sorted.{IsStrictlySortedBy}
use Rattle.std.proofs.lemmas.Cmp.{nat_list_cmp_total, tied_itself}
use Rattle.std.proofs.lemmas.List.{append_cancel_left, length-append}
use Rattle.std.proofs.lemmas.List.Elements.{All-contains, All-head, All-push, All-tail, All-weaker, Contains-push_cases}
use Rattle.list_laws.proofs.Sorted.{Contains-first, following_front}
use Rattle.text_definitions.specs.Words.{compare_words}
use Rattle.lexicon_definitions.specs.Analyses.{Analysis, compare_analyses}
use Rattle.lexicon_definitions.specs.FormEntries.{placed, with_analysis, with_form}
use Rattle.lexicon_definitions.specs.Lexicons.{Form}
use Rattle.lexicon_definitions.specs.Tries.{BeginsForm}
use Rattle.lexicon_definitions.proofs.FormsWithEntry.{analyses_total, by_letters, forms_total}
use Rattle.shared_trie.proofs.FrontOrder.{compare_words-front, not_below_empty, not_below_smaller}

-- ---- all before the last are below it

-- in a rising list those before the last are below it
pub before_last : {X : Type 0} {R : X → X → Ordering} (total : IsTotalOrder R) (xs : List X) (last : X) → IsStrictlySortedBy R (xs ++ last ∷ []) → All (λ x. R x last ≡ Less) xs
before_last total xs last rising = following_front total xs (last ∷ []) last rising (Contains-first last [])

-- and below what comes after it
pub all_below : {X : Type 0} {R : X → X → Ordering} (total : IsTotalOrder R) (xs : List X) (last new : X) → IsStrictlySortedBy R (xs ++ last ∷ []) → R last new ≡ Less
    → All (λ x. R x new ≡ Less) (xs ++ last ∷ [])
all_below {R = R} total xs last new rising above =
    All-push (λ x. R x new ≡ Less) xs last (All-weaker (λ x. R x last ≡ Less) (λ x. R x new ≡ Less) (λ x less. total.trans x last new less above) xs (before_last total xs last rising)) above

module _ (before : List Form) (last : Form) (rising : IsStrictlySortedBy by_letters (before ++ last ∷ [])) where
  -- a form is the last, or below it
  pub last_or_below : (form : Form) → Contains (before ++ last ∷ []) form → (form ≡ last) ⊎ (compare_words form.letters last.letters ≡ Less)
  last_or_below form among =
      elim (Contains-push_cases before last form among) [
        | inl earlier ↦ inr (All-contains (λ (f : Form). by_letters f last ≡ Less) before form (before_last forms_total before last rising) earlier)
        | inr same ↦ inl (sym same)
      ]

  -- no form goes on after the last
  pub none_longer : (letter : ℕ) → BeginsForm (before ++ last ∷ []) (last.letters ++ letter ∷ []) → ⊥
  none_longer letter begins =
      let whole : begins.form.letters ≡ last.letters ++ letter ∷ begins.rest = begins.has_letters ∙ append_assoc last.letters (letter ∷ []) begins.rest in
      elim (last_or_below begins.form begins.is_among) [
        | inl same ↦
            let long = ap length (sym (ap (λ (f : Form). f.letters) same) ∙ whole) in
            let sum = length-append last.letters (letter ∷ begins.rest) in
            absurd (omega (arith, long, sum))
        | inr less ↦
            let shorter : compare_words (last.letters ++ letter ∷ begins.rest) (last.letters ++ []) ≡ Less =
            (λ i. compare_words (sym whole i) (append-nil last.letters i)) ∙ less in
            not_below_empty (letter ∷ begins.rest) (sym (compare_words-front last.letters (letter ∷ begins.rest) []) ∙ shorter)
      ]

  module _ (front own rest word : List ℕ) (letter : ℕ) (is_last : last.letters ≡ front ++ own) (is_word : word ≡ front ++ letter ∷ rest)
      (above : compare_words last.letters word ≡ Less) (apart : (other : ℕ) (more : List ℕ) → own ≡ other ∷ more → other ≢ letter) where
    -- the last form's own letters are below
    own_below : compare_words own (letter ∷ rest) ≡ Less
    own_below = sym (compare_words-front front own (letter ∷ rest)) ∙ (λ i. compare_words (sym is_last i) (sym is_word i)) ∙ above

    -- no form goes on with the word's letter after the front that both share
    pub none_with : BeginsForm (before ++ last ∷ []) (front ++ letter ∷ []) → ⊥
    none_with begins =
        let whole : begins.form.letters ≡ front ++ letter ∷ begins.rest = begins.has_letters ∙ append_assoc front (letter ∷ []) begins.rest in
        elim (last_or_below begins.form begins.is_among) [
          | inl same ↦
              let one : front ++ own ≡ front ++ letter ∷ begins.rest = sym is_last ∙ sym (ap (λ (f : Form). f.letters) same) ∙ whole in
              apart letter begins.rest (append_cancel_left front own (letter ∷ begins.rest) one) refl
          | inr less ↦ by own refl (sym (compare_words-front front (letter ∷ begins.rest) own) ∙ (λ i. compare_words (sym whole i) (sym is_last i)) ∙ less)
        ]
      where
        by : (its : List ℕ) → own ≡ its → compare_words (letter ∷ begins.rest) own ≡ Less → ⊥
        by [] e less = not_below_empty (letter ∷ begins.rest) (ap (compare_words (letter ∷ begins.rest)) (sym e) ∙ less)
        by (other ∷ more) e less =
            let low : letter ≤ other = not_below_smaller letter other begins.rest more (ap (compare_words (letter ∷ begins.rest)) (sym e) ∙ less) in
            let high : other ≤ letter = not_below_smaller other letter more rest (ap (λ (w : List ℕ). compare_words w (letter ∷ rest)) (sym e) ∙ own_below) in
            let differ = apart other more e in
            absurd (omega (arith, low, high, differ))

    -- the letters with which forms go on are smaller
    pub letters_below : (other : ℕ) → BeginsForm (before ++ last ∷ []) (front ++ other ∷ []) → other < letter
    letters_below other begins =
        let whole : begins.form.letters ≡ front ++ other ∷ begins.rest = begins.has_letters ∙ append_assoc front (other ∷ []) begins.rest in
        let less : compare_words begins.form.letters word ≡ Less =
        elim (last_or_below begins.form begins.is_among) [
          | inl same ↦ ap (λ (f : Form). compare_words f.letters word) same ∙ above
          | inr lower ↦ nat_list_cmp_total.trans begins.form.letters last.letters word lower above
        ] in
        let low : other ≤ letter =
        not_below_smaller other letter begins.rest rest (sym (compare_words-front front (other ∷ begins.rest) (letter ∷ rest)) ∙ (λ i. compare_words (sym whole i) (sym is_word i)) ∙ less) in
        let differ : other ≢ letter = λ e. none_with (subst (λ (n : ℕ). BeginsForm (before ++ last ∷ []) (front ++ n ∷ [])) e begins) in
        omega (arith, low, differ)

-- ---- the list with the word

-- what is placed after all others goes last
pub placed_last : {X : Type 0} (side : X → Ordering) (new : X) (change : X → X) (xs : List X) → All (λ x. side x ≡ Less) xs → placed side new change xs ≡ xs ++ new ∷ []
placed_last side new change [] below = refl
placed_last side new change (x ∷ xs) below =
    let first = All-head (λ x. side x ≡ Less) x xs below in
    rw first (ap (λ ys. x ∷ ys) (placed_last side new change xs (All-tail (λ x. side x ≡ Less) x xs below)))

-- the last is changed where it is the one at the place
pub placed_at_last : {X : Type 0} (side : X → Ordering) (new : X) (change : X → X) (xs : List X) (last : X) → All (λ x. side x ≡ Less) xs → side last ≡ Equal
    → placed side new change (xs ++ last ∷ []) ≡ xs ++ change last ∷ []
placed_at_last side new change [] last below at = rw at refl
placed_at_last side new change (x ∷ xs) last below at =
    let first = All-head (λ x. side x ≡ Less) x xs below in
    rw first (ap (λ ys. x ∷ ys) (placed_at_last side new change xs last (All-tail (λ x. side x ≡ Less) x xs below) at))

-- a form above the last goes after it
pub with_form_after : (before : List Form) (last : Form) (letters : List ℕ) (analysis : Analysis) → IsStrictlySortedBy by_letters (before ++ last ∷ [])
    → compare_words last.letters letters ≡ Less
    → with_form letters analysis (before ++ last ∷ []) ≡ (before ++ last ∷ []) ++ record { letters = letters; analyses = analysis ∷ [] } ∷ []
with_form_after before last letters analysis rising above =
    let new : Form = record { letters = letters; analyses = analysis ∷ [] } in
    placed_last (λ (form : Form). compare_words form.letters letters) new (λ form. record { letters = form.letters; analyses = with_analysis analysis form.analyses }) (before ++ last ∷ [])
    (all_below forms_total before last new rising above)

-- an analysis above the last one of the last form goes after it
pub with_form_at : (before : List Form) (letters : List ℕ) (analyses : List Analysis) (last analysis : Analysis)
    → IsStrictlySortedBy by_letters (before ++ record { letters = letters; analyses = analyses ++ last ∷ [] } ∷ []) → IsStrictlySortedBy compare_analyses (analyses ++ last ∷ [])
    → compare_analyses last analysis ≡ Less
    → with_form letters analysis (before ++ record { letters = letters; analyses = analyses ++ last ∷ [] } ∷ [])
    ≡ before ++ record { letters = letters; analyses = (analyses ++ last ∷ []) ++ analysis ∷ [] } ∷ []
with_form_at before letters analyses last analysis rising sorted above =
    let form : Form = record { letters = letters; analyses = analyses ++ last ∷ [] } in
    let change : Form → Form = λ form. record { letters = form.letters; analyses = with_analysis analysis form.analyses } in
    let more : with_analysis analysis (analyses ++ last ∷ []) ≡ (analyses ++ last ∷ []) ++ analysis ∷ [] =
    placed_last (λ other. compare_analyses other analysis) analysis (λ same. same) (analyses ++ last ∷ []) (all_below analyses_total analyses last analysis sorted above) in
    placed_at_last (λ (form : Form). compare_words form.letters letters) (record { letters = letters; analyses = analysis ∷ [] }) change before form
    (before_last forms_total before form rising) (tied_itself nat_list_cmp_total letters)
    ∙ (λ i. before ++ record { letters = letters; analyses = more i } ∷ [])
