-- Numbers are put before the first texts, one after another, while the others stay as they were.
use Rattle.std.proofs.Common.{◌≡◌, ℕ, zero, suc, ◌+◌, ◌<◌, ◌≤◌, List, [], ◌∷◌, ◌++◌, length, get_or, slice_set, map, decimal, codes, refl, sym, ap, ◌∙◌, arith}
use Rattle.std.proofs.lemmas.List.{append_assoc}
use Rattle.lexicon_definitions.specs.Lexicons.{RuleSet}
use Rattle.segmentation_definitions.specs.declared.limits.TheConstants.{LAST_ANSWER_NUMBER}
use Rattle.segmentation_definitions.specs.Derivations.{Step}
use Rattle.segmentation_definitions.specs.PrintedAnswers.{printed_answer, printed_steps, next_number}
use Rattle.search_split.specs.PrintedPages.{answer_texts, text_after_number, texts_with_numbers}

next_is : (number : ℕ) → number + 1 ≤ LAST_ANSWER_NUMBER → next_number number ≡ number + 1
next_is number within = omega (arith, within)

-- the first texts, so many, each after its number, and then the others
abbrev pub numbered : ℕ → ℕ → List (List ℕ) → List (List ℕ)
numbered number zero texts = texts
numbered number (suc count) [] = []
numbered number (suc count) (text ∷ texts) = (decimal number ++ text) ∷ numbered (next_number number) count texts

-- the next one is as it was
pub next_kept : (number count : ℕ) (texts : List (List ℕ)) → get_or (numbered number count texts) count [] ≡ get_or texts count []
next_kept number zero texts = refl
next_kept number (suc count) [] = refl
next_kept number (suc count) (text ∷ texts) = next_kept (next_number number) count texts

pub one_numbered : (number count : ℕ) (texts : List (List ℕ)) → count < length texts → number + length texts ≤ LAST_ANSWER_NUMBER
    → slice_set (numbered number count texts) count (decimal (number + count) ++ get_or texts count []) ≡ numbered number (suc count) texts
one_numbered number zero [] low within = absurd (omega (arith, low))
one_numbered number zero (text ∷ texts) low within =
    let same : number + 0 ≡ number = omega arith in
    ap (λ n. (decimal n ++ text) ∷ texts) same
one_numbered number (suc count) [] low within = absurd (omega (arith, low))
one_numbered number (suc count) (text ∷ texts) low within =
    let next = next_is number (omega (arith, within)) in
    let same : number + suc count ≡ next_number number + count = omega (arith, next) in
    ap (λ texts. (decimal number ++ text) ∷ texts)
    (ap (λ n. slice_set (numbered (next_number number) count texts) count (decimal n ++ get_or texts count [])) same
    ∙ one_numbered (next_number number) count texts (omega (arith, low)) (omega (arith, within, next)))

pub all_numbered : (number count : ℕ) (texts : List (List ℕ)) → length texts ≤ count → numbered number count texts ≡ texts_with_numbers number texts
all_numbered number zero [] low = refl
all_numbered number zero (text ∷ texts) low = absurd (omega (arith, low))
all_numbered number (suc count) [] low = refl
all_numbered number (suc count) (text ∷ texts) low =
    ap (λ texts. (decimal number ++ text) ∷ texts) (all_numbered (next_number number) count texts (omega (arith, low)))

-- the texts of answers after their numbers are the printed answers
pub answers_numbered : (rules : RuleSet) (number : ℕ) (answers : List (List Step))
    → texts_with_numbers number (map (text_after_number rules) answers) ≡ answer_texts rules number answers
unfolding printed_answer
answers_numbered rules number [] = refl
answers_numbered rules number (steps ∷ answers) =
    ap (λ text. text ∷ texts_with_numbers (next_number number) (map (text_after_number rules) answers))
    (sym (append_assoc (decimal number) (codes ": ") (printed_steps rules steps)))
    ∙ ap (λ texts. printed_answer rules number steps ∷ texts) (answers_numbered rules (next_number number) answers)
