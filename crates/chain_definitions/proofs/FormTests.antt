-- The test whether a phase has a form passes exactly where it has: by induction on the forms.
use Rattle.std.proofs.Common.{◌≡◌, ℕ, ◌⊎◌, inl, inr, Bool, true, false, ◌||◌, List, [], ◌∷◌, map, Contains, refl, sym, ◌∙◌, ap, subst}
use Rattle.std.specs.List.{list_any}
use Rattle.std.specs.Str.{bytes_eq}
use Rattle.std.proofs.lemmas.Bool.{or_cases, or_left, or_right}
use Rattle.std.proofs.lemmas.Slice.Eq.{bytes_eq-Decides}
use Rattle.list_laws.proofs.Sorted.{Contains-first, Contains-later, Contains-cons_cases, not_Contains-nil}
use Rattle.list_laws.proofs.Texts.{bytes_same}
use Rattle.lexicon_definitions.specs.Lexicons.{Lexicon, Form, IsForm, forms_of}
use Rattle.chain_definitions.specs.ChainReadings.{has_form}

contains_if_any : (letters : List ℕ) (words : List (List ℕ)) → list_any (bytes_eq letters) words ≡ true → Contains words letters
contains_if_any letters [] h = absurd (cc)
contains_if_any letters (word ∷ words) h = elim (or_cases (bytes_eq letters word) (list_any (bytes_eq letters) words) h) [
  | inl here ↦ subst (λ (w : List ℕ). Contains (word ∷ words) w) (sym (bytes_same letters word here)) (Contains-first word words)
  | inr later ↦ Contains-later word words letters (contains_if_any letters words later)
]

any_if_contains : (letters : List ℕ) (words : List (List ℕ)) → Contains words letters → list_any (bytes_eq letters) words ≡ true
any_if_contains letters [] h = absurd (not_Contains-nil letters h)
any_if_contains letters (word ∷ words) h = elim (Contains-cons_cases word words letters h) [
  | inl here ↦ or_left (bytes_eq letters word) (list_any (bytes_eq letters) words) ((bytes_eq-Decides letters word).1 (sym here))
  | inr later ↦ or_right (bytes_eq letters word) (list_any (bytes_eq letters) words) (any_if_contains letters words later)
]

pub form_from_test : (lexicon : Lexicon) (phase : ℕ) (letters : List ℕ) → has_form lexicon phase letters ≡ true → IsForm lexicon phase letters
form_from_test lexicon phase letters h = contains_if_any letters (map (λ (f : Form). f.letters) (forms_of lexicon phase)) h

pub test_from_form : (lexicon : Lexicon) (phase : ℕ) (letters : List ℕ) → IsForm lexicon phase letters → has_form lexicon phase letters ≡ true
test_from_form lexicon phase letters h = any_if_contains letters (map (λ (f : Form). f.letters) (forms_of lexicon phase)) h
