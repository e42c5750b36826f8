-- A text is that of the one case that its first two bytes tell, or of none.
use Rattle.std.proofs.Common.{◌≡◌, ℕ, List, ◌∷◌, true, false, get_or, drop, refl, inl, inr, sym, ◌∙◌}
use Rattle.std.proofs.lemmas.Bool.{false≢true}
use Rattle.std.specs.Str.{bytes_eq}
use Rattle.lexicon_definitions.specs.Tags.{IsOneOf, cases}
use Rattle.form_tags.specs.declared.case.Case.{Case}
use Rattle.form_tags.specs.declared.case.Case.TheVariants.{Nom, Acc, Ins, Dat, Abl, Gen, Loc, Voc}
use Rattle.form_tags.specs.TagTexts.{case_text}

-- no case is begun by these bytes but the told one
abbrev Tells : Case → List ℕ → Type 0
Tells told text = (gcase : Case) (rest : List ℕ) → case_text gcase ≡ get_or text 0 0 ∷ get_or text 1 0 ∷ rest → told ≡ gcase

told_text : (told gcase : Case) → Tells told (case_text gcase) → bytes_eq (case_text told) (case_text gcase) ≡ true
told_text told Nom tells = rw (tells Nom (drop 2 (case_text Nom)) refl) refl
told_text told Acc tells = rw (tells Acc (drop 2 (case_text Acc)) refl) refl
told_text told Ins tells = rw (tells Ins (drop 2 (case_text Ins)) refl) refl
told_text told Dat tells = rw (tells Dat (drop 2 (case_text Dat)) refl) refl
told_text told Abl tells = rw (tells Abl (drop 2 (case_text Abl)) refl) refl
told_text told Gen tells = rw (tells Gen (drop 2 (case_text Gen)) refl) refl
told_text told Loc tells = rw (tells Loc (drop 2 (case_text Loc)) refl) refl
told_text told Voc tells = rw (tells Voc (drop 2 (case_text Voc)) refl) refl

case_with_text : (text : List ℕ) → IsOneOf cases text → (gcase : Case) × (text ≡ case_text gcase)
case_with_text text (inl e) = (Nom, e)
case_with_text text (inr (inl e)) = (Acc, e)
case_with_text text (inr (inr (inl e))) = (Ins, e)
case_with_text text (inr (inr (inr (inl e)))) = (Dat, e)
case_with_text text (inr (inr (inr (inr (inl e))))) = (Abl, e)
case_with_text text (inr (inr (inr (inr (inr (inl e)))))) = (Gen, e)
case_with_text text (inr (inr (inr (inr (inr (inr (inl e))))))) = (Loc, e)
case_with_text text (inr (inr (inr (inr (inr (inr (inr (inl e)))))))) = (Voc, e)
case_with_text text (inr (inr (inr (inr (inr (inr (inr (inr none)))))))) = absurd none

-- a text that is not the told case's is no case's
pub no_case : (told : Case) (text : List ℕ) → Tells told text → bytes_eq (case_text told) text ≡ false → IsOneOf cases text → ⊥
no_case told text tells other h =
    let named = case_with_text text h in
    let same = told_text told named.0 (rw named.1 at tells) in
    false≢true (sym other ∙ rw named.1 same)
