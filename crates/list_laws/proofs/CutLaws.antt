-- A text that is free of the mark is cut where the mark comes first, and each cut is undone by putting the mark back: by
-- induction on the text.
use Rattle.std.proofs.Common.{◌≡◌, ◌≢◌, ℕ, Bool, true, false, cond, Option, Some, None, List, [], ◌∷◌, ◌++◌, eqb, All, refl, ◌∙◌, ap, subst}
use Rattle.std.proofs.lemmas.Bool.{eqb-true, eq-eqb}
use Rattle.list_laws.specs.Cuts.{before_parts, cut}
use Rattle.list_laws.proofs.Marks.{is_free, free_parts, free_from_All}

pub cut_free : (mark : ℕ) (text : List ℕ) → is_free mark text ≡ true → cut mark text ≡ None
cut_free mark [] h = refl
cut_free mark (byte ∷ text) h =
    let parts = free_parts mark byte text h in
    ap (λ test. cond test (Some ([], text)) (before_parts byte (cut mark text))) parts.0 ∙ ap (before_parts byte) (cut_free mark text parts.1)

pub cut_at : (mark : ℕ) (front rest : List ℕ) → is_free mark front ≡ true → cut mark (front ++ mark ∷ rest) ≡ Some (front, rest)
cut_at mark [] rest h = ap (λ test. cond test (Some ([], rest)) (before_parts mark (cut mark rest))) (eq-eqb mark mark refl)
cut_at mark (byte ∷ front) rest h =
    let parts = free_parts mark byte front h in
    ap (λ test. cond test (Some ([], front ++ mark ∷ rest)) (before_parts byte (cut mark (front ++ mark ∷ rest)))) parts.0
    ∙ ap (before_parts byte) (cut_at mark front rest parts.1)

-- what a cut says of the text
abbrev pub IsCut : ℕ → List ℕ → Option (List ℕ × List ℕ) → Type 0
IsCut mark text None = is_free mark text ≡ true
IsCut mark text (Some parts) = (text ≡ parts.0 ++ mark ∷ parts.1) × (is_free mark parts.0 ≡ true)

later_cut : (mark byte : ℕ) (text : List ℕ) (parts : Option (List ℕ × List ℕ)) → eqb byte mark ≡ false → IsCut mark text parts
    → IsCut mark (byte ∷ text) (before_parts byte parts)
later_cut mark byte text None n h = ap (λ test. cond test false (is_free mark text)) n ∙ h
later_cut mark byte text (Some parts) n h =
    (ap (◌∷◌ byte) h.0, ap (λ test. cond test false (is_free mark parts.0)) n ∙ h.1)

by_test : (mark byte : ℕ) (text : List ℕ) (test : Bool) → eqb byte mark ≡ test → IsCut mark text (cut mark text)
    → IsCut mark (byte ∷ text) (cond test (Some ([], text)) (before_parts byte (cut mark text)))
by_test mark byte text true e h = (ap (λ first. first ∷ text) (eqb-true byte mark e), refl)
by_test mark byte text false e h = later_cut mark byte text (cut mark text) e h

pub is_cut : (mark : ℕ) (text : List ℕ) → IsCut mark text (cut mark text)
is_cut mark [] = refl
is_cut mark (byte ∷ text) = by_test mark byte text (eqb byte mark) refl (is_cut mark text)

pub cut_as : (mark : ℕ) (text : List ℕ) (parts : Option (List ℕ × List ℕ)) → cut mark text ≡ parts → IsCut mark text parts
cut_as mark text parts e = subst (IsCut mark text) e (is_cut mark text)

-- where no byte is the mark, there is no cut
pub not_cut : (mark : ℕ) (text : List ℕ) → All (λ byte. byte ≢ mark) text → cut mark text ≡ None
not_cut mark text h = cut_free mark text (free_from_All mark text h)

-- where a text is parted at its first mark, it is cut there
pub cut_as_parted : (mark : ℕ) (text front rest : List ℕ) → (text ≡ front ++ mark ∷ rest) × All (λ byte. byte ≢ mark) front
    → cut mark text ≡ Some (front, rest)
cut_as_parted mark text front rest h = ap (cut mark) h.0 ∙ cut_at mark front rest (free_from_All mark front h.1)
