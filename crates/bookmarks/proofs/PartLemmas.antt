-- A text is cut at its first mark, so its parts are the first one and those of the rest; parts that are put together with marks.
use Rattle.std.proofs.Common.{◌≡◌, ◌≢◌, ℕ, false, List, [], ◌∷◌, ◌++◌, length, eqb, refl, ◌∙◌, ap, arith, All}
use Rattle.std.specs.List.{AllByRecursion}
use Rattle.std.proofs.lemmas.Bool.{eq-eqb, ne_eqb}
use Rattle.std.proofs.lemmas.List.Elements.{All-from_recursion, recursion_from_All}
use Rattle.std.proofs.lemmas.List.Splits.{slice_split_at, slice_split_none, length-slice_split}
use Rattle.bookmarks.specs.Parts.{parts_at}

others : (mark : ℕ) (text : List ℕ) → AllByRecursion (λ byte. byte ≢ mark) text → AllByRecursion (λ byte. eqb byte mark ≡ false) text
others mark [] h = tt
others mark (byte ∷ text) h = (ne_eqb byte mark h.0, others mark text h.1)

all_others : (mark : ℕ) (text : List ℕ) → All (λ byte. byte ≢ mark) text → All (λ byte. eqb byte mark ≡ false) text
all_others mark text h =
    All-from_recursion (λ byte. eqb byte mark ≡ false) text (others mark text (recursion_from_All (λ byte. byte ≢ mark) text h))

pub one_part : (mark : ℕ) (text : List ℕ) → All (λ byte. byte ≢ mark) text → parts_at mark text ≡ text ∷ []
one_part mark text h = slice_split_none (λ byte. eqb byte mark) text (all_others mark text h)

pub first_part : (mark : ℕ) (text first rest : List ℕ) → (text ≡ first ++ mark ∷ rest) × All (λ byte. byte ≢ mark) first → parts_at mark text ≡ first ∷ parts_at mark rest
first_part mark text first rest h =
    ap (parts_at mark) h.0 ∙ slice_split_at (λ byte. eqb byte mark) first mark rest (all_others mark first h.1) (eq-eqb mark mark refl)

-- there are more than two parts where there is a part more after the second
pub not_two : (mark : ℕ) (text first rest second more : List ℕ) → parts_at mark text ≡ first ∷ parts_at mark rest → parts_at mark rest ≡ second ∷ parts_at mark more
    → length (parts_at mark text) ≡ 2 → ⊥
not_two mark text first rest second more e f two =
    omega (arith, two, ap length e, ap length f, length-slice_split (λ byte. eqb byte mark) more)
