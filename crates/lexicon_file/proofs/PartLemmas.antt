-- A text is cut at its first mark, so its parts are the first one and those of the rest.
use Rattle.std.proofs.Common.{◌≡◌, ◌≢◌, ℕ, ◌<◌, eqb, Some, None, List, [], ◌∷◌, ◌++◌, length, refl, ◌∙◌, ap, arith, All}
use Rattle.std.proofs.lemmas.List.Splits.{length-slice_split}
use Rattle.list_laws.proofs.CutLaws.{cut_as, not_cut, cut_as_parted}
use Rattle.lexicon_text_definitions.proofs.LineCuts.{split_at, split_none}
use Rattle.form_file.specs.Fields.{two_of}
use Rattle.lexicon_file.specs.Parts.{parts_at, three_of}

pub one_part : (mark : ℕ) (text : List ℕ) → All (λ byte. byte ≢ mark) text → parts_at mark text ≡ text ∷ []
one_part mark text h = split_none mark text (cut_as mark text None (not_cut mark text h))

pub next_part : (mark : ℕ) (text first rest : List ℕ) → (text ≡ first ++ mark ∷ rest) × All (λ byte. byte ≢ mark) first → parts_at mark text ≡ first ∷ parts_at mark rest
next_part mark text first rest h =
    let is = cut_as mark text (Some (first, rest)) (cut_as_parted mark text first rest h) in
    ap (parts_at mark) is.0 ∙ split_at mark first rest is.1

-- there is always a part
not_none : (mark : ℕ) (text : List ℕ) (parts : List (List ℕ)) → parts_at mark text ≡ parts → 0 < length parts
not_none mark text parts e = let many = length-slice_split (λ byte. eqb byte mark) text in let same = ap length e in omega (arith, many, same)

two_by : (first second : List ℕ) (parts : List (List ℕ)) → 0 < length parts → two_of (first ∷ second ∷ parts) ≡ None
two_by first second [] h = absurd (omega (arith, h))
two_by first second (third ∷ parts) h = refl

-- more than two parts are not two
pub more_than_two : (mark : ℕ) (parts : List (List ℕ)) (first second more : List ℕ) → parts ≡ first ∷ second ∷ parts_at mark more → two_of parts ≡ None
more_than_two mark parts first second more e = ap two_of e ∙ two_by first second (parts_at mark more) (not_none mark more (parts_at mark more) refl)

three_by : (first : List ℕ) (parts : List (List ℕ)) → two_of parts ≡ None → three_of (first ∷ parts) ≡ None
three_by first [] h = refl
three_by first (second ∷ []) h = refl
three_by first (second ∷ third ∷ []) h = absurd (cc)
three_by first (second ∷ third ∷ fourth ∷ parts) h = refl

-- and where what comes after the first is not two, all are not three
pub not_three : (parts rest : List (List ℕ)) (first : List ℕ) → parts ≡ first ∷ rest → two_of rest ≡ None → three_of parts ≡ None
not_three parts rest first e h = ap three_of e ∙ three_by first rest h
