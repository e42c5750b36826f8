-- How a text is cut: by the entry of the table with which it begins; two tables whose marks begin at the same places have the same runs;
-- and bytes in which no mark begins are a part of the run that they stand in.
use Rattle.std.proofs.Common.{◌≡◌, ℕ, suc, ◌+◌, true, cond, List, [], ◌∷◌, ◌++◌, length, drop, Option, Some, None, eqb, inl, inr, ap, ◌∙◌, sym, subst, refl}
use Rattle.std.specs.Prelude.{◌⊎◌}
use Rattle.std.specs.List.{AllByRecursion}
use Rattle.std.proofs.lemmas.Bool.{cases_Bool, and_parts, eqb-true}
use Rattle.text_definitions.specs.LineTexts.{begins_with}
use Rattle.conversion_definitions.specs.Marks.{Mark, first_mark}
use Rattle.conversion_definitions.specs.Conversions.{parts_from}
use Rattle.more_schemes.specs.Runs.{more_length, run_length}
use Rattle.more_schemes.proofs.ConversionSteps.{with_bytes, NoRunFirst, parts_at_front}

-- the entry with which a text begins
pub record IsEntryAt (P : Mark → Type 0) (text : List ℕ) (found : ℕ × List ℕ) : Type 0 where
  pub mark : Mark
  pub has : P mark
  pub text_is : text ≡ mark.is ++ drop (length mark.is) text
  pub found_is : (length mark.is, mark.becomes) ≡ found

begins_is : (bytes text : List ℕ) → begins_with bytes text ≡ true → text ≡ bytes ++ drop (length bytes) text
begins_is [] text h = refl
begins_is (b ∷ bytes) [] h = absurd (cc (h))
begins_is (b ∷ bytes) (c ∷ text) h =
    let p = and_parts (eqb c b) (begins_with bytes text) h in
    ap (λ x. x ∷ text) (eqb-true c b p.0) ∙ ap (λ t. b ∷ t) (begins_is bytes text p.1)

same_found : (a b : ℕ × List ℕ) → Some a ≡ Some b → a ≡ b
same_found a b e = cc (e)

pub entry_at : (P : Mark → Type 0) (marks : List Mark) (text : List ℕ) (found : ℕ × List ℕ) → AllByRecursion P marks → first_mark marks text ≡ Some found
    → IsEntryAt P text found
entry_at P [] text found all h = absurd (cc (h))
entry_at P (mark ∷ marks) text found all h =
    let rest = first_mark marks text in
    let own : ℕ × List ℕ = (length mark.is, mark.becomes) in
    elim (cases_Bool (begins_with mark.is text)) [
      | inl begins ↦ record {
        mark = mark;
        has = all.0;
        text_is = begins_is mark.is text begins;
        found_is = same_found own found (sym (ap (λ b. cond b (Some own) rest) begins) ∙ h);
      }
      | inr otherwise ↦ entry_at P marks text found all.1 (sym (ap (λ b. cond b (Some own) rest) otherwise) ∙ h)
    ]

-- ---- runs

module _ (marks others : List Mark) (none : (text : List ℕ) → first_mark marks text ≡ None → first_mark others text ≡ None)
    (some : (text : List ℕ) (found : ℕ × List ℕ) → first_mark marks text ≡ Some found → (other : ℕ × List ℕ) × (first_mark others text ≡ Some other)) where
  same_more : (found : Option (ℕ × List ℕ)) (text : List ℕ) (length other : ℕ) → first_mark marks text ≡ found → other ≡ length
      → more_length (first_mark others text) other ≡ more_length found length
  same_more None text length other e same = ap (λ f. more_length f other) (none text e) ∙ ap suc same
  same_more (Some found) text length other e same = let (mark, o) = some text found e in ap (λ f. more_length f other) o

  -- the runs of both tables are the same
  pub same_runs : (text : List ℕ) → run_length others text ≡ run_length marks text
  same_runs [] = refl
  same_runs (byte ∷ text) = same_more (first_mark marks (byte ∷ text)) (byte ∷ text) (run_length marks text) (run_length others text) refl (same_runs text)

-- the text is at its end, or begins with a mark
abbrev pub AtMarkOrEnd : List Mark → List ℕ → Type 0
AtMarkOrEnd marks text = (text ≡ []) ⊎ ((found : ℕ × List ℕ) × (first_mark marks text ≡ Some found))

run_ends_by : (marks : List Mark) (found : Option (ℕ × List ℕ)) (byte : ℕ) (text : List ℕ) → first_mark marks (byte ∷ text) ≡ found
    → AtMarkOrEnd marks (drop (run_length marks text) text) → AtMarkOrEnd marks (drop (more_length found (run_length marks text)) (byte ∷ text))
run_ends_by marks None byte text e rest = rest
run_ends_by marks (Some found) byte text e rest = inr (found, e)

-- so it is after a run
pub run_ends : (marks : List Mark) (text : List ℕ) → AtMarkOrEnd marks (drop (run_length marks text) text)
run_ends marks [] = inl refl
run_ends marks (byte ∷ text) = run_ends_by marks (first_mark marks (byte ∷ text)) byte text refl (run_ends marks text)

-- a text that begins with a mark has no run first
pub no_run_at_mark : (marks : List Mark) (text : List ℕ) (place : ℕ) (found : ℕ × List ℕ) → first_mark marks text ≡ Some found
    → NoRunFirst (parts_from marks place 0 text)
no_run_at_mark marks [] place found e = tt
no_run_at_mark marks (byte ∷ text) place found e = subst NoRunFirst (sym (parts_at_front marks (Some found) place byte text e)) tt

-- ---- bytes without marks

-- at none of these bytes a mark begins, whatever comes after them
abbrev pub HasNoMark : List Mark → List ℕ → Type 0
HasNoMark marks [] = Unit {0}
HasNoMark marks (byte ∷ bytes) = ((rest : List ℕ) → first_mark marks (byte ∷ (bytes ++ rest)) ≡ None) × HasNoMark marks bytes

-- such bytes belong to the run
pub within_run : (marks : List Mark) (bytes rest : List ℕ) (place : ℕ) → HasNoMark marks bytes
    → (after : ℕ) × (parts_from marks place 0 (bytes ++ rest) ≡ with_bytes place bytes (parts_from marks after 0 rest))
within_run marks [] rest place h = (place, refl)
within_run marks (byte ∷ bytes) rest place h =
    let (after, e) = within_run marks bytes rest (place + 1) h.1 in
    (after, parts_at_front marks None place byte (bytes ++ rest) (h.0 rest) ∙ ap (λ ps. with_bytes place (byte ∷ []) ps) e)
