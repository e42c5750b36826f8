-- So many of the choices leave steps free, one by one: where those before do and the next one does.
use Rattle.std.proofs.Common.{◌≡◌, ℕ, inl, inr, ◌+◌, ◌<◌, ◌↔◌, Bool, IsTrue, List, length, get_or, sym, ap, subst, ◌∙◌, arith}
use Rattle.std.proofs.lemmas.Bool.{cases_lt}
use Rattle.std.proofs.lemmas.List.{get_or_default}
use Rattle.lexicon_definitions.specs.Lexicons.{RuleSet}
use Rattle.segmentation_definitions.specs.Items.{Placed, Choice}
use Rattle.segmentation_definitions.specs.LocalTests.{AllowsChoice, IsLast}
use Rattle.reader_choices.specs.Freedom.{IsStepTaking, LeavesFree, LeaveFree}

-- so many of the choices leave such steps free
abbrev pub LeaveFreeSoFar : ℕ → ℕ → Bool → ℕ → List Choice → ℕ → Bool → Type 0
LeaveFreeSoFar at lead is_first taken choices count may_end =
    (rules : RuleSet) (line_length : ℕ) (p : Placed) → IsStepTaking rules at lead taken p
    → ((k : ℕ) (d : Choice) → k < count → AllowsChoice rules line_length is_first p (get_or choices k d).kept (get_or choices k d).item)
    ↔ (IsLast rules line_length p → IsTrue may_end)

module _ (at lead taken : ℕ) (is_first : Bool) (choices : List Choice) where
  -- one choice more
  pub one_more : (count : ℕ) (choice : Choice) (may_end one both : Bool) → count < length choices → choice ≡ get_or choices count choice
      → LeaveFreeSoFar at lead is_first taken choices count may_end → LeavesFree at lead is_first taken choice.kept choice.item one
      → IsTrue both ↔ (IsTrue may_end × IsTrue one) → LeaveFreeSoFar at lead is_first taken choices (count + 1) both
  one_more count choice may_end one both low is_choice before this says rules line_length p is =
      let Allowed = λ (c : Choice). AllowsChoice rules line_length is_first p c.kept c.item in
      let so_far = before rules line_length p is in
      let now = this rules line_length p is in (
        λ allows last. says.1 (
          so_far.0 (λ k d below. allows k d (omega (arith, below))) last,
          now.0 (subst Allowed (sym is_choice) (allows count choice (omega arith))) last,
        ),
        λ may k d below. elim (cases_lt k count) [
          | inl earlier ↦ so_far.1 (λ last. (says.0 (may last)).0) k d earlier
          | inr least ↦
              let same : count ≡ k = omega (arith, below, least) in
              let is_there : choice ≡ get_or choices k d =
              is_choice ∙ get_or_default choices count choice d low ∙ ap (λ (n : ℕ). get_or choices n d) same in
              subst Allowed is_there (now.1 (λ last. (says.0 (may last)).1))
        ],
      )

  -- all of them
  pub so_far_all : (count : ℕ) (may_end : Bool) → count ≡ length choices → LeaveFreeSoFar at lead is_first taken choices count may_end
      → LeaveFree at lead is_first taken choices may_end
  so_far_all count may_end all so_far rules line_length p is =
      let told = so_far rules line_length p is in (
        λ allows. told.0 (λ k d below. allows k d (omega (arith, below, all))),
        λ may k d below. told.1 may k d (omega (arith, below, all)),
      )
