-- Where the same answers come after two cursors, so do the same first answers and the same page. A search that has listed answers
-- stands where just those are left that come after the last of them.
use Rattle.std.proofs.Common.{◌≡◌, ◌↔◌, inl, inr, ℕ, ◌<◌, ◌≤◌, Bool, true, false, IsTrue, List, [], ◌∷◌, length, Contains, refl, sym, ap, subst, arith}
use Rattle.std.proofs.lemmas.Bool.{cases_lt}
use Rattle.list_laws.proofs.Sorted.{Contains-first, Contains-later}
use Rattle.text_definitions.specs.Lines.{Line}
use Rattle.lexicon_definitions.specs.Lexicons.{Lexicon}
use Rattle.segmentation_definitions.specs.Derivations.{Step}
use Rattle.segmentation_definitions.specs.Items.{Choice}
use Rattle.segmentation_definitions.specs.Answers.{IsAnswer}
use Rattle.segmentation_definitions.specs.Listings.{Cursor, AtAnswer, PastLast, cursor_after, IsAbove, IsPage}
use Rattle.answer_paths.specs.Pages.{AreFirstAnswers}
use Rattle.answer_paths.proofs.NextPages.{page_if_full, page_if_ended}
use Rattle.segmenter.specs.Searches.{SearchValue}
use Rattle.answer_printing.specs.Pages.{HasListed, standing_at}

-- the cursor at the last of some answers is that of one of them
pub last_is_among : (first : List Step) (answers : List (List Step)) (last : List Step) → cursor_after (AtAnswer first) answers ≡ AtAnswer last
    → Contains (first ∷ answers) last
last_is_among first [] last same = let equal : first ≡ last = cc in subst (Contains (first ∷ [])) equal (Contains-first first [])
last_is_among first (next ∷ answers) last same = Contains-later first (next ∷ answers) last (last_is_among next answers last same)

module _ (lexicon : Lexicon) (line : Line) (choices : List Choice) where
  -- the same answers come after both cursors
  abbrev pub HaveSameAbove : Cursor → Cursor → Type 0
  HaveSameAbove left right = (answer : List Step) → IsAnswer lexicon line choices answer
      → IsAbove lexicon.rules left answer ↔ IsAbove lexicon.rules right answer

  pub same_then : (left middle right : Cursor) → HaveSameAbove left middle → HaveSameAbove middle right → HaveSameAbove left right
  same_then left middle right first then answer is =
      (λ above. (then answer is).0 ((first answer is).0 above), λ above. (first answer is).1 ((then answer is).1 above))

  pub same_after : (left right : Cursor) (answers : List (List Step)) → HaveSameAbove left right
      → HaveSameAbove (cursor_after left answers) (cursor_after right answers)
  same_after left right [] same = same
  same_after left right (first ∷ answers) same = λ answer is. (λ above. above, λ above. above)

  first_there : (left right : Cursor) (answers : List (List Step)) → HaveSameAbove left right → AreFirstAnswers lexicon line choices left answers
      → AreFirstAnswers lexicon line choices right answers
  first_there left right answers same firsts = record {
    rising = firsts.rising;
    only_answers = firsts.only_answers;
    only_above = λ steps of. (same steps (firsts.only_answers steps of)).0 (firsts.only_above steps of);
    others = λ steps answer above. firsts.others steps answer ((same steps answer).1 above);
  }

  -- an answer comes after the cursor
  abbrev HasLeftAt : Cursor → Type 0
  HasLeftAt cursor = (answer : List Step) × IsAnswer lexicon line choices answer × IsAbove lexicon.rules cursor answer

  left_there : (left right : Cursor) (more : Bool) → HaveSameAbove left right → IsTrue more ↔ HasLeftAt left → IsTrue more ↔ HasLeftAt right
  left_there left right more same left_if = (
    λ some. let found = left_if.0 some in (found.0, found.1, (same found.0 found.1).0 found.2),
    λ found. left_if.1 (found.0, found.1, (same found.0 found.1).1 found.2),
  )

  -- where no answer is left the test is false
  ended_false : (more : Bool) → IsTrue more ↔ HasLeftAt PastLast → more ≡ false
  ended_false true left_if = absurd (left_if.0 refl).2
  ended_false false left_if = refl

  -- the answers that were listed after one cursor are a page after another one with the same answers after it
  pub page_there : (here there now : Cursor) (answers : List (List Step)) (count : ℕ) (more : Bool) → HaveSameAbove here there
      → AreFirstAnswers lexicon line choices here answers → length answers ≤ count → HaveSameAbove now (cursor_after there answers)
      → (length answers < count → now ≡ PastLast) → IsTrue more ↔ HasLeftAt now → IsPage lexicon line choices there count answers more
  page_there here there now answers count more same firsts at_most stands ended left_if =
      let firsts_there = first_there here there answers same firsts in
      let left = left_there now (cursor_after there answers) more stands left_if in
      elim (cases_lt (length answers) count) [
        | inl fewer ↦
            let is_false : more ≡ false = ended_false more (subst (λ cursor. IsTrue more ↔ HasLeftAt cursor) (ended fewer) left_if) in
            let none = λ (steps : List Step) (answer : IsAnswer lexicon line choices steps) (above : IsAbove lexicon.rules (cursor_after there answers) steps).
            (let yes = left.1 (steps, answer, above) in let no : ⊥ = cc in no) in
            subst (IsPage lexicon line choices there count answers) (sym is_false) (page_if_ended lexicon line choices there answers firsts_there count at_most none)
        | inr full ↦
            let all : length answers ≡ count = omega arith in
            subst (λ (n : ℕ). IsPage lexicon line choices there n answers more) all (page_if_full lexicon line choices there answers firsts_there more left)
      ]

module _ (old new : SearchValue) (count : ℕ) (answers : List (List Step)) (listed : HasListed old new count answers) where
  pub past_if_fewer : length answers < count → new ≡ standing_at old PastLast
  past_if_fewer fewer = (listed.ended fewer).is

  -- just the answers after the last listed one come after where the search stands
  pub stands_after : HaveSameAbove old.searched.lexicon old.line old.choices new.cursor (cursor_after old.cursor answers)
  stands_after = elim (cases_lt (length answers) count) [
    | inl fewer ↦ λ answer is. (
      λ above. absurd (subst (λ (search : SearchValue). IsAbove old.searched.lexicon.rules search.cursor answer) (past_if_fewer fewer) above),
      λ above. absurd ((listed.ended fewer).none answer is above),
    )
    | inr full ↦
        let at_most = listed.at_most in
        let cursor_is = ap (λ (search : SearchValue). search.cursor) (listed.full (omega arith)) in
        λ answer is. (
          λ above. subst (λ cursor. IsAbove old.searched.lexicon.rules cursor answer) cursor_is above,
          λ above. subst (λ cursor. IsAbove old.searched.lexicon.rules cursor answer) (sym cursor_is) above,
        )
  ]
