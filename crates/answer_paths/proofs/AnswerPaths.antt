-- Answers are paths: by induction on the steps that are left, each front of an answer goes on to the next; and by induction
-- on a path, whose last key ends at an answer.
use Rattle.std.proofs.Common.{◌≡◌, ◌≢◌, List, [], ◌∷◌, ◌++◌, map, refl, sym, ap, subst, ◌∙◌, append_assoc}
use Rattle.text_definitions.specs.Lines.{Line}
use Rattle.lexicon_definitions.specs.Lexicons.{Lexicon, RuleSet, IsLexicon}
use Rattle.segmentation_definitions.specs.Derivations.{Step, rule_after, Covers}
use Rattle.segmentation_definitions.specs.Items.{Choice, placed_from, covered_from, next_at}
use Rattle.segmentation_definitions.specs.Answers.{IsAnswer}
use Rattle.segmentation_definitions.specs.Listings.{Key, key_of, keys_of}
use Rattle.segmentation_definitions.proofs.Fronts.{lead_after}
use Rattle.segmentation_definitions.proofs.KeyLists.{key_at, same_steps}
use Rattle.listing_laws.specs.Ways.{IsPath}
use Rattle.answer_paths.specs.Fronts.{AddsStep, ways_of}
use Rattle.answer_paths.proofs.FrontParts.{covered-append, lead-append, keys-append}
use Rattle.answer_paths.proofs.AnswerFronts.{front_of_answer}

-- a front with one step more
pub adds_step : (rules : RuleSet) (front : List Step) (step : Step)
    → AddsStep rules front (key_at rules (lead_after rules [] front) step) (front ++ step ∷ [])
adds_step rules front step = record { step = step; is = refl; keys = keys-append rules front step }

-- the keys of the steps that stand after a front
abbrev pub keys_after : RuleSet → List Step → List Step → List Key
keys_after rules front rest = map key_of (placed_from rules (covered_from rules 0 [] front) (lead_after rules [] front) rest)

-- what stands after a front with one step more
keys_after_more : (rules : RuleSet) (front : List Step) (step : Step) (rest : List Step)
    → keys_after rules (front ++ step ∷ []) rest
    ≡ map key_of (placed_from rules (next_at rules (covered_from rules 0 [] front) (lead_after rules [] front) step) (rule_after rules step).v rest)
keys_after_more rules front step rest =
    ap (λ at. map key_of (placed_from rules at (lead_after rules [] (front ++ step ∷ [])) rest)) (covered-append rules 0 [] front (step ∷ []))
    ∙ ap (λ lead. map key_of (placed_from rules (next_at rules (covered_from rules 0 [] front) (lead_after rules [] front) step) lead rest))
    (lead-append rules [] front step)

-- from each front of an answer the keys of the steps left are a path
pub path_of_rest : (lexicon : Lexicon) (line : Line) (choices : List Choice) → IsLexicon lexicon → (rest front : List Step) (next : Step)
    → IsAnswer lexicon line choices (front ++ next ∷ rest)
    → IsPath (ways_of lexicon line choices) front (keys_after lexicon.rules front (next ∷ rest))
path_of_rest lexicon line choices is [] front next answer = (front ++ next ∷ [], adds_step lexicon.rules front next, answer)
path_of_rest lexicon line choices is (second ∷ rest) front next answer =
    let longer = front ++ next ∷ [] in
    let answer' = subst (IsAnswer lexicon line choices) (sym (append_assoc front (next ∷ []) (second ∷ rest))) answer in
    let later = path_of_rest lexicon line choices is rest longer second answer' in (
      longer,
      (adds_step lexicon.rules front next, front_of_answer lexicon line choices longer second rest is answer'),
      subst (IsPath (ways_of lexicon line choices) longer) (keys_after_more lexicon.rules front next (second ∷ rest)) later,
    )

pub path_of_answer : (lexicon : Lexicon) (line : Line) (choices : List Choice) (steps : List Step) → IsLexicon lexicon
    → IsAnswer lexicon line choices steps → IsPath (ways_of lexicon line choices) [] (keys_of lexicon.rules steps)
path_of_answer lexicon line choices [] is answer = absurd answer.derives.ends
path_of_answer lexicon line choices (next ∷ rest) is answer = path_of_rest lexicon line choices is rest [] next answer

-- the steps that a path from a front adds to it
pub record Added (lexicon : Lexicon) (line : Line) (choices : List Choice) (front : List Step) (path : List Key) : Type 0 where
  pub rest : List Step
  pub some : rest ≢ []
  pub answer : IsAnswer lexicon line choices (front ++ rest)
  pub keys : keys_of lexicon.rules (front ++ rest) ≡ keys_of lexicon.rules front ++ path

pub answer_after : (lexicon : Lexicon) (line : Line) (choices : List Choice) (path : List Key) (front : List Step)
    → IsPath (ways_of lexicon line choices) front path → Added lexicon line choices front path
answer_after lexicon line choices [] front is = absurd is
answer_after lexicon line choices (key ∷ []) front (steps, adds, answer) = record {
  rest = adds.step ∷ [];
  some = λ e. cc;
  answer = subst (IsAnswer lexicon line choices) adds.is answer;
  keys = ap (keys_of lexicon.rules) (sym adds.is) ∙ adds.keys;
}
answer_after lexicon line choices (key ∷ later ∷ path) front (next, (adds, goes), is) =
    let more = answer_after lexicon line choices (later ∷ path) next is in
    let whole : next ++ more.rest ≡ front ++ (adds.step ∷ more.rest) =
    ap (λ steps. steps ++ more.rest) adds.is ∙ append_assoc front (adds.step ∷ []) more.rest in
    record {
      rest = adds.step ∷ more.rest;
      some = λ e. cc;
      answer = subst (IsAnswer lexicon line choices) whole more.answer;
      keys = ap (keys_of lexicon.rules) (sym whole) ∙ more.keys ∙ ap (λ keys. keys ++ later ∷ path) adds.keys
          ∙ append_assoc (keys_of lexicon.rules front) (key ∷ []) (later ∷ path);
    }

-- steps that cover the line's word and have the keys of a path are its answer
pub answer_with_keys : (lexicon : Lexicon) (line : Line) (choices : List Choice) (steps : List Step) (path : List Key)
    → Covers lexicon.rules [] steps line.letters [] → keys_of lexicon.rules steps ≡ path → IsPath (ways_of lexicon line choices) [] path
    → IsAnswer lexicon line choices steps
answer_with_keys lexicon line choices steps path covers keys is =
    let found = answer_after lexicon line choices path [] is in
    subst (IsAnswer lexicon line choices)
    (same_steps lexicon.rules found.rest steps 0 0 [] [] line.letters line.letters [] [] refl refl found.answer.derives.covers covers
    (found.keys ∙ sym keys))
    found.answer
