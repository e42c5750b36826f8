-- Lists of JSON values that grow with each turn of a loop, and the parts of a step's object.
use Rattle.std.proofs.Common.{◌≡◌, ℕ, ◌+◌, ◌<◌, ◌≤◌, List, [], ◌∷◌, ◌++◌, length, map, take, drop, get_or, sym, subst, ◌∙◌, ap, ap₂, append_assoc, append-nil, add-one}
use Rattle.std.proofs.lemmas.List.{take_more, map-append, drop_all}
use Rattle.std.proofs.Math.Seq.{drop-cons}
use Rattle.serde_json.specs.Data.{Data, string}
use Rattle.serde_json.specs.View.{view}
use Rattle.serde_json.specs.declared.value.Value.{Value}
use Rattle.lexicon_definitions.specs.Lexicons.{Lexicon, rule_of}
use Rattle.derivation.specs.declared.step.Step.{Step}
use Rattle.derivation.specs.Steps.{StandFrom, placed_with, places_of}
use Rattle.note_definitions.specs.NoteTexts.{segment_of}

-- one text more
pub text_pushed : {A : Type 0} (text : A → List ℕ) (xs : List A) (i : ℕ) (d : A) (old new : List Value) (value : Value) → i < length xs
    → map view old ≡ map string (map text (take i xs)) → new ≡ old ++ value ∷ [] → view value ≡ string (text (get_or xs i d))
    → map view new ≡ map string (map text (take (i + 1) xs))
text_pushed text xs i d old new value inside so_far pushed is =
    ap (map view) pushed ∙ map-append view old (value ∷ [])
    ∙ ap₂ (λ (l : List Data) (v : Data). l ++ v ∷ []) so_far is
    ∙ sym (map-append string (map text (take i xs)) (text (get_or xs i d) ∷ []))
    ∙ ap (map string) (sym (map-append text (take i xs) (get_or xs i d ∷ [])))
    ∙ ap (λ (l : List _). map string (map text l)) (sym (take_more xs i d inside))

-- the object of one step more
pub segment_pushed : (lexicon : Lexicon) (letters lead : List ℕ) (old new : List Value) (value : Value) (step : Step) (rest : List Step) (all : List Data)
    → map view old ++ map (segment_of lexicon) (places_of lexicon.rules letters lead (step ∷ rest)) ≡ all
    → new ≡ old ++ value ∷ [] → view value ≡ segment_of lexicon (placed_with lexicon.rules letters lead step)
    → map view new ++ map (segment_of lexicon) (places_of lexicon.rules letters (rule_of lexicon.rules step.rule).v rest) ≡ all
segment_pushed lexicon letters lead old new value step rest all so_far pushed is =
    let others = map (segment_of lexicon) (places_of lexicon.rules letters (rule_of lexicon.rules step.rule).v rest) in
    ap (λ (l : List Value). map view l ++ others) pushed
    ∙ ap (λ (l : List Data). l ++ others) (map-append view old (value ∷ []))
    ∙ append_assoc (map view old) (view value ∷ []) others
    ∙ ap (λ (v : Data). map view old ++ v ∷ others) is ∙ so_far

-- ---- the loop over the steps

next_step : (steps : List Step) (i : ℕ) (d : Step) → i < length steps → drop i steps ≡ get_or steps i d ∷ drop (i + 1) steps
next_step steps i d h = drop-cons steps i d h ∙ ap (λ (n : ℕ). get_or steps i d ∷ drop n steps) (sym (add-one i))

-- the objects so far and those of the steps that are left are together all, and these steps stand after the rule with this number
pub record AreMade (lexicon : Lexicon) (letters : List ℕ) (before : ℕ) (left : List Step) (made : List Value) (all : List Data) : Type 0 where
  pub before_rule : before ≤ length lexicon.rules.rules
  pub stand : (start : ℕ) × StandFrom lexicon.rules letters start (rule_of lexicon.rules before).v left
  pub together : map view made ++ map (segment_of lexicon) (places_of lexicon.rules letters (rule_of lexicon.rules before).v left) ≡ all

made_step : (lexicon : Lexicon) (letters : List ℕ) (before : ℕ) (step : Step) (rest : List Step) (old new : List Value) (value : Value) (all : List Data)
    → AreMade lexicon letters before (step ∷ rest) old all → new ≡ old ++ value ∷ []
    → view value ≡ segment_of lexicon (placed_with lexicon.rules letters (rule_of lexicon.rules before).v step)
    → AreMade lexicon letters step.rule rest new all
made_step lexicon letters before step rest old new value all so_far pushed is = record {
  before_rule = so_far.stand.1.0.rule;
  stand = (step.at + step.taken + length (rule_of lexicon.rules step.rule).w, so_far.stand.1.1);
  together = segment_pushed lexicon letters (rule_of lexicon.rules before).v old new value step rest all so_far.together pushed is;
}

pub made_next : (lexicon : Lexicon) (letters : List ℕ) (before : ℕ) (steps : List Step) (i : ℕ) (d : Step) (old new : List Value) (value : Value) (all : List Data)
    → i < length steps → AreMade lexicon letters before (drop i steps) old all → new ≡ old ++ value ∷ []
    → view value ≡ segment_of lexicon (placed_with lexicon.rules letters (rule_of lexicon.rules before).v (get_or steps i d))
    → AreMade lexicon letters (get_or steps i d).rule (drop (i + 1) steps) new all
made_next lexicon letters before steps i d old new value all inside so_far pushed is =
    made_step lexicon letters before (get_or steps i d) (drop (i + 1) steps) old new value all
    (subst (λ (left : List Step). AreMade lexicon letters before left old all) (next_step steps i d inside) so_far) pushed is

-- after the last step
pub made_all : (lexicon : Lexicon) (letters : List ℕ) (before : ℕ) (steps : List Step) (i : ℕ) (list : List Value) (all : List Data)
    → length steps ≤ i → AreMade lexicon letters before (drop i steps) list all → map view list ≡ all
made_all lexicon letters before steps i list all past so_far =
    sym (append-nil (map view list))
    ∙ ap (λ (left : List Step). map view list ++ map (segment_of lexicon) (places_of lexicon.rules letters (rule_of lexicon.rules before).v left)) (sym (drop_all i steps past))
    ∙ so_far.together
