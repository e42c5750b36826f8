-- Where a step leads to: the letters covered, the entrance, the phases and the keys of the longer front, and its rank.
use Rattle.std.proofs.Common.{◌≡◌, ℕ, ◌+◌, List, [], ◌∷◌, ◌++◌, length, sym, ap, ◌∙◌, arith}
use Rattle.std.proofs.lemmas.List.{map-append}
use Rattle.text_definitions.specs.Lines.{Line}
use Rattle.lexicon_definitions.specs.Lexicons.{Lexicon, RuleSet, rule_of}
use Rattle.segmentation_definitions.specs.Derivations.{Step, phases_of}
use Rattle.segmentation_definitions.specs.Items.{Choice, covered_from}
use Rattle.segmentation_definitions.specs.Listings.{Key, keys_of}
use Rattle.segmentation_definitions.specs.Configurations.{Entrance, Start, entrance_after, entrance_after_step}
use Rattle.answer_paths.specs.Fronts.{ways_of}
use Rattle.answer_paths.specs.Following.{step_at}
use Rattle.answer_paths.proofs.FrontParts.{covered-append, entrance-append}
use Rattle.answer_paths.proofs.LocalKeys.{added_key, follows_if_leads}

-- where the front with the key's step more ends
pub record EndsAfter (rules : RuleSet) (line : Line) (front : List Step) (key : Key) (at : ℕ) (entrance : Entrance) (next : List Step) : Type 0 where
  pub covered : covered_from rules 0 [] next ≡ at + key.taken + length (rule_of rules key.rule).w
  pub entered : entrance_after rules Start next ≡ entrance_after_step rules (step_at rules line at entrance key)
  pub phases : phases_of next ≡ phases_of front ++ key.phase ∷ []
  pub keys : keys_of rules next ≡ keys_of rules front ++ key ∷ []

-- where a key that leads on leads to
pub ends_after : (lexicon : Lexicon) (line : Line) (choices : List Choice) (front next : List Step) (key : Key) (at : ℕ) (entrance : Entrance)
    → at ≡ covered_from lexicon.rules 0 [] front → entrance ≡ entrance_after lexicon.rules Start front
    → (ways_of lexicon line choices).leads front key next → EndsAfter lexicon.rules line front key at entrance next
ends_after lexicon line choices front next key at entrance at_is entrance_is leads =
    let rules = lexicon.rules in
    let adds = leads.0 in
    let step = adds.step in
    let next_is = adds.is in
    let key_is = added_key rules front key next adds in
    let taken = ap (λ (k : Key). k.taken) key_is in
    let rule = ap (λ (k : Key). length (rule_of rules k.rule).w) key_is in
    let phase = ap (λ (k : Key). k.phase) key_is in
    let more = covered-append rules 0 [] front (step ∷ []) in
    let step_is = follows_if_leads lexicon line choices front key next leads in
    record {
      covered = omega (arith, ap (covered_from rules 0 []) next_is, more, taken, rule, at_is);
      entered = ap (entrance_after rules Start) step_is.0
          ∙ entrance-append rules Start front _
          ∙ ap (λ at. entrance_after_step rules (step_at rules line at (entrance_after rules Start front) key)) (sym at_is)
          ∙ ap (λ entrance. entrance_after_step rules (step_at rules line at entrance key)) (sym entrance_is);
      phases = ap phases_of next_is ∙ map-append (λ (step : Step). step.phase) front (step ∷ []) ∙ ap (λ phase. phases_of front ++ phase ∷ []) phase;
      keys = adds.keys;
    }
