-- Chains: lists of steps whose forms and rules fit one another, before it is known which text they make (after Huet 2005,
-- rewriting at junctures; chains are own).
use Rattle.std.specs.Prelude.{◌≡◌, ℕ, List, [], ◌∷◌, ◌++◌}
use Rattle.lexicon_definitions.specs.Lexicons.{Lexicon, RuleSet}
use Rattle.segmentation_definitions.specs.Derivations.{Step, rule_after, AreForms, AreJoined, EndsWell}

-- the form begins with the word
abbrev pub BeginsWith : List ℕ → List ℕ → Type 0
BeginsWith form word = (rest : List ℕ) × (form ≡ word ++ rest)

-- the form ends with the word
abbrev pub EndsWith : List ℕ → List ℕ → Type 0
EndsWith form word = (front : List ℕ) × (form ≡ front ++ word)

-- the u after a step ends its form, and the v after it begins the form of the next step, which is the first of these
abbrev pub FitsBefore : RuleSet → Step → List Step → Type 0
FitsBefore rules step [] = EndsWith step.form (rule_after rules step).u
FitsBefore rules step (next ∷ steps) =
    EndsWith step.form (rule_after rules step).u × BeginsWith next.form (rule_after rules step).v

-- each step fits before the next
abbrev pub AreFitting : RuleSet → List Step → Type 0
AreFitting rules [] = Unit {0}
AreFitting rules (step ∷ steps) = FitsBefore rules step steps × AreFitting rules steps

-- a chain has forms of their phases, of which each two meet by a rule or unchanged over a plain pair; the last has no change
-- or a final rule after it; and each u and v is that of the forms at its two sides
pub record IsChain (lexicon : Lexicon) (steps : List Step) : Type 0 where
  pub forms : AreForms lexicon steps
  pub joined : AreJoined lexicon.rules steps
  pub ends : EndsWell lexicon.rules steps
  pub fitting : AreFitting lexicon.rules steps
