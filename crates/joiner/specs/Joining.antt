-- What the program joins a chain to, as the definitions have it, and what it tells of the links on the way.
use Rattle.std.specs.Prelude.{◌≡◌, ℕ, ◌<◌, ◌≤◌, ◌⊎◌, Option, Some, None, List, [], ◌∷◌, ◌++◌, length}
use Rattle.lexicon_definitions.specs.Lexicons.{RuleSet, rule_of}
use Rattle.segmentation_definitions.specs.Derivations.{Step, rule_after}
use Rattle.segmentation_definitions.specs.Overlaps as rules
use Rattle.strictness.specs.Matches.{AreLonger}
use Rattle.chain_definitions.specs.JoinedChains as chain
use Rattle.joiner.specs.declared.joined.Joined.{Joined}
use Rattle.joiner.specs.declared.joined.Joined.TheVariants.{Text, Overlap}

-- what the chain is joined to
abbrev pub joined_of : Joined → chain.Joined
joined_of (Text word answer) = chain.Text word answer
joined_of (Overlap overlap) = chain.Overlap overlap.phase overlap.form overlap.before overlap.after

-- the number after the step is that of a rule or 0
abbrev pub HasNumber : RuleSet → Step → Type 0
HasNumber rules step = step.rule ≤ length rules.rules

-- the step's phase is one of so many
abbrev pub HasNumberedPhase : ℕ → Step → Type 0
HasNumberedPhase count step = step.phase < count

-- the step's form, with the rule before it, which has this number, and the rule after it
abbrev pub pair_at : ℕ → Step → rules.Overlap
pair_at before step = record { phase = step.phase; form = step.form; before = before; after = step.rule }

-- this is the first of the steps whose form has fewer letters than the v before it and the u after it, or none is; the first of the
-- steps comes after the rule with this number
abbrev pub IsFirstFound : RuleSet → ℕ → List Step → Option rules.Overlap → Type 0
IsFirstFound rules before [] found = found ≡ None
IsFirstFound rules before (step ∷ steps) found =
    (AreLonger rules before step.rule step.form × (found ≡ Some (pair_at before step)))
    ⊎ ((AreLonger rules before step.rule step.form → ⊥) × IsFirstFound rules step.rule steps found)

-- the form is the v of the rule before it, then the letters that it takes, then the u of the rule after it
abbrev pub Takes : RuleSet → ℕ → Step → List ℕ → Type 0
Takes rules before step taken = step.form ≡ (rule_of rules before).v ++ taken ++ (rule_after rules step).u
