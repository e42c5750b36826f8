-- The leads of rules with one more are the leads with its v, by induction on the rules; so the set of leads is kept by what is put
-- in with each rule.
use Rattle.std.proofs.Common.{◌≡◌, ℕ, List, [], ◌∷◌, ◌++◌, sym, ◌∙◌, ap}
use Rattle.lexicon_definitions.specs.Rules.{Rule}
use Rattle.lexicon_text_definitions.specs.FileContents.{with_v, different_v}
use Rattle.lexicon_text_definitions.proofs.FileLeads.{leads_with}

-- the rule's v is put among the leads, and the rule goes last
pub leads_put : (before rules : List Rule) (rule : Rule) (leads roomy after : List (List ℕ)) (v : List ℕ) → leads ≡ different_v before → roomy ≡ leads → v ≡ rule.v
    → after ≡ with_v roomy v → rules ≡ before ++ rule ∷ [] → after ≡ different_v rules
leads_put before rules rule leads roomy after v led same lead put pushed =
    put ∙ (λ i. with_v ((same ∙ led) i) (lead i)) ∙ sym (ap different_v pushed ∙ leads_with before rule)
