-- Nor is the next phase, which a rule tells from this one.
use Rattle.std.proofs.Common.{◌≡◌, ℕ, inl, inr, sym, subst, ◌∙◌, arith}
use Rattle.std.proofs.lemmas.Bool.{cases_lt, false≢true}
use Rattle.annotated_trie.specs.AlikePhases.{IsAlike}
use Rattle.annotated_trie.proofs.alike_phases.first_alike.Goals as goal

pub loop-earlier-preserved : goal.loop-earlier-preserved
loop-earlier-preserved c other low alike =
    elim (cases_lt other c.loop-earlier.earlier) [
      | inl below ↦ c.loop-earlier.invariant other below alike
      | inr from ↦
          let here : other ≡ c.loop-earlier.earlier = omega (arith, from, low) in
          false≢true (sym c.if-are_alike.false ∙ c.are_alike.ensures.1 (subst (λ (n : ℕ). IsAlike c.args.rules.now n c.args.phase) here alike))
    ]
