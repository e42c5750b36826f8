-- What is below the root are the overlaps of the phase.
use Rattle.std.proofs.Common.{◌≡◌, ℕ, List, get_or, subst, ◌∙◌}
use Rattle.std.proofs.lemmas.List.{get_or_default}
use Rattle.std.specs.Result.{OnOk}
use Rattle.strictness.specs.Walks.{IsBelow}
use Rattle.strictness.specs.Appending.{AppendsFirst}
use Rattle.strictness.proofs.LeadsAhead.{leads_at_all}
use Rattle.strictness.proofs.PhaseForms.{phase_appended}
use Rattle.strictness.proofs.listing.add_of_phase.Goals as goal

pub add_below-requires-clause-candidates : goal.add_below-requires-clause-candidates
add_below-requires-clause-candidates c =
    leads_at_all c.args.walk.now.rules.now c.args.walk.now.phase c.args.walk.now.longest _ c.args.leads.now c.requires.leads

pub returns : goal.returns
returns c =
    let rules = c.args.walk.now.rules.now in
    let trie = c.args.walk.now.store.now in
    let phase = c.args.walk.now.phase in
    let here : c.root-root.result ≡ get_or trie.roots phase c.root-root.result = c.root-root.ensures.value ∙ get_or_default trie.roots phase 0 c.root-root.result c.requires.phase in
    record {
      ok = phase_appended rules trie c.requires.walk.trie phase c.root-root.result c.requires.phase here c.args.found.now c.add_below.new.found c.add_below.result
          (subst (λ (front : List ℕ). OnOk c.add_below.result (AppendsFirst (IsBelow rules trie.rows phase front c.root-root.result) c.args.found.now c.add_below.new.found)) c.new-front.ensures
          c.add_below.ensures.ok);
    }
