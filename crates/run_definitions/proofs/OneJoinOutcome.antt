-- A text is read in one way over a lexicon, and its chain is joined to one thing; so `join` has one outcome.
use Rattle.std.proofs.Common.{◌≡◌, ℕ, List, Ok, Err, sym, ◌∙◌, ap, subst}
use Rattle.outside.specs.Files.{Files}
use Rattle.lexicon_definitions.specs.Lexicons.{Lexicon}
use Rattle.segmentation_definitions.specs.Derivations.{Step}
use Rattle.chain_definitions.specs.ChainFaults.{Fault}
use Rattle.chain_definitions.specs.JoinedChains.{Joined}
use Rattle.chain_definitions.proofs.ReadOnce.{read_once}
use Rattle.chain_definitions.proofs.JoinedOnce.{joined_once}
use Rattle.run_definitions.specs.Ends.{Outcome, Done, BadChain, outcome_over}
use Rattle.run_definitions.specs.Refusals.{chain_refusal}
use Rattle.run_definitions.specs.JoinOutcomes.{printed_joined, IsJoinedOutcome, IsChainOutcome, OfFault, OfSteps}

one_joined_outcome : (lexicon : Lexicon) (steps : List Step) (files : Files) (a b : Outcome) → IsJoinedOutcome lexicon steps files a
    → IsJoinedOutcome lexicon steps files b → a ≡ b
one_joined_outcome lexicon steps files a b p q =
    let same : p.joined ≡ q.joined = joined_once lexicon steps p.joined q.joined p.is_joined q.is_joined in
    p.is ∙ ap (λ (j : Joined). outcome_over files (printed_joined lexicon.rules j) Done) same ∙ sym q.is

-- `join` has one outcome over a lexicon
pub one_chain_outcome : (lexicon : Lexicon) (chain : List ℕ) (files : Files) (a b : Outcome) → IsChainOutcome lexicon chain files a
    → IsChainOutcome lexicon chain files b → a ≡ b
one_chain_outcome lexicon chain files a b (OfFault fault p e) (OfFault other q f) =
    let same : Err fault ≡ Err other = read_once lexicon chain (Err fault) (Err other) p q in
    let same_fault : fault ≡ other = cc in
    e ∙ ap (λ (x : Fault). outcome_over files (chain_refusal x) (BadChain x)) same_fault ∙ sym f
one_chain_outcome lexicon chain files a b (OfFault fault p e) (OfSteps steps q f) =
    let same : Err fault ≡ Ok steps = read_once lexicon chain (Err fault) (Ok steps) p q in absurd (cc)
one_chain_outcome lexicon chain files a b (OfSteps steps p e) (OfFault fault q f) =
    let same : Ok steps ≡ Err fault = read_once lexicon chain (Ok steps) (Err fault) p q in absurd (cc)
one_chain_outcome lexicon chain files a b (OfSteps steps p e) (OfSteps other q f) =
    let same : Ok steps ≡ Ok other = read_once lexicon chain (Ok steps) (Ok other) p q in
    let same_steps : steps ≡ other = cc in
    one_joined_outcome lexicon other files a b (subst (λ (s : List Step). IsJoinedOutcome lexicon s files a) same_steps e) f
