-- What `join` writes over a lexicon for the text of a chain.
use Rattle.std.specs.Prelude.{◌≡◌, ℕ, List, Ok, Err}
use Rattle.lexicon_definitions.specs.Lexicons.{Lexicon}
use Rattle.segmentation_definitions.specs.Derivations.{Step}
use Rattle.chain_definitions.specs.ChainReadings.{IsChainRead}
use Rattle.chain_definitions.specs.JoinedChains.{Joined, IsJoinedTo}
use Rattle.joiner.specs.declared.chain_fault.ChainFault.{ChainFault}
use Rattle.joiner.specs.Faults.{fault_of}
use Rattle.run_definitions.specs.JoinOutcomes.{printed_joined}
use Rattle.run_definitions.specs.Refusals.{chain_refusal}
use Rattle.commands.specs.declared.status.Status.{Status}
use Rattle.commands.specs.declared.status.Status.TheVariants.{Done, BadChain}

-- the output tells what the chain is joined to
pub record IsPrintedJoined (lexicon : Lexicon) (steps : List Step) (output : List ℕ) : Type 0 where
  pub joined : Joined
  pub is_joined : IsJoinedTo lexicon steps joined
  pub printed : output ≡ printed_joined lexicon.rules joined

-- what is written before the status: what the chain of the text is joined to, or the refusal of the text
pub data WritesChain (chain : List ℕ) (lexicon : Lexicon) (status : Status) (output : List ℕ) : Type 0 where
  Told : (steps : List Step) → status ≡ Done → IsChainRead lexicon chain (Ok steps) → IsPrintedJoined lexicon steps output
      → WritesChain chain lexicon status output
  OfChain : (fault : ChainFault) → status ≡ BadChain fault → IsChainRead lexicon chain (Err (fault_of fault))
      → output ≡ chain_refusal (fault_of fault) → WritesChain chain lexicon status output
