-- The words of `join`, and what it does with the name of a lexicon file and the text of a chain (own).
use Rattle.std.specs.Prelude.{◌≡◌, ℕ, ◌++◌, Bool, true, false, List, [], ◌∷◌, Ok, Err, codes}
use Rattle.outside.specs.Files.{Files}
use Rattle.text_definitions.specs.Slp1.{slp1_of_word}
use Rattle.lexicon_definitions.specs.Lexicons.{Lexicon, RuleSet}
use Rattle.segmentation_definitions.specs.Derivations.{Step}
use Rattle.segmentation_definitions.specs.PrintedAnswers.{output_line}
use Rattle.chain_definitions.specs.ChainFaults.{Fault}
use Rattle.chain_definitions.specs.ChainReadings.{IsChainRead}
use Rattle.chain_definitions.specs.JoinedChains.{Joined, Text, Overlap, IsJoinedTo}
use Rattle.run_definitions.specs.Arguments.{FileWord, AreNamed}
use Rattle.run_definitions.specs.Ends.{Outcome, Done, ReadFault, BadFile, BadChain, outcome_over}
use Rattle.run_definitions.specs.Refusals.{file_refusal, chain_refusal, usage_outcome}
use Rattle.run_definitions.specs.LexiconTells.{FileTells, NotThere, Refused, Holds, DoesTell}
use Rattle.run_definitions.specs.Overlaps.{printed_overlap}

-- ---- the words

-- it takes the name of a lexicon file and the text of a chain
abbrev pub TakesJoin : FileWord → List ℕ → List (List ℕ) → List FileWord → Type 0
TakesJoin lex chain values arguments =
    (values ≡ []) × ((place : ℕ) × (arguments ≡ lex ∷ record { place = place; name = chain } ∷ []))

-- the words are those of `join` with these
abbrev pub AreJoinWords : FileWord → List ℕ → List (List ℕ) → Type 0
AreJoinWords lex chain words = AreNamed (codes "join") (TakesJoin lex chain) words

-- ---- the outcome

-- whether a chain is an answer
abbrev pub printed_answer : Bool → List ℕ
printed_answer true = output_line (codes "answer")
printed_answer false = output_line (codes "no answer")

-- `text WORD`, the word in SLP1, and whether the chain is one of its answers; or the overlap, as `check` prints it
abbrev pub printed_joined : RuleSet → Joined → List ℕ
printed_joined rules (Text word answer) = output_line (codes "text " ++ slp1_of_word word) ++ printed_answer answer
printed_joined rules (Overlap phase form before after) =
    output_line (printed_overlap rules (record { phase = phase; form = form; before = before; after = after }))

-- what a chain is joined to is written
pub record IsJoinedOutcome (lexicon : Lexicon) (steps : List Step) (files : Files) (outcome : Outcome) : Type 0 where
  pub joined : Joined
  pub is_joined : IsJoinedTo lexicon steps joined
  pub is : outcome ≡ outcome_over files (printed_joined lexicon.rules joined) Done

-- with a lexicon, the first fault of a chain's text is written, or what its chain is joined to
pub data IsChainOutcome (lexicon : Lexicon) (chain : List ℕ) (files : Files) (outcome : Outcome) : Type 0 where
  OfFault : (fault : Fault) → IsChainRead lexicon chain (Err fault)
      → outcome ≡ outcome_over files (chain_refusal fault) (BadChain fault) → IsChainOutcome lexicon chain files outcome
  OfSteps : (steps : List Step) → IsChainRead lexicon chain (Ok steps) → IsJoinedOutcome lexicon steps files outcome
      → IsChainOutcome lexicon chain files outcome

-- by what the file tells: nothing is written, its refusal is, or it goes on with the chain
abbrev pub IsJoinOutcomeWith : FileTells → FileWord → List ℕ → Files → Outcome → Type 0
IsJoinOutcomeWith NotThere lex chain files outcome = outcome ≡ outcome_over files [] ReadFault
IsJoinOutcomeWith (Refused fault) lex chain files outcome =
    outcome ≡ outcome_over files (file_refusal lex.name fault) (BadFile lex.place fault)
IsJoinOutcomeWith (Holds lexicon) lex chain files outcome = IsChainOutcome lexicon chain files outcome

-- the outcome of `join` with this name of a file and this text of a chain
pub record IsJoinOutcome (lex : FileWord) (chain : List ℕ) (files : Files) (outcome : Outcome) : Type 0 where
  pub tells : FileTells
  pub does_tell : DoesTell files lex.name tells
  pub is_outcome : IsJoinOutcomeWith tells lex chain files outcome

-- ---- the run

-- the outcome of a run whose first word is `join`: that of the command, or where the words are not its words `usage`
pub data IsJoinRun (words : List (List ℕ)) (files : Files) (outcome : Outcome) : Type 0 where
  OfWords : (lex : FileWord) (chain : List ℕ) → AreJoinWords lex chain words → IsJoinOutcome lex chain files outcome
      → IsJoinRun words files outcome
  OfOthers : ((lex : FileWord) (chain : List ℕ) → AreJoinWords lex chain words → ⊥) → outcome ≡ usage_outcome files
      → IsJoinRun words files outcome
