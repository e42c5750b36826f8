-- What comes of opening a lexicon file: its lexicon, or the outcome of a run that has none.
use Rattle.std.specs.Prelude.{◌≡◌, [], Some}
use Rattle.outside.specs.Files.{Files}
use Rattle.lexicon_definitions.specs.Lexicons.{Lexicon}
use Rattle.run_definitions.specs.Commands.{FileWord}
use Rattle.run_definitions.specs.Ends as ends
use Rattle.run_definitions.specs.Ends.{Outcome, outcome_over}
use Rattle.run_definitions.specs.Refusals.{file_refusal}
use Rattle.run_definitions.specs.LexiconTells.{NotThere, Refused, Holds, DoesTell}
use Rattle.commands.specs.RunEnds.{Devices}

-- the file tells the lexicon, and the devices tell what they told before
pub record HasOpened (lex : FileWord) (lexicon : Lexicon) (old new : Devices) : Type 0 where
  pub holds : (told : Files) → old.files ≡ Some told → DoesTell told lex.name (Holds lexicon)
  pub same : new ≡ old

-- the outcome, whatever the command is, where the file tells no lexicon: nothing is written where it is not there, and else its refusal
pub data IsUnopened (lex : FileWord) (files : Files) (outcome : Outcome) : Type 0 where
  Missing : DoesTell files lex.name NotThere → outcome ≡ outcome_over files [] ends.ReadFault → IsUnopened lex files outcome
  Faulty : (fault : ends.AnyFault) → DoesTell files lex.name (Refused fault)
      → outcome ≡ outcome_over files (file_refusal lex.name fault) (ends.BadFile lex.place fault) → IsUnopened lex files outcome
