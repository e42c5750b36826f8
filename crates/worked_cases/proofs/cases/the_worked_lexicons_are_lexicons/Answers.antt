-- Each is shown where the lexicons are written out.
use Rattle.worked_cases.proofs.SmallLexicons.{ceti_is_lexicon, uvaaca_is_lexicon, preverb_is_lexicon, overlap_is_lexicon, naasti_is_lexicon, devadatta_is_lexicon, devah_is_lexicon, twofold_is_lexicon, vowel_is_lexicon, final_is_lexicon, limited_is_lexicon, limited_before_is_lexicon}
use Rattle.worked_cases.proofs.cases.the_worked_lexicons_are_lexicons.Goals as goal

pub returns-clause-ceti : goal.returns-clause-ceti
returns-clause-ceti c = ceti_is_lexicon

pub returns-clause-uvaaca : goal.returns-clause-uvaaca
returns-clause-uvaaca c = uvaaca_is_lexicon

pub returns-clause-preverb : goal.returns-clause-preverb
returns-clause-preverb c = preverb_is_lexicon

pub returns-clause-overlap : goal.returns-clause-overlap
returns-clause-overlap c = overlap_is_lexicon

pub returns-clause-naasti : goal.returns-clause-naasti
returns-clause-naasti c = naasti_is_lexicon

pub returns-clause-devadatta : goal.returns-clause-devadatta
returns-clause-devadatta c = devadatta_is_lexicon

pub returns-clause-devah : goal.returns-clause-devah
returns-clause-devah c = devah_is_lexicon

pub returns-clause-twofold : goal.returns-clause-twofold
returns-clause-twofold c = twofold_is_lexicon

pub returns-clause-vowel : goal.returns-clause-vowel
returns-clause-vowel c = vowel_is_lexicon

pub returns-clause-final_rule : goal.returns-clause-final_rule
returns-clause-final_rule c = final_is_lexicon

pub returns-clause-limited : goal.returns-clause-limited
returns-clause-limited c = limited_is_lexicon

pub returns-clause-limited_before : goal.returns-clause-limited_before
returns-clause-limited_before c = limited_before_is_lexicon
