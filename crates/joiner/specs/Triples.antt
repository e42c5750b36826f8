-- The words of rules for which the program's triples stand.
use Rattle.std.specs.Prelude.{Option, option_map}
use Rattle.chain_definitions.specs.ChainTexts.{Triple}
use Rattle.sandhi_rules.specs.declared.triple.Triple.{Triple as ProgramTriple}

-- the words of the program's triple
abbrev pub words_of : ProgramTriple → Triple
words_of triple = record { u = triple.u; v = triple.v; w = triple.w }

-- the words of the rule after a form, or none where there is no change
abbrev pub change_of : Option ProgramTriple → Option Triple
change_of change = option_map words_of change
