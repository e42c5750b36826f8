-- The characters of each spelling are composed already, whatever stands beside them.
use Rattle.std.proofs.lemmas.List.Elements.{recursion_from_All}
use Rattle.text_definitions.specs.Letters.{IsLetter}
use Rattle.more_scheme_definitions.proofs.ComposedSpellings.{printed_is_utf8, printed_is_composed}
use Rattle.more_scheme_definitions.proofs.spellings.printed_iast_is_composed.Goals as goal

pub returns-clause-utf8 : goal.returns-clause-utf8
returns-clause-utf8 c = λ word l. printed_is_utf8 word (recursion_from_All IsLetter word l)

pub returns-clause-same : goal.returns-clause-same
returns-clause-same c = λ word l. printed_is_composed word (recursion_from_All IsLetter word l)
