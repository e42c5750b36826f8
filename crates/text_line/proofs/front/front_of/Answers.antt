-- The schemes in ASCII have the same marks.
use Rattle.std.proofs.Common.{◌∙◌}
use Rattle.text_line.proofs.Fronts.{latin_named}
use Rattle.text_line.proofs.front.front_of.Goals as goal

pub returns-in-Slp1 : goal.returns-in-Slp1
returns-in-Slp1 c = record {
  value = c.front_in_latin.ensures.value ∙ latin_named c.args.scheme c.args.text.now c.in-Slp1.is;
  length = c.front_in_latin.ensures.length;
}
