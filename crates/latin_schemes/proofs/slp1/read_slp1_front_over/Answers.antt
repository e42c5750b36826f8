-- The table of codes agrees with the scheme's table at each byte, so the first bytes spell the same word by both, and the byte after them
-- is a letter by neither.
use Rattle.std.proofs.Common.{slice_index, ◌∙◌, sym, arith, refl}
use Rattle.std.proofs.lemmas.Result.{IfOk-weaker}
use Rattle.text_definitions.specs.Slp1.{slp1_table, word_of_slp1}
use Rattle.latin_schemes.specs.declared.slp1.TheConstants.{CODES}
use Rattle.latin_schemes.proofs.Tables.{spelled_front, same_at}
use Rattle.latin_schemes.proofs.slp1.read_slp1_front_over.Goals as goal

pub returns-clause-spelled : goal.returns-clause-spelled
unfolding word_of_slp1 slp1_table
returns-clause-spelled c =
    IfOk-weaker c.read_front_over.result _ _ (λ front e. spelled_front CODES slp1_table refl c.args.text.now (λ i. omega (arith, c.type_inv.text i)) front.1 front.0 e) c.read_front_over.ensures.spelled

pub returns-clause-longest : goal.returns-clause-longest
unfolding slp1_table
returns-clause-longest c =
    IfOk-weaker c.read_front_over.result _ _ (λ front e within. sym (same_at CODES slp1_table refl (slice_index c.args.text.now front.1) (omega (arith, c.type_inv.text front.1))) ∙ e within) c.read_front_over.ensures.longest
