-- The table of codes agrees with the scheme's table at each byte, so the text spells the same word by both.
use Rattle.std.proofs.Common.{◌≡◌, Ok, IfOk, IfErr, arith, subst, refl}
use Rattle.text_definitions.specs.Spellings.{Reading}
use Rattle.text_definitions.specs.Slp1.{slp1_table, word_of_slp1}
use Rattle.latin_schemes.specs.Faults.{IsFaultOf}
use Rattle.latin_schemes.specs.declared.slp1.TheConstants.{CODES}
use Rattle.latin_schemes.proofs.Tables.{same_word}
use Rattle.latin_schemes.proofs.slp1.read_slp1_over.Goals as goal

pub returns-clause-ok : goal.returns-clause-ok
unfolding word_of_slp1 slp1_table
returns-clause-ok c =
    subst (λ (reading : Reading). IfOk c.read_bytes_over.result (λ word. reading ≡ Ok word)) (same_word CODES slp1_table refl 0 c.args.text.now (λ i. omega (arith, c.type_inv.text i))) c.read_bytes_over.ensures.ok

pub returns-clause-fault : goal.returns-clause-fault
unfolding word_of_slp1 slp1_table
returns-clause-fault c =
    subst (λ (reading : Reading). IfErr c.read_bytes_over.result (λ error. IsFaultOf error reading)) (same_word CODES slp1_table refl 0 c.args.text.now (λ i. omega (arith, c.type_inv.text i))) c.read_bytes_over.ensures.fault
