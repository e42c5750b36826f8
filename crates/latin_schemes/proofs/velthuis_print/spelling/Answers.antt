-- The entry of the static table is the entry of the scheme's table at the same place, and none is empty.
use Rattle.std.proofs.Common.{◌≡◌, ℕ, zero, suc, ◌-◌, ◌<◌, List, [], ◌∷◌, map, length, get_or, subst, sym, ap, refl}
use Rattle.std.specs.Borrow.{Bor}
use Rattle.text_definitions.specs.Velthuis.{velthuis_table}
use Rattle.text_definitions.proofs.VelthuisTable.{some_bytes}
use Rattle.latin_schemes.proofs.velthuis_print.spelling.Goals as goal

-- what an entry points to stands at the same place in the list of what the entries point to
entry_now : (entries : List (Bor (List ℕ))) (at : ℕ) (other : Bor (List ℕ)) → (get_or entries at other).now ≡ get_or (map (λ x. x.now) entries) at other.now
entry_now [] at other = refl
entry_now (entry ∷ entries) zero other = refl
entry_now (entry ∷ entries) (suc at) other = entry_now entries at other

pub returns-clause-value : goal.returns-clause-value
unfolding velthuis_table
returns-clause-value c = rw entry_now (ap (λ code. get_or velthuis_table (code - 1) []) c.code.ensures.value)

pub returns-clause-length : goal.returns-clause-length
unfolding velthuis_table
returns-clause-length c =
    rw entry_now (subst (λ code. 0 < length (get_or velthuis_table (code - 1) [])) (sym c.code.ensures.value) (some_bytes c.args.letter c.code.ensures.letter))
