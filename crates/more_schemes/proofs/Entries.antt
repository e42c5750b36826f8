-- The entry of a static table of texts is the entry of the list of what they point to.
use Rattle.std.proofs.Common.{◌≡◌, ℕ, zero, suc, List, [], ◌∷◌, map, get_or, refl}
use Rattle.std.specs.Borrow.{Bor}

pub entry_now : (entries : List (Bor (List ℕ))) (at : ℕ) (other : Bor (List ℕ)) → (get_or entries at other).now ≡ get_or (map (λ x. x.now) entries) at other.now
entry_now [] at other = refl
entry_now (entry ∷ entries) zero other = refl
entry_now (entry ∷ entries) (suc at) other = entry_now entries at other
