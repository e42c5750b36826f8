-- What a test of the end of a slice says.
use Rattle.std.proofs.Common.{ℕ, ◌-◌, List, ◌↔◌, IsTrue, length, take, subst}
use Rattle.std.proofs.lemmas.Bool.Decides.{Decides-eqb}
use Rattle.std.proofs.lemmas.Slice.Eq.{ends_is}
use Rattle.chain_definitions.specs.Chains.{EndsWith}
use Rattle.joiner.proofs.meeting.ends_with.Goals as goal

pub returns : goal.returns
returns c =
    let r = c.ends_with.result in
    let s = c.as_slice.result.now in
    let p = c.as_slice-2.result.now in
    let is = ends_is Decides-eqb s p r c.ends_with.ensures.value in
    subst (λ (form : List ℕ). IsTrue r ↔ EndsWith form c.args.word.now) c.as_slice.ensures.value
    (subst (λ (word : List ℕ). IsTrue r ↔ EndsWith s word) c.as_slice-2.ensures.value
    ((λ t. (take (length s - length p) s, is.0 t)), λ h. is.1 h.0 h.1))
