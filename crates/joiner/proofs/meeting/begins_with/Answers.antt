-- What a test of the front of a slice says.
use Rattle.std.proofs.Common.{ℕ, List, ◌↔◌, IsTrue, length, drop, subst}
use Rattle.std.proofs.lemmas.Bool.Decides.{Decides-eqb}
use Rattle.std.proofs.lemmas.Slice.Eq.{starts_is}
use Rattle.chain_definitions.specs.Chains.{BeginsWith}
use Rattle.joiner.proofs.meeting.begins_with.Goals as goal

pub returns : goal.returns
returns c =
    let r = c.starts_with.result in
    let s = c.as_slice.result.now in
    let p = c.as_slice-2.result.now in
    let is = starts_is Decides-eqb s p r c.starts_with.ensures.value in
    subst (λ (form : List ℕ). IsTrue r ↔ BeginsWith form c.args.word.now) c.as_slice.ensures.value
    (subst (λ (word : List ℕ). IsTrue r ↔ BeginsWith s word) c.as_slice-2.ensures.value
    ((λ t. (drop (length p) s, is.0 t)), λ h. is.1 h.0 h.1))
