-- What is read is a chain; what it is joined to is written, or the first fault of the text.
use Rattle.std.proofs.Common.{refl, sym, subst}
use Rattle.chain_definitions.specs.Chains.{IsChain}
use Rattle.chain_definitions.proofs.ReadChains.{chain_if_read}
use Rattle.joiner.specs.declared.chain_fault.ChainError.{ChainError}
use Rattle.joiner.specs.Faults.{IsChainFault}
use Rattle.commands.specs.Ends.{Silently, InWords, Nothing, Something}
use Rattle.commands.specs.Joins.{Told, OfChain}
use Rattle.commands.proofs.join.write_chain.Goals as goal

pub returns-in-Err-Fault : goal.returns-in-Err-Fault
returns-in-Err-Fault g c =
    let lexicon = c.args.lexicon.now.lexicon in
    let told = subst (λ (e : ChainError). IsChainFault e lexicon c.as_bytes.result.now) c.in-Err-Fault.field-0-is c.in-Err-Fault.ensures.fault in
    elim c.refuse_chain.ensures [
      | Silently memory same ↦ Nothing memory same
      | InWords finishes ↦ Something _ _ (OfChain c.in-Err-Fault.fault refl (rw c.as_bytes.ensures.value at told) refl) finishes
    ]

pub print_joined-requires : goal.print_joined-requires
print_joined-requires g c =
    let lexicon = c.args.lexicon.now.lexicon in
    subst (IsChain lexicon) (sym c.as_slice.ensures.value)
    (chain_if_read lexicon c.as_bytes.result.now c.in-Ok.links.items c.in-Ok.ensures.ok).chain

pub returns-in-Ok-print_joined : goal.returns-in-Ok-print_joined
returns-in-Ok-print_joined g c =
    Something _ _ (Told c.in-Ok.links.items refl (rw c.as_bytes.ensures.value at c.in-Ok.ensures.ok)
    (rw c.as_slice.ensures.value at c.in-Ok-print_joined.ensures.ok)) (rw (← c.as_bytes-in-Ok-print_joined.ensures.value) c.finish.ensures)
