-- The automaton recognizes the grammar's words, and its phases are those of the lexicon.
use Rattle.std.proofs.Common.{◌≡◌, All, sym, ◌∙◌, ap, subst}
use Rattle.segmentation_definitions.specs.Derivations.{phases_of}
use Rattle.phase_automaton.specs.Automata.{StateMachine, state_after, is_accepting}
use Rattle.joiner.specs.Joining.{HasNumberedPhase}
use Rattle.joiner.proofs.LinkSteps.{have_phases}
use Rattle.joiner.proofs.joining.is_phase_word.Goals as goal

pub accepts_links-requires : goal.accepts_links-requires
accepts_links-requires c =
    subst (λ (machine : StateMachine). All (HasNumberedPhase machine.phases) c.args.links.now) (sym c.automaton.ensures.value)
    (have_phases c.args.lexicon.now c.args.links.now c.requires.searched c.requires.forms)

pub returns : goal.returns
returns c =
    let lexicon = c.args.lexicon.now in
    let phases = phases_of c.args.links.now in
    let accepts : c.accepts_links.result ≡ is_accepting lexicon.machine (state_after lexicon.machine phases) =
    c.accepts_links.ensures ∙ ap (λ (machine : StateMachine). is_accepting machine (state_after machine phases)) c.automaton.ensures.value in
    let words = c.requires.searched.recognizes.accepts phases in
    ((λ yes. words.0 (sym accepts ∙ yes)), λ word. accepts ∙ words.1 word)
