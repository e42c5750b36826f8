-- The program's trie, root, supplied letters and letters of the line are those of the definitions, so what was walked is what was asked.
use Rattle.std.proofs.Common.{◌≡◌, length, get_or, ◌∙◌, ap, arith}
use Rattle.text_definitions.specs.Lines.{Line}
use Rattle.lexicon_definitions.specs.Leads.{leads_of}
use Rattle.lexicon_definitions.specs.Lexicons.{RuleSet}
use Rattle.lexicon_definitions.specs.Tries.{Trie}
use Rattle.derivation.specs.Guides.{entrance_of}
use Rattle.answer_paths.specs.Fronts.{supplied}
use Rattle.annotated_trie.specs.Choices.{AnnotatedTrie}
use Rattle.search_frames.specs.Frames.{numbered_of}
use Rattle.search_frames.proofs.PossibleKeys.{root_in}
use Rattle.search_frames.proofs.WalkedPlaces.{place_walked, place_reached}
use Rattle.search_frames.proofs.walking.walk_place.Goals as goal

pub returns-clause-walked : goal.returns-clause-walked
returns-clause-walked g c =
    let searched = c.args.lexicon.now in
    let place = c.args.place.now in
    let trie : c.store-store.result.now ≡ searched.tries.trie = c.store-store.ensures ∙ ap (λ (t : AnnotatedTrie). t.trie) c.tries.ensures.value in
    let root : c.root.result ≡ root_in searched c.args.key.phase = c.root.ensures.value ∙ ap (λ (t : Trie). get_or t.roots c.args.key.phase 0) trie in
    let lead : c.supplied_letters-lead.result.now ≡ supplied (numbered_of searched place).entrance =
    c.supplied_letters-lead.ensures ∙ ap (λ (r : RuleSet). supplied (entrance_of (leads_of r.rules) place.entrance)) c.rules.ensures.value in
    let whole : c.as_slice-letters.result.now ≡ c.args.line.now.letters = c.as_slice-letters.ensures.value ∙ ap (λ (l : Line). l.letters) c.line.view_is in
    let long = ap length whole in
    place_walked searched c.args.line.now (numbered_of searched place) c.args.key.phase c.store-store.result.now.rows c.root.result c.supplied_letters-lead.result.now
    c.as_slice-letters.result.now c.min-end.result c.walk_fronts.result c.walk_fronts.new.nodes.items (ap (λ (t : Trie). t.rows) trie) root lead whole
    (omega (arith, c.requires.place.letters, c.min-end.ensures, long)) (omega (arith, c.min-end.ensures)) c.walk_fronts.ensures.few
    (omega (arith, c.requires.room, c.walk_fronts.ensures.count)) c.walk_fronts.ensures.within c.walk_fronts.ensures.walked

pub returns-clause-all : goal.returns-clause-all
returns-clause-all g c taken node few within walked =
    let searched = c.args.lexicon.now in
    let place = c.args.place.now in
    let trie : c.store-store.result.now ≡ searched.tries.trie = c.store-store.ensures ∙ ap (λ (t : AnnotatedTrie). t.trie) c.tries.ensures.value in
    let root : c.root.result ≡ root_in searched c.args.key.phase = c.root.ensures.value ∙ ap (λ (t : Trie). get_or t.roots c.args.key.phase 0) trie in
    let lead : c.supplied_letters-lead.result.now ≡ supplied (numbered_of searched place).entrance =
    c.supplied_letters-lead.ensures ∙ ap (λ (r : RuleSet). supplied (entrance_of (leads_of r.rules) place.entrance)) c.rules.ensures.value in
    let whole : c.as_slice-letters.result.now ≡ c.args.line.now.letters = c.as_slice-letters.ensures.value ∙ ap (λ (l : Line). l.letters) c.line.view_is in
    let long = ap length whole in
    place_reached searched c.args.line.now (numbered_of searched place) c.args.key.phase c.store-store.result.now.rows c.root.result c.supplied_letters-lead.result.now
    c.as_slice-letters.result.now c.min-end.result c.walk_fronts.result (ap (λ (t : Trie). t.rows) trie) root lead whole
    (omega (arith, c.requires.place.letters, c.min-end.ensures, long)) (omega (arith, c.min-end.ensures)) c.walk_fronts.ensures.all
    taken node (omega (arith, c.min-end.ensures, long, within, few)) walked
