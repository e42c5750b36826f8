-- What the memo keeps of the front's rules are the states after which the line goes on by them (`LivingVisits`); no state of the set leads into one of
-- these, so none goes further by a key with such a rule.
use Rattle.std.proofs.Common.{◌≡◌, ◌+◌, ℕ, ◌↔◌, Bool, true, false, None, List, Contains, refl, sym, subst}
use Rattle.std.specs.Bool.{MatchBool, OnTrue}
use Rattle.segmentation_definitions.specs.Listings.{Key}
use Rattle.phase_automaton.specs.Automata.{StateMachine}
use Rattle.annotated_trie.specs.Choices.{AnnotatedTrie, choices_of}
use Rattle.search_frames.specs.Configurations.{IsPossible}
use Rattle.search_frames.specs.Frames.{numbered_of}
use Rattle.summary_chart.specs.declared.memo.Work.{Work}
use Rattle.summary_chart.specs.Memos.{HasWorks, IsSameWork, IsWork, LivesBy}
use Rattle.summary_chart.specs.Spreading.{IsByRule}
use Rattle.summary_chart.specs.StateSets.{HasState, LeadsInto}
use Rattle.summary_chart.specs.Summaries.{key_with}
use Rattle.summary_chart.proofs.AlikeWorks.{lives_alike}
use Rattle.summary_chart.proofs.FrontKeys.{choice_if_possible, front_node}
use Rattle.summary_chart.proofs.LivingKeys.{choice_number, same_work}
use Rattle.summary_chart.proofs.LivingVisits.{further_by, living_by_these}
use Rattle.summary_chart.proofs.SameKeys.{these_do}
use Rattle.summary_chart.proofs.SpreadMemos.{whole_rules, whole_work}
use Rattle.summary_chart.proofs.sought.LivingAloneSought.passes_over.Goals as goal

-- what holds where a test says yes
on_yes : (test : Bool) (P Q R : Type 0) → MatchBool test P Q → (P → R) → OnTrue test R
on_yes true P Q R is then = then is
on_yes false P Q R is then = tt

pub get-requires-clause-work : goal.get-requires-clause-work
get-requires-clause-work g c =
    let site = c.args.here.site in
    let searched = site.lexicon.now in
    let front = c.args.front.now in
    let work : Work = record { node = front.node; part = None; end = site.place.now.at + front.taken; may_end = c.in-Some.may_end; phase = c.alike_phase.result } in
    subst (λ (t : AnnotatedTrie). IsWork t work) (sym c.tries.ensures.value)
    (whole_work searched.tries work
    (front_node searched c.requires.here.site.searched site.line.now (numbered_of searched site.place.now) front.phase front.taken front.node c.requires.front) refl)

pub get-requires-clause-works : goal.get-requires-clause-works
get-requires-clause-works g c = subst (λ (t : AnnotatedTrie). HasWorks t c.args.self.now.memo.now) (sym c.tries.ensures.value) c.requires.known.1.works

pub returns-clause-none : goal.returns-clause-none
returns-clause-none g c =
    let site = c.args.here.site in
    let searched = site.lexicon.now in
    let line = site.line.now in
    let choices = site.choices.now in
    let place = site.place.now in
    let is = c.requires.here.site.searched in
    let front = c.args.front.now in
    let table = c.args.self.now.standing.table.now in
    let set = c.args.self.now.standing.states in
    let living = c.in-Some-get.living in
    let work : Work = record { node = front.node; part = None; end = place.at + front.taken; may_end = c.in-Some.may_end; phase = c.alike_phase.result } in
    let (done, known, same, states) = c.in-Some-get.ensures in
    let lives = subst (λ (rules : List ℕ). (number : ℕ) → HasState living number ↔ LivesBy searched line table work (Contains rules) number)
    (whole_rules searched.tries work refl)
    (same_work searched line table done work living (subst (λ (t : AnnotatedTrie). IsSameWork t done.work work) c.tries.ensures.value same) states
    (c.requires.known.1.living done known)) in
    let choices_are = choice_number searched front.node in
    let there = front_node searched is line (numbered_of searched place) front.phase front.taken front.node c.requires.front in
    let alike = lives_alike searched line table front.node (place.at + front.taken) None c.in-Some.may_end (Contains (choices_of searched.tries front.node))
    (λ rule among. choices_are rule is there among) c.alike_phase.result front.phase c.alike_phase.ensures.alike in
    let own : Work = record { node = front.node; part = None; end = place.at + front.taken; may_end = c.in-Some.may_end; phase = front.phase } in
    let here_lives : (number : ℕ) → HasState living number ↔ LivesBy searched line table own (Contains (choices_of searched.tries front.node)) number = λ number. (
      λ has. (alike number).0 ((lives number).0 has),
      λ by. (lives number).1 ((alike number).1 by),
    ) in
    let by_choices = living_by_these searched line choices place table is front.phase front.taken front.node c.requires.front c.in-Some.may_end
    (choices_of searched.tries front.node) (λ rule among. among)
    (these_do searched line choices place front.taken c.in-Some.may_end (choices_of searched.tries front.node) c.in-Some.ensures) c.requires.begins living here_lives in
    let into = subst (λ (machine : StateMachine). (number : ℕ) → HasState c.states_into.result number ↔ LeadsInto machine set front.phase living number)
    c.automaton.ensures.value c.states_into.ensures in
    let IsTold = IsByRule front.phase front.taken (choices_of searched.tries front.node) in
    let further = further_by searched line choices place table set front.phase living IsTold (λ (key : Key) told. told.0) by_choices c.states_into.result into in
    on_yes c.is_empty.result _ _ _ c.is_empty.ensures (λ none key at above possible goes.
    let same_key : key ≡ key_with front.phase front.taken key.rule = λ i. record { phase = at.0 i; taken = at.1 i; rule = key.rule } in
    let among = choice_if_possible searched is line (numbered_of searched place) front.phase front.taken front.node c.requires.front key.rule above
    (subst (IsPossible searched line (numbered_of searched place)) same_key possible) in
    none goes.0 ((further goes.0).1 (goes.1, (key, (at.0, at.1, among), goes.2))))
