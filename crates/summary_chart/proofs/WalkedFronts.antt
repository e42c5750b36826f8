-- The walk on from a front comes to the nodes of the longer fronts: so the changes that are met on it are those of the possible keys that
-- take so many letters and more, and what lives on it is what lives by these.
use Rattle.std.proofs.Common.{◌≡◌, inl, inr, ℕ, ◌+◌, ◌-◌, ◌<◌, ◌≤◌, ◌↔◌, Bool, Some, length, take, drop, refl, sym, ap, subst, ◌∙◌, arith}
use Rattle.text_definitions.specs.Lines.{Line}
use Rattle.lexicon_definitions.specs.Tries.{walk}
use Rattle.segmentation_definitions.specs.Listings.{Key}
use Rattle.annotated_trie.specs.Choices.{choices_of}
use Rattle.annotated_trie.specs.Searched.{SearchedLexicon, IsSearchedLexicon}
use Rattle.answer_paths.specs.Following.{MayStand}
use Rattle.list_laws.proofs.Sorted.{Contains-cons_cases}
use Rattle.search_frames.specs.Configurations.{NumberedConfiguration, IsPossible, rules_in}
use Rattle.search_frames.specs.Ahead.{MayBegin}
use Rattle.search_frames.specs.Frames.{numbered_of}
use Rattle.search_frames.proofs.AheadTests.{near_if_stands}
use Rattle.search_frames.proofs.PossibleKeys.{change_possible, possible_change, possible_walks}
use Rattle.summary_chart.specs.declared.site.Front.{Front}
use Rattle.summary_chart.specs.declared.site.SiteAhead.{SiteAhead}
use Rattle.summary_chart.specs.declared.table.Table.{Table}
use Rattle.summary_chart.specs.declared.walk_memo.Walk.{Walk}
use Rattle.summary_chart.specs.Fronts.{IsFrontAt}
use Rattle.summary_chart.specs.Sites.{IsSiteAhead}
use Rattle.summary_chart.specs.Summaries.{key_with}
use Rattle.summary_chart.specs.Onward.{LivesByKey}
use Rattle.summary_chart.specs.Walked.{ChangeLives, FitWithLetter, IsChangeAt, IsFromFront, IsOnWalk, IsWalkFrom, LivesOnWalk}
use Rattle.summary_chart.proofs.AlikeKeys.{alike_back}
use Rattle.summary_chart.proofs.Changes.{change_ends, change_leads, ends_alike, ends_by_change, leads_alike, leads_by_change}
use Rattle.summary_chart.proofs.FrontKeys.{ends_if_unchanged}
use Rattle.summary_chart.proofs.LongerFronts.{back_to_front, on_from_front}

-- a key that is one of a front has the front's parts
pub key_of_front : (phase taken : ℕ) (key : Key) → key.phase ≡ phase → key.taken ≡ taken → key ≡ key_with phase taken key.rule
key_of_front phase taken key same_phase same_taken = λ i. record { phase = same_phase i; taken = same_taken i; rule = key.rule }

module _ (searched : SearchedLexicon) (is : IsSearchedLexicon searched) (line : Line) (here : NumberedConfiguration) (phase taken node : ℕ)
    (front : IsFrontAt searched line here phase taken node) where
  -- a change that is met there is that of a possible key
  pub met_possible : (further reached rule : ℕ) → here.at + taken + further ≤ length line.letters
      → walk searched.tries.trie.rows node (take further (drop (here.at + taken) line.letters)) ≡ Some reached
      → IsChangeAt searched reached rule → IsPossible searched line here (key_with phase (taken + further) rule)
  met_possible further reached rule within walked change =
      change_possible searched is line here (key_with phase (taken + further) rule) reached (on_from_front searched line here phase taken node front further reached walked) front.named
      (omega (arith, within)) change

  -- and the change of a possible key is met there
  pub possible_met : (further rule : ℕ) → IsPossible searched line here (key_with phase (taken + further) rule)
      → (reached : ℕ) × (walk searched.tries.trie.rows node (take further (drop (here.at + taken) line.letters)) ≡ Some reached) × IsChangeAt searched reached rule
  possible_met further rule possible =
      let key = key_with phase (taken + further) rule in
      let (reached, walked) = possible_walks searched is line here key possible in
      let there : IsFrontAt searched line here phase (taken + further) reached =
      record { named = front.named; within = possible.within; walked = walked } in (
        reached,
        back_to_front searched line here phase taken node front further reached walked,
        elim (Contains-cons_cases 0 (choices_of searched.tries reached) rule (possible_change searched is line here key reached walked possible)) [
          | inl same ↦ let none = sym same in inl (
            none,
            ends_if_unchanged searched is line here phase (taken + further) reached there
                (subst (λ (r : ℕ). IsPossible searched line here (key_with phase (taken + further) r)) none possible),
          )
          | inr among ↦ inr among
        ],
      )

-- ---- what lives

module _ (here : SiteAhead) (front : Front) (from : Walk) (table : Table) (is : IsSiteAhead here)
    (at_front : IsFrontAt here.site.lexicon.now here.site.line.now (numbered_of here.site.lexicon.now here.site.place.now) front.phase front.taken front.node)
    (walks : IsWalkFrom here front from) where
  -- a change lives after the walk's phase where it lives after the front's, at the same number of letters
  moved : (end other : ℕ) (rule number : ℕ) → end ≡ other → rule ≤ length (rules_in here.site.lexicon.now).rules
      → ChangeLives here.site.lexicon.now here.site.line.now table end from.may_end from.phase rule number
      ↔ ChangeLives here.site.lexicon.now here.site.line.now table other here.ahead.may_end front.phase rule number
  moved end other rule number same within =
      let searched = here.site.lexicon.now in
      let line = here.site.line.now in
      let Lives = λ (e : ℕ) (m : Bool) (p : ℕ). ChangeLives searched line table e m p rule number in (
        λ lives.
            let here_lives = subst (λ (m : Bool). Lives other m from.phase) walks.may_end (subst (λ (e : ℕ). Lives e from.may_end from.phase) same lives) in
            elim here_lives [
              | inl (at, entrance, leads, there) ↦
                  inl (at, entrance, leads_alike (rules_in searched) line from.phase front.phase walks.alike other rule within at entrance leads, there)
              | inr (ends, accepts) ↦ inr (ends_alike (rules_in searched) line from.phase front.phase walks.alike other rule within here.ahead.may_end ends, accepts)
            ],
        λ lives.
            let alike = alike_back (rules_in searched) from.phase front.phase walks.alike in
            let there_lives : Lives other here.ahead.may_end from.phase = elim lives [
              | inl (at, entrance, leads, there) ↦
                  inl (at, entrance, leads_alike (rules_in searched) line front.phase from.phase alike other rule within at entrance leads, there)
              | inr (ends, accepts) ↦ inr (ends_alike (rules_in searched) line front.phase from.phase alike other rule within here.ahead.may_end ends, accepts)
            ] in
            subst (λ (e : ℕ). Lives e from.may_end from.phase) (sym same) (subst (λ (m : Bool). Lives other m from.phase) (sym walks.may_end) there_lives),
      )

  -- the walk comes to a node where the letters lead from the front's node
  pub on_walk : (further reached : ℕ) → here.site.place.now.at + front.taken + further ≤ here.ahead.limit
      → walk here.site.lexicon.now.tries.trie.rows front.node (take further (drop (here.site.place.now.at + front.taken) here.site.line.now.letters)) ≡ Some reached
      → IsOnWalk here.site.lexicon.now here.site.line.now from further reached
  on_walk further reached near walked = record {
    near = omega (arith, near, walks.end, walks.limit);
    walked = ap (λ (n : ℕ). walk here.site.lexicon.now.tries.trie.rows n (take further (drop from.end here.site.line.now.letters))) walks.node
        ∙ ap (λ (e : ℕ). walk here.site.lexicon.now.tries.trie.rows front.node (take further (drop e here.site.line.now.letters))) walks.end
        ∙ walked;
  }

  pub off_walk : (further reached : ℕ) → IsOnWalk here.site.lexicon.now here.site.line.now from further reached
      → (here.site.place.now.at + front.taken + further ≤ here.ahead.limit)
      × (walk here.site.lexicon.now.tries.trie.rows front.node (take further (drop (here.site.place.now.at + front.taken) here.site.line.now.letters)) ≡ Some reached)
  off_walk further reached on = (
    (let near = on.near in omega (arith, near, walks.end, walks.limit)),
    ap (λ (n : ℕ). walk here.site.lexicon.now.tries.trie.rows n (take further (drop (here.site.place.now.at + front.taken) here.site.line.now.letters))) (sym walks.node)
        ∙ ap (λ (e : ℕ). walk here.site.lexicon.now.tries.trie.rows from.node (take further (drop e here.site.line.now.letters))) (sym walks.end)
        ∙ on.walked,
  )

  -- so what lives on the walk is what lives by the keys from the front on, where every key that takes a letter fits the place
  pub lives_on_walk : FitWithLetter here → 0 < front.taken → MayBegin (numbered_of here.site.lexicon.now here.site.place.now).entrance front.phase → (number : ℕ)
      → LivesOnWalk here.site.lexicon.now here.site.line.now table from number
      ↔ ((key : Key) × IsFromFront front.phase front.taken key
      × LivesByKey here.site.lexicon.now here.site.line.now here.site.choices.now (numbered_of here.site.lexicon.now here.site.place.now) table key number)
  lives_on_walk fits some begins number =
      let searched = here.site.lexicon.now in
      let line = here.site.line.now in
      let choices = here.site.choices.now in
      let place = numbered_of searched here.site.place.now in (
        λ lives.
            let (further, node, rule, on, change, does) = lives in
            let (near, walked) = off_walk further node on in
            let key = key_with front.phase (front.taken + further) rule in
            let within = is.ahead.within in
            let possible = met_possible searched is.site.searched line place front.phase front.taken front.node at_front further node rule (omega (arith, near, within)) walked change in
            let above : 0 < key.taken = omega (arith, some) in
            let fit = fits key above (omega (arith, near)) possible begins in
            let here_does = (moved (from.end + further) (place.at + (front.taken + further)) rule number (omega (arith, walks.end)) possible.number).0 does in (
              key,
              (refl, omega arith),
              elim here_does [
                | inl (at, entrance, leads, there) ↦ inr (at, entrance, leads_by_change searched line choices place key above at entrance fit leads, there)
                | inr (ends, accepts) ↦ inl (ends_by_change searched line choices place key above here.ahead.may_end is.ahead.ending fit ends, accepts)
              ],
            ),
        λ by_keys.
            let (key, (same_phase, longer), by) = by_keys in
            let further = key.taken - front.taken in
            let count : key.taken ≡ front.taken + further = omega (arith, longer) in
            let same = key_of_front front.phase (front.taken + further) key same_phase count in
            let above : 0 < key.taken = omega (arith, some, longer) in
            let stands = stands_if_lives key number by in
            let possible : IsPossible searched line place key = record { number = stands.number; within = stands.within; form = stands.form } in
            let near = near_if_stands searched line choices place key here.ahead is.ahead stands in
            let this = subst (IsPossible searched line place) same possible in
            let (reached, walked, change) = possible_met searched is.site.searched line place front.phase front.taken front.node at_front further key.rule this in
            let does : ChangeLives searched line table (place.at + key.taken) here.ahead.may_end key.phase key.rule number = elim by [
              | inl (ends, accepts) ↦ inr (change_ends searched line choices place key above here.ahead.may_end is.ahead.ending ends, accepts)
              | inr (at, entrance, leads, there) ↦ inl (at, entrance, change_leads searched line choices place key above at entrance leads, there)
            ] in (
              further,
              reached,
              key.rule,
              on_walk further reached (omega (arith, near, count)) walked,
              change,
              (moved (from.end + further) (place.at + key.taken) key.rule number (omega (arith, walks.end, count)) possible.number).1
                  (subst (λ (p : ℕ). ChangeLives searched line table (place.at + key.taken) here.ahead.may_end p key.rule number) same_phase does),
            ),
      )
    where
      stands_if_lives : (key : Key) (number : ℕ)
          → LivesByKey here.site.lexicon.now here.site.line.now here.site.choices.now (numbered_of here.site.lexicon.now here.site.place.now) table key number
          → MayStand here.site.lexicon.now.lexicon here.site.line.now here.site.choices.now here.site.place.now.at
          (numbered_of here.site.lexicon.now here.site.place.now).entrance key
      stands_if_lives key number (inl (ends, accepts)) = ends.stands
      stands_if_lives key number (inr (at, entrance, leads, there)) = leads.may.stands
