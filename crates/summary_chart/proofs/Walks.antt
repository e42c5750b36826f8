-- The nodes of fronts up to a limit: each number of letters more leads from where the letters so far lead; where they lead nowhere, more of
-- them lead nowhere, so no possible key takes as many.
use Rattle.std.proofs.Common.{◌≡◌, ℕ, ◌+◌, ◌-◌, ◌<◌, ◌≤◌, inl, inr, Some, None, List, [], ◌∷◌, ◌++◌, length, take, drop, get_or, sym, ap, subst, ◌∙◌, refl, arith, length-append, length-drop}
use Rattle.std.specs.Prelude.{is_some}
use Rattle.std.proofs.lemmas.Bool.{cases_lt}
use Rattle.std.proofs.lemmas.List.{append-nil, get_or-drop, get_or-append-add, get_or_append_left, get_or_at, length-take-le, take-take}
use Rattle.std.proofs.Math.Seq.{take-append-add}
use Rattle.text_definitions.specs.Lines.{Line}
use Rattle.lexicon_definitions.specs.Tries.{Row, walk, child_in}
use Rattle.lexicon_definitions.proofs.TrieWalks.{walk-two}
use Rattle.answer_paths.specs.Fronts.{supplied}
use Rattle.annotated_trie.specs.Searched.{SearchedLexicon, IsSearchedLexicon}
use Rattle.search_frames.specs.declared.frame.TheConstants.{NODES_OF_FRAME}
use Rattle.segmentation_definitions.specs.Listings.{Key}
use Rattle.search_frames.specs.Configurations.{IsPossible, NumberedConfiguration, rules_in}
use Rattle.search_frames.proofs.PossibleKeys.{root_in, possible_walks, short_walks}
use Rattle.search_frames.proofs.WalkLemmas.{nowhere_after, walk_next, walked_below}
use Rattle.summary_chart.specs.declared.site.Front.{Front}
use Rattle.summary_chart.specs.Fronts.{AreWalkedFrom, AreFronts, IsFrontAt, front_after, IsNearFront, IsNextFront}

-- each number of first letters below that of the nodes leads from the node to the one there
pub record AreWalkedBelow (rows : List Row) (node : ℕ) (letters nodes : List ℕ) : Type 0 where
  pub each : (taken : ℕ) → taken < length nodes → walk rows node (take taken letters) ≡ Some (get_or nodes taken 0)

pub one_walked : (rows : List Row) (node : ℕ) (letters nodes : List ℕ) → nodes ≡ node ∷ [] → AreWalkedBelow rows node letters nodes
one_walked rows node letters nodes is = subst (AreWalkedBelow rows node letters) (sym is) (record {
  each = λ taken low.
      let none : taken ≡ 0 = omega (arith, low) in
      subst (λ (t : ℕ). walk rows node (take t letters) ≡ Some (get_or (node ∷ []) t 0)) (sym none) refl;
})

pub more_walked : (rows : List Row) (node child : ℕ) (letters nodes more : List ℕ) → AreWalkedBelow rows node letters nodes
    → walk rows node (take (length nodes) letters) ≡ Some child → more ≡ nodes ++ child ∷ [] → AreWalkedBelow rows node letters more
more_walked rows node child letters nodes more are walked is = subst (AreWalkedBelow rows node letters) (sym is) (record {
  each = λ taken low. elim (cases_lt taken (length nodes)) [
    | inl less ↦ are.each taken less ∙ ap Some (sym (get_or_append_left nodes (child ∷ []) 0 taken less))
    | inr from ↦
        let count = length-append nodes (child ∷ []) in
        let last : length nodes ≡ taken = omega (arith, low, from, count) in
        ap (λ (t : ℕ). walk rows node (take t letters)) (sym last) ∙ walked ∙ ap Some (sym (get_or_at nodes child [] 0 taken last))
  ];
})

module _ (searched : SearchedLexicon) (is : IsSearchedLexicon searched) (line : Line) (here : NumberedConfiguration) (phase limit : ℕ) where
  -- what is walked from where the lead leads, up to the limit
  pub fronts_from : (entered : ℕ) (nodes : List ℕ) → phase < length (rules_in searched).names
      → here.at ≤ limit → limit ≤ length line.letters
      → walk searched.tries.trie.rows (root_in searched phase) (supplied here.entrance) ≡ Some entered
      → AreWalkedFrom searched.tries.trie.rows entered (take (limit - here.at) (drop here.at line.letters)) nodes
      → AreFronts searched line here phase limit nodes
  fronts_from entered nodes low order within walked from =
      let left = length-drop here.at line.letters in
      let long : length (take (limit - here.at) (drop here.at line.letters)) ≡ limit - here.at =
      length-take-le (limit - here.at) (drop here.at line.letters) (omega (arith, left, order, within)) in
      record {
        few = from.few;
        each = λ taken l.
            let few : taken ≤ limit - here.at = (let count = from.within in omega (arith, long, count, l)) in
            record {
              named = low;
              within = omega (arith, few, order, within);
              walked = walk-two searched.tries.trie.rows (supplied here.entrance) (take taken (drop here.at line.letters)) (root_in searched phase) entered walked
                  ∙ ap (walk searched.tries.trie.rows entered) (sym (take-take taken (limit - here.at) (drop here.at line.letters) few))
                  ∙ from.walked taken l;
            };
        near = λ taken l. (let count = from.within in omega (arith, long, count, l, order));
        all = λ key possible same near.
            let few : key.taken ≤ limit - here.at = omega (arith, near, order) in
            let (node, reached) = possible_walks searched is line here key possible in
            let there : walk searched.tries.trie.rows (root_in searched phase) (front_after line here key.taken) ≡ Some node =
            subst (λ (p : ℕ). walk searched.tries.trie.rows (root_in searched p) (front_after line here key.taken) ≡ Some node) same reached in
            let rest : walk searched.tries.trie.rows entered (take key.taken (take (limit - here.at) (drop here.at line.letters))) ≡ Some node =
            ap (walk searched.tries.trie.rows entered) (take-take key.taken (limit - here.at) (drop here.at line.letters) few)
            ∙ sym (walk-two searched.tries.trie.rows (supplied here.entrance) (take key.taken (drop here.at line.letters)) (root_in searched phase) entered walked)
            ∙ there in
            from.all key.taken (omega (arith, long, few)) (ap is_some rest);
      }

  -- where no possible key goes no further than the limit, there is no front
  pub no_fronts_before : (nodes : List ℕ) → nodes ≡ []
      → ((key : Key) → IsPossible searched line here key → key.phase ≡ phase → here.at + key.taken ≤ limit → key.taken < 0)
      → AreFronts searched line here phase limit nodes
  no_fronts_before nodes empty none = subst (AreFronts searched line here phase limit) (sym empty) (record {
    few = omega arith;
    each = λ taken low. absurd (omega (arith, low));
    near = λ taken low. absurd (omega (arith, low));
    all = none;
  })

  -- a front that takes no letter is where the lead leads
  pub first_entered : (node : ℕ) → IsFrontAt searched line here phase 0 node
      → walk searched.tries.trie.rows (root_in searched phase) (supplied here.entrance) ≡ Some node
  first_entered node front = ap (walk searched.tries.trie.rows (root_in searched phase)) (sym (append-nil (supplied here.entrance))) ∙ front.walked

  -- where the lead leads nowhere, no possible key takes even no letter
  pub no_first : walk searched.tries.trie.rows (root_in searched phase) (supplied here.entrance) ≡ None → IsNextFront searched line here phase limit 0 None
  no_first nowhere key possible same near =
      let (node, reached) = possible_walks searched is line here key possible in
      let there : walk searched.tries.trie.rows (root_in searched phase) (front_after line here key.taken) ≡ Some node =
      subst (λ (p : ℕ). walk searched.tries.trie.rows (root_in searched p) (front_after line here key.taken) ≡ Some node) same reached in
      absurd (nowhere_after searched.tries.trie.rows (supplied here.entrance) (take key.taken (drop here.at line.letters)) (root_in searched phase) nowhere (ap is_some there))

  -- the front that takes no letter
  pub first_near : (front : Front) → front.phase ≡ phase → front.taken ≡ 0 → phase < length (rules_in searched).names
      → here.at ≤ length line.letters → here.at ≤ limit
      → walk searched.tries.trie.rows (root_in searched phase) (supplied here.entrance) ≡ Some front.node
      → IsNearFront searched line here phase limit 0 front
  first_near front same none low within near walked = record {
    phase_is = same;
    taken_is = none;
    is = record {
      named = low;
      within = omega (arith, within);
      walked = ap (walk searched.tries.trie.rows (root_in searched phase)) (append-nil (supplied here.entrance)) ∙ walked;
    };
    near = omega (arith, near);
  }

  -- ---- one letter more

  -- what leads to a front is the first letters of what is supplied and the rest of the line
  front_taken : (taken : ℕ) → front_after line here taken ≡ take (length (supplied here.entrance) + taken) (supplied here.entrance ++ drop here.at line.letters)
  front_taken taken = sym (take-append-add (supplied here.entrance) (drop here.at line.letters) taken)

  module _ (taken node : ℕ) (front : IsFrontAt searched line here phase taken node) where
    -- a front has fewer letters than a frame has nodes
    pub front_short : taken < NODES_OF_FRAME
    front_short =
        let short = short_walks searched is phase (front_after line here taken) front.named (ap is_some front.walked) in
        let long = length-append (supplied here.entrance) (take taken (drop here.at line.letters)) in
        let left = length-drop here.at line.letters in
        let within = front.within in
        let rest : length (take taken (drop here.at line.letters)) ≡ taken = length-take-le taken (drop here.at line.letters) (omega (arith, left, within)) in
        omega (arith, short, long, rest)

    module _ (letter : ℕ) (low : here.at + taken < length line.letters) (next : letter ≡ get_or line.letters (here.at + taken) letter) where
      -- the next letter leads from its node to that of the next front
      pub front_next : walk searched.tries.trie.rows (root_in searched phase) (front_after line here (taken + 1)) ≡ child_in searched.tries.trie.rows node letter
      front_next =
          let lead = supplied here.entrance in
          let rest = drop here.at line.letters in
          let long = length-append lead rest in
          let left = length-drop here.at line.letters in
          let there : letter ≡ get_or (lead ++ rest) (length lead + taken) letter =
          next ∙ sym (get_or-drop here.at line.letters taken letter) ∙ sym (get_or-append-add lead rest taken letter) in
          ap (walk searched.tries.trie.rows (root_in searched phase)) (front_taken (taken + 1) ∙ ap (λ (n : ℕ). take n (lead ++ rest)) (omega arith))
          ∙ walk_next searched.tries.trie.rows (root_in searched phase) node (lead ++ rest) (length lead + taken) letter
          (ap (walk searched.tries.trie.rows (root_in searched phase)) (sym (front_taken taken)) ∙ front.walked) (omega (arith, long, left, low)) there

      pub longer_near : (longer : Front) → longer.phase ≡ phase → longer.taken ≡ taken + 1 → here.at + taken + 1 ≤ limit
          → child_in searched.tries.trie.rows node letter ≡ Some longer.node → IsNearFront searched line here phase limit (taken + 1) longer
      longer_near longer same more near leads = record {
        phase_is = same;
        taken_is = more;
        is = record {
          named = front.named;
          within = omega (arith, low);
          walked = front_next ∙ leads;
        };
        near = omega (arith, near);
      }

      -- where it leads nowhere, no possible key takes more letters
      pub no_longer : child_in searched.tries.trie.rows node letter ≡ None → IsNextFront searched line here phase limit (taken + 1) None
      no_longer nowhere key possible same near =
          let (reached, walked) = possible_walks searched is line here key possible in
          let there : walk searched.tries.trie.rows (root_in searched phase) (front_after line here key.taken) ≡ Some reached =
          subst (λ (p : ℕ). walk searched.tries.trie.rows (root_in searched p) (front_after line here key.taken) ≡ Some reached) same walked in
          let all = supplied here.entrance ++ drop here.at line.letters in
          let below = walked_below searched.tries.trie.rows (root_in searched phase) all (length (supplied here.entrance) + (taken + 1))
          (length (supplied here.entrance) + key.taken)
          (ap (walk searched.tries.trie.rows (root_in searched phase)) (sym (front_taken (taken + 1))) ∙ front_next ∙ nowhere)
          (ap is_some (ap (walk searched.tries.trie.rows (root_in searched phase)) (sym (front_taken key.taken)) ∙ there)) in
          omega (arith, below)

  -- and none does at the limit
  pub none_past : (taken : ℕ) → here.at + taken ≡ limit → IsNextFront searched line here phase limit (taken + 1) None
  none_past taken at key possible same near = omega (arith, at, near)
