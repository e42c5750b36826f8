-- One front more of those that are walked, and walks that are kept.
use Rattle.std.proofs.Common.{◌≡◌, ℕ, ◌+◌, ◌≤◌, ◌⊎◌, ◌↔◌, ◌∷◌, ◌++◌, [], inl, inr, Option, Some, None, List, length, refl, sym, subst, arith, length-append}
use Rattle.std.proofs.lemmas.Bool.{cases_lt}
use Rattle.std.proofs.lemmas.List.{get_or_append_left, get_or_at}
use Rattle.text_definitions.specs.Lines.{Line}
use Rattle.search_frames.specs.Frames.{numbered_of}
use Rattle.std.specs.Prelude.{slice_index_or}
use Rattle.annotated_trie.specs.Searched.{IsSearchedLexicon, SearchedLexicon}
use Rattle.search_frames.specs.declared.frame.TheConstants.{NODES_OF_FRAME}
use Rattle.summary_chart.specs.declared.site.Front.{Front}
use Rattle.summary_chart.specs.declared.site.SiteAhead.{SiteAhead}
use Rattle.summary_chart.specs.declared.state_set.StateSet.{StateSet}
use Rattle.summary_chart.specs.declared.table.Table.{Table}
use Rattle.summary_chart.specs.declared.walk_memo.Walk.{Walk}
use Rattle.summary_chart.specs.declared.walk_memo.WalkMemo.{WalkMemo}
use Rattle.summary_chart.specs.AlikeFronts.{IsFirst}
use Rattle.summary_chart.specs.Fronts.{IsFrontAt, IsNearFront, IsNextFront}
use Rattle.summary_chart.specs.StateSets.{HasState}
use Rattle.summary_chart.specs.Walked.{AreWalkedFronts, AreWalksSpread, IsKeptWith, IsWalkSpread, KeepsWalked}
use Rattle.summary_chart.proofs.Walks.{front_short}

module _ (here : SiteAhead) (phase : ℕ) where
  -- no front
  pub none_walked : (nodes : List ℕ) → nodes ≡ [] → AreWalkedFronts here phase nodes
  none_walked nodes none = subst (AreWalkedFronts here phase) (sym none) (record {
    each = λ taken low. absurd (omega (arith, low));
    near = λ taken low. absurd (omega (arith, low));
  })

  -- one front more
  pub more_walked : (nodes : List ℕ) (front : Front)
      → IsNearFront here.site.lexicon.now here.site.line.now (numbered_of here.site.lexicon.now here.site.place.now) phase here.ahead.limit (length nodes) front
      → AreWalkedFronts here phase nodes → AreWalkedFronts here phase (nodes ++ front.node ∷ [])
  more_walked nodes front near are =
      let count = length-append nodes (front.node ∷ []) in
      let Is = λ (taken node : ℕ). IsFrontAt here.site.lexicon.now here.site.line.now (numbered_of here.site.lexicon.now here.site.place.now) phase taken node in
      record {
        each = λ taken low. elim (cases_lt taken (length nodes)) [
          | inl before ↦ subst (Is taken) (sym (get_or_append_left nodes (front.node ∷ []) 0 taken before)) (are.each taken before)
          | inr from ↦
              let last : length nodes ≡ taken = omega (arith, low, from, count) in
              subst (Is taken) (sym (get_or_at nodes front.node [] 0 taken last)) (subst (λ (t : ℕ). Is t front.node) last near.is)
        ];
        near = λ taken low. elim (cases_lt taken (length nodes)) [
          | inl before ↦ are.near taken before
          | inr from ↦
              let last : length nodes ≡ taken = omega (arith, low, from, count) in
              let close = near.near in
              omega (arith, close, last)
        ];
      }

-- there are no more than a frame has nodes
pub few_walked : (here : SiteAhead) (phase : ℕ) (nodes : List ℕ) → IsSearchedLexicon here.site.lexicon.now → AreWalkedFronts here phase nodes
    → length nodes ≤ NODES_OF_FRAME
few_walked here phase nodes is are = elim (cases_lt NODES_OF_FRAME (length nodes)) [
  | inl over ↦
      let short = front_short here.site.lexicon.now is here.site.line.now (numbered_of here.site.lexicon.now here.site.place.now) phase here.ahead.limit
      NODES_OF_FRAME (slice_index_or nodes NODES_OF_FRAME 0) (are.each NODES_OF_FRAME over) in
      absurd (omega (arith, short))
  | inr few ↦ few
]

-- ---- the fronts one after another

-- these are the nodes of the fronts so far, and this is the next one
pub record HasWalked (here : SiteAhead) (phase : ℕ) (next : Option Front) (nodes : List ℕ) : Type 0 where
  pub front : IsNextFront here.site.lexicon.now here.site.line.now (numbered_of here.site.lexicon.now here.site.place.now) phase here.ahead.limit (length nodes) next
  pub fronts : AreWalkedFronts here phase nodes

module _ (here : SiteAhead) (phase : ℕ) where
  -- at first it is the front that takes no letter
  pub first_walked : (first : Front) → here.site.place.now.at ≤ here.ahead.limit
      → IsFirst here.site.lexicon.now here.site.line.now here.site.choices.now (numbered_of here.site.lexicon.now here.site.place.now) first → first.phase ≡ phase
      → (nodes : List ℕ) → nodes ≡ [] → HasWalked here phase (Some first) nodes
  first_walked first low is same nodes none = subst (HasWalked here phase (Some first)) (sym none) (record {
    front = record {
      phase_is = same;
      taken_is = is.taken;
      is = subst (λ (p : ℕ). IsFrontAt here.site.lexicon.now here.site.line.now (numbered_of here.site.lexicon.now here.site.place.now) p 0 first.node) same
          (subst (λ (t : ℕ). IsFrontAt here.site.lexicon.now here.site.line.now (numbered_of here.site.lexicon.now here.site.place.now) first.phase t first.node) is.taken is.own.leads);
      near = omega (arith, low);
    };
    fronts = none_walked here phase [] refl;
  })

  -- the front that is next
  pub next_front : (front : Front) (next : Option Front) (nodes : List ℕ) → next ≡ Some front → HasWalked here phase next nodes
      → IsNearFront here.site.lexicon.now here.site.line.now (numbered_of here.site.lexicon.now here.site.place.now) phase here.ahead.limit (length nodes) front
  next_front front next nodes same walked = (subst (λ (n : Option Front). HasWalked here phase n nodes) same walked).front

  -- it is one of its own phase, after its own letters
  pub own_front : (front : Front) (count : ℕ)
      → IsNearFront here.site.lexicon.now here.site.line.now (numbered_of here.site.lexicon.now here.site.place.now) phase here.ahead.limit count front
      → IsFrontAt here.site.lexicon.now here.site.line.now (numbered_of here.site.lexicon.now here.site.place.now) front.phase front.taken front.node
  own_front front count near =
      let Is = λ (p t : ℕ). IsFrontAt here.site.lexicon.now here.site.line.now (numbered_of here.site.lexicon.now here.site.place.now) p t front.node in
      subst (λ (p : ℕ). Is p front.taken) (sym near.phase_is) (subst (Is phase) (sym near.taken_is) near.is)

  -- none is next
  pub no_next : (next : Option Front) (nodes : List ℕ) → next ≡ None → HasWalked here phase next nodes
      → IsNextFront here.site.lexicon.now here.site.line.now (numbered_of here.site.lexicon.now here.site.place.now) phase here.ahead.limit (length nodes) None
  no_next next nodes same walked = (subst (λ (n : Option Front). HasWalked here phase n nodes) same walked).front

  -- it is gone over, and the one after it is next
  pub walked_on : (front : Front) (next : Option Front) (nodes more : List ℕ)
      → IsNearFront here.site.lexicon.now here.site.line.now (numbered_of here.site.lexicon.now here.site.place.now) phase here.ahead.limit (length nodes) front
      → IsNextFront here.site.lexicon.now here.site.line.now (numbered_of here.site.lexicon.now here.site.place.now) front.phase here.ahead.limit (front.taken + 1) next
      → more ≡ nodes ++ front.node ∷ [] → AreWalkedFronts here phase nodes → HasWalked here phase next more
  walked_on front next nodes more near is same are = subst (HasWalked here phase next) (sym same) (record {
    front =
        let count : front.taken + 1 ≡ length (nodes ++ front.node ∷ []) = (let long = length-append nodes (front.node ∷ []) in let at = near.taken_is in omega (arith, long, at)) in
        let Next = λ (p n : ℕ). IsNextFront here.site.lexicon.now here.site.line.now (numbered_of here.site.lexicon.now here.site.place.now) p here.ahead.limit n next in
        subst (λ (n : ℕ). Next phase n) count (subst (λ (p : ℕ). Next p (front.taken + 1)) near.phase_is is);
    fronts = more_walked here phase nodes front near are;
  })

-- a walk more that is spread with the states that were known of it and with others
module _ (searched : SearchedLexicon) (line : Line) (table : Table) where
  pub walks_with : (from : Walk) (known after all : StateSet) (old new : WalkMemo) → KeepsWalked from all old new
      → ((number : ℕ) → HasState known number → IsKeptWith old from number)
      → ((number : ℕ) → HasState all number ↔ (HasState known number ⊎ HasState after number))
      → IsWalkSpread searched line table (record { walk = from; states = after })
      → AreWalksSpread searched line table old → AreWalksSpread searched line table new
  walks_with from known after all old new keeps has union is are walked kept = elim (keeps walked kept) [
    | inl before ↦ are walked before
    | inr this ↦ subst (IsWalkSpread searched line table) (sym this)
        (λ further node rule at number entrance on change leads in_all. elim ((union number).0 in_all) [
          | inl knew ↦
              let (states, was, had) = has number knew in
              are (record { walk = from; states = states }) was further node rule at number entrance on change leads had
          | inr now ↦ is further node rule at number entrance on change leads now
        ])
  ]
