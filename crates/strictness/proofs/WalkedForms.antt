-- The overlaps in the forms that begin with a front: those in the front itself, and then, letter by letter, those in the forms that go
-- on with a letter; they rise so, since a front is smaller than what goes on from it, and letters rise.
use Rattle.std.proofs.Common.{◌≡◌, ◌≢◌, ℕ, ◌+◌, ◌<◌, ◌≤◌, ◌⊎◌, inl, inr, Option, Some, None, Result, Ok, Err, List, [], ◌∷◌, ◌++◌, length, length-append, get_or, map, refl, sym, ap, subst, ◌∙◌, append_assoc, arith}
use Rattle.std.specs.Result.{OnOk}
use Rattle.std.specs.List.{All, Contains}
use Rattle.std.specs.List.Sorted.{IsStrictlySortedBy}
use Rattle.std.specs.Ordering.{nat_cmp, ordering_then, on}
use Rattle.std.specs.declared.cmp.Ordering.TheVariants.{Less}
use Rattle.std.proofs.lemmas.List.{append-nil, get_or_at, length-map}
use Rattle.std.proofs.lemmas.List.Elements.{All-contains, Contains-get_or}
use Rattle.list_laws.specs.Firsts.{AreAll}
use Rattle.list_laws.proofs.FirstOnes.{Contains-map, sorted-map}
use Rattle.list_laws.proofs.Orderings.{nat_cmp-Equal}
use Rattle.text_definitions.specs.Words.{compare_words}
use Rattle.lexicon_definitions.specs.Rules.{Rule}
use Rattle.lexicon_definitions.specs.Lexicons.{RuleSet, rule_of}
use Rattle.lexicon_definitions.specs.Tries.{Row, AreRows, child_in, row_of, walk}
use Rattle.lexicon_definitions.proofs.FirstPlaces.{mapped_at}
use Rattle.lexicon_definitions.proofs.TrieChildren.{Contains-child_among}
use Rattle.lexicon_definitions.proofs.TrieGrowth.{walk-child, walk-none}
use Rattle.lexicon_definitions.proofs.TrieSteps.{child_among-Contains}
use Rattle.segmentation_definitions.specs.Overlaps.{Overlap, compare_overlaps}
use Rattle.phoneme.specs.declared.memory.Memory.{Memory}
use Rattle.strictness.specs.Matches.{IsInForm}
use Rattle.strictness.specs.Walks.{LeadsToForm, IsOwn, IsBelow, MayBegin}
use Rattle.strictness.specs.Appending.{AppendsFirst}
use Rattle.strictness.specs.declared.found.Found.{Found}
use Rattle.strictness.proofs.OverlapOrder.{less_by_form}
use Rattle.strictness.proofs.AppendedFirsts.{appends_none, appends_with, appends_both}
use Rattle.strictness.proofs.KeyLoops.{RisesWith, HasKeyAmong, no_key, key_more, all_keys}
use Rattle.strictness.proofs.LeadsAhead.{rule_among, lead_ahead}

-- ---- words with one front

front_first : (front : List ℕ) (letter : ℕ) (rest : List ℕ) → compare_words front (front ++ letter ∷ rest) ≡ Less
front_first [] letter rest = refl
front_first (x ∷ front) letter rest =
    ap (λ order. ordering_then order (compare_words front (front ++ letter ∷ rest))) (nat_cmp-Equal x x refl) ∙ front_first front letter rest

lower_letter : (front : List ℕ) (a b : ℕ) (r s : List ℕ) → nat_cmp a b ≡ Less → compare_words (front ++ a ∷ r) (front ++ b ∷ s) ≡ Less
lower_letter [] a b r s h = ap (λ order. ordering_then order (compare_words r s)) h
lower_letter (x ∷ front) a b r s h =
    ap (λ order. ordering_then order (compare_words (front ++ a ∷ r) (front ++ b ∷ s))) (nat_cmp-Equal x x refl) ∙ lower_letter front a b r s h

module _ (rules : RuleSet) (rows : List Row) (phase : ℕ) where
  -- an overlap in a form that goes on from the node by a letter
  pub record IsFurther (front : List ℕ) (node : ℕ) (x : Overlap) : Type 0 where
    pub letter : ℕ
    pub rest : List ℕ
    pub form_is : x.form ≡ front ++ letter ∷ rest
    pub leads : LeadsToForm rows node (letter ∷ rest)
    pub in_form : IsInForm rules phase x.form x

  -- the letter after the front
  abbrev pub next_letter : List ℕ → Overlap → ℕ
  next_letter front x = get_or x.form (length front) 0

  next_is : (front : List ℕ) (x : Overlap) (letter : ℕ) (rest : List ℕ) → x.form ≡ front ++ letter ∷ rest → next_letter front x ≡ letter
  next_is front x letter rest e = ap (λ (word : List ℕ). get_or word (length front) 0) e ∙ get_or_at front letter rest 0 (length front) refl

  -- ---- the front itself, or further

  below_cases : (front : List ℕ) (node : ℕ) (x : Overlap) → IsBelow rules rows phase front node x → IsOwn rules rows phase front node x ⊎ IsFurther front node x
  below_cases front node x h = by h.rest h.form_is h.leads
    where
      by : (rest : List ℕ) → x.form ≡ front ++ rest → LeadsToForm rows node rest → IsOwn rules rows phase front node x ⊎ IsFurther front node x
      by [] e l =
          let here : node ≡ l.reached = let w = l.walked in cc in
          inl (subst (λ form. IsInForm rules phase form x) (e ∙ append-nil front) h.in_form, λ none. l.ends (ap (λ n. (row_of rows n).deltas) (sym here) ∙ none))
      by (letter ∷ rest) e l = inr (record { letter = letter; rest = rest; form_is = e; leads = l; in_form = h.in_form })

  own_below : (front : List ℕ) (node : ℕ) (x : Overlap) → IsOwn rules rows phase front node x → IsBelow rules rows phase front node x
  own_below front node x h = record {
    rest = [];
    form_is = h.0.form_is ∙ sym (append-nil front);
    leads = record { reached = node; walked = refl; ends = h.1 };
    in_form = subst (λ form. IsInForm rules phase form x) (sym h.0.form_is) h.0;
  }

  further_below : (front : List ℕ) (node : ℕ) (x : Overlap) → IsFurther front node x → IsBelow rules rows phase front node x
  further_below front node x h = record { rest = h.letter ∷ h.rest; form_is = h.form_is; leads = h.leads; in_form = h.in_form }

  own_first : (front : List ℕ) (node : ℕ) (x y : Overlap) → IsOwn rules rows phase front node x → IsFurther front node y → compare_overlaps x y ≡ Less
  own_first front node x y h k =
      less_by_form x y (h.0.phase_is ∙ sym k.in_form.phase_is) ((λ i. compare_words (h.0.form_is i) (k.form_is i)) ∙ front_first front k.letter k.rest)

  -- the first overlaps in the front, and then those further on
  pub own_then_further : (front : List ℕ) (node : ℕ) (before between after : Found) → AppendsFirst (IsOwn rules rows phase front node) before between
      → AppendsFirst (IsFurther front node) between after → AppendsFirst (IsBelow rules rows phase front node) before after
  own_then_further front node before between after own further =
      appends_with (λ x. IsOwn rules rows phase front node x ⊎ IsFurther front node x) (IsBelow rules rows phase front node) before after
      (λ x h. elim h [ inl o ↦ own_below front node x o | inr f ↦ further_below front node x f ])
      (below_cases front node)
      (appends_both (IsOwn rules rows phase front node) (IsFurther front node) before between after own further (own_first front node))

  -- no form ends at the node
  pub no_own : (front : List ℕ) (node : ℕ) (found : Found) → ((row_of rows node).deltas ≢ [] → ⊥) → AppendsFirst (IsOwn rules rows phase front node) found found
  no_own front node found not = appends_none (IsOwn rules rows phase front node) found (λ x h. not h.1)

  -- one ends there
  pub all_own : (front : List ℕ) (node : ℕ) (old new : Found) → (row_of rows node).deltas ≢ [] → AppendsFirst (IsInForm rules phase front) old new
      → AppendsFirst (IsOwn rules rows phase front node) old new
  all_own front node old new some appends =
      appends_with (IsInForm rules phase front) (IsOwn rules rows phase front node) old new (λ x h. (h, some)) (λ x h. h.0) appends

  pub own_appended : (front : List ℕ) (node : ℕ) (old new : Found) (result : Result (Unit {0}) Memory) → (row_of rows node).deltas ≢ []
      → OnOk result (AppendsFirst (IsInForm rules phase front) old new) → OnOk result (AppendsFirst (IsOwn rules rows phase front node) old new)
  own_appended front node old new (Ok done) some appends = all_own front node old new some appends
  own_appended front node old new (Err error) some appends = tt

  -- ---- letter by letter

  rises_further : (front : List ℕ) (node : ℕ) → RisesWith nat_cmp (next_letter front) (IsFurther front node)
  rises_further front node x y h k less =
      let low : nat_cmp h.letter k.letter ≡ Less =
      (λ i. nat_cmp (sym (next_is front x h.letter h.rest h.form_is) i) (sym (next_is front y k.letter k.rest k.form_is) i)) ∙ less in
      less_by_form x y (h.in_form.phase_is ∙ sym k.in_form.phase_is)
      ((λ i. compare_words (h.form_is i) (k.form_is i)) ∙ lower_letter front h.letter k.letter h.rest k.rest low)

  -- what goes on by this letter is what is below the child
  child_further : (front : List ℕ) (node letter child : ℕ) (x : Overlap) → child_in rows node letter ≡ Some child
      → IsBelow rules rows phase (front ++ letter ∷ []) child x → IsFurther front node x × (next_letter front x ≡ letter)
  child_further front node letter child x leads h =
      let form : x.form ≡ front ++ letter ∷ h.rest = h.form_is ∙ append_assoc front (letter ∷ []) h.rest in (
        record {
          letter = letter;
          rest = h.rest;
          form_is = form;
          leads = record { reached = h.leads.reached; walked = walk-child rows node letter child h.rest leads ∙ h.leads.walked; ends = h.leads.ends };
          in_form = h.in_form;
        },
        next_is front x letter h.rest form,
      )

  further_child : (front : List ℕ) (node letter child : ℕ) (x : Overlap) → child_in rows node letter ≡ Some child
      → IsFurther front node x × (next_letter front x ≡ letter) → IsBelow rules rows phase (front ++ letter ∷ []) child x
  further_child front node letter child x leads (h, e) =
      let same : h.letter ≡ letter = sym (next_is front x h.letter h.rest h.form_is) ∙ e in
      let walked : walk rows node (letter ∷ h.rest) ≡ Some h.leads.reached = subst (λ l. walk rows node (l ∷ h.rest) ≡ Some h.leads.reached) same h.leads.walked in
      record {
        rest = h.rest;
        form_is = h.form_is ∙ ap (λ l. front ++ l ∷ h.rest) same ∙ sym (append_assoc front (letter ∷ []) h.rest);
        leads = record { reached = h.leads.reached; walked = sym (walk-child rows node letter child h.rest leads) ∙ walked; ends = h.leads.ends };
        in_form = h.in_form;
      }

  letter_there : (front : List ℕ) (node : ℕ) (x : Overlap) → IsFurther front node x → Contains (map (λ (child : ℕ × ℕ). child.0) (row_of rows node).children) (next_letter front x)
  letter_there front node x h = by (child_in rows node h.letter) refl
    where
      by : (found : Option ℕ) → child_in rows node h.letter ≡ found → Contains (map (λ (child : ℕ × ℕ). child.0) (row_of rows node).children) (next_letter front x)
      by None e = let none = walk-none rows node h.letter h.rest e in let some = h.leads.walked in absurd (cc)
      by (Some child) e =
          subst (Contains (map (λ (child : ℕ × ℕ). child.0) (row_of rows node).children)) (sym (next_is front x h.letter h.rest h.form_is))
          (Contains-map (λ (child : ℕ × ℕ). child.0) (row_of rows node).children (h.letter, child) (Contains-child_among h.letter child (row_of rows node).children e))

  -- overlaps that go on by one of the first so many letters
  abbrev pub IsFurtherAmong : List ℕ → ℕ → ℕ → Overlap → Type 0
  IsFurtherAmong front node count =
      HasKeyAmong (next_letter front) (IsFurther front node) (map (λ (child : ℕ × ℕ). child.0) (row_of rows node).children) count

  pub no_letter : (front : List ℕ) (node : ℕ) (found : Found) → AppendsFirst (IsFurtherAmong front node 0) found found
  no_letter front node found = no_key nat_cmp (next_letter front) (IsFurther front node) (map (λ (child : ℕ × ℕ). child.0) (row_of rows node).children) found

  -- one letter more: those below the child to which it leads
  pub letter_more : AreRows rows → (front further : List ℕ) (node i : ℕ) (child : ℕ × ℕ) (before between after : Found) → node < length rows → i < length (row_of rows node).children
      → child ≡ get_or (row_of rows node).children i child → further ≡ front ++ child.0 ∷ []
      → AppendsFirst (IsFurtherAmong front node i) before between → AppendsFirst (IsBelow rules rows phase further child.1) between after
      → AppendsFirst (IsFurtherAmong front node (i + 1)) before after
  letter_more are front further node i child before between after low within is e these below =
      let row = row_of rows node in
      let children = row.children in
      let letters = map (λ (c : ℕ × ℕ). c.0) children in
      let long : i < length letters = omega (arith, within, length-map children (λ (c : ℕ × ℕ). c.0)) in
      let rising : IsStrictlySortedBy nat_cmp letters =
      sorted-map (on (λ (c : ℕ × ℕ). c.0) nat_cmp) nat_cmp (λ (c : ℕ × ℕ). c.0) (λ _. Unit {0}) (λ x z _ _ less. less) children (λ z _. tt) (are.each node low).letters in
      let at : get_or letters i 0 ≡ child.0 = mapped_at (λ (c : ℕ × ℕ). c.0) children i child 0 within is in
      let among : Contains children (child.0, child.1) = subst (Contains children) (sym is) (Contains-get_or children i child within) in
      let leads = child_among-Contains child.0 child.1 children (are.each node low).letters among in
      key_more nat_cmp (next_letter front) (IsFurther front node) (rises_further front node) letters i 0 before between after rising long these
      (appends_with (IsBelow rules rows phase further child.1) (λ x. IsFurther front node x × (next_letter front x ≡ get_or letters i 0)) between after
      (λ x h. let both = child_further front node child.0 child.1 x leads (subst (λ word. IsBelow rules rows phase word child.1 x) e h) in (both.0, both.1 ∙ sym at))
      (λ x h. subst (λ word. IsBelow rules rows phase word child.1 x) (sym e) (further_child front node child.0 child.1 x leads (h.0, h.1 ∙ at)))
      below)

  pub all_letters : (front : List ℕ) (node count : ℕ) (before after : Found) → length (row_of rows node).children ≤ count
      → AppendsFirst (IsFurtherAmong front node count) before after → AppendsFirst (IsFurther front node) before after
  all_letters front node count before after enough appends =
      let children = (row_of rows node).children in
      all_keys nat_cmp (next_letter front) (IsFurther front node) (map (λ (c : ℕ × ℕ). c.0) children) count before after
      (omega (arith, enough, length-map children (λ (c : ℕ × ℕ). c.0))) (letter_there front node) appends

  -- ---- no lead ahead

  -- where no lead may begin a form with the front, there is no overlap in such a form
  pub none_ahead : (longest : ℕ) (front : List ℕ) (node : ℕ) (leads : List ℕ) (found : Found) → All (λ rule. length rule.u ≤ longest) rules.rules
      → AreAll nat_cmp (MayBegin rules phase longest front) leads → length leads ≡ 0 → AppendsFirst (IsBelow rules rows phase front node) found found
  none_ahead longest front node leads found shorter all none =
      appends_none (IsBelow rules rows phase front node) found (λ x h.
      let u : length (rule_of rules x.after).u ≤ longest = All-contains (λ (rule : Rule). length rule.u ≤ longest) rules.rules (rule_of rules x.after) shorter (rule_among rules phase longest x.after h.in_form.ends.rule) in
      let longer = h.in_form.longer in
      let (place, may) = lead_ahead rules phase longest front h.rest x.form x.before h.in_form.begins h.form_is
      (omega (arith, u, longer, length-append (rule_of rules x.before).v (rule_of rules x.after).u)) in
      omega (arith, none, (all.complete place may).1))
