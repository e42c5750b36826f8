-- Which step a key adds is told by the letters that stand where the front ends; each law and each test of the longer front
-- is that of the front and one of the last step; so what leads on or ends is told by where the front ends.
use Rattle.std.proofs.Common.{◌≡◌, ℕ, ◌+◌, ◌<◌, ◌⊎◌, ◌↔◌, inl, inr, true, List, [], ◌∷◌, ◌++◌, length, take, drop, slice_index, refl, sym, ap, subst, ◌∙◌, append_assoc, length-drop, arith}
use Rattle.std.specs.List.{AllByRecursion}
use Rattle.std.proofs.lemmas.Bool.{cases_lt}
use Rattle.std.proofs.lemmas.List.{map-append, drop-drop, length-take-le, nil_from_length}
use Rattle.std.proofs.Math.Seq.{take-append_seam, drop-append_seam}
use Rattle.text_definitions.specs.Lines.{Line, IsLine}
use Rattle.lexicon_definitions.specs.Rules.{HasPhase, IsInner}
use Rattle.lexicon_definitions.specs.Lexicons.{Lexicon, RuleSet, rule_of, IsLexicon, IsForm, IsPlain, IsPhaseWord}
use Rattle.lexicon_definitions.proofs.GrammarLists.{all_right, all_append}
use Rattle.segmentation_definitions.specs.Derivations.{Step, rule_after, phases_of, IsRuleNumber, AreForms, AreJoined, EndsWell, Covers, Derives}
use Rattle.segmentation_definitions.specs.Items.{Choice, placed, covered_from, taken_by}
use Rattle.segmentation_definitions.specs.Answers.{IsAnswer}
use Rattle.segmentation_definitions.specs.Listings.{Key, keys_of}
use Rattle.segmentation_definitions.specs.LocalTests.{HasNoBlankInside, HasNoBlankAfterLast, Allows, AllAllow}
use Rattle.segmentation_definitions.specs.Configurations.{Entrance, Start, Plain, Lead, entrance_after, GoesOn, PassesTests}
use Rattle.segmentation_definitions.proofs.Coverings.{form_not_empty, taken_length, covered_length, some_letters, unchanged_at_zero}
use Rattle.segmentation_definitions.proofs.Fronts.{lead_after, covers_split, covers_join, placed-append, Enters, joined_split, joined_join, ends_right, ends_join}
use Rattle.segmentation_definitions.proofs.LocalBlanks.{locally_from_seams, seams_from_locally}
use Rattle.segmentation_definitions.proofs.LocalChoices.{allowed_if_kept, kept_if_allowed}
use Rattle.segmentation_definitions.proofs.KeyLists.{key_at}
use Rattle.answer_paths.specs.Fronts.{supplied, HasRoom, MayGoOn, AddsStep, IsLedTo, ways_of}
use Rattle.answer_paths.specs.Following.{step_at, placed_at, is_start, MayEnter, MayStand, MayFollow, MayEnd}
use Rattle.answer_paths.proofs.FrontParts.{same_last, covered-append, supplied_after, keys-append, left_after, goes_on_last, goes_on_join, allow_split, allow_join, first_by_entrance, blanks_before_last, no_blank_after_last}
use Rattle.answer_paths.proofs.AnswerFronts.{led_lawful}
use Rattle.answer_paths.proofs.OrderlyWays.{lead_of_last}
use Rattle.list_laws.proofs.Elements.{parts_from}

-- ---- letters

-- and where the letters from a place on are such parts, they stand at these places
record AreCut (letters : List ℕ) (at count : ℕ) (taken w rest : List ℕ) : Type 0 where
  taken_is : take count (drop at letters) ≡ taken
  w_is : take (length w) (drop (at + count) letters) ≡ w
  rest_is : drop (at + count + length w) letters ≡ rest

cut_parts : (letters : List ℕ) (at count : ℕ) (taken w rest : List ℕ) → count ≡ length taken
    → drop at letters ≡ taken ++ w ++ rest → AreCut letters at count taken w rest
cut_parts letters at count taken w rest c e =
    let e' : drop at letters ≡ taken ++ (w ++ rest) = e ∙ append_assoc taken w rest in
    let following : drop (at + count) letters ≡ w ++ rest =
    sym (drop-drop count at letters) ∙ ap (drop count) e' ∙ ap (λ n. drop n (taken ++ (w ++ rest))) c ∙ drop-append_seam taken (w ++ rest) in
    record {
      taken_is = ap (take count) e' ∙ ap (λ n. take n (taken ++ (w ++ rest))) c ∙ take-append_seam taken (w ++ rest);
      w_is = ap (take (length w)) following ∙ take-append_seam w rest;
      rest_is = sym (drop-drop (length w) (at + count) letters) ∙ ap (drop (length w)) following ∙ drop-append_seam w rest;
    }

-- ---- entrances

first_letter : (form : List ℕ) → 0 < length form → (rest : List ℕ) × (form ≡ slice_index form 0 ∷ rest)
first_letter [] some = absurd (omega arith)
first_letter (x ∷ rest) some = (rest, refl)

may_enter : (rules : RuleSet) (entrance : Entrance) (step : Step) → Enters rules entrance step → MayEnter rules entrance step
may_enter rules Start step enters = tt
may_enter rules (Plain letter) step (first, rest, form, plain) =
    subst (IsPlain rules letter) (sym (ap (λ f. slice_index f 0) form)) plain
may_enter rules (Lead v after) step enters = enters

enters_if_may : (rules : RuleSet) (entrance : Entrance) (step : Step) → 0 < length step.form → MayEnter rules entrance step → Enters rules entrance step
enters_if_may rules Start step some enters = tt
enters_if_may rules (Plain letter) step some enters =
    let first = first_letter step.form some in (slice_index step.form 0, first.0, first.1, enters)
enters_if_may rules (Lead v after) step some enters = enters

-- ---- a front with one step more

-- the step is the one with the key where the front ends
pub record IsNextStep (rules : RuleSet) (line : Line) (front : List Step) (key : Key) (step : Step) : Type 0 where
  pub step_is : step ≡ step_at rules line (covered_from rules 0 [] front) (entrance_after rules Start front) key
  pub key_is : key_at rules (lead_after rules [] front) step ≡ key

-- what a step after a front covers
pub record CoversMore (rules : RuleSet) (line : Line) (front : List Step) (key : Key) (step : Step) (rest : List ℕ) : Type 0 where
  pub next : IsNextStep rules line front key step
  pub within : covered_from rules 0 [] front + key.taken + length (rule_of rules key.rule).w + length rest ≡ length line.letters
  pub written : take (length (rule_of rules key.rule).w) (drop (covered_from rules 0 [] front + key.taken) line.letters) ≡ (rule_of rules key.rule).w

module _ (rules : RuleSet) (line : Line) (front : List Step) (step : Step) where
  covers_more_at : (rest : List ℕ) → Covers rules [] (front ++ step ∷ []) line.letters rest
      → CoversMore rules line front (key_at rules (lead_after rules [] front) step) step rest
  covers_more_at rest covers =
      let both = covers_split rules [] front (step ∷ []) line.letters rest covers in
      let left = left_after rules front line.letters both.between both.first in
      let (taken, following, form, word, end) = both.second in
      let lead = lead_after rules [] front in
      let at = covered_from rules 0 [] front in
      let w = (rule_after rules step).w in
      let u = (rule_after rules step).u in
      let count = taken_length rules lead step taken form in
      let cut = cut_parts line.letters at (taken_by rules lead step) taken w following count (sym left.is ∙ word) in
      let form_is = form ∙ ap (λ l. l ++ taken ++ u) (supplied_after rules front)
      ∙ ap (λ t. supplied (entrance_after rules Start front) ++ t ++ u) (sym cut.taken_is) in
      let whole = covered_length rules 0 [] (front ++ step ∷ []) line.letters rest covers in
      let more = covered-append rules 0 [] front (step ∷ []) in
      record {
        next = record { step_is = λ i. record { phase = step.phase; form = form_is i; rule = step.rule }; key_is = refl };
        within = omega (arith, whole, more);
        written = cut.w_is;
      }

  -- the front with the step, in its places
  placed_more : (key : Key) → IsNextStep rules line front key step
      → placed rules (front ++ step ∷ [])
      ≡ placed rules front ++ placed_at rules line (covered_from rules 0 [] front) (entrance_after rules Start front) key ∷ []
  placed_more key next =
      let at = covered_from rules 0 [] front in
      let lead = ap length (supplied_after rules front) in
      let step_is = next.step_is in
      let taken = ap (λ (k : Key). k.taken) next.key_is in
      placed-append rules 0 [] front (step ∷ [])
      ∙ (λ i. placed rules front ++ record { step = step_is i; at = at; lead = lead i; taken = taken i } ∷ [])

-- the longer front passes the tests where the front does and the step does
module _ (rules : RuleSet) (line : Line) (choices : List Choice) (front : List Step) (step : Step) (key : Key) (next : IsNextStep rules line front key step) where
  tests_of_last : PassesTests rules line choices (front ++ step ∷ [])
      → HasNoBlankInside line.blanks (placed_at rules line (covered_from rules 0 [] front) (entrance_after rules Start front) key)
      × Allows rules (length line.letters) choices (is_start (entrance_after rules Start front))
      (placed_at rules line (covered_from rules 0 [] front) (entrance_after rules Start front) key)
  tests_of_last tests =
      let p = placed_at rules line (covered_from rules 0 [] front) (entrance_after rules Start front) key in
      let cut = placed_more rules line front step key next in
      let inside = all_right (HasNoBlankInside line.blanks) (placed rules front) (p ∷ [])
      (subst (AllByRecursion (HasNoBlankInside line.blanks)) cut tests.no_blank_inside) in
      let allowed = allow_split rules (length line.letters) choices true (placed rules front) (p ∷ [])
      (subst (AllAllow rules (length line.letters) choices true) cut tests.choices_allowed) in
      (inside.0, subst (λ first. Allows rules (length line.letters) choices first p) (first_by_entrance rules front) allowed.1.0)

  tests_with_last : PassesTests rules line choices front
      → HasNoBlankInside line.blanks (placed_at rules line (covered_from rules 0 [] front) (entrance_after rules Start front) key)
      → Allows rules (length line.letters) choices (is_start (entrance_after rules Start front))
      (placed_at rules line (covered_from rules 0 [] front) (entrance_after rules Start front) key)
      → PassesTests rules line choices (front ++ step ∷ [])
  tests_with_last tests blank allows =
      let p = placed_at rules line (covered_from rules 0 [] front) (entrance_after rules Start front) key in
      let cut = sym (placed_more rules line front step key next) in
      record {
        no_blank_inside = subst (AllByRecursion (HasNoBlankInside line.blanks)) cut
            (all_append (HasNoBlankInside line.blanks) (placed rules front) (p ∷ []) tests.no_blank_inside (blank, tt));
        choices_allowed = subst (AllAllow rules (length line.letters) choices true) cut
            (allow_join rules (length line.letters) choices true (placed rules front) (p ∷ []) tests.choices_allowed
            (subst (λ first. Allows rules (length line.letters) choices first p) (sym (first_by_entrance rules front)) allows, tt));
      }

-- the phases of a front with one step more
phases_more : (rules : RuleSet) (front : List Step) (step : Step) (rest : List ℕ)
    → phases_of (front ++ step ∷ []) ++ rest ≡ phases_of front ++ step.phase ∷ rest
phases_more rules front step rest =
    ap (λ phases. phases ++ rest) (map-append (λ (step : Step). step.phase) front (step ∷ [])) ∙ append_assoc (phases_of front) (step.phase ∷ []) rest

-- ---- from the longer front to the step

-- there is no change after the step, or a rule that may follow its phase
abbrev pub HasRule : RuleSet → Step → Type 0
HasRule rules step = (step.rule ≡ 0) ⊎ (IsRuleNumber rules step.rule × HasPhase (rule_after rules step).before step.phase)

module _ (lexicon : Lexicon) (line : Line) (choices : List Choice) (front : List Step) (step : Step) where
  stands_at_key : (rest : List ℕ) → AreForms lexicon (front ++ step ∷ []) → AreJoined lexicon.rules (front ++ step ∷ [])
      → Covers lexicon.rules [] (front ++ step ∷ []) line.letters rest → PassesTests lexicon.rules line choices (front ++ step ∷ [])
      → HasRule lexicon.rules step
      → MayStand lexicon line choices (covered_from lexicon.rules 0 [] front) (entrance_after lexicon.rules Start front)
      (key_at lexicon.rules (lead_after lexicon.rules [] front) step)
  stands_at_key rest forms joined covers tests rule =
      let rules = lexicon.rules in
      let e = entrance_after rules Start front in
      let more = covers_more_at rules line front step rest covers in
      let tested = tests_of_last rules line choices front step _ more.next tests in
      let last = all_right (λ (step : Step). IsForm lexicon step.phase step.form) front (step ∷ []) forms in
      record {
        number = elim rule [ inl none ↦ omega arith | inr some ↦ some.0.1 ];
        within = omega (arith, more.within);
        form = subst (IsForm lexicon step.phase) (ap (λ (s : Step). s.form) more.next.step_is) last.0;
        follows = λ above. elim rule [ inl none ↦ absurd (omega arith) | inr some ↦ some.1 ];
        written = more.written;
        enters = subst (MayEnter rules e) more.next.step_is (may_enter rules e step (joined_split rules front step [] joined).enters);
        blanks = tested.0;
        allowed = tested.1;
      }

  -- where no change stands after the step, the line has letters left after it
  left_by_room : HasRoom lexicon.rules (length line.letters) (front ++ step ∷ []) → step.rule ≡ 0
      → covered_from lexicon.rules 0 [] front + taken_by lexicon.rules (lead_after lexicon.rules [] front) step < length line.letters
  left_by_room room none =
      let lead = lead_of_last lexicon.rules front step in
      let empty = unchanged_at_zero lexicon.rules step.rule none in
      let covered = covered-append lexicon.rules 0 [] front (step ∷ []) in
      elim room [ inl some ↦ absurd (omega (arith, lead, some, empty.v_empty)) | inr below ↦ omega (arith, covered, below) ]

  follows_at_key : MayGoOn lexicon line choices (front ++ step ∷ [])
      → MayFollow lexicon line choices (covered_from lexicon.rules 0 [] front) (entrance_after lexicon.rules Start front) (phases_of front)
      (key_at lexicon.rules (lead_after lexicon.rules [] front) step)
  follows_at_key goes =
      let rule = goes_on_last lexicon.rules front step goes.lawful.goes_on in
      record {
        stands = stands_at_key goes.lawful.rest goes.lawful.forms goes.lawful.joined goes.lawful.covers goes.tests
            (elim rule [ inl none ↦ inl none | inr inner ↦ inr (inner.0, inner.2) ]);
        inner = λ above. elim rule [ inl none ↦ absurd (omega arith) | inr inner ↦ inner.1 ];
        left = λ none. left_by_room goes.room none;
        accepted = (goes.accepted.0, subst (IsPhaseWord lexicon.rules) (phases_more lexicon.rules front step goes.accepted.0) goes.accepted.1);
      }

  ends_at_key : IsLexicon lexicon → IsAnswer lexicon line choices (front ++ step ∷ [])
      → MayEnd lexicon line choices (covered_from lexicon.rules 0 [] front) (entrance_after lexicon.rules Start front) (phases_of front)
      (key_at lexicon.rules (lead_after lexicon.rules [] front) step)
  ends_at_key is answer =
      let rules = lexicon.rules in
      let d = answer.derives in
      let rule = ends_right rules front step [] d.ends in
      let blanks = locally_from_seams lexicon line (front ++ step ∷ []) is d answer.blanks_kept in
      let allowed = allowed_if_kept lexicon line.letters choices (front ++ step ∷ []) is d answer.choices_kept in
      let more = covers_more_at rules line front step [] d.covers in
      let p = placed_at rules line (covered_from rules 0 [] front) (entrance_after rules Start front) (key_at rules (lead_after rules [] front) step) in
      record {
        stands = stands_at_key [] d.forms d.joined d.covers (record { no_blank_inside = blanks.inside; choices_allowed = allowed })
            (elim rule [ inl none ↦ inl none | inr final ↦ inr (final.0, final.2) ]);
        final_rule = λ above. elim rule [ inl none ↦ absurd (omega arith) | inr final ↦ final.1 ];
        all = omega (arith, more.within);
        blanks_before = blanks_before_last line.blanks (placed rules front) p
            (subst (HasNoBlankAfterLast line.blanks) (placed_more rules line front step _ more.next) blanks.following);
        accepted = subst (IsPhaseWord rules) (map-append (λ (step : Step). step.phase) front (step ∷ [])) answer.accepted;
      }

-- the key of the step that was added
pub added_key : (rules : RuleSet) (front : List Step) (key : Key) (longer : List Step) (adds : AddsStep rules front key longer)
    → key_at rules (lead_after rules [] front) adds.step ≡ key
added_key rules front key longer adds =
    let same : keys_of rules (front ++ adds.step ∷ []) ≡ keys_of rules longer = ap (keys_of rules) (sym adds.is) in
    same_last (keys_of rules front) _ key (sym (keys-append rules front adds.step) ∙ same ∙ adds.keys)

-- a key that leads on is one of a step that may follow where the front ends, and leads to the front with this step
pub follows_if_leads : (lexicon : Lexicon) (line : Line) (choices : List Choice) (front : List Step) (key : Key) (next : List Step)
    → (ways_of lexicon line choices).leads front key next
    → (next ≡ front ++ step_at lexicon.rules line (covered_from lexicon.rules 0 [] front) (entrance_after lexicon.rules Start front) key ∷ [])
    × MayFollow lexicon line choices (covered_from lexicon.rules 0 [] front) (entrance_after lexicon.rules Start front) (phases_of front) key
follows_if_leads lexicon line choices front key next (adds, goes) =
    let rules = lexicon.rules in
    let at = covered_from rules 0 [] front in
    let e = entrance_after rules Start front in
    let next_is = adds.is in
    let goes' : MayGoOn lexicon line choices (front ++ adds.step ∷ []) = subst (MayGoOn lexicon line choices) next_is goes in
    let more = covers_more_at rules line front adds.step goes'.lawful.rest goes'.lawful.covers in
    subst (λ key. (next ≡ front ++ step_at rules line at e key ∷ []) × MayFollow lexicon line choices at e (phases_of front) key)
    (added_key rules front key next adds)
    (next_is ∙ ap (λ s. front ++ s ∷ []) more.next.step_is, follows_at_key lexicon line choices front adds.step goes')

-- a key that ends is one of a step that may end the line where the front ends
pub may_end_if_ends : (lexicon : Lexicon) (line : Line) (choices : List Choice) (front : List Step) (key : Key) → IsLexicon lexicon
    → (ways_of lexicon line choices).ends front key
    → MayEnd lexicon line choices (covered_from lexicon.rules 0 [] front) (entrance_after lexicon.rules Start front) (phases_of front) key
may_end_if_ends lexicon line choices front key is (steps, adds, answer) =
    let next_is = adds.is in
    subst (MayEnd lexicon line choices (covered_from lexicon.rules 0 [] front) (entrance_after lexicon.rules Start front) (phases_of front))
    (added_key lexicon.rules front key steps adds)
    (ends_at_key lexicon line choices front adds.step is (subst (IsAnswer lexicon line choices) next_is answer))

-- ---- from the step to the longer front

-- a front that is lawful and passes the tests, with a step that may stand where it ends
pub record Longer (lexicon : Lexicon) (line : Line) (choices : List Choice) (front : List Step) (key : Key) (step : Step) : Type 0 where
  pub next : IsNextStep lexicon.rules line front key step
  pub forms : AreForms lexicon (front ++ step ∷ [])
  pub joined : AreJoined lexicon.rules (front ++ step ∷ [])
  pub rest : List ℕ
  pub covers : Covers lexicon.rules [] (front ++ step ∷ []) line.letters rest
  pub tests : PassesTests lexicon.rules line choices (front ++ step ∷ [])
  pub rule : HasRule lexicon.rules step

module _ (lexicon : Lexicon) (line : Line) (choices : List Choice) (front : List Step) (key : Key) (is : IsLexicon lexicon)
    (led : IsLedTo lexicon line choices front) where
  pub longer : MayStand lexicon line choices (covered_from lexicon.rules 0 [] front) (entrance_after lexicon.rules Start front) key
      → Longer lexicon line choices front key
      (step_at lexicon.rules line (covered_from lexicon.rules 0 [] front) (entrance_after lexicon.rules Start front) key)
  longer stands =
      let rules = lexicon.rules in
      let at = covered_from rules 0 [] front in
      let e = entrance_after rules Start front in
      let step = step_at rules line at e key in
      let lawful = (led_lawful lexicon line choices front led).0 in
      let tests = (led_lawful lexicon line choices front led).1 in
      let lead = lead_after rules [] front in
      let taken = take key.taken (drop at line.letters) in
      let w = (rule_of rules key.rule).w in
      let u = (rule_of rules key.rule).u in
      let form : step.form ≡ lead ++ taken ++ u = ap (λ l. l ++ taken ++ u) (sym (supplied_after rules front)) in
      let most = length-drop at line.letters in
      let within = stands.within in
      let count = taken_length rules lead step taken form ∙ length-take-le key.taken (drop at line.letters) (omega arith) in
      let next : IsNextStep rules line front key step =
      record { step_is = refl; key_is = λ i. record { phase = key.phase; taken = count i; rule = key.rule } } in
      let left = left_after rules front line.letters lawful.rest lawful.covers in
      let parts = parts_from line.letters w at key.taken stands.written in
      let rest = drop (at + key.taken + length w) line.letters in
      let some = form_not_empty lexicon key.phase step.form is stands.form in
      record {
        next = next;
        forms = all_append (λ (step : Step). IsForm lexicon step.phase step.form) front (step ∷ []) lawful.forms (stands.form, tt);
        joined = joined_join rules lexicon front step [] is lawful.forms lawful.joined lawful.goes_on
            (record { enters = enters_if_may rules e step some stands.enters; joined = tt });
        rest = rest;
        covers = covers_join rules [] front (step ∷ []) line.letters lawful.rest rest lawful.covers (taken, rest, form, left.is ∙ parts, refl);
        tests = tests_with_last rules line choices front step key next tests stands.blanks stands.allowed;
        rule = elim (cases_lt 0 key.rule) [ inl above ↦ inr ((above, stands.number), stands.follows above) | inr none ↦ inl (omega arith) ];
      }

  added : (step : Step) → Longer lexicon line choices front key step → AddsStep lexicon.rules front key (front ++ step ∷ [])
  added step long = record {
    step = step;
    is = refl;
    keys = keys-append lexicon.rules front step ∙ ap (λ key. keys_of lexicon.rules front ++ key ∷ []) long.next.key_is;
  }

  room_of_step : (step : Step) → Longer lexicon line choices front key step → (0 < step.rule → IsInner (rule_after lexicon.rules step))
      → (step.rule ≡ 0 → covered_from lexicon.rules 0 [] front + taken_by lexicon.rules (lead_after lexicon.rules [] front) step < length line.letters)
      → HasRoom lexicon.rules (length line.letters) (front ++ step ∷ [])
  room_of_step step long inner left =
      let lead = lead_of_last lexicon.rules front step in
      let covered = covered-append lexicon.rules 0 [] front (step ∷ []) in
      elim (cases_lt 0 step.rule) [
        | inl above ↦ inl (omega (arith, lead, some_letters (inner above)))
        | inr none ↦
            let zero : step.rule ≡ 0 = omega arith in
            let empty = unchanged_at_zero lexicon.rules step.rule zero in
            inr (omega (arith, covered, left zero, empty.w_empty))
      ]

  -- a step that may follow where the front ends leads on
  pub leads_if_follows : MayFollow lexicon line choices (covered_from lexicon.rules 0 [] front) (entrance_after lexicon.rules Start front) (phases_of front) key
      → (ways_of lexicon line choices).leads front key
      (front ++ step_at lexicon.rules line (covered_from lexicon.rules 0 [] front) (entrance_after lexicon.rules Start front) key ∷ [])
  leads_if_follows follows =
      let rules = lexicon.rules in
      let step = step_at rules line (covered_from rules 0 [] front) (entrance_after rules Start front) key in
      let long = longer follows.stands in
      let taken : taken_by rules (lead_after rules [] front) step ≡ key.taken = ap (λ (k : Key). k.taken) long.next.key_is in
      let rule : GoesOn rules (step ∷ []) = elim long.rule [
        | inl none ↦ inl none
        | inr some ↦ inr (some.0, follows.inner some.0.0, some.1)
      ] in (
        added step long,
        record {
          lawful = record { forms = long.forms; joined = long.joined; goes_on = goes_on_join rules front step rule; rest = long.rest; covers = long.covers };
          tests = long.tests;
          room = room_of_step step long follows.inner (λ none. omega (arith, taken, follows.left none));
          accepted = (follows.accepted.0, subst (IsPhaseWord rules) (sym (phases_more rules front step follows.accepted.0)) follows.accepted.1);
        },
      )

  -- a step that may end the line where the front ends makes an answer
  pub ends_if_may_end : IsLine line
      → MayEnd lexicon line choices (covered_from lexicon.rules 0 [] front) (entrance_after lexicon.rules Start front) (phases_of front) key
      → (ways_of lexicon line choices).ends front key
  ends_if_may_end line_is ends =
      let rules = lexicon.rules in
      let step = step_at rules line (covered_from rules 0 [] front) (entrance_after rules Start front) key in
      let long = longer ends.stands in
      let taken : taken_by rules (lead_after rules [] front) step ≡ key.taken = ap (λ (k : Key). k.taken) long.next.key_is in
      let whole = covered_length rules 0 [] (front ++ step ∷ []) line.letters long.rest long.covers in
      let covered = covered-append rules 0 [] front (step ∷ []) in
      let none = nil_from_length long.rest (omega (arith, whole, covered, taken, ends.all)) in
      let rule : EndsWell rules (step ∷ []) = elim long.rule [
        | inl none ↦ inl none
        | inr some ↦ inr (some.0, ends.final_rule some.0.0, some.1)
      ] in
      let derives : Derives lexicon (front ++ step ∷ []) line.letters = record {
        forms = long.forms;
        joined = long.joined;
        ends = ends_join rules front step [] rule;
        covers = subst (Covers rules [] (front ++ step ∷ []) line.letters) none long.covers;
      } in
      let p = placed_at rules line (covered_from rules 0 [] front) (entrance_after rules Start front) key in
      let following = subst (HasNoBlankAfterLast line.blanks) (sym (placed_more rules line front step key long.next))
      (no_blank_after_last line.blanks (placed rules front) p ends.blanks_before) in (
        front ++ step ∷ [],
        added step long,
        record {
          derives = derives;
          accepted = subst (IsPhaseWord rules) (sym (map-append (λ (step : Step). step.phase) front (step ∷ []))) ends.accepted;
          blanks_kept = seams_from_locally lexicon line (front ++ step ∷ []) is line_is derives
              (record { inside = long.tests.no_blank_inside; following = following });
          choices_kept = kept_if_allowed lexicon line.letters choices (front ++ step ∷ []) is derives long.tests.choices_allowed;
        },
      )

-- ---- both ways, where the front ends is named

pub leads_locally : (lexicon : Lexicon) (line : Line) (choices : List Choice) (front next : List Step) (key : Key) (at : ℕ) (entrance : Entrance)
    → IsLexicon lexicon → IsLedTo lexicon line choices front
    → at ≡ covered_from lexicon.rules 0 [] front → entrance ≡ entrance_after lexicon.rules Start front
    → (ways_of lexicon line choices).leads front key next
    ↔ ((next ≡ front ++ step_at lexicon.rules line at entrance key ∷ []) × MayFollow lexicon line choices at entrance (phases_of front) key)
leads_locally lexicon line choices front next key at entrance is led at_is entrance_is =
    let Leads = (ways_of lexicon line choices).leads front key in
    subst (λ at. Leads next ↔ ((next ≡ front ++ step_at lexicon.rules line at entrance key ∷ []) × MayFollow lexicon line choices at entrance (phases_of front) key))
    (sym at_is)
    (subst (λ entrance. Leads next ↔ ((next ≡ front ++ step_at lexicon.rules line (covered_from lexicon.rules 0 [] front) entrance key ∷ [])
    × MayFollow lexicon line choices (covered_from lexicon.rules 0 [] front) entrance (phases_of front) key))
    (sym entrance_is) (
      follows_if_leads lexicon line choices front key next,
      λ follows. subst Leads (sym follows.0) (leads_if_follows lexicon line choices front key is led follows.1),
    ))

pub ends_locally : (lexicon : Lexicon) (line : Line) (choices : List Choice) (front : List Step) (key : Key) (at : ℕ) (entrance : Entrance)
    → IsLexicon lexicon → IsLine line → IsLedTo lexicon line choices front
    → at ≡ covered_from lexicon.rules 0 [] front → entrance ≡ entrance_after lexicon.rules Start front
    → (ways_of lexicon line choices).ends front key ↔ MayEnd lexicon line choices at entrance (phases_of front) key
ends_locally lexicon line choices front key at entrance is line_is led at_is entrance_is =
    let Ends = (ways_of lexicon line choices).ends front key in
    subst (λ at. Ends ↔ MayEnd lexicon line choices at entrance (phases_of front) key)
    (sym at_is)
    (subst (λ entrance. Ends ↔ MayEnd lexicon line choices (covered_from lexicon.rules 0 [] front) entrance (phases_of front) key)
    (sym entrance_is)
    (may_end_if_ends lexicon line choices front key is, ends_if_may_end lexicon line choices front key is led line_is))
