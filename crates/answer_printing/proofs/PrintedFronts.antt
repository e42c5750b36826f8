-- What is printed of steps is what is printed of their front and of the rest, so a text that is cut where a step begins may go on
-- with other steps; and a step more is printed after the others, whose texts stay where they begin.
use Rattle.std.proofs.Common.{◌≡◌, ℕ, zero, suc, ◌+◌, ◌-◌, ◌<◌, ◌≤◌, ◌⊎◌, inl, inr, List, [], ◌∷◌, ◌++◌, length, get_or, take, drop, map, refl, sym, ◌∙◌, ap, subst, append_assoc, length-append, arith}
use Rattle.std.proofs.Math.Seq.{take-append_seam}
use Rattle.std.proofs.lemmas.List.{take-append-le, take-append-drop, length-take-le, get_or-take, get_or_append_left, take_all, take_more, map-append, take-map, length-map}
use Rattle.lexicon_definitions.specs.Lexicons.{RuleSet, rule_of}
use Rattle.segmentation_definitions.specs.PrintedAnswers.{printed_steps, printed_form, printed_end}
use Rattle.derivation.specs.declared.step.Step.{Step}
use Rattle.derivation.specs.Steps.{step_after, steps_from, steps_of}
use Rattle.derivation.proofs.StepLemmas.{printed_first, printed_last}
use Rattle.answer_printing.specs.declared.printed_front.PrintedStep.{PrintedStep}
use Rattle.answer_printing.specs.Texts.{PrintedWith}
use Rattle.answer_printing.specs.Fronts.{AreStarts, IsOpen, GoesOn, printed_form_and_joint, step_in, printed_at, nothing}

-- ---- lists

-- the front of a longer front
take_less : {X : Type 0} (m n : ℕ) (xs : List X) → m ≤ n → n ≤ length xs → take m (take n xs) ≡ take m xs
take_less m n xs less within =
    let count = length-take-le n xs within in
    sym (take-append-le m (take n xs) (drop n xs) (omega (arith, count, less))) ∙ ap (take m) (take-append-drop n xs)

-- what stands before the last element
before_last : {X : Type 0} (xs ys : List X) (n : ℕ) → n ≡ length xs → take n (xs ++ ys) ≡ xs
before_last xs ys n is = ap (λ (m : ℕ). take m (xs ++ ys)) is ∙ take-append_seam xs ys

-- a place of a list with one more is one of the list or the last
place_or_last : (place count : ℕ) → place < count + 1 → (place < count) ⊎ (place ≡ count)
place_or_last zero zero low = inr refl
place_or_last zero (suc count) low = inl (omega arith)
place_or_last (suc place) zero low = absurd (omega arith)
place_or_last (suc place) (suc count) low = elim (place_or_last place count (omega arith)) [ inl l ↦ inl (omega (arith, l)) | inr e ↦ inr (ap suc e) ]

-- a list is its front and its last element
pub with_last : (xs front : List Step) (place : ℕ) (none : Step) → front ≡ take place xs → place ≡ length xs - 1 → 0 < length xs
    → front ++ get_or xs (length xs - 1) none ∷ [] ≡ xs
with_last xs front place none front_is place_is some =
    ap (λ ys. ys ++ get_or xs (length xs - 1) none ∷ []) (front_is ∙ ap (λ n. take n xs) place_is)
    ∙ sym (take_more xs (length xs - 1) none (omega (arith, some))) ∙ take_all (length xs - 1 + 1) xs (omega (arith, some))

at_seam : (xs : List PrintedStep) (y : PrintedStep) (place : ℕ) → place ≡ length xs → printed_at (xs ++ y ∷ []) place ≡ y
at_seam [] y zero is = refl
at_seam [] y (suc place) is = absurd (omega arith)
at_seam (x ∷ xs) y zero is = absurd (omega arith)
at_seam (x ∷ xs) y (suc place) is = at_seam xs y place (omega arith)

-- ---- texts

-- what is printed with the rules and the letters of a printer
pub with_view : (parts printer : PrintedWith) (steps : List Step) (text : List ℕ) → parts ≡ printer
    → text ≡ printed_steps parts.rules (steps_of parts.rules parts.letters steps) → text ≡ printed_steps printer.rules (steps_of printer.rules printer.letters steps)
with_view parts printer steps text view_is text_is =
    subst (λ (w : PrintedWith). text ≡ printed_steps w.rules (steps_of w.rules w.letters steps)) view_is text_is

module _ (rules : RuleSet) (letters : List ℕ) where
  -- the same said in another way
  along : (front other : List Step) (before rule : ℕ) (text same : List ℕ) → front ≡ other → before ≡ rule → text ≡ same
      → GoesOn rules letters front before text → GoesOn rules letters other rule same
  along front other before rule text same front_is before_is text_is goes =
      subst (λ (t : List ℕ). GoesOn rules letters other rule t) text_is
      (subst (λ (r : ℕ). GoesOn rules letters other r text) before_is
      (subst (λ (f : List Step). GoesOn rules letters f before text) front_is goes))

  -- nothing is printed
  pub no_starts : (printed : List PrintedStep) (text : List ℕ) → printed ≡ [] → AreStarts rules letters printed text
  no_starts printed text none =
      let count = ap length none in
      record {
        rule = λ place low. absurd (omega (arith, count, low));
        within = λ place low. absurd (omega (arith, count, low));
        rise = λ place later order low. absurd (omega (arith, count, low));
        each = λ place low. absurd (omega (arith, count, low));
      }

  pub open_at_first : (printed : List PrintedStep) (text : List ℕ) → printed ≡ [] → text ≡ [] → IsOpen rules letters printed 0 text
  open_at_first printed text none no_text = record {
    starts = no_starts printed text none;
    rule = omega arith;
    goes_on = along [] (map step_in printed) 0 0 [] text (sym (ap (map step_in) none)) refl (sym no_text) (λ rest some. refl);
  }

  -- the text is cut where a step begins
  module _ (printed : List PrintedStep) (text : List ℕ) (same : ℕ) (starts : AreStarts rules letters printed text) (there : same < length printed) where
    at_front : (place : ℕ) → place < same → printed_at (take same printed) place ≡ printed_at printed place
    at_front place low = get_or-take same printed place nothing low

    count : length (take same printed) ≡ same
    count = length-take-le same printed (omega (arith, there))

    text_count : length (take (printed_at printed same).at text) ≡ (printed_at printed same).at
    text_count = length-take-le (printed_at printed same).at text (starts.within same there)

    at_is : (place : ℕ) → place < same → (printed_at (take same printed) place).at ≡ (printed_at printed place).at
    at_is place low = ap (λ (p : PrintedStep). p.at) (at_front place low)

    before_is : (place : ℕ) → place < same → (printed_at (take same printed) place).before ≡ (printed_at printed place).before
    before_is place low = ap (λ (p : PrintedStep). p.before) (at_front place low)

    steps_is : take same (map step_in printed) ≡ map step_in (take same printed)
    steps_is = take-map step_in same printed

    front_is : (place : ℕ) → place < same → take place (map step_in printed) ≡ take place (map step_in (take same printed))
    front_is place low =
        let long = length-map printed step_in in
        sym (take_less place same (map step_in printed) (omega (arith, low)) (omega (arith, long, there))) ∙ ap (take place) steps_is

    pub cut : IsOpen rules letters (take same printed) (printed_at printed same).before (take (printed_at printed same).at text)
    cut = record {
      starts = record {
        rule = λ place low.
            let l : place < same = omega (arith, low, count) in
            omega (arith, before_is place l, starts.rule place (omega (arith, l, there)));
        within = λ place low.
            let l : place < same = omega (arith, low, count) in
            omega (arith, at_is place l, text_count, starts.rise place same (omega (arith, l)) there);
        rise = λ place later order low.
            let l : later < same = omega (arith, low, count) in
            omega (arith, at_is place (omega (arith, order, l)), at_is later l, starts.rise place later order (omega (arith, l, there)));
        each = λ place low.
            let l : place < same = omega (arith, low, count) in
            let text_is : take (printed_at printed place).at text ≡ take (printed_at (take same printed) place).at (take (printed_at printed same).at text) =
            sym (take_less (printed_at printed place).at (printed_at printed same).at text (starts.rise place same (omega (arith, l)) there) (starts.within same there))
            ∙ ap (λ (n : ℕ). take n (take (printed_at printed same).at text)) (sym (at_is place l)) in
            along _ _ _ _ _ _ (front_is place l) (sym (before_is place l)) text_is (starts.each place (omega (arith, l, there)));
      };
      rule = starts.rule same there;
      goes_on = along _ _ _ _ _ _ steps_is refl refl (starts.each same there);
    }

    -- the same of what is read there
    pub cut_there : (next : PrintedStep) (items : List PrintedStep) (rest : List ℕ) → next ≡ printed_at printed same → items ≡ take same printed → rest ≡ take next.at text
        → IsOpen rules letters items next.before rest
    cut_there next items rest next_is items_are rest_is =
        subst (λ (t : List ℕ). IsOpen rules letters items next.before t) (sym rest_is)
        (subst (λ (ps : List PrintedStep). IsOpen rules letters ps next.before (take next.at text)) (sym items_are)
        (subst (λ (p : PrintedStep). IsOpen rules letters (take same printed) p.before (take p.at text)) (sym next_is) cut))

  -- a step is printed after the others
  module _ (printed : List PrintedStep) (before : ℕ) (text : List ℕ) (is_open : IsOpen rules letters printed before text) (step : Step) where
    abbrev pub with_step : List PrintedStep
    with_step = printed ++ record { step = step; at = length text; before = before } ∷ []

    steps_with : map step_in with_step ≡ map step_in printed ++ step ∷ []
    steps_with = map-append step_in printed (record { step = step; at = length text; before = before } ∷ [])

    module _ (more new : List ℕ) (new_is : new ≡ text ++ more) where
      longer : length new ≡ length text + length more
      longer = ap length new_is ∙ length-append text more

      -- what holds of each printed step, and of this one, holds of all
      each_of : (P : ℕ → PrintedStep → Type 0) → ((place : ℕ) → place < length printed → P place (printed_at printed place))
          → P (length printed) (record { step = step; at = length text; before = before })
          → (place : ℕ) → place < length with_step → P place (printed_at with_step place)
      each_of P old last place low =
          let all = length-append printed (record { step = step; at = length text; before = before } ∷ []) in
          elim (place_or_last place (length printed) (omega (arith, low, all))) [
            | inl l ↦ subst (P place) (sym (get_or_append_left printed (record { step = step; at = length text; before = before } ∷ []) nothing place l)) (old place l)
            | inr e ↦ subst (P place) (sym (at_seam printed (record { step = step; at = length text; before = before }) place e))
                (subst (λ (n : ℕ). P n (record { step = step; at = length text; before = before })) (sym e) last)
          ]

      within_old : (place : ℕ) → place < length with_step → (printed_at with_step place).at ≤ length text
      within_old = each_of (λ place p. p.at ≤ length text) is_open.starts.within (omega arith)

      pub starts_with : AreStarts rules letters with_step new
      starts_with = record {
        rule = each_of (λ place p. p.before ≤ length rules.rules) is_open.starts.rule is_open.rule;
        within = λ place low. omega (arith, within_old place low, longer);
        rise = λ place later order low.
            each_of (λ (n : ℕ) (q : PrintedStep). (place : ℕ) → place ≤ n → (printed_at with_step place).at ≤ q.at)
            (λ n l place order. let same = ap (λ (p : PrintedStep). p.at) (get_or_append_left printed (record { step = step; at = length text; before = before } ∷ []) nothing place (omega (arith, l, order))) in
            omega (arith, same, is_open.starts.rise place n order l))
            (λ place order. within_old place (omega (arith, order, length-append printed (record { step = step; at = length text; before = before } ∷ []))))
            later low place order;
        each = each_of (λ (n : ℕ) (q : PrintedStep). GoesOn rules letters (take n (map step_in with_step)) q.before (take q.at new))
            (λ n l.
            let long = length-map printed step_in in
            let front : take n (map step_in printed) ≡ take n (map step_in with_step) =
            sym (take-append-le n (map step_in printed) (step ∷ []) (omega (arith, long, l))) ∙ ap (take n) (sym steps_with) in
            let text_is : take (printed_at printed n).at text ≡ take (printed_at printed n).at new =
            sym (take-append-le (printed_at printed n).at text more (is_open.starts.within n l)) ∙ ap (take (printed_at printed n).at) (sym new_is) in
            along _ _ _ _ _ _ front refl text_is (is_open.starts.each n l))
            (let front : map step_in printed ≡ take (length printed) (map step_in with_step) =
            sym (before_last (map step_in printed) (step ∷ []) (length printed) (sym (length-map printed step_in))) ∙ ap (take (length printed)) (sym steps_with) in
            let text_is : text ≡ take (length text) new = sym (take-append_seam text more) ∙ ap (take (length text)) (sym new_is) in
            along _ _ _ _ _ _ front refl text_is is_open.goes_on);
      }

    -- and what joins it to the next
    pub joined : (new : List ℕ) → step.rule ≤ length rules.rules → new ≡ text ++ printed_form_and_joint rules (step_after rules letters before step)
        → IsOpen rules letters with_step step.rule new
    joined new rule new_is =
        let more = printed_form_and_joint rules (step_after rules letters before step) in
        record {
          starts = starts_with more new new_is;
          rule = rule;
          goes_on = λ rest some.
              let later = printed_steps rules (steps_from rules letters (rule_of rules step.rule).v rest) in
              ap (λ xs. xs ++ later) new_is ∙ append_assoc text more later ∙ ap (λ xs. text ++ xs) (sym (printed_first rules letters before step rest some))
              ∙ is_open.goes_on (step ∷ rest) (omega arith)
              ∙ ap (λ steps. printed_steps rules (steps_of rules letters steps)) (sym (append_assoc (map step_in printed) (step ∷ []) rest) ∙ ap (λ steps. steps ++ rest) (sym steps_with));
        }

    -- or ends the answer
    pub ended : (with_form new : List ℕ) → with_form ≡ text ++ printed_form rules (step_after rules letters before step)
        → new ≡ with_form ++ printed_end rules step.rule
        → AreStarts rules letters with_step new × (new ≡ printed_steps rules (steps_of rules letters (map step_in printed ++ step ∷ [])))
    ended with_form new form_is new_is =
        let form = printed_form rules (step_after rules letters before step) in
        let ending = printed_end rules step.rule in
        let all : new ≡ text ++ (form ++ ending) = new_is ∙ ap (λ xs. xs ++ ending) form_is ∙ append_assoc text form ending in (
          starts_with (form ++ ending) new all,
          all ∙ ap (λ xs. text ++ xs) (sym (printed_last rules letters before step [] refl)) ∙ is_open.goes_on (step ∷ []) (omega arith),
        )

    -- the same, where the printed step tells by itself where its text begins
    module _ (at : ℕ) (items : List PrintedStep) (at_is : at ≡ length text)
        (items_are : items ≡ printed ++ record { step = step; at = at; before = before } ∷ []) where
      items_with : items ≡ with_step
      items_with = items_are ∙ ap (λ (n : ℕ). printed ++ record { step = step; at = n; before = before } ∷ []) at_is

      pub joined_there : (new : List ℕ) → step.rule ≤ length rules.rules → new ≡ text ++ printed_form_and_joint rules (step_after rules letters before step)
          → IsOpen rules letters items step.rule new
      joined_there new rule new_is =
          subst (λ (ps : List PrintedStep). IsOpen rules letters ps step.rule new) (sym items_with) (joined new rule new_is)

      pub ended_there : (with_form new : List ℕ) → with_form ≡ text ++ printed_form rules (step_after rules letters before step)
          → new ≡ with_form ++ printed_end rules step.rule → AreStarts rules letters items new
      ended_there with_form new form_is new_is =
          subst (λ (ps : List PrintedStep). AreStarts rules letters ps new) (sym items_with) (ended with_form new form_is new_is).0
