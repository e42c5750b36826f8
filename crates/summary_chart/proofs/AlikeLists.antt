-- The fronts of phases that do the same from a place: that of one phase more, which is put to one of those before or after them.
use Rattle.std.proofs.Common.{◌≡◌, ◌⊎◌, ◌↔◌, inl, inr, ℕ, ◌+◌, ◌<◌, ◌≤◌, ◌++◌, ◌∷◌, [], Option, Some, None, List, length, set, refl, sym, subst, arith}
use Rattle.std.proofs.lemmas.Bool.{cases_eq}
use Rattle.std.proofs.lemmas.List.{get_or-set_other, get_or-set_same, get_or_append_left, get_or_at, length-append, length-set}
use Rattle.std.proofs.lemmas.List.Elements.{All-get_or, All-push, All-set}
use Rattle.text_definitions.specs.Lines.{Line}
use Rattle.segmentation_definitions.specs.Items.{Choice}
use Rattle.segmentation_definitions.specs.Listings.{Key}
use Rattle.annotated_trie.specs.Searched.{SearchedLexicon}
use Rattle.search_frames.specs.Ahead.{MayBegin}
use Rattle.search_frames.specs.Configurations.{IsPossible, NumberedConfiguration}
use Rattle.summary_chart.specs.AlikeFronts.{AreOnwardFronts, DoAlike, DoesAs, IsBegun, IsCovered, IsCoveredBy, IsFirst, IsOnwardFront, front_at}
use Rattle.summary_chart.specs.declared.alike.AlikeFront.{AlikeFront}
use Rattle.summary_chart.specs.declared.site.Front.{Front}
use Rattle.summary_chart.specs.declared.state_set.StateSet.{StateSet}
use Rattle.summary_chart.specs.Fronts.{IsFrontAt, IsNextFront}
use Rattle.summary_chart.specs.StateSets.{HasState, IsLedTo}
use Rattle.summary_chart.proofs.AlikeKeys.{does_alike}
use Rattle.summary_chart.proofs.VisitedKeys.{below_or_at}

-- what stands at a place of no list
abbrev pub no_front : AlikeFront
no_front = record { front = record { phase = 0; taken = 0; node = 0 }; states = record { bits = 0 } }

module _ (searched : SearchedLexicon) (line : Line) (choices : List Choice) (here : NumberedConfiguration) where
  -- where a form of the phase may be entered, its front that takes no letter is begun
  pub begun_if_next : (phase : ℕ) (next : Option Front) → MayBegin here.entrance phase
      → ((limit : ℕ) → here.at ≤ limit → IsNextFront searched line here phase limit 0 next) → IsBegun searched line choices here phase next
  begun_if_next phase None begins is = λ key possible may same.
      let none = is (here.at + key.taken) (omega arith) key possible same (omega arith) in
      omega (arith, none)
  begun_if_next phase (Some front) begins is =
      let near = is here.at (omega arith) in (
        near.phase_is,
        record {
          taken = near.taken_is;
          own = record {
            begins = subst (MayBegin here.entrance) (sym near.phase_is) begins;
            leads = subst (λ (taken : ℕ). IsFrontAt searched line here front.phase taken front.node) (sym near.taken_is)
                (subst (λ (p : ℕ). IsFrontAt searched line here p 0 front.node) (sym near.phase_is) near.is);
            alike = inl refl;
          };
        },
      )

  module _ (states : StateSet) where
    -- a phase of which no key leads on
    pub onward_without : (phase : ℕ) (fronts : List AlikeFront)
        → ((key : Key) (to : ℕ) → key.phase ≡ phase → IsPossible searched line here key → MayBegin here.entrance key.phase → IsLedTo searched.machine states phase to → ⊥)
        → AreOnwardFronts searched line choices here states phase fronts → AreOnwardFronts searched line choices here states (phase + 1) fronts
    onward_without phase fronts none are = record {
      each = are.each;
      all = λ key to low possible begins led. elim (below_or_at key.phase phase low) [
        | inl below ↦ are.all key to below possible begins led
        | inr same ↦ absurd (none key to same possible begins (subst (λ (p : ℕ). IsLedTo searched.machine states p to) same led))
      ];
    }

    module _ (one : AlikeFront) (first : IsFirst searched line choices here one.front)
        (after : (number : ℕ) → HasState one.states number ↔ IsLedTo searched.machine states one.front.phase number)
        (fronts : List AlikeFront) (are : AreOnwardFronts searched line choices here states one.front.phase fronts) where
      own_covered : IsCovered searched line choices here states one one.front.phase
      own_covered = record { does = first.own; states = λ to led. (after to).1 led }

      -- the front after the others
      pub with_front : AreOnwardFronts searched line choices here states (one.front.phase + 1) (fronts ++ one ∷ [])
      with_front =
          let count = length-append fronts (one ∷ []) in
          record {
            each = All-push (IsOnwardFront searched line choices here states) fronts one are.each
                (record { first = first; only = λ to has. (one.front.phase, own_covered, (after to).0 has) });
            all = λ key to low possible begins led. elim (below_or_at key.phase one.front.phase low) [
              | inl below ↦
                  let (number, l, covered) = are.all key to below possible begins led in (
                    number,
                    omega (arith, l, count),
                    subst (λ (f : AlikeFront). IsCovered searched line choices here states f key.phase) (sym (get_or_append_left fronts (one ∷ []) no_front number l)) covered,
                  )
              | inr same ↦ (
                length fronts,
                omega (arith, count),
                subst (λ (f : AlikeFront). IsCovered searched line choices here states f key.phase) (sym (get_or_at fronts one [] no_front (length fronts) refl))
                    (subst (IsCovered searched line choices here states one) (sym same) own_covered),
              )
            ];
          }

      -- its states with those of one of the others
      module _ (number : ℕ) (there : number < length fronts) (alike : DoAlike searched choices (front_at fronts number).front one.front) (new : AlikeFront)
          (front_is : new.front ≡ (front_at fronts number).front)
          (union : (to : ℕ) → HasState new.states to ↔ (HasState (front_at fronts number).states to ⊎ HasState one.states to)) where
        grown : (phase : ℕ) → IsCovered searched line choices here states (front_at fronts number) phase → IsCovered searched line choices here states new phase
        grown phase covered = record {
          does = subst (λ (f : Front). DoesAs searched line choices here f phase) (sym front_is) covered.does;
          states = λ to led. (union to).1 (inl (covered.states to led));
        }

        newly : IsCovered searched line choices here states new one.front.phase
        newly = record {
          does = subst (λ (f : Front). DoesAs searched line choices here f one.front.phase) (sym front_is)
              (does_alike searched line choices here (front_at fronts number).front one.front one.front.phase alike first.own);
          states = λ to led. (union to).1 (inr ((after to).1 led));
        }

        is_new : IsOnwardFront searched line choices here states new
        is_new =
            let old = All-get_or (IsOnwardFront searched line choices here states) fronts number no_front there are.each in
            record {
              first = subst (IsFirst searched line choices here) (sym front_is) old.first;
              only = λ to has. elim ((union to).0 has) [
                | inl had ↦ let (phase, covered, led) = old.only to had in (phase, grown phase covered, led)
                | inr put ↦ (one.front.phase, newly, (after to).0 put)
              ];
            }

        at_number : (phase : ℕ) → IsCovered searched line choices here states new phase
            → IsCoveredBy searched line choices here states (set fronts number new) (length (set fronts number new)) phase
        at_number phase covered = (
          number,
          omega (arith, there, length-set fronts number new),
          subst (λ (f : AlikeFront). IsCovered searched line choices here states f phase) (sym (get_or-set_same fronts number new no_front there)) covered,
        )

        pub with_states : AreOnwardFronts searched line choices here states (one.front.phase + 1) (set fronts number new)
        with_states = record {
          each = All-set (IsOnwardFront searched line choices here states) fronts number new is_new are.each;
          all = λ key to low possible begins led. elim (below_or_at key.phase one.front.phase low) [
            | inl below ↦
                let (other, l, covered) = are.all key to below possible begins led in
                elim (cases_eq other number) [
                  | inl same ↦ at_number key.phase (grown key.phase
                      (subst (λ (n : ℕ). IsCovered searched line choices here states (front_at fronts n) key.phase) same covered))
                  | inr apart ↦ (
                    other,
                    omega (arith, l, length-set fronts number new),
                    subst (λ (f : AlikeFront). IsCovered searched line choices here states f key.phase) (sym (get_or-set_other fronts number other new no_front apart)) covered,
                  )
                ]
            | inr same ↦ at_number key.phase (subst (IsCovered searched line choices here states new) (sym same) newly)
          ];
        }
