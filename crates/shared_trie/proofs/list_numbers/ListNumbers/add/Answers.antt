-- The list that was added is that of the delta alone, and the others stay.
use Rattle.std.proofs.Common.{◌≡◌, ℕ, ◌<◌, Bool, true, false, List, [], ◌∷◌, ◌++◌, length, Option, Some, None, slice_index_or, slice_set, arith, eqb, Contains, refl, sym, ◌∙◌, ap, subst}
use Rattle.std.proofs.lemmas.Bool.{eqb-true, eqb-false}
use Rattle.std.proofs.lemmas.List.{get_or-set_same, get_or-set_other}
use Rattle.std.proofs.lemmas.List.Elements.{Contains-append_left, Contains-push}
use Rattle.shared_trie.specs.KnownLists.{AreAlone}
use Rattle.shared_trie.proofs.list_numbers.ListNumbers.add.Goals as goal

alone_at : (known : List (List ℕ × ℕ)) (alone room : List (Option ℕ)) (key told : ℕ) → AreAlone known alone → ((k : ℕ) → slice_index_or room k None ≡ slice_index_or alone k None)
    → key < length room → (number list : ℕ) (test : Bool) → eqb number key ≡ test → slice_index_or (slice_set room key (Some told)) number None ≡ Some list
    → Contains (known ++ (key ∷ [], told) ∷ []) (number ∷ [], list)
alone_at known alone room key told h same below number list true t e =
    let is = eqb-true number key t in
    let there : Some told ≡ Some list = sym (get_or-set_same room key (Some told) None below) ∙ ap (λ k. slice_index_or (slice_set room key (Some told)) k None) (sym is) ∙ e in
    let list_is : told ≡ list = cc in
    let pair : (key ∷ [], told) ≡ (number ∷ [], list) = (λ i. (sym is i ∷ [], list_is i)) in
    subst (Contains (known ++ (key ∷ [], told) ∷ [])) pair (Contains-push known (key ∷ [], told))
alone_at known alone room key told h same below number list false t e =
    let other = eqb-false number key t in
    Contains-append_left known ((key ∷ [], told) ∷ []) (number ∷ [], list) (h number list (sym (same number) ∙ sym (get_or-set_other room key number (Some told) None other) ∙ e))

only : (numbers : List ℕ) → 0 < length numbers → length numbers < 2 → numbers ≡ slice_index_or numbers 0 0 ∷ []
only [] some few = absurd (omega (arith, some))
only (number ∷ []) some few = refl
only (number ∷ other ∷ numbers) some few = absurd (omega (arith, few))

pub invariant_of-self-2 : goal.invariant_of-self-2
invariant_of-self-2 c =
    let inside = c.self.inside in
    let one = only c.args.numbers.now (omega (arith, c.in-len1.len_at_least)) (omega (arith, c.in-len1.len_below)) in
    let known = c.in_ok-add.ensures.ok ∙ ap (λ (numbers : List ℕ). inside.known ++ (numbers, c.args.list) ∷ []) one in
    λ number list e. subst (λ known. Contains known (number ∷ [], list)) (sym known)
    (alone_at inside.known inside.alone c.make_room.new.self _ c.args.list c.self.invariant c.make_room.ensures.same c.in_ok-make_room.ensures.room number list (eqb number _) refl
    (ap (λ (alone : List (Option ℕ)). slice_index_or alone number None) (sym c.set.ensures) ∙ e))
