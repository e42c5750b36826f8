-- Phases that have just the entries put into them so far, and what is still to come, entry by entry: the next one is above the last, or it is
-- the last again. Where there is no room for it, all that are left make too many.
use Rattle.std.proofs.Common.{◌≡◌, ℕ, zero, suc, ◌+◌, ◌<◌, ◌⊎◌, inl, inr, List, [], ◌∷◌, length, map, get_or, replicate, All, refl, sym, ◌∙◌, ap, subst, arith}
use Rattle.std.specs.Prelude.{Contains}
use Rattle.std.specs.Ordering.{nat_cmp, ordering_then}
use Rattle.std.specs.declared.cmp.Ordering.{Ordering}
use Rattle.std.specs.declared.cmp.Ordering.TheVariants.{Less, Equal, Greater}
use Rattle.std.proofs.lemmas.List.{length-replicate}
use Rattle.std.proofs.lemmas.List.Elements.{All-head, All-tail, All-set, All-replicate}
use Rattle.std.proofs.lemmas.Map.Lookups.{exact_bytes, exact_unsigned}
use Rattle.lexicon_definitions.specs.declared.limits.TheConstants.{MOST_FORM_LINES}
use Rattle.lexicon_definitions.specs.FormEntries.{Entry, HasAnalysis, HasEntry, IsListedPhase, with_entry, with_form}
use Rattle.lexicon_definitions.specs.Lexicons.{Form}
use Rattle.lexicon_definitions.specs.Limits.{count_lines}
use Rattle.lexicon_definitions.specs.Analyses.{compare_analyses}
use Rattle.text_definitions.specs.Words.{compare_words}
use Rattle.lexicon_definitions.proofs.FormsPlaced.{some_length}
use Rattle.lexicon_definitions.proofs.FormsWithEntry.{IsListedPhase-with_form}
use Rattle.lexicon_text_definitions.specs.FileContents.{compare_entries, compare_last, entries_from}
use Rattle.lexicon_text_definitions.proofs.FormLines.{no_lines}
use Rattle.list_laws.proofs.Orderings.{equal_then_both}
use Rattle.list_laws.proofs.Sorted.{Contains-first, Contains-later, Contains-cons_cases, not_Contains-nil}
use Rattle.run_definitions.specs.SoundSources.{IsSoundEntry}
use Rattle.form_tags.specs.declared.entry.Entry.{Entry as FormEntry}
use Rattle.form_tags.specs.Entries.{text_entry}
use Rattle.form_tags.proofs.AnalysisOrder.{exact_analyses}
use Rattle.shared_trie.proofs.FormListLaws.{no_forms}
use Rattle.shared_trie.proofs.EntriesEnd.{are_empty, compare_last-push, entries_with, lawful_lists}
use Rattle.shared_trie.proofs.NextEntries.{one_line_more}
use Rattle.lexicon_builder.specs.Collected.{AreInOrder, last_before, IsAdded, HasNoRoom, AreCollectedIn, AreTooMany}
use Rattle.lexicon_builder.proofs.EntriesAdded.{entry_cases, entry_stays, entry_comes, entry_phases}

-- of all entries, those that are not left are just those that the phases have; those that are left may be put in one after another
pub record AreCollected (count : ℕ) (all : List Entry) (lists : List (List Form)) (left : List Entry) : Type 0 where
  pub count_is : length lists ≡ count
  pub listed : All IsListedPhase lists
  pub has_last : (entry : Entry) → last_before lists entry ≡ Equal → HasEntry lists entry
  pub each : All (IsSoundEntry count) left
  pub not_below : All (λ entry. last_before lists entry ≡ Greater → ⊥) left
  pub in_order : AreInOrder left
  pub from_lists : (entry : Entry) → HasEntry lists entry → Contains all entry
  pub from_left : (entry : Entry) → Contains left entry → Contains all entry
  pub covered : (entry : Entry) → Contains all entry → HasEntry lists entry ⊎ Contains left entry

-- ---- at first

-- there is no form
none_at : (count phase : ℕ) → get_or (let none : List (List Form) = replicate count [] in none) phase [] ≡ []
none_at zero phase = refl
none_at (suc count) zero = refl
none_at (suc count) (suc phase) = none_at count phase

none_at_first : (count : ℕ) (entry : Entry) → HasEntry (replicate count []) entry → ⊥
none_at_first count entry h =
    let moved = subst (λ (forms : List Form). HasAnalysis forms entry.letters entry.analysis) (none_at count entry.phase) h in
    not_Contains-nil moved.form moved.is_among

-- and so no last entry
above_none : (count : ℕ) (entry : Entry) → last_before (replicate count []) entry ≡ Less
above_none count entry =
    ap (λ (es : List Entry). compare_last compare_entries es entry) (no_lines 0 (replicate count []) (are_empty (replicate count []) (none_at count)))

pub collected_at_first : (count : ℕ) (all : List Entry) (lists : List (List Form)) → lists ≡ replicate count [] → All (IsSoundEntry count) all
    → AreInOrder all → AreCollected count all lists all
collected_at_first count all lists is each in_order =
    subst (λ (l : List (List Form)). AreCollected count all l all) (sym is)
    record {
      count_is = length-replicate count [];
      listed = All-replicate IsListedPhase count [] no_forms;
      has_last = λ entry e. absurd (cc (e, above_none count entry));
      each = each;
      not_below = λ k d below e. cc (e, above_none count (get_or all k d));
      in_order = in_order;
      from_lists = λ entry h. absurd (none_at_first count entry h);
      from_left = λ entry m. m;
      covered = λ entry m. inr m;
    }

-- ---- the next one

-- entries that compare alike are one
exact_entries : (left right : Entry) → compare_entries left right ≡ Equal → left ≡ right
exact_entries left right e =
    let first = equal_then_both (nat_cmp left.phase right.phase) (ordering_then (compare_words left.letters right.letters) (compare_analyses left.analysis right.analysis)) e in
    let second = equal_then_both (compare_words left.letters right.letters) (compare_analyses left.analysis right.analysis) first.1 in
    let phase = exact_unsigned left.phase right.phase first.0 in
    let letters = exact_bytes left.letters right.letters second.0 in
    let analysis = exact_analyses left.analysis right.analysis second.1 in
    λ i. record { phase = phase i; letters = letters i; analysis = analysis i }

-- phases with an entry that may be listed are listed
listed_with : (lists : List (List Form)) (count : ℕ) (entry : Entry) → IsSoundEntry count entry → entry.phase < length lists → All IsListedPhase lists
    → All IsListedPhase (with_entry lists entry)
listed_with lists count entry is within listed =
    All-set IsListedPhase lists entry.phase (with_form entry.letters entry.analysis (get_or lists entry.phase []))
    (IsListedPhase-with_form entry.letters entry.analysis is.word (some_length entry.letters is.not_empty) is.short is.analysis is.stem (get_or lists entry.phase []) (listed entry.phase [] within))
    listed

module _ (count : ℕ) (all : List Entry) (lists new : List (List Form)) (entry : Entry) (left : List Entry) (c : AreCollected count all lists (entry ∷ left)) where
  abbrev listable : IsSoundEntry count entry
  listable = All-head (IsSoundEntry count) entry left c.each

  within : entry.phase < length lists
  within = let p = listable.phase in let l = c.count_is in omega (arith, p, l)

  -- it is put in
  module _ (above : last_before lists entry ≡ Less) (is : new ≡ with_entry lists entry) where
    last_is : (x : Entry) → last_before new x ≡ compare_entries entry x
    last_is x =
        ap (λ (es : List Entry). compare_last compare_entries es x) (entries_with lists new entry (lawful_lists lists c.listed) within above is)
        ∙ compare_last-push compare_entries (entries_from 0 lists) entry x

    back : (x : Entry) → HasEntry new x → HasEntry (with_entry lists entry) x
    back x = subst (λ (l : List (List Form)). HasEntry l x) is

    forth : (x : Entry) → HasEntry (with_entry lists entry) x → HasEntry new x
    forth x = subst (λ (l : List (List Form)). HasEntry l x) (sym is)

    put_in : AreCollected count all new left
    put_in =
        record {
          count_is = ap length is ∙ entry_phases lists entry within ∙ c.count_is;
          listed = subst (All IsListedPhase) (sym is) (listed_with lists count entry listable within c.listed);
          has_last = λ x e. subst (HasEntry new) (exact_entries entry x (sym (last_is x) ∙ e)) (forth entry (entry_comes lists entry within));
          each = All-tail (IsSoundEntry count) entry left c.each;
          not_below = λ k d below e. c.in_order 0 (suc k) d (omega arith) (omega (arith, below)) (sym (last_is (get_or left k d)) ∙ e);
          in_order = λ i j d less below. c.in_order (suc i) (suc j) d (omega (arith, less)) (omega (arith, below));
          from_lists = λ x h. elim (entry_cases lists entry within x (back x h)) [
            | inl old ↦ c.from_lists x old
            | inr e ↦ c.from_left x (subst (Contains (entry ∷ left)) (sym e) (Contains-first entry left))
          ];
          from_left = λ x m. c.from_left x (Contains-later entry left x m);
          covered = λ x m. elim (c.covered x m) [
            | inl old ↦ inl (forth x (entry_stays lists entry within x old))
            | inr n ↦ elim (Contains-cons_cases entry left x n) [
              | inl e ↦ inl (subst (HasEntry new) e (forth entry (entry_comes lists entry within)))
              | inr later ↦ inr later
            ]
          ];
        }

    more_lines : count_lines new ≡ count_lines lists + 1
    more_lines = ap count_lines is ∙ one_line_more lists entry c.listed within above

  -- or it is there
  passed_over : last_before lists entry ≡ Equal → AreCollected count all lists left
  passed_over again =
      record {
        count_is = c.count_is;
        listed = c.listed;
        has_last = c.has_last;
        each = All-tail (IsSoundEntry count) entry left c.each;
        not_below = All-tail (λ (x : Entry). last_before lists x ≡ Greater → ⊥) entry left c.not_below;
        in_order = λ i j d less below. c.in_order (suc i) (suc j) d (omega (arith, less)) (omega (arith, below));
        from_lists = c.from_lists;
        from_left = λ x m. c.from_left x (Contains-later entry left x m);
        covered = λ x m. elim (c.covered x m) [
          | inl old ↦ inl old
          | inr n ↦ elim (Contains-cons_cases entry left x n) [
            | inl e ↦ inl (subst (HasEntry lists) e (c.has_last entry again))
            | inr later ↦ inr later
          ]
        ];
      }

  added : IsAdded lists entry new → AreCollected count all new left
  added (inl put) = put_in put.0 put.1
  added (inr again) = subst (λ (l : List (List Form)). AreCollected count all l left) (sym again.1) (passed_over again.0)

-- ---- a turn

module _ (count : ℕ) (all : List Entry) (lists : List (List Form)) (left rest : List Entry) (entry : Entry) (c : AreCollected count all lists left) (is : left ≡ entry ∷ rest) where
  next : AreCollected count all lists (entry ∷ rest)
  next = subst (AreCollected count all lists) is c

  -- the next one may be listed
  pub next_listable : IsSoundEntry count entry
  next_listable = All-head (IsSoundEntry count) entry rest next.each

  pub next_within : entry.phase < length lists
  next_within = within count all lists lists entry rest next

  pub next_not_below : last_before lists entry ≡ Greater → ⊥
  next_not_below = All-head (λ (x : Entry). last_before lists x ≡ Greater → ⊥) entry rest next.not_below

  -- and then it is not left
  pub collected_more : (new : List (List Form)) → IsAdded lists entry new → AreCollected count all new rest
  collected_more new h = added count all lists new entry rest next h

-- ---- at the end

-- a list of no elements has no entries
pub none_left : (entries : List FormEntry) → length entries ≡ 0 → map text_entry entries ≡ []
none_left [] none = refl
none_left (entry ∷ entries) none = absurd (omega (arith, none))

-- where no entry is left, the phases have just these
collected_in : (count : ℕ) (all : List Entry) (lists : List (List Form)) → AreCollected count all lists [] → AreCollectedIn count all lists
collected_in count all lists c =
    record {
      count_is = c.count_is;
      listed = c.listed;
      just_these = λ entry. (c.from_lists entry, λ m. elim (c.covered entry m) [ inl h ↦ h | inr n ↦ absurd (not_Contains-nil entry n) ]);
    }

pub collected_at_end : (count : ℕ) (all : List Entry) (lists : List (List Form)) (left : List Entry) → AreCollected count all lists left → left ≡ []
    → AreCollectedIn count all lists
collected_at_end count all lists left c none = collected_in count all lists (subst (AreCollected count all lists) none c)

-- where there are too many already, all that are left are put in
too_many : (count : ℕ) (all left : List Entry) (lists : List (List Form)) → AreCollected count all lists left → MOST_FORM_LINES < count_lines lists → AreTooMany count all
too_many count all [] lists c lines = record { phases = lists; collected = collected_in count all lists c; lines = lines }
too_many count all (entry ∷ left) lists c lines =
    let go : (order : Ordering) → last_before lists entry ≡ order → AreTooMany count all = elim [
      | Less ↦ λ e.
          let more = more_lines count all lists (with_entry lists entry) entry left c e refl in
          too_many count all left (with_entry lists entry) (put_in count all lists (with_entry lists entry) entry left c e refl) (omega (arith, more, lines))
      | Equal ↦ λ e. too_many count all left lists (passed_over count all lists lists entry left c e) lines
      | Greater ↦ λ e. absurd (All-head (λ (x : Entry). last_before lists x ≡ Greater → ⊥) entry left c.not_below e)
    ] in
    go (last_before lists entry) refl

-- so they are, where there is no room for the next one
pub no_room : (count : ℕ) (all : List Entry) (lists : List (List Form)) (left rest : List Entry) (entry : Entry) → AreCollected count all lists left → left ≡ entry ∷ rest
    → HasNoRoom lists entry → AreTooMany count all
no_room count all lists left rest entry c is h =
    let next = subst (AreCollected count all lists) is c in
    let full = h.full in
    let more = more_lines count all lists (with_entry lists entry) entry rest next h.above refl in
    too_many count all rest (with_entry lists entry) (put_in count all lists (with_entry lists entry) entry rest next h.above refl) (omega (arith, more, full))
