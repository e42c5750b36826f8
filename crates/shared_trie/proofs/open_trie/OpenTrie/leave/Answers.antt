-- The last form again, the next form, or the first form of a later phase.
use Rattle.std.proofs.Common.{◌≡◌, ◌≢◌, ◌<◌, ℕ, List, get_or, length, take, sym, ◌∙◌, ap, arith}
use Rattle.std.proofs.lemmas.List.{take_all}
use Rattle.form_tags.specs.Entries.{text_entry}
use Rattle.shared_trie.proofs.ReadyEntries.{analysis_above, form_above, goes_on_after, ready_again, ready_first, ready_next, shares_all}
use Rattle.shared_trie.proofs.open_trie.OpenTrie.leave.Goals as goal
use Rattle.shared_trie.proofs.open_trie.OpenTrie.leave.Goals.{else-shared-len-via-then-shared-len+else-shared-len-2, else-shared-len-via-else-shared-len}

pub returns-then-last-next : goal.returns-then-last-next
returns-then-last-next c =
    ready_first c.args.told.now.value.0 c.args.told.now.value.1 (text_entry c.args.next.now) c.fill_roots.new.self c.in_ok-fill_roots.ensures c.requires.phase c.requires.not_empty

pub returns-then-shared-len-2 : goal.returns-then-shared-len-2
returns-then-shared-len-2 c =
    let last = text_entry c.args.last.now in
    let entry = text_entry c.args.next.now in
    let shared = c.shared_len-shared.result in
    let same : last.phase ≡ entry.phase = c.if-last-next.false in
    let all_last : shared ≡ length last.letters = c.if-shared-len.true ∙ c.len.ensures.value in
    let all_next : shared ≡ length entry.letters = c.if-shared-len-2.true ∙ c.len-then-shared-len.ensures.value in
    let front : take shared last.letters ≡ take shared entry.letters =
    sym (ap (take shared) c.as_slice.ensures.value) ∙ c.shared_len-shared.ensures.same ∙ ap (take shared) c.as_slice-2.ensures.value in
    let letters : last.letters ≡ entry.letters =
    sym (take_all shared last.letters (omega (arith, all_last))) ∙ front ∙ take_all shared entry.letters (omega (arith, all_next)) in
    ready_again c.args.told.now.value.0 c.args.told.now.value.1 last entry c.args.self.now c.requires.listed c.requires.pending same letters
    (analysis_above last entry c.requires.above same letters)

pub returns : goal.returns
returns c =
    let last = text_entry c.args.last.now in
    let entry = text_entry c.args.next.now in
    let shared = c.shared_len-shared.result in
    let same : last.phase ≡ entry.phase = c.if-last-next.false in
    let old_word : c.as_slice.result.now ≡ last.letters = c.as_slice.ensures.value in
    let new_word : c.as_slice-2.result.now ≡ entry.letters = c.as_slice-2.ensures.value in
    let old_long = ap length old_word in
    let new_long = ap length new_word in
    let differ : shared < length last.letters → shared < length entry.letters → get_or last.letters shared 0 ≢ get_or entry.letters shared 0 = λ low within e.
    c.shared_len-shared.ensures.differ (omega (arith, low, old_long)) (omega (arith, within, new_long))
    (ap (λ (w : List ℕ). get_or w shared 0) old_word ∙ e ∙ sym (ap (λ (w : List ℕ). get_or w shared 0) new_word)) in
    let other : last.letters ≢ entry.letters = λ e.
    let all : shared ≡ length last.letters = shares_all last.letters entry.letters shared (omega (arith, c.shared_len-shared.ensures.in_form, old_long)) differ e in
    elim c.else-shared-len.branch [
      | else-shared-len-via-then-shared-len+else-shared-len-2 w ↦ absurd (w.if-shared-len-2.false (all ∙ ap length e ∙ sym w.len-then-shared-len.ensures.value))
      | else-shared-len-via-else-shared-len w ↦ absurd (w.if-shared-len.false (all ∙ sym c.len.ensures.value))
    ] in
    let above = form_above last entry c.requires.above same other in
    let front : take shared last.letters ≡ take shared entry.letters = sym (ap (take shared) old_word) ∙ c.shared_len-shared.ensures.same ∙ ap (take shared) new_word in
    let within = goes_on_after last.letters entry.letters shared above front (omega (arith, c.shared_len-shared.ensures.in_stem, new_long)) in
    ready_next c.args.told.now.value.0 c.args.told.now.value.1 shared last entry c.close_to.new.self c.requires.listed c.in_ok-close_to.ensures same above within front
    (λ low. differ low within)
