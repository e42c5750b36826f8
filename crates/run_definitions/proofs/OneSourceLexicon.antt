-- Sources have one lexicon: phases that have the same entries have the same forms, since each form has an analysis by which the
-- other phase has it too, and rising lists with the same elements are one.
use Rattle.std.proofs.Common.{◌≡◌, ℕ, inl, inr, List, [], ◌∷◌, length, All, get_or, refl, sym, ◌∙◌, ap, subst, arith}
use Rattle.std.specs.Prelude.{Contains, slice_index_or}
use Rattle.std.specs.List.Sorted.{IsStrictlySortedBy}
use Rattle.std.specs.declared.cmp.Ordering.TheVariants.{Less}
use Rattle.std.proofs.lemmas.Cmp.{nat_list_cmp_total, tied_itself}
use Rattle.std.proofs.lemmas.List.{ext_get_or}
use Rattle.std.proofs.lemmas.List.Elements.{All-contains}
use Rattle.std.proofs.lemmas.Map.Keys.{sorted_tail}
use Rattle.text_definitions.specs.Words.{compare_words}
use Rattle.lexicon_definitions.specs.Analyses.{Analysis}
use Rattle.lexicon_definitions.specs.FormEntries.{Entry, HasAnalysis}
use Rattle.lexicon_definitions.specs.Lexicons.{RuleSet, Form, Lexicon, IsFormEntry, IsPhase}
use Rattle.lexicon_definitions.proofs.FormsWithEntry.{analyses_total, by_letters, forms_total}
use Rattle.list_laws.proofs.Sorted.{Contains-cons_cases, Less-from_later, same_sorted}
use Rattle.morphology_definitions.specs.Inflection.{Class, Stem}
use Rattle.morphology_definitions.proofs.Inflections.{all_inflected-once}
use Rattle.run_definitions.specs.SourceLexicons.{HaveJust, IsLexiconOf}
use Rattle.list_laws.proofs.Elements.{some_element}

-- ---- the forms of a phase

-- a form is not below another with the same letters
not_below : (left right : Form) → left.letters ≡ right.letters → by_letters left right ≡ Less → ⊥
not_below left right same less =
    let tie = tied_itself nat_list_cmp_total right.letters in
    let below : compare_words right.letters right.letters ≡ Less = subst (λ letters. compare_words letters right.letters ≡ Less) same less in
    cc

-- of rising forms those with the same letters are one
one_form : (forms : List Form) (left right : Form) → IsStrictlySortedBy by_letters forms → Contains forms left → Contains forms right
    → left.letters ≡ right.letters → left ≡ right
one_form [] left right s (k, below, e) r same = absurd (omega arith)
one_form (form ∷ forms) left right s l r same =
    elim (Contains-cons_cases form forms left l) [
      | inl e ↦ elim (Contains-cons_cases form forms right r) [
        | inl f ↦ sym e ∙ f
        | inr n ↦ absurd (not_below form right (ap (λ (x : Form). x.letters) e ∙ same) (Less-from_later forms_total form forms right s n))
      ]
      | inr m ↦ elim (Contains-cons_cases form forms right r) [
        | inl f ↦ absurd (not_below form left (ap (λ (x : Form). x.letters) f ∙ sym same) (Less-from_later forms_total form forms left s m))
        | inr n ↦ one_form forms left right (sorted_tail by_letters form forms s) m n same
      ]
    ]

-- the one forms have what the other have
abbrev HaveAllOf : List Form → List Form → Type 0
HaveAllOf forms others = (letters : List ℕ) (analysis : Analysis) → HasAnalysis others letters analysis → HasAnalysis forms letters analysis

-- each analysis of a form is one of the form with these letters among the others
analysis_of_other : (forms others : List Form) (form other : Form) → IsPhase others → HaveAllOf others forms → Contains forms form
    → Contains others other → form.letters ≡ other.letters → (analysis : Analysis) → Contains form.analyses analysis → Contains other.analyses analysis
analysis_of_other forms others form other phase have is_among is_other same analysis has =
    let found = have form.letters analysis (record { form = form; is_among = is_among; has_letters = refl; is_analyzed = has }) in
    let one = one_form others found.form other phase.rising found.is_among is_other (found.has_letters ∙ same) in
    subst (λ (x : Form). Contains x.analyses analysis) one found.is_analyzed

-- each form is among the others
among_others : (forms others : List Form) → IsPhase forms → IsPhase others → HaveAllOf others forms → HaveAllOf forms others
    → (form : Form) → Contains forms form → Contains others form
among_others forms others phase other_phase have have_back form is_among =
    let entry = All-contains IsFormEntry forms form phase.each is_among in
    let some = some_element form.analyses entry.analyzed in
    let found = have form.letters some.0 (record { form = form; is_among = is_among; has_letters = refl; is_analyzed = some.1 }) in
    let other = found.form in
    let other_entry = All-contains IsFormEntry others other other_phase.each found.is_among in
    let there = analysis_of_other forms others form other other_phase have is_among found.is_among (sym found.has_letters) in
    let back = analysis_of_other others forms other form phase have_back found.is_among is_among found.has_letters in
    let analyses = same_sorted analyses_total form.analyses other.analyses entry.rising other_entry.rising there back in
    let letters = found.has_letters in
    let same : other ≡ form = λ i. record { letters = letters i; analyses = sym analyses i } in
    subst (Contains others) same found.is_among

-- phases that have the same are the same
same_phase : (forms others : List Form) → IsPhase forms → IsPhase others → HaveAllOf others forms → HaveAllOf forms others → forms ≡ others
same_phase forms others phase other_phase have have_back =
    same_sorted forms_total forms others phase.rising other_phase.rising (among_others forms others phase other_phase have have_back)
    (among_others others forms other_phase phase have_back have)

-- ---- all phases

-- what both have just these entries has what the other has
moved : (phases others : List (List Form)) (entries : List Entry) (phase : ℕ) → HaveJust phases entries → HaveJust others entries
    → HaveAllOf (slice_index_or others phase []) (slice_index_or phases phase [])
moved phases others entries phase just other_just letters analysis has =
    let entry : Entry = record { phase = phase; letters = letters; analysis = analysis } in
    (other_just entry).1 ((just entry).0 has)

same_phases : (phases others : List (List Form)) (entries : List Entry) → length phases ≡ length others → All IsPhase phases
    → All IsPhase others → HaveJust phases entries → HaveJust others entries → phases ≡ others
same_phases phases others entries long each other_each just other_just =
    ext_get_or [] phases others long (λ phase below.
    same_phase (get_or phases phase []) (get_or others phase []) (each phase [] below) (other_each phase [] (omega (arith, long)))
    (moved phases others entries phase just other_just) (moved others phases entries phase other_just just))

-- ---- the lexicon

pub one_lexicon : (rules : RuleSet) (classes : List Class) (stems : List Stem) (left right : Lexicon) → IsLexiconOf rules classes stems left
    → IsLexiconOf rules classes stems right → left ≡ right
one_lexicon rules classes stems left right p q =
    let sets : left.rules ≡ right.rules = p.same_rules ∙ sym q.same_rules in
    let names : length left.rules.names ≡ length right.rules.names = ap (λ (set : RuleSet). length set.names) sets in
    let long : length left.phases ≡ length right.phases = p.lexicon_itself.count ∙ names ∙ sym q.lexicon_itself.count in
    let entries : p.entries ≡ q.entries = all_inflected-once classes stems p.entries q.entries p.inflected q.inflected in
    let just = subst (HaveJust left.phases) entries p.just_these in
    let phases = same_phases left.phases right.phases q.entries long p.lexicon_itself.phases q.lexicon_itself.phases just q.just_these in
    λ i. record { rules = sets i; phases = phases i }
