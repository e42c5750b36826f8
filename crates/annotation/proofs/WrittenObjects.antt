-- The members that were put into an object one after another, in the order of their names.
use Rattle.std.proofs.Common.{◌≡◌, ℕ, List, codes, ◌∙◌, ap}
use Rattle.serde_json.specs.Data.{Data, string, object, Members, no_members, member, put}
use Rattle.note_definitions.specs.NoteTexts.{counted}
use Rattle.annotation.specs.Objects.{segment_with, note_with}

abbrev segment_data : Data → Data → Data → Data → Data → Data → Data → Data
segment_data a b c d e f g =
    object (member (codes "at") a (member (codes "form") b (member (codes "lead") c (member (codes "phase") d
    (member (codes "rule") e (member (codes "tags") f (member (codes "taken") g no_members)))))))

-- the members of a step
pub segment_put : (at : ℕ) (form : List ℕ) (lead : ℕ) (phase : List ℕ) (rule : ℕ) (tags : Data) (taken : ℕ) (a b c d e f g : Data) (m₀ m₁ m₂ m₃ m₄ m₅ m₆ m₇ : Members)
    → m₀ ≡ no_members → m₁ ≡ put (codes "at") a m₀ → m₂ ≡ put (codes "form") b m₁ → m₃ ≡ put (codes "lead") c m₂ → m₄ ≡ put (codes "phase") d m₃
    → m₅ ≡ put (codes "rule") e m₄ → m₆ ≡ put (codes "tags") f m₅ → m₇ ≡ put (codes "taken") g m₆
    → a ≡ counted at → b ≡ string form → c ≡ counted lead → d ≡ string phase → e ≡ counted rule → f ≡ tags → g ≡ counted taken
    → object m₇ ≡ segment_with at form lead phase rule tags taken
segment_put at form lead phase rule tags taken a b c d e f g m₀ m₁ m₂ m₃ m₄ m₅ m₆ m₇ e₀ e₁ e₂ e₃ e₄ e₅ e₆ e₇ ha hb hc hd he hf hg =
    ap object (e₇ ∙ ap (put (codes "taken") g) (e₆ ∙ ap (put (codes "tags") f) (e₅ ∙ ap (put (codes "rule") e) (e₄ ∙ ap (put (codes "phase") d)
    (e₃ ∙ ap (put (codes "lead") c) (e₂ ∙ ap (put (codes "form") b) (e₁ ∙ ap (put (codes "at") a) e₀)))))))
    ∙ (λ i. segment_data (ha i) (hb i) (hc i) (hd i) (he i) (hf i) (hg i))

-- the members of a note
pub note_put : (choices segments : Data) (text : List ℕ) (a b : Data) (m₀ m₁ m₂ m₃ m₄ : Members)
    → m₀ ≡ no_members → m₁ ≡ put (codes "choices") choices m₀ → m₂ ≡ put (codes "segments") segments m₁ → m₃ ≡ put (codes "text") a m₂
    → m₄ ≡ put (codes "version") b m₃ → a ≡ string text → b ≡ counted 1 → object m₄ ≡ note_with choices segments text
note_put choices segments text a b m₀ m₁ m₂ m₃ m₄ e₀ e₁ e₂ e₃ e₄ ha hb =
    ap object (e₄ ∙ ap (put (codes "version") b) (e₃ ∙ ap (put (codes "text") a) (e₂ ∙ ap (put (codes "segments") segments)
    (e₁ ∙ ap (put (codes "choices") choices) e₀))))
    ∙ (λ i. object (member (codes "choices") choices (member (codes "segments") segments (member (codes "text") (ha i) (member (codes "version") (hb i) no_members)))))
