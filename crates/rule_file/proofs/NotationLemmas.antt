-- What is written is a notation, and what is read of it a pattern, by the parts one after another.
use Rattle.std.proofs.Common.{◌≡◌, ℕ, Bool, cond, Option, Some, None, Ok, Err, List, refl, ◌∙◌, ap}
use Rattle.text_definitions.specs.Spellings.{Reading}
use Rattle.text_definitions.specs.Slp1.{word_of_slp1}
use Rattle.list_laws.specs.Cuts.{cut}
use Rattle.rule_file_definitions.specs.RuleNotations.{Part, Notation, cut_x, cut_v, w_of, is_well_formed, notation_with_w, notation_with_v, notation_with_u, notation_with_x, notation_of, Gap, gap_of, pattern_with, pattern_of}
use Rattle.rule_file.specs.Held.{word_of}

module _ (entry : List ℕ) where
  pub no_x : cut_x entry ≡ None → notation_of entry ≡ None
  unfolding notation_of
  no_x e = ap notation_with_x e

  by_x : (x rest : List ℕ) → cut_x entry ≡ Some (x, rest) → notation_of entry ≡ notation_with_u x (cut 124 rest)
  unfolding notation_of
  by_x x rest e = ap notation_with_x e

  pub no_u : (x rest : List ℕ) → cut_x entry ≡ Some (x, rest) → cut 124 rest ≡ None → notation_of entry ≡ None
  no_u x rest e f = by_x x rest e ∙ ap (notation_with_u x) f

  by_u : (x rest u after : List ℕ) → cut_x entry ≡ Some (x, rest) → cut 124 rest ≡ Some (u, after) → notation_of entry ≡ notation_with_v x u (cut_v after)
  by_u x rest u after e f = by_x x rest e ∙ ap (notation_with_u x) f

  pub no_v : (x rest u after : List ℕ) → cut_x entry ≡ Some (x, rest) → cut 124 rest ≡ Some (u, after) → cut_v after ≡ None → notation_of entry ≡ None
  no_v x rest u after e f g = by_u x rest u after e f ∙ ap (notation_with_v x u) g

  by_v : (x rest u after : List ℕ) (v : Part) (last : List ℕ) → cut_x entry ≡ Some (x, rest) → cut 124 rest ≡ Some (u, after) → cut_v after ≡ Some (v, last)
      → notation_of entry ≡ notation_with_w x u v (w_of last)
  by_v x rest u after v last e f g = by_u x rest u after e f ∙ ap (notation_with_v x u) g

  pub no_w : (x rest u after : List ℕ) (v : Part) (last : List ℕ) → cut_x entry ≡ Some (x, rest) → cut 124 rest ≡ Some (u, after) → cut_v after ≡ Some (v, last)
      → w_of last ≡ None → notation_of entry ≡ None
  no_w x rest u after v last e f g h = by_v x rest u after v last e f g ∙ ap (notation_with_w x u v) h

  pub by_form : (x rest u after : List ℕ) (v : Part) (last : List ℕ) (w : Part) (test : Bool) → cut_x entry ≡ Some (x, rest) → cut 124 rest ≡ Some (u, after)
      → cut_v after ≡ Some (v, last) → w_of last ≡ Some w → is_well_formed (record { x = x; u = u; v = v; w = w }) ≡ test
      → notation_of entry ≡ cond test (Some (record { x = x; u = u; v = v; w = w })) None
  by_form x rest u after v last w test e f g h t =
      by_v x rest u after v last e f g ∙ ap (notation_with_w x u v) h
      ∙ ap (λ b. cond b (Some (record { x = x; u = u; v = v; w = w })) None) t

-- ---- patterns

without_x : (x u : Reading) (v w : Option Gap) → None ≡ word_of x → None ≡ pattern_with x u v w
without_x (Ok x) u v w e = absurd (cc)
without_x (Err fault) u v w e = refl

without_u : (x u : Reading) (v w : Option Gap) → None ≡ word_of u → None ≡ pattern_with x u v w
without_u (Err fault) u v w e = refl
without_u (Ok x) (Ok u) v w e = absurd (cc)
without_u (Ok x) (Err fault) v w e = refl

without_v : (x u : Reading) (v w : Option Gap) → None ≡ v → None ≡ pattern_with x u v w
without_v (Err fault) u v w e = refl
without_v (Ok x) (Err fault) v w e = refl
without_v (Ok x) (Ok u) None w e = refl
without_v (Ok x) (Ok u) (Some v) w e = absurd (cc)

without_w : (x u : Reading) (v w : Option Gap) → None ≡ w → None ≡ pattern_with x u v w
without_w (Err fault) u v w e = refl
without_w (Ok x) (Err fault) v w e = refl
without_w (Ok x) (Ok u) None w e = refl
without_w (Ok x) (Ok u) (Some v) None e = refl
without_w (Ok x) (Ok u) (Some v) (Some w) e = absurd (cc)

with_all : (x u : Reading) (v w : Option Gap) (a b : List ℕ) (c d : Gap) → Some a ≡ word_of x → Some b ≡ word_of u → Some c ≡ v → Some d ≡ w
    → Some (record { x = a; u = b; v = c; w = d }) ≡ pattern_with x u v w
with_all (Err fault) u v w a b c d e f g h = absurd (cc)
with_all (Ok x) (Err fault) v w a b c d e f g h = absurd (cc)
with_all (Ok x) (Ok u) None w a b c d e f g h = absurd (cc)
with_all (Ok x) (Ok u) (Some v) None a b c d e f g h = absurd (cc)
with_all (Ok x) (Ok u) (Some v) (Some w) a b c d e f g h =
    let e1 : a ≡ x = cc in
    let f1 : b ≡ u = cc in
    let g1 : c ≡ v = cc in
    let h1 : d ≡ w = cc in λ i. Some (record { x = e1 i; u = f1 i; v = g1 i; w = h1 i })

module _ (notation : Notation) where
  pub unread_x : None ≡ word_of (word_of_slp1 notation.x) → None ≡ pattern_of notation
  unfolding pattern_of
  unread_x e = without_x _ (word_of_slp1 notation.u) (gap_of notation.v) (gap_of notation.w) e

  pub unread_u : None ≡ word_of (word_of_slp1 notation.u) → None ≡ pattern_of notation
  unfolding pattern_of
  unread_u e = without_u (word_of_slp1 notation.x) _ (gap_of notation.v) (gap_of notation.w) e

  pub unread_v : None ≡ gap_of notation.v → None ≡ pattern_of notation
  unfolding pattern_of
  unread_v e = without_v (word_of_slp1 notation.x) (word_of_slp1 notation.u) (gap_of notation.v) (gap_of notation.w) e

  pub unread_w : None ≡ gap_of notation.w → None ≡ pattern_of notation
  unfolding pattern_of
  unread_w e = without_w (word_of_slp1 notation.x) (word_of_slp1 notation.u) (gap_of notation.v) (gap_of notation.w) e

  pub all_read : (x u : List ℕ) (v w : Gap) → Some x ≡ word_of (word_of_slp1 notation.x) → Some u ≡ word_of (word_of_slp1 notation.u)
      → Some v ≡ gap_of notation.v → Some w ≡ gap_of notation.w → Some (record { x = x; u = u; v = v; w = w }) ≡ pattern_of notation
  unfolding pattern_of
  all_read x u v w e f g h = with_all (word_of_slp1 notation.x) (word_of_slp1 notation.u) (gap_of notation.v) (gap_of notation.w) x u v w e f g h
