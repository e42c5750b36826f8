-- The answers of the small cases: each part of the definition computes.
use Rattle.std.proofs.Common.{inl, inr, refl, ap, ℕ, zero, suc, ◌≤◌, List, [], ◌∷◌, lit<, lit≤, arith}
use Rattle.std.proofs.lemmas.List.Elements.{All-nil, All-cons, All-head}
use Rattle.lexicon_definitions.specs.GrammarTexts.{grammar_of}
use Rattle.segmentation_definitions.specs.Derivations.{Step}
use Rattle.segmentation_definitions.specs.Items.{Item, Choice, placed, items_of}
use Rattle.segmentation_definitions.specs.Answers.{IsAnswer, IsAtSomeSeam, KeepsChoice, KeepsChoices, KeepsBlanks}
use Rattle.worked_cases.specs.WorkedLexicons.{step, unbroken, broken_at, kept, rejected, word_ca, word_caa, word_iti, word_ceti, word_uvaaca, word_cetyuvaaca, word_na, word_aa, word_gacchati, word_naagacchati, word_api, word_u, word_covapi, word_asti, word_aasti, word_naasti, word_deva, word_datta, word_devadatta, word_devas, word_devah, word_devogacchati, word_a, word_a_a, ceti_lexicon, uvaaca_lexicon, preverb_lexicon, overlap_lexicon, naasti_lexicon, devadatta_lexicon, devah_lexicon, twofold_lexicon, vowel_lexicon, final_lexicon, limited_lexicon, limited_before_lexicon}

pub ca_iti : IsAnswer ceti_lexicon (unbroken word_ceti) [] (step 0 word_ca 1 ∷ step 0 word_iti 0 ∷ [])
unfolding grammar_of
ca_iti = record {
  derives = record {
    forms = ((1, lit< tt, refl), ((0, lit< tt, refl), tt));
    joined = (inr (((lit< tt, lit≤ tt), λ e. cc, λ e. cc), λ e. cc), tt);
    ends = inl refl;
    covers = (22 ∷ [], 32 ∷ 3 ∷ [], refl, refl, (32 ∷ 3 ∷ [], [], refl, refl, refl));
  };
  accepted = ((0 ∷ []) ∷ (0 ∷ []) ∷ [], λ e. cc, refl, (refl, (refl, tt)));
  blanks_kept = All-nil _;
  choices_kept = All-nil _;
}

pub ca_iti_twofold : IsAnswer twofold_lexicon (unbroken word_ceti) [] (step 0 word_ca 1 ∷ step 0 word_iti 0 ∷ [])
unfolding grammar_of
ca_iti_twofold = record {
  derives = record {
    forms = ((1, lit< tt, refl), ((0, lit< tt, refl), tt));
    joined = (inr (((lit< tt, lit≤ tt), λ e. cc, λ e. cc), λ e. cc), tt);
    ends = inl refl;
    covers = (22 ∷ [], 32 ∷ 3 ∷ [], refl, refl, (32 ∷ 3 ∷ [], [], refl, refl, refl));
  };
  accepted = ((0 ∷ []) ∷ (0 ∷ []) ∷ [], λ e. cc, refl, (inl refl, (inr refl, tt)));
  blanks_kept = All-nil _;
  choices_kept = All-nil _;
}

pub ca_iti_uvaaca : IsAnswer uvaaca_lexicon (unbroken word_cetyuvaaca) [] (step 0 word_ca 1 ∷ step 0 word_iti 2 ∷ step 0 word_uvaaca 0 ∷ [])
unfolding grammar_of
ca_iti_uvaaca = record {
  derives = record {
    forms = ((2, lit< tt, refl), ((0, lit< tt, refl), ((1, lit< tt, refl), tt)));
    joined = (
      inr (((lit< tt, lit≤ tt), λ e. cc, λ e. cc), λ e. cc),
      (inr (((lit< tt, lit≤ tt), λ e. cc, λ e. cc), λ e. cc), tt),
    );
    ends = inl refl;
    covers = (
      22 ∷ [],
      32 ∷ 42 ∷ 5 ∷ 45 ∷ 2 ∷ 22 ∷ 1 ∷ [],
      refl,
      refl,
      (32 ∷ [], 45 ∷ 2 ∷ 22 ∷ 1 ∷ [], refl, refl, (45 ∷ 2 ∷ 22 ∷ 1 ∷ [], [], refl, refl, refl)),
    );
  };
  accepted = ((0 ∷ []) ∷ (0 ∷ []) ∷ (0 ∷ []) ∷ [], λ e. cc, refl, (refl, (refl, (refl, tt))));
  blanks_kept = All-nil _;
  choices_kept = All-nil _;
}

pub na_aa_gacchati : IsAnswer preverb_lexicon (unbroken word_naagacchati) [] (step 0 word_na 1 ∷ step 1 word_aa 0 ∷ step 2 word_gacchati 0 ∷ [])
unfolding grammar_of
na_aa_gacchati = record {
  derives = record {
    forms = ((0, lit< tt, refl), ((0, lit< tt, refl), ((0, lit< tt, refl), tt)));
    joined = (
      inr (((lit< tt, lit≤ tt), λ e. cc, λ e. cc), λ e. cc),
      (inl (refl, ([], 2, 19, 1 ∷ 22 ∷ 23 ∷ 1 ∷ 32 ∷ 3 ∷ [], refl, refl, (0, lit< tt, refl))), tt),
    );
    ends = inl refl;
    covers = (36 ∷ [], word_gacchati, refl, refl, ([], word_gacchati, refl, refl, (word_gacchati, [], refl, refl, refl)));
  };
  accepted = ((0 ∷ []) ∷ (1 ∷ 2 ∷ []) ∷ [], λ e. cc, refl, (inl refl, (inr (1 ∷ [], 2 ∷ [], refl, inr refl, refl), tt)));
  blanks_kept = All-nil _;
  choices_kept = All-nil _;
}

pub na_asti : IsAnswer naasti_lexicon (unbroken word_naasti) [] (step 0 word_na 1 ∷ step 0 word_asti 0 ∷ [])
unfolding grammar_of
na_asti = record {
  derives = record {
    forms = ((2, lit< tt, refl), ((0, lit< tt, refl), tt));
    joined = (inr (((lit< tt, lit≤ tt), λ e. cc, λ e. cc), λ e. cc), tt);
    ends = inl refl;
    covers = (36 ∷ [], 48 ∷ 32 ∷ 3 ∷ [], refl, refl, (48 ∷ 32 ∷ 3 ∷ [], [], refl, refl, refl));
  };
  accepted = ((0 ∷ []) ∷ (0 ∷ []) ∷ [], λ e. cc, refl, (refl, (refl, tt)));
  blanks_kept = All-nil _;
  choices_kept = All-nil _;
}

pub na_aasti : IsAnswer naasti_lexicon (unbroken word_naasti) [] (step 0 word_na 2 ∷ step 0 word_aasti 0 ∷ [])
unfolding grammar_of
na_aasti = record {
  derives = record {
    forms = ((2, lit< tt, refl), ((1, lit< tt, refl), tt));
    joined = (inr (((lit< tt, lit≤ tt), λ e. cc, λ e. cc), λ e. cc), tt);
    ends = inl refl;
    covers = (36 ∷ [], 48 ∷ 32 ∷ 3 ∷ [], refl, refl, (48 ∷ 32 ∷ 3 ∷ [], [], refl, refl, refl));
  };
  accepted = ((0 ∷ []) ∷ (0 ∷ []) ∷ [], λ e. cc, refl, (refl, (refl, tt)));
  blanks_kept = All-nil _;
  choices_kept = All-nil _;
}

-- two forms u meet over no plain pair
pub no_ca_u_u_api : IsAnswer overlap_lexicon (unbroken word_covapi) [] (step 0 word_ca 1 ∷ step 0 word_u 0 ∷ step 0 word_u 2 ∷ step 0 word_api 0 ∷ []) → ⊥
no_ca_u_u_api a = elim a.derives.joined.1.0 [ inl seam ↦ omega (arith, seam.1.6.1) | inr rule ↦ omega (arith, rule.0.0.0) ]

pub devadatta : IsAnswer devadatta_lexicon (unbroken word_devadatta) [] (step 0 word_devadatta 0 ∷ [])
unfolding grammar_of
devadatta = record {
  derives = record {
    forms = ((2, lit< tt, refl), tt);
    joined = tt;
    ends = inl refl;
    covers = (word_devadatta, [], refl, refl, refl);
  };
  accepted = ((0 ∷ []) ∷ [], λ e. cc, refl, (refl, tt));
  blanks_kept = All-nil _;
  choices_kept = All-nil _;
}

deva_and_datta : (blanks : List ℕ) → KeepsBlanks devadatta_lexicon.rules blanks (step 0 word_deva 0 ∷ step 0 word_datta 0 ∷ [])
    → IsAnswer devadatta_lexicon (record { letters = word_devadatta; blanks = blanks }) [] (step 0 word_deva 0 ∷ step 0 word_datta 0 ∷ [])
unfolding grammar_of
deva_and_datta blanks keeps = record {
  derives = record {
    forms = ((1, lit< tt, refl), ((0, lit< tt, refl), tt));
    joined = (inl (refl, (34 ∷ 10 ∷ 45 ∷ [], 1, 34, 1 ∷ 32 ∷ 32 ∷ 1 ∷ [], refl, refl, (0, lit< tt, refl))), tt);
    ends = inl refl;
    covers = (word_deva, word_datta, refl, refl, (word_datta, [], refl, refl, refl));
  };
  accepted = ((0 ∷ []) ∷ (0 ∷ []) ∷ [], λ e. cc, refl, (refl, (refl, tt)));
  blanks_kept = keeps;
  choices_kept = All-nil _;
}

pub deva_datta : IsAnswer devadatta_lexicon (unbroken word_devadatta) [] (step 0 word_deva 0 ∷ step 0 word_datta 0 ∷ [])
deva_datta = deva_and_datta [] (All-nil _)

pub deva_datta_broken : IsAnswer devadatta_lexicon (broken_at 4 word_devadatta) [] (step 0 word_deva 0 ∷ step 0 word_datta 0 ∷ [])
deva_datta_broken =
    let steps : List Step = step 0 word_deva 0 ∷ step 0 word_datta 0 ∷ [] in
    let P : ℕ → Type 0 = λ blank. IsAtSomeSeam devadatta_lexicon.rules blank (placed devadatta_lexicon.rules steps) in
    deva_and_datta (4 ∷ []) (All-cons P 4 [] (inl (lit≤ tt, lit≤ tt)) (All-nil P))

-- a blank inside the only step stands at no seam
pub no_devadatta_broken : IsAnswer devadatta_lexicon (broken_at 4 word_devadatta) [] (step 0 word_devadatta 0 ∷ []) → ⊥
no_devadatta_broken a =
    let steps : List Step = step 0 word_devadatta 0 ∷ [] in
    All-head (λ blank. IsAtSomeSeam devadatta_lexicon.rules blank (placed devadatta_lexicon.rules steps)) 4 [] a.blanks_kept

pub devah_gacchati : (blank : ℕ) → 3 ≤ blank → blank ≤ 5
    → IsAnswer devah_lexicon (broken_at blank word_devogacchati) [] (step 0 word_devah 1 ∷ step 0 word_gacchati 0 ∷ [])
unfolding grammar_of
devah_gacchati blank low high =
    let steps : List Step = step 0 word_devah 1 ∷ step 0 word_gacchati 0 ∷ [] in
    let P : ℕ → Type 0 = λ b. IsAtSomeSeam devah_lexicon.rules b (placed devah_lexicon.rules steps) in
    record {
      derives = record {
        forms = ((1, lit< tt, refl), ((0, lit< tt, refl), tt));
        joined = (inr (((lit< tt, lit≤ tt), λ e. cc, λ e. cc), λ e. cc), tt);
        ends = inl refl;
        covers = (
          34 ∷ 10 ∷ 45 ∷ [],
          1 ∷ 22 ∷ 23 ∷ 1 ∷ 32 ∷ 3 ∷ [],
          refl,
          refl,
          (1 ∷ 22 ∷ 23 ∷ 1 ∷ 32 ∷ 3 ∷ [], [], refl, refl, refl),
        );
      };
      accepted = ((0 ∷ []) ∷ (0 ∷ []) ∷ [], λ e. cc, refl, (refl, (refl, tt)));
      blanks_kept = All-cons P blank [] (inl (low, high)) (All-nil P);
      choices_kept = All-nil _;
    }

-- a blank elsewhere stands at no seam
pub no_devah_gacchati : (blank : ℕ)
    → IsAnswer devah_lexicon (broken_at blank word_devogacchati) [] (step 0 word_devah 1 ∷ step 0 word_gacchati 0 ∷ [])
    → (3 ≤ blank) × (blank ≤ 5)
no_devah_gacchati blank a =
    let steps : List Step = step 0 word_devah 1 ∷ step 0 word_gacchati 0 ∷ [] in
    elim (All-head (λ b. IsAtSomeSeam devah_lexicon.rules b (placed devah_lexicon.rules steps)) blank [] a.blanks_kept) [
      | inl seam ↦ seam
      | inr none ↦ absurd none
    ]

pub devas_changed : IsAnswer final_lexicon (unbroken word_devah) [] (step 0 word_devas 1 ∷ [])
unfolding grammar_of
devas_changed = record {
  derives = record {
    forms = ((0, lit< tt, refl), tt);
    joined = tt;
    ends = inr ((lit< tt, lit≤ tt), refl, λ e. cc);
    covers = (word_deva, [], refl, refl, refl);
  };
  accepted = ((0 ∷ []) ∷ [], λ e. cc, refl, (refl, tt));
  blanks_kept = All-nil _;
  choices_kept = All-nil _;
}

pub devas : IsAnswer final_lexicon (unbroken word_devas) [] (step 0 word_devas 0 ∷ [])
unfolding grammar_of
devas = record {
  derives = record {
    forms = ((0, lit< tt, refl), tt);
    joined = tt;
    ends = inl refl;
    covers = (word_devas, [], refl, refl, refl);
  };
  accepted = ((0 ∷ []) ∷ [], λ e. cc, refl, (refl, tt));
  blanks_kept = All-nil _;
  choices_kept = All-nil _;
}

one_form : (choices : List Choice) → KeepsChoices vowel_lexicon.rules choices (step 0 word_a_a 0 ∷ [])
    → IsAnswer vowel_lexicon (unbroken word_a_a) choices (step 0 word_a_a 0 ∷ [])
unfolding grammar_of
one_form choices keeps = record {
  derives = record {
    forms = ((1, lit< tt, refl), tt);
    joined = tt;
    ends = inl refl;
    covers = (word_a_a, [], refl, refl, refl);
  };
  accepted = ((0 ∷ []) ∷ [], λ e. cc, refl, (refl, tt));
  blanks_kept = All-nil _;
  choices_kept = keeps;
}

two_forms : (choices : List Choice) → KeepsChoices vowel_lexicon.rules choices (step 0 word_a 0 ∷ step 0 word_a 0 ∷ [])
    → IsAnswer vowel_lexicon (unbroken word_a_a) choices (step 0 word_a 0 ∷ step 0 word_a 0 ∷ [])
unfolding grammar_of
two_forms choices keeps = record {
  derives = record {
    forms = ((0, lit< tt, refl), ((0, lit< tt, refl), tt));
    joined = (inl (refl, ([], 1, 1, [], refl, refl, (0, lit< tt, refl))), tt);
    ends = inl refl;
    covers = (word_a, word_a, refl, refl, (word_a, [], refl, refl, refl));
  };
  accepted = ((0 ∷ []) ∷ (0 ∷ []) ∷ [], λ e. cc, refl, (refl, (refl, tt)));
  blanks_kept = All-nil _;
  choices_kept = keeps;
}

keeps_one : (steps : List Step) (choice : Choice) → KeepsChoice (items_of vowel_lexicon.rules steps) choice
    → KeepsChoices vowel_lexicon.rules (choice ∷ []) steps
keeps_one steps choice h =
    All-cons (KeepsChoice (items_of vowel_lexicon.rules steps)) choice [] h (All-nil (KeepsChoice (items_of vowel_lexicon.rules steps)))

kept_one : (steps : List Step) (choice : Choice) → IsAnswer vowel_lexicon (unbroken word_a_a) (choice ∷ []) steps
    → KeepsChoice (items_of vowel_lexicon.rules steps) choice
kept_one steps choice a = All-head (KeepsChoice (items_of vowel_lexicon.rules steps)) choice [] a.choices_kept

pub a_a : IsAnswer vowel_lexicon (unbroken word_a_a) [] (step 0 word_a_a 0 ∷ [])
a_a = one_form [] (All-nil _)

pub a_and_a : IsAnswer vowel_lexicon (unbroken word_a_a) [] (step 0 word_a 0 ∷ step 0 word_a 0 ∷ [])
a_and_a = two_forms [] (All-nil _)

-- the second form a is kept by the two forms, and not by the one form
pub a_and_a_kept : IsAnswer vowel_lexicon (unbroken word_a_a) (kept 1 word_a ∷ []) (step 0 word_a 0 ∷ step 0 word_a 0 ∷ [])
a_and_a_kept = two_forms _ (keeps_one (step 0 word_a 0 ∷ step 0 word_a 0 ∷ []) (kept 1 word_a) (1, lit< tt, refl))

pub no_a_a_kept : IsAnswer vowel_lexicon (unbroken word_a_a) (kept 1 word_a ∷ []) (step 0 word_a_a 0 ∷ []) → ⊥
no_a_a_kept a = no_item (kept_one _ _ a)
  where
    no_item : KeepsChoice (items_of vowel_lexicon.rules (step 0 word_a_a 0 ∷ [])) (kept 1 word_a) → ⊥
    no_item (zero, l, e) = omega (arith, ap (λ (item : Item). item.at) e)
    no_item (suc n, l, e) = omega arith

-- the second form a is rejected by the one form, and not by the two forms
pub a_a_rejected : IsAnswer vowel_lexicon (unbroken word_a_a) (rejected 1 word_a ∷ []) (step 0 word_a_a 0 ∷ [])
a_a_rejected = one_form _ (keeps_one (step 0 word_a_a 0 ∷ []) (rejected 1 word_a) no_item)
  where
    no_item : KeepsChoice (items_of vowel_lexicon.rules (step 0 word_a_a 0 ∷ [])) (rejected 1 word_a)
    no_item (zero, l, e) = omega (arith, ap (λ (item : Item). item.at) e)
    no_item (suc n, l, e) = omega arith

pub no_a_and_a_rejected : IsAnswer vowel_lexicon (unbroken word_a_a) (rejected 1 word_a ∷ []) (step 0 word_a 0 ∷ step 0 word_a 0 ∷ []) → ⊥
no_a_and_a_rejected a = kept_one _ _ a (1, lit< tt, refl)

pub ca_iti_of_q : IsAnswer limited_lexicon (unbroken word_ceti) [] (step 0 word_ca 1 ∷ step 1 word_iti 0 ∷ [])
unfolding grammar_of
ca_iti_of_q = record {
  derives = record {
    forms = ((0, lit< tt, refl), ((0, lit< tt, refl), tt));
    joined = (inr (((lit< tt, lit≤ tt), λ e. cc, λ e. cc), λ e. cc), tt);
    ends = inl refl;
    covers = (22 ∷ [], 32 ∷ 3 ∷ [], refl, refl, (32 ∷ 3 ∷ [], [], refl, refl, refl));
  };
  accepted = ((0 ∷ []) ∷ (1 ∷ []) ∷ [], λ e. cc, refl, (inl (inl refl), (inl (inr refl), tt)));
  blanks_kept = All-nil _;
  choices_kept = All-nil _;
}

pub caa_iti_of_r : IsAnswer limited_lexicon (unbroken word_ceti) [] (step 0 word_caa 2 ∷ step 2 word_iti 0 ∷ [])
unfolding grammar_of
caa_iti_of_r = record {
  derives = record {
    forms = ((1, lit< tt, refl), ((0, lit< tt, refl), tt));
    joined = (inr (((lit< tt, lit≤ tt), λ e. cc, λ e. cc), λ e. cc), tt);
    ends = inl refl;
    covers = (22 ∷ [], 32 ∷ 3 ∷ [], refl, refl, (32 ∷ 3 ∷ [], [], refl, refl, refl));
  };
  accepted = ((0 ∷ []) ∷ (2 ∷ []) ∷ [], λ e. cc, refl, (inl (inl refl), (inr refl, tt)));
  blanks_kept = All-nil _;
  choices_kept = All-nil _;
}

-- the phase after is not in the rule's after
pub no_ca_iti_of_r : IsAnswer limited_lexicon (unbroken word_ceti) [] (step 0 word_ca 1 ∷ step 2 word_iti 0 ∷ []) → ⊥
no_ca_iti_of_r a = elim a.derives.joined.0 [ inl none ↦ absurd (omega (arith, none.0)) | inr rule ↦ rule.1 refl ]

pub no_caa_iti_of_q : IsAnswer limited_lexicon (unbroken word_ceti) [] (step 0 word_caa 2 ∷ step 1 word_iti 0 ∷ []) → ⊥
no_caa_iti_of_q a = elim a.derives.joined.0 [ inl none ↦ absurd (omega (arith, none.0)) | inr rule ↦ rule.1 refl ]

pub ca_of_p_iti : IsAnswer limited_before_lexicon (unbroken word_ceti) [] (step 0 word_ca 1 ∷ step 1 word_iti 0 ∷ [])
unfolding grammar_of
ca_of_p_iti = record {
  derives = record {
    forms = ((0, lit< tt, refl), ((0, lit< tt, refl), tt));
    joined = (inr (((lit< tt, lit≤ tt), λ e. cc, λ e. cc), λ e. cc), tt);
    ends = inl refl;
    covers = (22 ∷ [], 32 ∷ 3 ∷ [], refl, refl, (32 ∷ 3 ∷ [], [], refl, refl, refl));
  };
  accepted = ((0 ∷ []) ∷ (1 ∷ []) ∷ [], λ e. cc, refl, (inl refl, (inr refl, tt)));
  blanks_kept = All-nil _;
  choices_kept = All-nil _;
}

-- the phase before is not in the rule's before
pub no_ca_of_q_iti : IsAnswer limited_before_lexicon (unbroken word_ceti) [] (step 1 word_ca 1 ∷ step 1 word_iti 0 ∷ []) → ⊥
no_ca_of_q_iti a = elim a.derives.joined.0 [ inl none ↦ absurd (omega (arith, none.0)) | inr rule ↦ rule.0.2 refl ]
