-- The lexicons of the small cases are lexicons: each part of what is asked of them computes.
use Rattle.std.proofs.Common.{refl, lit<, lit≤, inl, inr}
use Rattle.std.specs.Prelude.{codes}
use Rattle.lexicon_definitions.specs.Tags.{IsTagText}
use Rattle.std.specs.List.Sorted.{IsStrictlySortedBy}
use Rattle.lexicon_definitions.specs.Lexicons.{IsLexicon}
use Rattle.worked_cases.specs.WorkedLexicons.{ceti_lexicon, uvaaca_lexicon, preverb_lexicon, overlap_lexicon, naasti_lexicon, devadatta_lexicon, devah_lexicon, twofold_lexicon, vowel_lexicon, final_lexicon, limited_lexicon, limited_before_lexicon}
use Rattle.worked_cases.proofs.WrittenLexicons.{entry_is, written_is_lexicon}
use Rattle.list_laws.proofs.Elements.{first_differs}
use Rattle.lexicon_definitions.proofs.WrittenRules.{inner_is, final_is}

-- the tags of the small lexicons
ind_is_tag : IsTagText (codes "ind")
ind_is_tag = inr (inr (inr (inr (inl refl))))

pv_is_tag : IsTagText (codes "pv")
pv_is_tag = inr (inr (inr (inl refl)))

nominative_is_tag : IsTagText (codes "m.sg.nom")
nominative_is_tag = inl (record {
  gender = codes "m";
  number = codes "sg";
  gcase = codes "nom";
  is_gender = inl refl;
  is_number = inl refl;
  is_case = inl refl;
  is_text = refl;
})

vocative_is_tag : IsTagText (codes "m.sg.voc")
vocative_is_tag = inl (record {
  gender = codes "m";
  number = codes "sg";
  gcase = codes "voc";
  is_gender = inl refl;
  is_number = inl refl;
  is_case = inr (inr (inr (inr (inr (inr (inr (inl refl)))))));
  is_text = refl;
})

present_is_tag : IsTagText (codes "pr.ac.3.sg")
present_is_tag = inr (inl (record {
  tense = codes "pr";
  voice = codes "ac";
  person = codes "3";
  number = codes "sg";
  is_tense = inl refl;
  is_voice = inl refl;
  is_person = inr (inr (inl refl));
  is_number = inl refl;
  is_text = refl;
}))

perfect_is_tag : IsTagText (codes "perf.ac.3.sg")
perfect_is_tag = inr (inl (record {
  tense = codes "perf";
  voice = codes "ac";
  person = codes "3";
  number = codes "sg";
  is_tense = inr (inr (inr (inr (inr (inl refl)))));
  is_voice = inl refl;
  is_person = inr (inr (inl refl));
  is_number = inl refl;
  is_text = refl;
}))

pub ceti_is_lexicon : IsLexicon ceti_lexicon
unfolding IsStrictlySortedBy
ceti_is_lexicon = written_is_lexicon _ (record {
  names_are_names = ((refl, lit≤ tt, refl), tt);
  grammar_is_text = (refl, refl);
  names = (tt, tt);
  pairs = tt;
  pairs_rising = tt;
  each = (inner_is 1 _ _ _ _ _ refl refl refl (λ e. cc) (λ e. cc) (λ e. cc) (lit< tt) (lit< tt) (lit< tt) (lit< tt), tt);
  distinct = (tt, tt);
  count = refl;
  forms = ((entry_is _ _ _ refl (λ e. cc) refl ind_is_tag, (entry_is _ _ _ refl (λ e. cc) refl ind_is_tag, tt)), tt);
  forms_rising = (((refl, tt), (tt, tt)), tt);
})

pub uvaaca_is_lexicon : IsLexicon uvaaca_lexicon
unfolding IsStrictlySortedBy
uvaaca_is_lexicon = written_is_lexicon _ (record {
  names_are_names = ((refl, lit≤ tt, refl), tt);
  grammar_is_text = (refl, refl);
  names = (tt, tt);
  pairs = tt;
  pairs_rising = tt;
  each = (inner_is 1 _ _ _ _ _ refl refl refl (λ e. cc) (λ e. cc) (λ e. cc) (lit< tt) (lit< tt) (lit< tt) (lit< tt), (inner_is 1 _ _ _ _ _ refl refl refl (λ e. cc) (λ e. cc) (λ e. cc) (lit< tt) (lit< tt) (lit< tt) (lit< tt), tt));
  distinct = ((λ e. cc (e.0), tt), (tt, tt));
  count = refl;
  forms = ((entry_is _ _ _ refl (λ e. cc) refl ind_is_tag, (entry_is _ _ _ refl (λ e. cc) refl perfect_is_tag, (entry_is _ _ _ refl (λ e. cc) refl ind_is_tag, tt))), tt);
  forms_rising = (((refl, (refl, tt)), ((refl, tt), (tt, tt))), tt);
})

pub preverb_is_lexicon : IsLexicon preverb_lexicon
unfolding IsStrictlySortedBy
preverb_is_lexicon = written_is_lexicon _ (record {
  names_are_names = ((refl, lit≤ tt, refl), ((refl, lit≤ tt, refl), ((refl, lit≤ tt, refl), tt)));
  grammar_is_text = (refl, refl);
  names = ((first_differs _ _ refl, (first_differs _ _ refl, tt)), ((first_differs _ _ refl, tt), (tt, tt)));
  pairs = (((lit≤ tt, lit≤ tt), (lit≤ tt, lit≤ tt)), tt);
  pairs_rising = (tt, tt);
  each = (inner_is 3 _ _ _ _ _ refl refl refl (λ e. cc) (λ e. cc) (λ e. cc) (lit< tt) (lit< tt) (lit< tt) (lit< tt), tt);
  distinct = (tt, tt);
  count = refl;
  forms = ((entry_is _ _ _ refl (λ e. cc) refl ind_is_tag, tt), ((entry_is _ _ _ refl (λ e. cc) refl pv_is_tag, tt), ((entry_is _ _ _ refl (λ e. cc) refl present_is_tag, tt), tt)));
  forms_rising = ((tt, tt), ((tt, tt), ((tt, tt), tt)));
})

pub overlap_is_lexicon : IsLexicon overlap_lexicon
unfolding IsStrictlySortedBy
overlap_is_lexicon = written_is_lexicon _ (record {
  names_are_names = ((refl, lit≤ tt, refl), tt);
  grammar_is_text = (refl, refl);
  names = (tt, tt);
  pairs = tt;
  pairs_rising = tt;
  each = (inner_is 1 _ _ _ _ _ refl refl refl (λ e. cc) (λ e. cc) (λ e. cc) (lit< tt) (lit< tt) (lit< tt) (lit< tt), (inner_is 1 _ _ _ _ _ refl refl refl (λ e. cc) (λ e. cc) (λ e. cc) (lit< tt) (lit< tt) (lit< tt) (lit< tt), tt));
  distinct = ((λ e. cc (e.0), tt), (tt, tt));
  count = refl;
  forms = ((entry_is _ _ _ refl (λ e. cc) refl ind_is_tag, (entry_is _ _ _ refl (λ e. cc) refl ind_is_tag, (entry_is _ _ _ refl (λ e. cc) refl ind_is_tag, tt))), tt);
  forms_rising = (((refl, (refl, tt)), ((refl, tt), (tt, tt))), tt);
})

pub naasti_is_lexicon : IsLexicon naasti_lexicon
unfolding IsStrictlySortedBy
naasti_is_lexicon = written_is_lexicon _ (record {
  names_are_names = ((refl, lit≤ tt, refl), tt);
  grammar_is_text = (refl, refl);
  names = (tt, tt);
  pairs = tt;
  pairs_rising = tt;
  each = (inner_is 1 _ _ _ _ _ refl refl refl (λ e. cc) (λ e. cc) (λ e. cc) (lit< tt) (lit< tt) (lit< tt) (lit< tt), (inner_is 1 _ _ _ _ _ refl refl refl (λ e. cc) (λ e. cc) (λ e. cc) (lit< tt) (lit< tt) (lit< tt) (lit< tt), tt));
  distinct = ((λ e. cc (e.1), tt), (tt, tt));
  count = refl;
  forms = ((entry_is _ _ _ refl (λ e. cc) refl present_is_tag, (entry_is _ _ _ refl (λ e. cc) refl ind_is_tag, (entry_is _ _ _ refl (λ e. cc) refl ind_is_tag, tt))), tt);
  forms_rising = (((refl, (refl, tt)), ((refl, tt), (tt, tt))), tt);
})

pub devadatta_is_lexicon : IsLexicon devadatta_lexicon
unfolding IsStrictlySortedBy
devadatta_is_lexicon = written_is_lexicon _ (record {
  names_are_names = ((refl, lit≤ tt, refl), tt);
  grammar_is_text = (refl, refl);
  names = (tt, tt);
  pairs = (((lit≤ tt, lit≤ tt), (lit≤ tt, lit≤ tt)), tt);
  pairs_rising = (tt, tt);
  each = tt;
  distinct = tt;
  count = refl;
  forms = ((entry_is _ _ _ refl (λ e. cc) refl vocative_is_tag, (entry_is _ _ _ refl (λ e. cc) refl vocative_is_tag, (entry_is _ _ _ refl (λ e. cc) refl vocative_is_tag, tt))), tt);
  forms_rising = (((refl, (refl, tt)), ((refl, tt), (tt, tt))), tt);
})

pub devah_is_lexicon : IsLexicon devah_lexicon
unfolding IsStrictlySortedBy
devah_is_lexicon = written_is_lexicon _ (record {
  names_are_names = ((refl, lit≤ tt, refl), tt);
  grammar_is_text = (refl, refl);
  names = (tt, tt);
  pairs = tt;
  pairs_rising = tt;
  each = (inner_is 1 _ _ _ _ _ refl refl refl (λ e. cc) (λ e. cc) (λ e. cc) (lit< tt) (lit< tt) (lit< tt) (lit< tt), tt);
  distinct = (tt, tt);
  count = refl;
  forms = ((entry_is _ _ _ refl (λ e. cc) refl present_is_tag, (entry_is _ _ _ refl (λ e. cc) refl nominative_is_tag, tt)), tt);
  forms_rising = (((refl, tt), (tt, tt)), tt);
})

pub twofold_is_lexicon : IsLexicon twofold_lexicon
unfolding IsStrictlySortedBy
twofold_is_lexicon = written_is_lexicon _ (record {
  names_are_names = ((refl, lit≤ tt, refl), tt);
  grammar_is_text = (refl, refl);
  names = (tt, tt);
  pairs = tt;
  pairs_rising = tt;
  each = (inner_is 1 _ _ _ _ _ refl refl refl (λ e. cc) (λ e. cc) (λ e. cc) (lit< tt) (lit< tt) (lit< tt) (lit< tt), tt);
  distinct = (tt, tt);
  count = refl;
  forms = ((entry_is _ _ _ refl (λ e. cc) refl ind_is_tag, (entry_is _ _ _ refl (λ e. cc) refl ind_is_tag, tt)), tt);
  forms_rising = (((refl, tt), (tt, tt)), tt);
})

pub vowel_is_lexicon : IsLexicon vowel_lexicon
unfolding IsStrictlySortedBy
vowel_is_lexicon = written_is_lexicon _ (record {
  names_are_names = ((refl, lit≤ tt, refl), tt);
  grammar_is_text = (refl, refl);
  names = (tt, tt);
  pairs = (((lit≤ tt, lit≤ tt), (lit≤ tt, lit≤ tt)), tt);
  pairs_rising = (tt, tt);
  each = tt;
  distinct = tt;
  count = refl;
  forms = ((entry_is _ _ _ refl (λ e. cc) refl ind_is_tag, (entry_is _ _ _ refl (λ e. cc) refl ind_is_tag, tt)), tt);
  forms_rising = (((refl, tt), (tt, tt)), tt);
})

pub final_is_lexicon : IsLexicon final_lexicon
unfolding IsStrictlySortedBy
final_is_lexicon = written_is_lexicon _ (record {
  names_are_names = ((refl, lit≤ tt, refl), tt);
  grammar_is_text = (refl, refl);
  names = (tt, tt);
  pairs = tt;
  pairs_rising = tt;
  each = (final_is 1 _ _ _ refl refl (λ e. cc) (λ e. cc) (lit< tt) (lit< tt), tt);
  distinct = (tt, tt);
  count = refl;
  forms = ((entry_is _ _ _ refl (λ e. cc) refl nominative_is_tag, tt), tt);
  forms_rising = ((tt, tt), tt);
})

pub limited_is_lexicon : IsLexicon limited_lexicon
unfolding IsStrictlySortedBy
limited_is_lexicon = written_is_lexicon _ (record {
  names_are_names = ((refl, lit≤ tt, refl), ((refl, lit≤ tt, refl), ((refl, lit≤ tt, refl), tt)));
  grammar_is_text = (refl, refl);
  names = ((first_differs _ _ refl, (first_differs _ _ refl, tt)), ((first_differs _ _ refl, tt), (tt, tt)));
  pairs = tt;
  pairs_rising = tt;
  each = (inner_is 3 _ _ _ _ _ refl refl refl (λ e. cc) (λ e. cc) (λ e. cc) (lit< tt) (lit< tt) (lit< tt) (lit< tt), (inner_is 3 _ _ _ _ _ refl refl refl (λ e. cc) (λ e. cc) (λ e. cc) (lit< tt) (lit< tt) (lit< tt) (lit< tt), tt));
  distinct = ((λ e. cc (e.0), tt), (tt, tt));
  count = refl;
  forms = ((entry_is _ _ _ refl (λ e. cc) refl ind_is_tag, (entry_is _ _ _ refl (λ e. cc) refl ind_is_tag, tt)), ((entry_is _ _ _ refl (λ e. cc) refl ind_is_tag, tt), ((entry_is _ _ _ refl (λ e. cc) refl ind_is_tag, tt), tt)));
  forms_rising = (((refl, tt), (tt, tt)), ((tt, tt), ((tt, tt), tt)));
})

pub limited_before_is_lexicon : IsLexicon limited_before_lexicon
unfolding IsStrictlySortedBy
limited_before_is_lexicon = written_is_lexicon _ (record {
  names_are_names = ((refl, lit≤ tt, refl), ((refl, lit≤ tt, refl), tt));
  grammar_is_text = (refl, refl);
  names = ((first_differs _ _ refl, tt), (tt, tt));
  pairs = tt;
  pairs_rising = tt;
  each = (inner_is 2 _ _ _ _ _ refl refl refl (λ e. cc) (λ e. cc) (λ e. cc) (lit< tt) (lit< tt) (lit< tt) (lit< tt), tt);
  distinct = (tt, tt);
  count = refl;
  forms = ((entry_is _ _ _ refl (λ e. cc) refl ind_is_tag, tt), ((entry_is _ _ _ refl (λ e. cc) refl ind_is_tag, (entry_is _ _ _ refl (λ e. cc) refl ind_is_tag, tt)), tt));
  forms_rising = ((tt, tt), (((refl, tt), (tt, tt)), tt));
})
