-- Lines that are served one after another are served together: their replies are joined, and so is what was written.
use Rattle.std.proofs.Common.{◌≡◌, ℕ, List, [], ◌∷◌, ◌++◌, refl, sym, ◌∙◌, ap, subst, append_assoc}
use Rattle.std.specs.Prelude.{Option, None, Some}
use Rattle.std.proofs.lemmas.List.{append-nil}
use Rattle.outside.specs.Told.{bytes_after, GrowsByPrefix}
use Rattle.outside.proofs.ToldLemmas.{bytes_after-bytes_after, GrowsByPrefix-after, GrowsByPrefix-all}
use Rattle.annotated_trie.specs.Searched.{SearchedLexicon}
use Rattle.lexicon_text_definitions.specs.FileLines.{Line}
use Rattle.session_definitions.specs.Replies as replies
use Rattle.session_definitions.specs.Replies.{IsReply}
use Rattle.session_definitions.specs.Sessions.{IsWrittenAfter, AreReplies}
use Rattle.session_definitions.proofs.FrontReplies.{joined}
use Rattle.reader_session.specs.SessionValues.{SessionValue, stands_after, HasReplied}
use Rattle.reader_session.specs.declared.after.After.{After}
use Rattle.reader_session.specs.declared.after.After.TheVariants.{Open}
use Rattle.reader_session.specs.Serving.{HasServed, HasStopped}

pub bytes_after-none : (told : Option (List ℕ)) → bytes_after told [] ≡ told
bytes_after-none None = refl
bytes_after-none (Some bytes) = ap Some (append-nil bytes)

pub grows_by_none : (before now : Option (List ℕ)) (bytes : List ℕ) → now ≡ before → GrowsByPrefix before now bytes
grows_by_none before now bytes same = record { count = 0; grown = same ∙ sym (bytes_after-none before) }

-- ---- no line

pub none_served : (session : SessionValue) (told : Option (List ℕ)) → HasServed [] session session told told Open
none_served session told = record { output = []; replies = (refl, refl); wrote = sym (bytes_after-none told); searched = refl }

pub none_stopped : (lines : List Line) (session : SessionValue) (before now : Option (List ℕ)) → now ≡ before → HasStopped lines session before now
none_stopped lines session before now same = record {
  served = [];
  others = lines;
  first = refl;
  output = [];
  after = replies.Open session.state;
  replies = (refl, refl);
  grown = grows_by_none before now [] same;
}

-- ---- one line

nothing_more : (after : replies.After) → IsWrittenAfter after (λ state rest last. (rest ≡ []) × (last ≡ replies.Open state)) [] after
nothing_more (replies.Open state) = (refl, refl)
nothing_more replies.Over = (refl, refl)

one_reply : (line : Line) (old new : SessionValue) (output : List ℕ) (after : After) → HasReplied (IsReply old.searched.lexicon old.state line) old new [] output after
    → AreReplies old.searched.lexicon old.state (line ∷ []) output (stands_after after new.state)
one_reply line old new output after has = (
  has.reply,
  [],
  has.is_it,
  has.bytes ∙ sym (append-nil has.reply.bytes),
  subst (λ (x : replies.After). IsWrittenAfter has.reply.after (λ state rest last. (rest ≡ []) × (last ≡ replies.Open state)) [] x) has.stands
      (nothing_more has.reply.after),
)

module _ (line : Line) (old new : SessionValue) (before now : Option (List ℕ)) (start output bytes : List ℕ) (after : After) (empty : start ≡ []) (same : bytes ≡ output) (has : HasReplied (IsReply old.searched.lexicon old.state line) old new start output after) where
  has_from_none : HasReplied (IsReply old.searched.lexicon old.state line) old new [] output after
  has_from_none = subst (λ (x : List ℕ). HasReplied (IsReply old.searched.lexicon old.state line) old new x output after) empty has

  pub line_served : now ≡ bytes_after before bytes → HasServed (line ∷ []) old new before now after
  line_served wrote = record {
    output = output;
    replies = one_reply line old new output after has_from_none;
    wrote = wrote ∙ ap (bytes_after before) same;
    searched = has.searched;
  }

  pub line_stopped : GrowsByPrefix before now bytes → HasStopped (line ∷ []) old before now
  line_stopped grown = record {
    served = line ∷ [];
    others = [];
    first = refl;
    output = output;
    after = stands_after after new.state;
    replies = one_reply line old new output after has_from_none;
    grown = subst (GrowsByPrefix before now) same grown;
  }

-- ---- lines and then others

module _ (lines more : List Line) (first middle : SessionValue) (before between : Option (List ℕ)) (p : HasServed lines first middle before between Open) where
  -- over one lexicon the replies are joined
  replies_on : (next : List Line) (output : List ℕ) (after : replies.After) → AreReplies middle.searched.lexicon middle.state next output after
      → AreReplies first.searched.lexicon first.state (lines ++ next) (p.output ++ output) after
  replies_on next output after are =
      joined first.searched.lexicon lines next first.state p.output output (replies.Open middle.state) after p.replies
      (subst (λ (x : SearchedLexicon). AreReplies x.lexicon middle.state next output after) p.searched are)

  pub served_on : (last : SessionValue) (now : Option (List ℕ)) (after : After) → HasServed more middle last between now after
      → HasServed (lines ++ more) first last before now after
  served_on last now after q = record {
    output = p.output ++ q.output;
    replies = replies_on more q.output (stands_after after last.state) q.replies;
    wrote = q.wrote ∙ ap (λ (x : Option (List ℕ)). bytes_after x q.output) p.wrote ∙ bytes_after-bytes_after before p.output q.output;
    searched = q.searched ∙ p.searched;
  }

  pub stopped_on : (now : Option (List ℕ)) → HasStopped more middle between now → HasStopped (lines ++ more) first before now
  stopped_on now q = record {
    served = lines ++ q.served;
    others = q.others;
    first = ap (λ (x : List Line). lines ++ x) q.first ∙ sym (append_assoc lines q.served q.others);
    output = p.output ++ q.output;
    after = q.after;
    replies = replies_on q.served q.output q.after q.replies;
    grown = GrowsByPrefix-after before between now p.output q.output p.wrote q.grown;
  }

-- all replies are a prefix of them too
pub all_stopped : (lines : List Line) (old new : SessionValue) (before now : Option (List ℕ)) (after : After) → HasServed lines old new before now after
    → HasStopped lines old before now
all_stopped lines old new before now after p = record {
  served = lines;
  others = [];
  first = sym (append-nil lines);
  output = p.output;
  after = stands_after after new.state;
  replies = p.replies;
  grown = GrowsByPrefix-all before now p.output p.wrote;
}
