-- A prefix of the replies to some first lines is one of all replies, which begin with them.
use Rattle.std.proofs.Common.{ℕ, List, ◌++◌, sym, subst}
use Rattle.std.specs.Prelude.{Option}
use Rattle.outside.specs.Told.{GrowsByPrefix}
use Rattle.outside.proofs.ToldLemmas.{GrowsByPrefix-more}
use Rattle.lexicon_definitions.specs.Lexicons.{Lexicon}
use Rattle.lexicon_text_definitions.specs.FileLines.{Line}
use Rattle.session_definitions.specs.States.{opening}
use Rattle.session_definitions.specs.Sessions.{End, AreReplies, IsSession}
use Rattle.session_definitions.proofs.FrontReplies.{begun}
use Rattle.reader_session.specs.Served.{WroteFront}

pub front_begins : (lexicon : Lexicon) (input output : List ℕ) (end : End) (old new : Option (List ℕ)) → IsSession lexicon input output end
    → WroteFront lexicon input old new → GrowsByPrefix old new output
front_begins lexicon input output end old new session front =
    let all : AreReplies lexicon opening (front.lines ++ front.others) output session.after =
    subst (λ (x : List Line). AreReplies lexicon opening x output session.after) front.first session.replies in
    let parts = begun lexicon front.lines front.others opening front.output output front.after session.after front.replies all in
    subst (GrowsByPrefix old new) (sym parts.1) (GrowsByPrefix-more old new front.output parts.0 front.grown)
