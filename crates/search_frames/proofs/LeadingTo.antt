-- Where a key leads on to: a place that is reached, of higher rank.
use Rattle.std.proofs.Common.{◌*◌, ◌<◌, ◌≤◌, List, length, sym, subst}
use Rattle.text_definitions.specs.Lines.{Line}
use Rattle.segmentation_definitions.specs.Items.{Choice}
use Rattle.segmentation_definitions.specs.Listings.{Key}
use Rattle.annotated_trie.specs.Searched.{SearchedLexicon, IsSearchedLexicon}
use Rattle.search_frames.specs.declared.configuration.Configuration.{Configuration}
use Rattle.search_frames.specs.Configurations.{NumberedConfiguration}
use Rattle.search_frames.specs.Frames.{IsConfigurationIn, numbered_of}
use Rattle.search_frames.specs.Tests.{LeadsTo}
use Rattle.search_frames.specs.Reached.{IsReached, rank}
use Rattle.search_frames.proofs.ConfigurationRanks.{rank_rises, rank_within}
use Rattle.search_frames.proofs.ReachedConfigurations.{reached_after}

pub record LedTo (searched : SearchedLexicon) (line : Line) (choices : List Choice) (here : NumberedConfiguration) (next : Configuration) : Type 0 where
  pub place : IsConfigurationIn searched line next
  pub reached : IsReached searched line choices (numbered_of searched next)
  pub rises : rank here < rank (numbered_of searched next)
  pub within : rank (numbered_of searched next) ≤ 2 * length line.letters

pub leads_from : (searched : SearchedLexicon) (line : Line) (choices : List Choice) (here : NumberedConfiguration) (key : Key) (next : Configuration)
    → LeadsTo searched line choices here key next → IsSearchedLexicon searched → IsReached searched line choices here
    → LedTo searched line choices here next
leads_from searched line choices here key next leads is reached =
    let there = sym leads.is in
    record {
      place = leads.within;
      reached = subst (IsReached searched line choices) there (reached_after searched line choices here key is reached leads.leads_on);
      rises = subst (λ h. rank here < rank h) there (rank_rises searched line choices here key is leads.leads_on);
      within = subst (λ h. rank h ≤ 2 * length line.letters) there (rank_within searched line choices here key leads.leads_on);
    }
