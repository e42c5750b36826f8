-- A place of a line at which a pass stands, and what the line tells there (own).
use Rattle.text_definitions.specs.Lines.{IsLine}
use Rattle.annotated_trie.specs.Searched.{IsSearchedLexicon}
use Rattle.search_frames.specs.Ahead.{IsAhead}
use Rattle.search_frames.specs.Frames.{IsConfigurationIn, numbered_of}
use Rattle.summary_chart.specs.declared.site.Site.{Site}
use Rattle.summary_chart.specs.declared.site.SiteAhead.{SiteAhead}

-- the lexicon can be searched, and the place is one of the line
pub record IsSite (here : Site) : Type 0 where
  pub searched : IsSearchedLexicon here.lexicon.now
  pub line : IsLine here.line.now
  pub place : IsConfigurationIn here.lexicon.now here.line.now here.place.now

-- the same, with what the line tells of the forms that begin there
pub record IsSiteAhead (here : SiteAhead) : Type 0 where
  pub site : IsSite here.site
  pub ahead : IsAhead here.site.lexicon.now.lexicon.rules here.site.line.now here.site.place.now.at
      (numbered_of here.site.lexicon.now here.site.place.now).entrance here.ahead
