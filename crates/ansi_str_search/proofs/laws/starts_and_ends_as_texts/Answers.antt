-- The lemmas of `Starts`.
use Rattle.ansi_str_search.proofs.Starts.{start-read, start-shows, end-read, end-shows}
use Rattle.ansi_str_search.proofs.laws.starts_and_ends_as_texts.Goals as goal

pub returns-clause-start : goal.returns-clause-start
returns-clause-start c = start-read

pub returns-clause-start_shows : goal.returns-clause-start_shows
returns-clause-start_shows c = start-shows

pub returns-clause-end : goal.returns-clause-end
returns-clause-end c = end-read

pub returns-clause-end_shows : goal.returns-clause-end_shows
returns-clause-end_shows c = end-shows
