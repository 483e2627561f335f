use Rattle.columns_asked.proofs.Tables.{picture-feeds, text-shows}
use Rattle.columns_asked.proofs.laws.table_shown.Goals as goal

pub returns-clause-shown : goal.returns-clause-shown
returns-clause-shown c = text-shows

pub returns-clause-line_feeds : goal.returns-clause-line_feeds
returns-clause-line_feeds c = picture-feeds
