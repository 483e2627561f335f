use Rattle.papergrid_picture.proofs.Items.{feeds-plain, picture-characters, table-plain}
use Rattle.papergrid_picture.proofs.laws.character_reading.Goals as goal

pub returns : goal.returns
returns c = record { characters = picture-characters; line_feeds = feeds-plain; plain = table-plain }
