use Rattle.papergrid_picture.proofs.ColorsLemmas.Characters.{characters-colored, feeds-plain}
use Rattle.papergrid_picture.proofs.colors.colored_characters.Goals as goal

pub returns : goal.returns
returns c = record { characters = characters-colored; line_feeds = feeds-plain }
