-- Each byte is looked up.
use Rattle.std.proofs.Common.{refl}
use Rattle.basinmug_delimiter.proofs.laws.named_bytes_by_hand.Goals as goal

pub returns : goal.returns
returns c = record { count = refl; first = refl; last = refl; line_feed = refl; carriage_return = refl; quote = refl }
