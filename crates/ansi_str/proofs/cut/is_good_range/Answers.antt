-- What is tested of the bounds is tested of the range, in all pieces of the text.
use Rattle.std.proofs.Common.{◌↔◌, subst, IsTrue, List, ℕ, Option}
use Rattle.ansi_scan.specs.Sequences.{Piece}
use Rattle.ansi_scan.specs.Pieces.{pieces}
use Rattle.ansi_str.specs.StyledText.{strip}
use Rattle.ansi_str.specs.Cuts.{AreGoodBounds}
use Rattle.ansi_str_search.proofs.Searches.{of_pieces}
use Rattle.ansi_str.proofs.cut.is_good_range.Goals as goal

pub returns : goal.returns
returns g c =
    let text = c.args.text.now in
    let start = g.R.AnsiRange.start c.args.range.now in
    let end = g.R.AnsiRange.end c.args.range.now in
    let good = c.are_good_bounds.result in
    of_pieces (λ (ps : List Piece). IsTrue good ↔ AreGoodBounds (strip ps) start end) text
    (subst (λ (to : Option ℕ). IsTrue good ↔ AreGoodBounds (strip (pieces text)) start to) c.end_place.ensures
    (subst (λ (from : ℕ). IsTrue good ↔ AreGoodBounds (strip (pieces text)) from c.end_place.result) c.start_place.ensures c.are_good_bounds.ensures))
