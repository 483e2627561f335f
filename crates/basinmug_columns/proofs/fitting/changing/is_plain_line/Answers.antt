-- The first byte that is looked for is none.
use Rattle.std.proofs.Common.{◌≡◌, ◌∙◌, ◌&&◌, not, ap, arith, List, ℕ}
use Rattle.std.specs.Prelude.{is_none}
use Rattle.std.specs.List.{list_any}
use Rattle.ansi_str.specs.StyledText.{has_escape}
use Rattle.grid_records_measure.specs.TextLines.{is_line_feed}
use Rattle.basinmug_columns.proofs.FittingLemmas.Plain.{found-neither}
use Rattle.basinmug_columns.proofs.fitting.changing.is_plain_line.Goals as goal

pub returns : goal.returns
returns c =
    let none : c.is_none.result ≡ is_none c.memchr2.result = grind (arith, c.is_none.ensures) in
    none ∙ found-neither c.as_bytes.result.now c.memchr2.result c.memchr2.ensures
    ∙ ap (λ (bytes : List ℕ). not (has_escape bytes) && not (list_any is_line_feed bytes)) c.as_bytes.ensures.value
