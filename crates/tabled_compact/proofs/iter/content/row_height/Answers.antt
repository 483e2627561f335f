use Rattle.std.proofs.Common.{◌∙◌, ap, map, max, sym}
use Rattle.std.proofs.lemmas.List.{take-map}
use Rattle.grid_records_estimate.specs.Estimates.{greatest}
use Rattle.grid_records_traits.specs.TextLines.{text_height}
use Rattle.tabled_compact.proofs.iter.content.row_height.Goals as goal

pub returns : goal.returns
returns g c =
    c.most_lines.ensures ∙ ap (λ cells. max 1 (greatest (map text_height (map g.C.Cell.text cells)))) c.first.ensures
    ∙ ap (λ texts. max 1 (greatest (map text_height texts))) (sym (take-map g.C.Cell.text c.args.columns c.args.row.now))
