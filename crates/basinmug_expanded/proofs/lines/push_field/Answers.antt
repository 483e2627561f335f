-- One line more.
use Rattle.std.proofs.Common.{◌∙◌, ap, append_assoc, ◌++◌, ◌∷◌, [], List, ℕ, map, string_bytes}
use Rattle.std.specs.declared.alloc.Global.{Global}
use Rattle.std.specs.declared.string.String.{String}
use Rattle.grid_records_measure.specs.TextLines.{line_feed}
use Rattle.basinmug_expanded.specs.Records.{field_line}
use Rattle.basinmug_expanded.proofs.Numbered.{line-more}
use Rattle.basinmug_expanded.proofs.lines.push_field.Goals as goal

pub loop-number-preserved : goal.loop-number-preserved
loop-number-preserved c =
    let k = c.loop-number.number in
    let name = map string_bytes c.args.name.now in
    let old = string_bytes c.loop-number.out in
    let line : List (String Global) → List ℕ = λ values. field_line c.args.columns.names name (map string_bytes values) k in
    line-more (field_line c.args.columns.names name (map string_bytes c.in_ok-lines.lines.items)) k _ old _ c.loop-number.invariant
    (c.in_ok-push_field_line.ensures ∙ ap (λ (values : List (String Global)). old ++ line values ++ line_feed ∷ []) c.deref-in-loop-number.ensures.value
    ∙ append_assoc old (line c.in_ok-lines.lines.items) (line_feed ∷ []))
