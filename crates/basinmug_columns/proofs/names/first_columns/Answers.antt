-- A column is put before those after it.
use Rattle.std.proofs.Common.{◌≡◌, ◌∙◌, ap, arith, ◌+◌, ◌-◌, ◌<◌, ℕ, List, Some, drop, length, string_bytes}
use Rattle.std.specs.BTreeMap.{get_by_text}
use Rattle.std.specs.List.{position_from}
use Rattle.std.proofs.lemmas.Map.Text.{btree_map_updates_text}
use Rattle.basinmug_columns.specs.Names.{shows}
use Rattle.basinmug_columns.proofs.FirstColumns.{found-before}
use Rattle.basinmug_columns.proofs.names.first_columns.Goals as goal

pub loop-column-preserved : goal.loop-column-preserved
loop-column-preserved g c =
    let header = g.H.CellRow.texts c.args.header in
    let column = c.loop-column.column in
    let k = column - 1 in
    let inside : k < length header = omega (arith, c.loop-column.auto.column, c.loop-column-test.true, c.len-column.ensures) in
    let next : column ≡ k + 1 = omega (arith, c.loop-column-test.true) in
    let key = c.in_ok-shown_at.field-0 in
    found-before header k (string_bytes key) inside c.in_ok-shown_at.ensures
    (λ (name : List ℕ). get_by_text c.loop-column.columns name) (λ (name : List ℕ). get_by_text c.insert.new.self name)
    (btree_map_updates_text (string_bytes key) c.loop-column.columns c.insert.new.self (Some k) c.in_ok-insert.ensures.updates)
    (λ (name : List ℕ). c.loop-column.invariant name ∙ ap (λ (n : ℕ). position_from (shows name) n (drop n header)) next)
