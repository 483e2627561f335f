use Rattle.std.proofs.Common.{List, ℕ, ap, ◌∙◌}
use Rattle.grid_records_traits.specs.Sources.{texts_of_rows}
use Rattle.grid_records.proofs.RowsLemmas.Tables.{even_again}
use Rattle.grid_records.proofs.rows.records.vec_records.VecRecords+Text.clone.Goals as goal

pub new-requires : goal.new-requires
new-requires c =
    let text : List ℕ → List ℕ = λ text. text in
    even_again text c.args.self.now.rows.items c.in_ok-rows.rows.items (c.in_ok-rows.ensures ∙ ap (texts_of_rows text) c.deref.ensures.value) c.args.self.now.equally_long
