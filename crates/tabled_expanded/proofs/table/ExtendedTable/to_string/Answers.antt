-- The widths are those of the table, and so is the text.
use Rattle.std.proofs.Common.{List, String, Vec, ap, length, map, string_bytes, sym, vec_items, ◌∙◌}
use Rattle.std.specs.declared.alloc.Global.{Global}
use Rattle.std.proofs.lemmas.List.{length-map}
use Rattle.std.proofs.lemmas.Result.{IfOk-weaker}
use Rattle.tabled_text.specs.Rows.{text_rows}
use Rattle.tabled_expanded.specs.Expanded.{widest_text, widest_value}
use Rattle.tabled_expanded.specs.Tables.{expanded}
use Rattle.tabled_expanded.proofs.OneMore.{text_of_table}
use Rattle.tabled_expanded.proofs.table.ExtendedTable.to_string.Goals as goal

pub returns-clause-text : goal.returns-clause-text
returns-clause-text g c =
    let rows = c.args.self.now.records.items in
    let widths = c.in_ok-widths.widths in
    let by_fields = c.in_ok-widths.ensures.widths.0 ∙ ap (λ (texts : List (String Global)). widest_text (map string_bytes texts)) c.deref.ensures.value in
    let by_values = c.in_ok-widths.ensures.widths.1 ∙ ap (λ (records : List (Vec (String Global) Global)). widest_value (text_rows records)) c.deref-2.ensures.value in
    let same_fields = ap (λ (texts : List (String Global)). map string_bytes texts) c.deref-3.ensures.value in
    let same_records = ap (λ (records : List (Vec (String Global) Global)). text_rows records) c.deref-4.ensures.value in
    IfOk-weaker c.text_of.result _ _
    (λ text given. (
      given.0,
      given.1,
      given.2 ∙ ap length c.deref-4.ensures.value ∙ sym (length-map rows (λ (row : Vec (String Global) Global). map string_bytes (vec_items row))),
      given.3 ∙ text_of_table (expanded c.args.self.now) widths.0 widths.1 _ _ given.0 by_fields by_values same_fields same_records,
    ))
    c.text_of.ensures.text
