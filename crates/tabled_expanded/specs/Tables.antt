-- A table in expanded form by its texts and its template.
use Rattle.std.specs.Prelude.{map, string_bytes, vec_items}
use Rattle.tabled_text.specs.Rows.{text_rows}
use Rattle.tabled_expanded.specs.Expanded.{Expanded}
use Rattle.tabled_expanded.specs.declared.table.ExtendedTable.{ExtendedTable}

-- its texts
abbrev pub expanded : {F : Type 0} → ExtendedTable F → Expanded
expanded table = record { fields = map string_bytes (vec_items table.fields); records = text_rows (vec_items table.records) }

abbrev pub template_of : {F : Type 0} → ExtendedTable F → F
template_of table = table.template
