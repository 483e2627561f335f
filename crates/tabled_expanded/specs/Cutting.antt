-- Tables in expanded form that are cut to a width.
use Rattle.std.specs.Prelude.{ℕ, ◌+◌, ◌-◌, ◌==◌, ◌||◌, nat_lt, Bool, true, false, List, [], ◌++◌, decimal, length, map, if◌then◌else◌}
use Rattle.grid_records_measure.specs.TextLines.{line_width}
use Rattle.grid_records_measure.specs.CutTexts.{cut_at}
use Rattle.tabled_expanded.specs.Expanded.{Expanded, field_width}
use Rattle.tabled_expanded.specs.declared.truncating.FieldsOrValues.{FieldsOrValues as OneCut}
use Rattle.tabled_expanded.specs.declared.truncating.FieldsOrValues.TheVariants.{NoRoom as NoRoomCut, Fields as FieldsCut, Values as ValuesCut}

-- a text cut to so many columns, and the suffix after it where it has fewer bytes than before. Cut to none it is empty,
-- without its sequences too
abbrev pub cut_text : ℕ → List ℕ → List ℕ → List ℕ
cut_text width suffix text =
    let kept = if width == 0 then [] else cut_at width text in
    kept ++ (if nat_lt (length kept) (length text) then suffix else [])

-- to how many columns fields, or else values, are cut
pub data FieldsOrValues : Type 0 where
  NoRoom : FieldsOrValues
  Fields : ℕ → FieldsOrValues
  Values : ℕ → FieldsOrValues

-- how texts are cut, where the widest field takes `fields` columns, the number of records `digits` digits and the
-- suffix `suffix` columns. Where the fields leave no column for values the fields are cut, and the values to nothing.
-- Else the values are cut. Where a head or the suffix does not fit, it is `NoRoom`
abbrev pub cut_of : ℕ → ℕ → ℕ → ℕ → FieldsOrValues
cut_of fields digits suffix limit =
    let room = limit - suffix in
    if nat_lt limit (digits + 13) || nat_lt limit suffix then NoRoom
    else if nat_lt room (fields + 3) then (if nat_lt room (3 + suffix) then NoRoom else Fields (room - 3 - suffix))
    else if nat_lt room (fields + 3 + suffix) then NoRoom
    else Values (room - fields - 3 - suffix)

abbrev pub cut_table : List ℕ → Expanded → FieldsOrValues → Expanded
cut_table suffix table NoRoom = table
cut_table suffix table (Fields width) = record {
  fields = map (cut_text width suffix) table.fields;
  records = map (map (cut_text 0 suffix)) table.records;
}
cut_table suffix table (Values width) = record {
  fields = table.fields;
  records = map (map (cut_text width suffix)) table.records;
}

abbrev pub is_cut : FieldsOrValues → Bool
is_cut NoRoom = false
is_cut (Fields width) = true
is_cut (Values width) = true

-- how a table is cut at a limit
abbrev pub cut_for : ℕ → List ℕ → Expanded → FieldsOrValues
cut_for limit suffix table = cut_of (field_width table) (length (decimal (length table.records))) (line_width suffix) limit

-- whether a table can be cut at a limit, and the table then
abbrev pub can_be_truncated : ℕ → List ℕ → Expanded → Bool
can_be_truncated limit suffix table = is_cut (cut_for limit suffix table)

abbrev pub truncated : ℕ → List ℕ → Expanded → Expanded
truncated limit suffix table = cut_table suffix table (cut_for limit suffix table)

-- a cut as the code has it
abbrev pub cut_view : OneCut → FieldsOrValues
cut_view NoRoomCut = NoRoom
cut_view (FieldsCut width) = Fields width
cut_view (ValuesCut width) = Values width
