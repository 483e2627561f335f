-- The text with the lines that are left is that with all lines.
use Rattle.std.proofs.Common.{◌≡◌, ◌++◌, map, string_bytes}
use Rattle.std.specs.Iterator.Adapters.{zip_first, zip_second}
use Rattle.std.specs.Slice.Iter.{iter_rest}
use Rattle.tabled_expanded.specs.Expanded.{behind_feeds, field_lines}
use Rattle.tabled_expanded.proofs.lines.push_fields.Given as goal

abbrev pub invariant-loop-field : goal.invariant-loop-field
invariant-loop-field l =
    string_bytes l.out ++ behind_feeds (field_lines l.width (map string_bytes (iter_rest (zip_first l.field-iterator))) (map string_bytes (iter_rest (zip_second l.field-iterator))))
    ≡ string_bytes l.fn.out ++ behind_feeds (field_lines l.width (map string_bytes l.fn.fields) (map string_bytes l.fn.values))
