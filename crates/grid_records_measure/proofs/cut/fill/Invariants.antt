-- What is left of the text gives what is left of the result.
use Rattle.std.proofs.Common.{◌≡◌, ◌≤◌, ◌+◌, length, chars, encode_utf8_all}
use Rattle.std.specs.Str.{IsUtf8}
use Rattle.std.specs.Str.Iter.{chars_rest}
use Rattle.grid_records_measure.specs.Filling.{fitting_front, front_columns}
use Rattle.grid_records_measure.proofs.cut.fill.Given as goal

abbrev pub invariant-loop-c : goal.invariant-loop-c
invariant-loop-c l =
    record {
      goes : (goal.iterator-loop-c).can_next l.c-iterator × (goal.iterator-loop-c).is_finite l.c-iterator;
      text : IsUtf8 (chars_rest l.c-iterator);
      fits : l.used ≤ l.width;
      len : l.len + length (encode_utf8_all (fitting_front l.width l.used (chars (chars_rest l.c-iterator)))) ≡ length (encode_utf8_all (fitting_front l.width l.before (chars l.text)));
      columns : front_columns l.width l.used (chars (chars_rest l.c-iterator)) ≡ front_columns l.width l.before (chars l.text);
    }
