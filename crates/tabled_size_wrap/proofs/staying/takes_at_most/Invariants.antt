-- What the characters that are left cost is compared with what is left of the width.
use Rattle.std.proofs.Common.{◌≡◌, nat_le, chars}
use Rattle.std.specs.Str.{IsUtf8}
use Rattle.std.specs.Str.Iter.{chars_rest}
use Rattle.grid_records_measure.specs.Measures.{line_cost}
use Rattle.tabled_size_wrap.proofs.staying.takes_at_most.Given as goal

abbrev pub invariant-loop-c : goal.invariant-loop-c
invariant-loop-c l =
    record {
      goes : (goal.iterator-loop-c).can_next l.c-iterator × (goal.iterator-loop-c).is_finite l.c-iterator;
      text : IsUtf8 (chars_rest l.c-iterator);
      same : nat_le (line_cost (chars l.line)) l.width ≡ nat_le (line_cost (chars (chars_rest l.c-iterator))) l.left;
    }
