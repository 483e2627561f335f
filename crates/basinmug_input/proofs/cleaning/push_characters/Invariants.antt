-- What was appended and what is still to come are all that is shown.
use Rattle.std.proofs.Common.{◌≡◌, ◌++◌, chars, string_bytes}
use Rattle.std.specs.Str.{IsUtf8}
use Rattle.std.specs.Str.Iter.{chars_rest}
use Rattle.basinmug_input.specs.Cleaning.{cleaned_text}
use Rattle.basinmug_input.proofs.Cleans.{waiting}
use Rattle.basinmug_input.proofs.cleaning.push_characters.Given as goal

abbrev pub invariant-loop-c : goal.invariant-loop-c
invariant-loop-c l =
    record {
      goes : (goal.iterator-loop-c).can_next l.c-iterator × (goal.iterator-loop-c).is_finite l.c-iterator;
      text : IsUtf8 (chars_rest l.c-iterator);
      left : string_bytes l.out ++ cleaned_text l.escapes (waiting l.waits ++ chars (chars_rest l.c-iterator)) ≡ string_bytes l.fn.out ++ cleaned_text l.escapes (chars l.text);
    }
