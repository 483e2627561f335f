-- What is shown so far and of what is left is what is shown of all.
use Rattle.std.proofs.Common.{◌≡◌, ◌++◌, chars, flat_map, string_bytes}
use Rattle.std.specs.Str.{IsUtf8}
use Rattle.std.specs.Str.Iter.{chars_rest}
use Rattle.program_options.specs.declared.basinmug.Escapes.TheVariants.{None as NoEscapes}
use Rattle.basinmug_input.specs.Cleaning.{ordered_char}
use Rattle.basinmug_run.proofs.messages.with_visible_controls.Given as goal

abbrev pub invariant-loop-c : goal.invariant-loop-c
invariant-loop-c l =
    record {
      goes : (goal.iterator-loop-c).can_next l.c-iterator × (goal.iterator-loop-c).is_finite l.c-iterator;
      text : IsUtf8 (chars_rest l.c-iterator);
      left : string_bytes l.out ++ flat_map (ordered_char NoEscapes) (chars (chars_rest l.c-iterator)) ≡ flat_map (ordered_char NoEscapes) (chars l.text);
    }
