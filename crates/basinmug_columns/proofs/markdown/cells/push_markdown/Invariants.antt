-- The escapes so far and those of what is left are all escapes.
use Rattle.std.proofs.Common.{◌≡◌, ◌++◌, chars, string_bytes}
use Rattle.std.specs.Str.{IsUtf8}
use Rattle.std.specs.Str.Iter.{chars_rest}
use Rattle.basinmug_columns.specs.Markdown.Escapes.{markdown_text}
use Rattle.basinmug_columns.proofs.markdown.cells.push_markdown.Given as goal

abbrev pub invariant-loop-c : goal.invariant-loop-c
invariant-loop-c l =
    record {
      goes : (goal.iterator-loop-c).can_next l.c-iterator × (goal.iterator-loop-c).is_finite l.c-iterator;
      text : IsUtf8 (chars_rest l.c-iterator);
      left : string_bytes l.out ++ markdown_text (chars (chars_rest l.c-iterator)) ≡ string_bytes l.fn.out ++ markdown_text (chars l.text);
    }
