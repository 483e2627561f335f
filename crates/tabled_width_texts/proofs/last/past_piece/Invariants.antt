-- What is left of the text gives what is left of the result.
use Rattle.std.proofs.Common.{◌≡◌, ◌≤◌, ◌++◌, ℕ, List, chars, map}
use Rattle.std.specs.Str.{IsUtf8}
use Rattle.std.specs.Str.Iter.{chars_rest}
use Rattle.ansi_scan.specs.Attributes.{Attributes}
use Rattle.tabled_width_texts.specs.Keeping.{last_kept}
use Rattle.tabled_width_texts.proofs.last.past_piece.Given as goal

abbrev pub invariant-loop-c : goal.invariant-loop-c
invariant-loop-c l =
    record {
      goes : (goal.iterator-loop-c).can_next l.c-iterator × (goal.iterator-loop-c).is_finite l.c-iterator;
      text : IsUtf8 (chars_rest l.c-iterator);
      fits : l.used ≤ l.width;
      left : (rest : List (ℕ × Attributes)) → last_kept l.width l.before l.fn.known (map (λ c. (c, l.style)) (chars l.text) ++ rest)
          ≡ last_kept l.width l.used l.last (map (λ c. (c, l.style)) (chars (chars_rest l.c-iterator)) ++ rest);
    }
