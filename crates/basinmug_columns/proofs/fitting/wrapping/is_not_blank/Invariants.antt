-- What is left shows something exactly where the line does.
use Rattle.std.proofs.Common.{◌≡◌, ◌==◌}
use Rattle.std.specs.Prelude.{not}
use Rattle.std.specs.List.{list_any}
use Rattle.basinmug_columns.specs.Fitting.Fitting.{is_not_blank}
use Rattle.basinmug_columns.proofs.fitting.wrapping.is_not_blank.Given as goal

abbrev pub invariant-loop-c : goal.invariant-loop-c
invariant-loop-c l = record {
  goes : (goal.iterator-loop-c).can_next l.c-iterator × (goal.iterator-loop-c).is_finite l.c-iterator;
  left : list_any (λ c. not (c == 0x20)) l.c-iterator ≡ is_not_blank l.line;
}
