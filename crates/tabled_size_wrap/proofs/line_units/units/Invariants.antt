-- The units so far and those that are left are all.
use Rattle.std.proofs.Common.{◌≡◌, ◌++◌}
use Rattle.tabled_size_wrap.proofs.line_units.units.Given as goal

abbrev pub invariant-loop-unit : goal.invariant-loop-unit
invariant-loop-unit l =
    record {
      goes : (goal.iterator-loop-unit).can_next l.unit-iterator × (goal.iterator-loop-unit).is_finite l.unit-iterator;
      all : l.units.items ++ l.unit-iterator ≡ l.initial.unit-iterator;
    }
