-- The line that is sought is among those that are left.
use Rattle.std.proofs.Common.{◌≡◌, IsTrue, get_or, []}
use Rattle.grid_records_traits.proofs.lines.line_of.Given as goal

abbrev pub invariant-loop-line : goal.invariant-loop-line
invariant-loop-line l =
    record {
      sought : get_or l.line-iterator.parts l.before [] ≡ get_or l.initial.line-iterator.parts l.fn.index [];
      refuses : IsTrue l.line-iterator.can_fail → IsTrue l.initial.line-iterator.can_fail;
    }
