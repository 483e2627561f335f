use Rattle.std.proofs.Common.{◌≡◌, ◌++◌, string_bytes}
use Rattle.papergrid_cells.specs.Painting.{fill_bytes}
use Rattle.papergrid_cells.proofs.painting.push_each.Given as goal

abbrev pub invariant-loop : goal.invariant-loop
invariant-loop l = string_bytes l.out ≡ string_bytes l.fn.out ++ fill_bytes l.character l.counter
