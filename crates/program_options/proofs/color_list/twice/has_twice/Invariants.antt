use Rattle.std.proofs.Common.{◌≡◌, ◌==◌, ℕ, map, take}
use Rattle.std.specs.Prelude.{nat_eq}
use Rattle.std.specs.HashSet.{contains}
use Rattle.std.specs.List.{list_any}
use Rattle.program_options.specs.ColorList.Listed.{has_twice}
use Rattle.program_options.proofs.color_list.twice.has_twice.Given as goal

abbrev pub invariant-loop-one : goal.invariant-loop-one
invariant-loop-one g l =
    let taken = map (λ one. one.0) (take l.one-index l.given) in
    record {
      twice : l.twice ≡ has_twice taken;
      met : (other : ℕ) → contains nat_eq l.columns other ≡ list_any (λ column. column == other) taken;
    }
