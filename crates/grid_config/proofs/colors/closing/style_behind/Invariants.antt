use Rattle.std.proofs.Common.{◌≡◌}
use Rattle.grid_config.proofs.ColorsLemmas.Styles.{style_behind}
use Rattle.grid_config.proofs.colors.closing.style_behind.Given as goal

abbrev pub invariant-loop-item : goal.invariant-loop-item
invariant-loop-item l = l.style ≡ style_behind l.text l.fn.before l.yielded
