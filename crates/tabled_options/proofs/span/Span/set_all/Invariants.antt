-- What the places that are left will make of the settings is what all places make of them.
use Rattle.std.proofs.Common.{◌≡◌}
use Rattle.grid_config.specs.Looks.{look_of}
use Rattle.tabled_options.specs.Spanning.{spanned_at}
use Rattle.tabled_options.proofs.span.Span.set_all.Given as goal

abbrev pub invariant-loop-pos : goal.invariant-loop-pos
invariant-loop-pos l = spanned_at l.self l.pos-iterator (look_of l.config) ≡ spanned_at l.self l.initial.pos-iterator (look_of l.initial.config)
