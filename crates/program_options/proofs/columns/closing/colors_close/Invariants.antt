use Rattle.std.proofs.Common.{All, take}
use Rattle.papergrid_picture.specs.Colors.ClosingColors.{IsClosing}
use Rattle.program_options.proofs.columns.closing.colors_close.Given as goal

abbrev pub invariant-loop-given : goal.invariant-loop-given
invariant-loop-given l = All (λ given. IsClosing given.1) (take l.given-index l.given-items)
