use Rattle.std.proofs.Common.{true, [], ◌∷◌, refl}
use Rattle.tabled.proofs.Narrowing.{named-takes}
use Rattle.tabled.proofs.laws.priorities_take_all.Goals as goal

pub returns : goal.returns
returns c = record {
  turns = λ before least by widths after left is. is.0.sums;
  left = λ before least by widths after left is. is.sums;
  right = λ before least by widths after left is. is.sums;
  widest = λ before least by widths after left is. is.0.sums;
  narrowest = λ before least by widths after left is. is.0.sums;
  named = named-takes;
  idle = λ takes. cc (takes true [] 1 (1 ∷ []) true (1 ∷ []) refl);
}
