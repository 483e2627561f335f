use Rattle.std.proofs.Common.{◌≡◌, ℕ, zero, suc, ◌∷◌, map, replicate, refl, ap, ◌∙◌}
use Rattle.std.proofs.lemmas.List.{length-replicate}
use Rattle.columns_asked.specs.DrawnTables.{paddings}
use Rattle.columns_laws.proofs.LibraryLemmas.EmptyWidths.{empty-is}
use Rattle.columns_laws.proofs.library.empty_columns_take_the_paddings.Goals as goal

each-same : (p n : ℕ) → map (λ (_ : ℕ). p) (replicate n 0) ≡ replicate n p
each-same p zero = refl
each-same p (suc n) = ap (λ sizes. p ∷ sizes) (each-same p n)

pub returns : goal.returns
returns c = record {
  estimate = λ look columns rows. refl;
  paddings = λ style columns rows some. empty-is style columns rows some (replicate columns 0) (length-replicate columns 0) ∙ each-same (paddings style) columns;
}
