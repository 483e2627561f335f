-- Cells that a row lacks, and the empty text.
use Rattle.std.proofs.Common.{◌≡◌, ◌∙◌, ap, sym, refl, ℕ, List, [], None, Option, get_or}
use Rattle.std.specs.Str.{chars}
use Rattle.std.specs.Option.{unwrap_or}
use Rattle.std.specs.List.{slice_get}
use Rattle.std.proofs.lemmas.Option.{unwrap_or-slice_get}
use Rattle.unicode_width.specs.Width.{str_width}
use Rattle.ansi_scan.specs.Pieces.{first_pieces, pieces}
use Rattle.grid_records_measure.specs.TextLines.{text_width}

-- where a list has nothing at an index, what stands for that is there
pub get_or-none : {X : Type 0} (xs : List X) (i : ℕ) (d : X) → None ≡ slice_get xs i → get_or xs i d ≡ d
get_or-none {X = X} xs i d none = sym (unwrap_or-slice_get xs i d) ∙ ap (λ (found : Option X). unwrap_or found d) (sym none)

-- the empty text takes no column
pub no-width : text_width [] ≡ 0
unfolding chars str_width pieces first_pieces text_width
no-width = refl
