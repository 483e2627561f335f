-- What it is that a text is wrapped to another, and that another is its cut, for those that are worked out by hand.
use Rattle.std.specs.Prelude.{◌≡◌, ℕ, Bool, List}
use Rattle.ansi_scan.specs.Sequences.{Piece, ArePiecesOf}
use Rattle.grid_records_measure.specs.Cutting.{IsCutAt}
use Rattle.tabled_size_wrap.specs.Bytes.{cut_at, wrapped_text}
use Rattle.tabled_size_wrap.specs.Wrapping.{IsWrapped}

-- the text, wrapped at this width, is this one: by the relation, and by the function
pub record WrapsTo (width : ℕ) (keep_words : Bool) (text wrapped : List ℕ) : Type 0 where
  pub pieces : List Piece
  pub of_text : ArePiecesOf text pieces
  pub is_wrapped : IsWrapped width keep_words pieces wrapped
  pub is_function : wrapped_text width keep_words text ≡ wrapped

-- the cut of the text at this width is this one, likewise
pub record CutsTo (width : ℕ) (text cut : List ℕ) : Type 0 where
  pub pieces : List Piece
  pub of_text : ArePiecesOf text pieces
  pub is_cut : IsCutAt width pieces cut
  pub is_function : cut_at width text ≡ cut
