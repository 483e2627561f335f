use Rattle.columns_run.proofs.Bytes.{kept-resized, piece-fill, piece-glyph, piece-text}
use Rattle.columns_run.proofs.Tiling.{shows-block}
use Rattle.columns_run.proofs.laws.cell_lines_keep_their_bytes.Goals as goal

pub returns : goal.returns
returns c = record { blocks = shows-block; texts = piece-text; fills = piece-fill; glyphs = piece-glyph; kept = kept-resized }
