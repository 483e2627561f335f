use Rattle.std.proofs.Common.{ℕ, List, length, slice_index, refl, subst}
use Rattle.grid_config.specs.Looks.{look_of}
use Rattle.grid_config.specs.Settings.{Settings}
use Rattle.papergrid_fits.specs.Tables.{sized_frame}
use Rattle.papergrid_picture.specs.Fitting.{InRange}
use Rattle.papergrid_picture.specs.Frame.{frame_of}
use Rattle.papergrid_picture.specs.Tables.{sizes_of}
use Rattle.papergrid_picture.proofs.ByNumber.{by_number}
use Rattle.examples.proofs.line.printed.Goals as goal

ranged : (settings : Settings) (widths heights : List ℕ) → InRange (sized_frame settings (slice_index widths) (slice_index heights) (length widths) (length heights)) → InRange (frame_of (look_of settings) widths heights)
ranged settings widths heights fits =
    subst (λ (sizes : List ℕ). InRange (frame_of (look_of settings) sizes heights)) (by_number widths (length widths) refl)
    (subst (λ (sizes : List ℕ). InRange (frame_of (look_of settings) (sizes_of (slice_index widths) (length widths)) sizes)) (by_number heights (length heights) refl) fits)

pub count_lines-requires : goal.count_lines-requires
count_lines-requires g c = record { range = (ranged c.args.cfg.now c.args.sizes.widths.now c.args.sizes.heights.now c.in_ok-fits_counted.ensures.answer.1).1 }

pub print_line-requires-clause-range : goal.print_line-requires-clause-range
print_line-requires-clause-range g c = ranged c.args.cfg.now c.args.sizes.widths.now c.args.sizes.heights.now c.in_ok-fits_counted.ensures.answer.1
