use Rattle.std.proofs.Common.{◌≡◌, ◌∙◌, ap, sym}
use Rattle.grid_config.specs.Looks.{Look, compact_look}
use Rattle.grid_config.proofs.Looks.{same_look}
use Rattle.papergrid.specs.Compact.{without_high_padding, one_line}
use Rattle.papergrid_fits.specs.Grids.{grid_text}
use Rattle.papergrid.proofs.laws.compact_grids_append_rows_of_one_line.Goals as goal

pub returns : goal.returns
returns c = λ compact settings width colors columns rows top bottom starts.
    let flattened : without_high_padding compact ≡ compact = λ i. record compact {
      padding = record compact.padding {
        top = record compact.padding.top { size = sym top i };
        bottom = record compact.padding.bottom { size = sym bottom i };
      };
    } in
    ap (λ (look : Look). grid_text look width one_line colors columns rows) (ap compact_look flattened ∙ sym (same_look compact settings starts))
