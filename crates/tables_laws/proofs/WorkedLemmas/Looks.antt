-- A new look with other glyphs closes where none of them is a control character.
use Rattle.std.proofs.Common.{ℕ, refl}
use Rattle.std.specs.Prelude.{IfSome}
use Rattle.grid_config_values.specs.Glyphs.{BoundaryKind, along_column, crossing, in_row}
use Rattle.grid_config_values.specs.declared.borders.Borders.{Borders}
use Rattle.tabled.specs.Tables.{new_look}
use Rattle.tables_laws.specs.Shown.ClosingLooks.{ClosesIfSet, IsClosingLook, IsNoControl}
use Rattle.tables_laws.proofs.ShownLemmas.NewLooks.{new-colored}

abbrev space : IsNoControl 0x20
space = record { scalar = refl; no_control = refl }

pub closing-in : (borders : Borders ℕ) → ((row column : BoundaryKind) → IfSome (crossing borders row column) IsNoControl) → ((kind : BoundaryKind) → IfSome (along_column borders kind) IsNoControl)
    → ((kind : BoundaryKind) → IfSome (in_row borders kind) IsNoControl) → IsClosingLook (record new_look { borders = borders })
closing-in borders crossings along rows =
    let new = new-colored ClosesIfSet tt in
    record {
      shown = record {
        crossings = crossings;
        along_columns = along;
        in_rows = rows;
        margins = (space, space, space, space);
        paddings = λ cell. (space, space, space, space);
        justification = λ cell. space;
      };
      colors = record {
        crossings = new.crossings;
        along_columns = new.along_columns;
        in_rows = new.in_rows;
        margins = new.margins;
        paddings = new.paddings;
        justification = new.justification;
      };
    }
