-- A new table's look: none of its glyphs and fills is a control character or has a colour, and each takes one column.
use Rattle.std.proofs.Common.{◌≡◌, ℕ, None, Option, refl, arith}
use Rattle.std.specs.Prelude.{IfSome}
use Rattle.grid_config.specs.Colors.{Color, no_color}
use Rattle.grid_config_values.specs.Glyphs.{Between, BoundaryKind, First, Last, along_column, crossing, in_row}
use Rattle.grid_records_measure.proofs.Plain.{one-column}
use Rattle.papergrid_picture.specs.Shown.{BeginsNoSequence, CostsOne, IsBare, IsColoredBy, ShowsOnly}
use Rattle.tabled.specs.Tables.{new_look}
use Rattle.tables_laws.specs.Shown.ClosingLooks.{ClosesIfSet, IsClosingLook, IsNoControl}
use Rattle.tables_laws.specs.Shown.CountedTables.{CountsOnes, ShowsNothingIfSet}

-- ---- of a kind of which hyphen, plus, bar and space are

module _ (P : ℕ → Type 0) (hyphen : P 0x2d) (plus : P 0x2b) (bar : P 0x7c) (space : P 0x20) where
  crossings : (row column : BoundaryKind) → IfSome (crossing new_look.borders row column) P
  crossings First First = plus
  crossings First Between = plus
  crossings First Last = plus
  crossings Between First = plus
  crossings Between Between = plus
  crossings Between Last = plus
  crossings Last First = plus
  crossings Last Between = plus
  crossings Last Last = plus

  along : (kind : BoundaryKind) → IfSome (along_column new_look.borders kind) P
  along First = hyphen
  along Between = hyphen
  along Last = hyphen

  rows : (kind : BoundaryKind) → IfSome (in_row new_look.borders kind) P
  rows First = bar
  rows Between = bar
  rows Last = bar

  pub new-shown : ShowsOnly P new_look
  new-shown = record {
    crossings = crossings;
    along_columns = along;
    in_rows = rows;
    margins = (space, space, space, space);
    paddings = λ cell. (space, space, space, space);
    justification = λ cell. space;
  }

-- ---- of a kind of colours of which no colour is

module _ (Q : Option Color → Type 0) (none : Q None) where
  no-crossing : (row column : BoundaryKind) → Q (crossing new_look.borders_color row column)
  no-crossing First First = none
  no-crossing First Between = none
  no-crossing First Last = none
  no-crossing Between First = none
  no-crossing Between Between = none
  no-crossing Between Last = none
  no-crossing Last First = none
  no-crossing Last Between = none
  no-crossing Last Last = none

  no-along : (kind : BoundaryKind) → Q (along_column new_look.borders_color kind)
  no-along First = none
  no-along Between = none
  no-along Last = none

  no-row : (kind : BoundaryKind) → Q (in_row new_look.borders_color kind)
  no-row First = none
  no-row Between = none
  no-row Last = none

  pub new-colored : IsColoredBy Q new_look
  new-colored = record {
    crossings = no-crossing;
    along_columns = no-along;
    in_rows = no-row;
    margins = (none, none, none, none);
    paddings = λ cell. (none, none, none, none);
    justification = λ cell. none;
  }

-- ---- the look

begins-nothing : ShowsOnly BeginsNoSequence new_look
begins-nothing =
    new-shown BeginsNoSequence
    (record { scalar = refl; no_escape = λ same. cc same })
    (record { scalar = refl; no_escape = λ same. cc same })
    (record { scalar = refl; no_escape = λ same. cc same })
    (record { scalar = refl; no_escape = λ same. cc same })

pub new-bare : IsBare new_look
new-bare = record { shown = begins-nothing; no_colors = new-colored (λ color. IfSome color (λ set. set ≡ no_color)) tt }

pub new-closing : IsClosingLook new_look
new-closing = record {
  shown = new-shown IsNoControl (record { scalar = refl; no_control = refl }) (record { scalar = refl; no_control = refl }) (record { scalar = refl; no_control = refl }) (record { scalar = refl; no_control = refl });
  colors = new-colored ClosesIfSet tt;
}

pub new-counts : CountsOnes new_look
new-counts =
    let hyphen = one-column 0x2d refl in
    let plus = one-column 0x2b refl in
    let bar = one-column 0x7c refl in
    let space = one-column 0x20 refl in
    record {
      shown = begins-nothing;
      ones = new-shown CostsOne (omega (arith, hyphen)) (omega (arith, plus)) (omega (arith, bar)) (omega (arith, space));
      colors = new-colored ShowsNothingIfSet tt;
    }
