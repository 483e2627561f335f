use Rattle.std.specs.Fmt.{digits}
use Rattle.std.specs.Str.{chars}
use Rattle.std.proofs.Math.Utf8.{encode}
use Rattle.std.proofs.Common.{refl, IfSome}
use Rattle.unicode_width.specs.Width.{str_width, step, past_emoji}
use Rattle.ansi_scan.specs.Pieces.{pieces, first_pieces, leading_piece, at_escape, sequence_front, opened, control_from, string_from, escape_from}
use Rattle.ansi_scan.specs.Attributes.{plain_attributes}
use Rattle.ansi_scan.specs.Rendition.{applied, after_parameters}
use Rattle.ansi_scan.specs.StartsAndEnds.{start_bytes, start_sequences, end_bytes, end_sequences}
use Rattle.grid_records_measure.specs.TextLines.{text_lines}
use Rattle.grid_config_values.specs.Glyphs.{BoundaryKind, First, Between, Last, along_column, crossing, in_row, no_borders}
use Rattle.papergrid_picture.specs.Shown.{IsBare, BeginsNoSequence, WritesNothing}
use Rattle.papergrid_picture.specs.Worked.{ascii, bare_look}
use Rattle.papergrid_picture.proofs.Shown.{BeginsNoSequence-space}
use Rattle.papergrid_picture.proofs.laws.worked_readings.Goals as goal

plus : BeginsNoSequence 0x2b
plus = record { scalar = refl; no_escape = λ same. cc same }

dash : BeginsNoSequence 0x2d
dash = record { scalar = refl; no_escape = λ same. cc same }

bar : BeginsNoSequence 0x7c
bar = record { scalar = refl; no_escape = λ same. cc same }

crossings : (row column : BoundaryKind) → IfSome (crossing ascii row column) BeginsNoSequence
crossings First First = plus
crossings First Between = plus
crossings First Last = plus
crossings Between First = plus
crossings Between Between = plus
crossings Between Last = plus
crossings Last First = plus
crossings Last Between = plus
crossings Last Last = plus

along : (kind : BoundaryKind) → IfSome (along_column ascii kind) BeginsNoSequence
along First = dash
along Between = dash
along Last = dash

upright : (kind : BoundaryKind) → IfSome (in_row ascii kind) BeginsNoSequence
upright First = bar
upright Between = bar
upright Last = bar

no_crossings : (row column : BoundaryKind) → WritesNothing (crossing no_borders row column)
no_crossings First First = tt
no_crossings First Between = tt
no_crossings First Last = tt
no_crossings Between First = tt
no_crossings Between Between = tt
no_crossings Between Last = tt
no_crossings Last First = tt
no_crossings Last Between = tt
no_crossings Last Last = tt

no_along : (kind : BoundaryKind) → WritesNothing (along_column no_borders kind)
no_along First = tt
no_along Between = tt
no_along Last = tt

no_upright : (kind : BoundaryKind) → WritesNothing (in_row no_borders kind)
no_upright First = tt
no_upright Between = tt
no_upright Last = tt

pub bare : IsBare bare_look
bare =
    let space = BeginsNoSequence-space in
    record {
      shown = record {
        crossings = crossings;
        along_columns = along;
        in_rows = upright;
        margins = (space, space, space, space);
        paddings = λ cell. (space, space, space, space);
        justification = λ cell. space;
      };
      no_colors = record {
        crossings = no_crossings;
        along_columns = no_along;
        in_rows = no_upright;
        margins = (tt, tt, tt, tt);
        paddings = λ cell. (tt, tt, tt, tt);
        justification = λ cell. tt;
      };
    }

pub returns : goal.returns
unfolding text_lines pieces first_pieces leading_piece at_escape sequence_front opened control_from string_from escape_from applied after_parameters plain_attributes start_bytes start_sequences end_bytes end_sequences digits str_width step past_emoji chars encode
returns c = record { bare = bare; bytes = refl; characters = refl; stripped = refl }
