-- A colour that may be set, in four bytes.
use Rattle.std.specs.Prelude.{Option, None, Some, ◌==◌, if◌then◌else◌}
use Rattle.ansi_scan.specs.declared.style.color.AnsiColor.{AnsiColor}
use Rattle.ansi_scan.specs.declared.style.color.AnsiColor.TheVariants.{Bit4, Bit8, Bit24}
use Rattle.ansi_scan.specs.declared.style.packed.PackedColor.TheInside.{Inside}

abbrev pub color_in : Inside → Option AnsiColor
color_in fields = if fields.kind == 0 then None
    else (if fields.kind == 1 then Some (Bit4 fields.first)
    else (if fields.kind == 2 then Some (Bit8 fields.first)
    else Some (Bit24 fields.first fields.second fields.third)))

abbrev pub packed : Option AnsiColor → Inside
packed None = record { kind = 0; first = 0; second = 0; third = 0 }
packed (Some (Bit4 code)) = record { kind = 1; first = code; second = 0; third = 0 }
packed (Some (Bit8 n)) = record { kind = 2; first = n; second = 0; third = 0 }
packed (Some (Bit24 r g b)) = record { kind = 3; first = r; second = g; third = b }
