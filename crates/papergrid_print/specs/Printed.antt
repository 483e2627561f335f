-- The table that a printer prints.
use Rattle.papergrid_print.specs.Sheets.{Sheet, sheet_of}
use Rattle.papergrid_print.specs.declared.printer.Printer.{Printer}

-- the sheet of a printer's table, by the texts of its records and the colours of its cells
abbrev pub table_sheet : {R C : Type 0} {texts : _} {colors : _} → Printer R C texts colors → Sheet
table_sheet {texts = texts} {colors = colors} printer =
    sheet_of printer.cfg.now (texts.rows printer.records.now) (colors.color printer.colors.now) printer.widths.now printer.heights.now
