-- The byte of the flaw is one of the field's, and its place is that of the flaw.
use Rattle.std.proofs.Common.{◌≡◌, List, ℕ, subst}
use Rattle.program_options.specs.declared.basinmug.Escapes.{Escapes}
use Rattle.basinmug_input.specs.Flaws.{HasFlaw, HasBrokenEscape, IsNoUtf8}
use Rattle.basinmug_input.specs.Reading.{settings}
use Rattle.basinmug_input.specs.declared.cells.Flaw.{Flaw}
use Rattle.basinmug_input.specs.declared.cells.Flaw.TheVariants.{NotText, Escape}
use Rattle.basinmug_input.proofs.Rows.{broken-below, broken-first, has-byte}
use Rattle.basinmug_input.proofs.records.fault_of.Goals as goal

no_text : (escapes : Escapes) (field : List ℕ) (flaw : Flaw) (byte : ℕ) → flaw ≡ NotText byte → HasFlaw escapes field flaw → IsNoUtf8 field byte
no_text escapes field flaw byte is has = subst (HasFlaw escapes field) is has

broken : (escapes : Escapes) (field : List ℕ) (flaw : Flaw) (byte : ℕ) → flaw ≡ Escape byte → HasFlaw escapes field flaw → HasBrokenEscape escapes field byte
broken escapes field flaw byte is has = subst (HasFlaw escapes field) is has

pub place_of-at-requires : goal.place_of-at-requires
place_of-at-requires c =
    let first = c.requires in
    let flaw = no_text c.args.escapes first.flaw.here c.args.flawed.flaw c.in-NotText.byte c.in-NotText.is first.flaw.flaw in
    has-byte c.args.escapes (settings c.args.delimiter) c.args.text.now c.args.row c.args.flawed c.in-NotText.byte first flaw.1.short

pub place_of-at-requires-in-Escape : goal.place_of-at-requires-in-Escape
place_of-at-requires-in-Escape c =
    let first = c.requires in
    let flaw = broken c.args.escapes first.flaw.here c.args.flawed.flaw c.in-Escape.byte c.in-Escape.is first.flaw.flaw in
    has-byte c.args.escapes (settings c.args.delimiter) c.args.text.now c.args.row c.args.flawed c.in-Escape.byte first (broken-below first.flaw.here c.in-Escape.byte (broken-first c.args.escapes first.flaw.here c.in-Escape.byte flaw))
