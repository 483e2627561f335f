-- A table that fits has widths in range.
use Rattle.std.proofs.Common.{◌≡◌}
use Rattle.grid_config_values.specs.declared.fault.Fault.TheVariants.{Memory}
use Rattle.basinmug_run.specs.Picture.TableRows.{state_of}
use Rattle.basinmug_run.proofs.PictureLemmas.Narrowed.{err-told}
use Rattle.basinmug_run.proofs.PictureLemmas.Widths.{only-memory}
use Rattle.basinmug_run.proofs.picture.documents.header_delimiters_of.Goals as goal

pub returns-in_err-widths-clause-refused : goal.returns-in_err-widths-clause-refused
returns-in_err-widths-clause-refused c =
    let s = state_of c.args.table.now in
    err-told c.from_residual.result c.in_err-widths.field-0.0 (λ fault. fault ≡ Memory) c.from_residual.ensures.1
    (only-memory s c.in_err-widths.field-0.0 c.requires.fits.1 c.in_err-widths.ensures.refused)
