-- No byte is left after the last.
use Rattle.std.proofs.Common.{◌∙◌, ap, sym, arith}
use Rattle.std.proofs.lemmas.List.{drop_all}
use Rattle.basinmug_input.specs.Renditions.{is_code}
use Rattle.basinmug_input.proofs.Settings.{read_on, read_on-all}
use Rattle.basinmug_input.proofs.renditions.are_settings.Goals as goal

pub returns : goal.returns
returns c =
    let l = c.loop-byte in
    c.is_code.ensures ∙ ap is_code c.after.ensures
    ∙ sym (ap (read_on l.awaited l.number) (drop_all l.byte-index c.args.parameters.now (omega (arith, c.loop-byte-test.false))))
    ∙ (l.invariant ∙ read_on-all c.args.parameters.now)
