use Rattle.std.proofs.Common.{rules, arith, sym, None, ◌<◌, length, get_or, take}
use Rattle.std.specs.List.{concat}
use Rattle.std.proofs.Output.{has_written_append, has_written_of_eq}
use Rattle.ansi_scan.specs.Styles.Sequences.{sequence_if, sequences_of}
use Rattle.ansi_scan.proofs.StyleLemmas.Writing.{concat-sequences_of-take}
use Rattle.ansi_scan.proofs.style.sequences.write_sequences.Goals as goal

pub loop-parameters-preserved : goal.loop-parameters-preserved
loop-parameters-preserved g c =
    let i = c.loop-parameters.parameters-index in
    let all = c.args.all.now in
    let more : i < length all = omega arith in
    λ plain. has_written_of_eq _ _ _ _ _
    (sym (concat-sequences_of-take all i None more))
    (has_written_append _ _ (concat (sequences_of (take i all))) _ (concat (sequence_if (get_or all i None))) _ (c.loop-parameters.invariant plain) (search rules))
