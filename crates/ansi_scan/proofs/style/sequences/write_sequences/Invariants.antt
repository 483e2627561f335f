use Rattle.std.proofs.Common.{take}
use Rattle.std.specs.List.{concat}
use Rattle.std.specs.Fmt.{HasWritten, IsPlainFormatter}
use Rattle.ansi_scan.specs.Styles.Sequences.{sequences_of}
use Rattle.ansi_scan.proofs.style.sequences.write_sequences.Given as goal

abbrev pub invariant-loop-parameters : goal.invariant-loop-parameters
invariant-loop-parameters g l =
    IsPlainFormatter l.initial.f
    → HasWritten g.W.Write.write_str_gives l.initial.f (concat (sequences_of (take l.parameters-index l.all))) l.f
