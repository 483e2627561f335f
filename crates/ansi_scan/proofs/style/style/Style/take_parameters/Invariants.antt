use Rattle.std.proofs.Common.{drop, ◌≡◌, Some}
use Rattle.ansi_scan.specs.declared.style.next.Next.TheVariants.{Code}
use Rattle.ansi_scan.proofs.StyleLemmas.Bytewise.{read_on}
use Rattle.ansi_scan.proofs.style.style.Style.take_parameters.Given as goal

-- what is left, read on from here, gives what the whole gives
abbrev pub invariant-loop-byte : goal.invariant-loop-byte
invariant-loop-byte l =
    read_on (l.self, l.next) l.number (drop l.byte-index l.parameters) ≡ read_on (l.fn.self, Code) (Some 0) l.parameters
