use Rattle.std.proofs.Common.{◌∙◌, ap, sym, arith}
use Rattle.std.proofs.lemmas.List.{drop_all}
use Rattle.ansi_scan.proofs.StyleLemmas.Bytewise.{read_on, read_on-all}
use Rattle.ansi_scan.proofs.style.style.Style.take_parameters.Goals as goal

-- no byte is left after the last
pub returns : goal.returns
returns c =
    let l = c.loop-byte in
    c.take_parameter-2.ensures ∙ sym (ap (read_on (l.self, l.next) l.number) (drop_all l.byte-index c.args.parameters.now (omega (arith, c.loop-byte-test.false))))
    ∙ (l.invariant ∙ read_on-all c.args.self.now c.args.parameters.now)
