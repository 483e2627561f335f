use Rattle.std.proofs.Common.{◌≡◌, ◌==◌, not, ap, sym, ◌∙◌}
use Rattle.std.specs.Prelude.{bit_and}
use Rattle.ansi_scan.specs.Styles.Flags.{word_of}
use Rattle.ansi_scan.proofs.StyleLemmas.Bits.{is_set-tested}
use Rattle.ansi_scan.proofs.style.flags.Flags.has.Goals as goal

pub returns : goal.returns
returns c =
    let word : c.self.inside.word ≡ word_of c.args.self = sym c.self.invariant ∙ ap word_of c.self.view_is in
    (λ i. not (bit_and (word i) (c.bit.ensures i) == 0)) ∙ is_set-tested c.args.flag c.args.self
