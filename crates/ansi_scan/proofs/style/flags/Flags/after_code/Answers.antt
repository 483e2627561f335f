use Rattle.std.proofs.Common.{◌≡◌, ◌^◌, ◌<◌, ap, sym, ◌∙◌, subst}
use Rattle.std.specs.Prelude.{bit_and, bit_or}
use Rattle.ansi_scan.specs.Styles.Flags.{word_of, flags_in}
use Rattle.ansi_scan.proofs.StyleLemmas.Bits.{word_of-flags_in, word_after-lt, flags_in-word_after, word_after}
use Rattle.ansi_scan.proofs.style.flags.Flags.after_code.Goals as goal

pub invariant_of-result : goal.invariant_of-result
invariant_of-result c =
    let word : c.self.inside.word ≡ word_of c.args.self = sym c.self.invariant ∙ ap word_of c.self.view_is in
    let here : bit_or (bit_and c.self.inside.word c.kept_by.result) c.set_by.result ≡ word_after c.args.self c.args.code =
    λ i. bit_or (bit_and (word i) (c.kept_by.ensures i)) (c.set_by.ensures i) in
    word_of-flags_in (bit_or (bit_and c.self.inside.word c.kept_by.result) c.set_by.result)
    (subst (λ n. n < 2 ^ 22) (sym here) (word_after-lt c.args.self c.args.code))

pub returns : goal.returns
returns c =
    let word : c.self.inside.word ≡ word_of c.args.self = sym c.self.invariant ∙ ap word_of c.self.view_is in
    ap flags_in (λ i. bit_or (bit_and (word i) (c.kept_by.ensures i)) (c.set_by.ensures i))
    ∙ flags_in-word_after c.args.self c.args.code
