use Rattle.std.proofs.Common.{◌∙◌, ap, sym}
use Rattle.std.proofs.lemmas.Bool.{false≢true}
use Rattle.ansi_scan.specs.Attributes.{Attributes}
use Rattle.ansi_str_search.specs.Text.StyledText.{style_after_all}
use Rattle.grid_config.proofs.ColorsLemmas.ClosedColors.{Closes-decides}
use Rattle.grid_config.proofs.colors.closing.closes.Goals.{then-are_sequences, else-are_sequences}
use Rattle.grid_config.proofs.colors.closing.closes.Goals as goal

pub returns-then-are_sequences-2 : goal.returns-then-are_sequences-2
returns-then-are_sequences-2 c = elim c.if-are_sequences.branch [
  | then-are_sequences w ↦ Closes-decides c.args.prefix.now c.args.suffix.now c.style_behind.result c.clears.result c.are_sequences.result w.are_sequences-then-are_sequences.result
      c.are_sequences.ensures w.if-are_sequences.true
      w.are_sequences-then-are_sequences.ensures (sym w.value-is ∙ c.if-are_sequences-2.true)
      (λ ps of_text. c.style_behind.ensures ps of_text ∙ ap (λ (style : Attributes). style_after_all style ps) c.plain.ensures)
      c.clears.ensures
  | else-are_sequences w ↦ absurd (false≢true (sym w.if-are_sequences.false ∙ sym w.value-is ∙ c.if-are_sequences-2.true))
]
