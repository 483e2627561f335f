use Rattle.std.proofs.Common.{◌++◌, ap, map, ◌∙◌}
use Rattle.std.specs.Cow.{cow_str_bytes}
use Rattle.ansi_str_search.specs.Splitting.{PartsLeft}
use Rattle.tabled_pool.proofs.BoxesLemmas.Texts.{all-lines}
use Rattle.tabled_pool.proofs.boxes.text.lines_of.Goals as goal

pub loop-line-init : goal.loop-line-init
loop-line-init c =
    ap (λ lines. map cow_str_bytes lines ++ c.into_iter-line-iterator.result.parts) c.new-lines.ensures.items
    ∙ (ap (λ (left : PartsLeft). left.parts) c.into_iter-line-iterator.ensures.into_iter_gives
    ∙ (c.get_lines-line-items.ensures.text ∙ all-lines c.args.text.now))
