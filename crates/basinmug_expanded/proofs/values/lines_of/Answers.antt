-- One line after the other.
use Rattle.std.proofs.Common.{◌∙◌, refl, ap, map, string_bytes}
use Rattle.std.specs.Cow.{cow_str_bytes}
use Rattle.ansi_str.specs.Splitting.{PartsLeft}
use Rattle.basinmug_columns.proofs.FittingLemmas.Lined.{all-come, next-line}
use Rattle.basinmug_expanded.proofs.Lined.{line-pushed}
use Rattle.basinmug_expanded.proofs.values.lines_of.Goals as goal

pub loop-line-preserved : goal.loop-line-preserved
loop-line-preserved c =
    let l = c.loop-line in
    let come = next-line l.line-iterator c.next.new.self c.in-Some.line c.in_ok-line.line c.in-Some.ensures.steps c.in_ok-line.was in
    line-pushed l.lines.items _ _ (cow_str_bytes c.in_ok-line.line) l.line-iterator.parts c.next.new.self.parts _ c.in_ok-push.ensures.items c.in_ok-into_owned.ensures.ok come l.invariant

pub returns : goal.returns
returns c =
    let l = c.loop-line in
    let lines = ap (λ (left : PartsLeft). left.parts) c.into_iter-line-iterator.ensures.into_iter_gives ∙ c.get_lines-line-items.ensures.text in
    all-come (map string_bytes l.lines.items) l.line-iterator.parts c.into_iter-line-iterator.result.parts (λ lines. lines) refl c.in-None.ensures.steps.1.0 l.invariant ∙ lines
