use Rattle.std.proofs.Common.{◌∙◌, refl, ap, map, string_bytes}
use Rattle.std.specs.Cow.{cow_str_bytes}
use Rattle.ansi_str.specs.Splitting.{PartsLeft}
use Rattle.grid_records_measure.specs.TextLines.{text_lines}
use Rattle.basinmug_columns.proofs.FittingLemmas.Lined.{all-come, joined-told, next-line, one-more}
use Rattle.basinmug_columns.proofs.fitting.changing.change_lines.Goals as goal

pub loop-line-preserved : goal.loop-line-preserved
loop-line-preserved g c =
    let l = c.loop-line in
    let becomes = g.L.LineChange.becomes c.args.change.now in
    let come = next-line l.line-iterator c.next.new.self c.in-Some.line c.in_ok-line.line c.in-Some.ensures.steps c.in_ok-line.was in
    one-more becomes l.lines.items _ _ (cow_str_bytes c.in_ok-line.line) l.line-iterator.parts c.next.new.self.parts _ c.in_ok-push.ensures.items
    (c.in_ok-changed.ensures ∙ ap becomes c.deref.ensures.value) come l.invariant

pub returns : goal.returns
returns g c =
    let l = c.loop-line in
    let becomes = g.L.LineChange.becomes c.args.change.now in
    let lines = ap (λ (left : PartsLeft). left.parts) c.into_iter-line-iterator.ensures.into_iter_gives ∙ c.get_lines-line-items.ensures.text in
    joined-told c.join.result l.lines.items c.deref-2.result.now (map becomes (text_lines c.args.text.now)) c.deref-2.ensures.value
    (all-come (map string_bytes l.lines.items) l.line-iterator.parts (map becomes c.into_iter-line-iterator.result.parts) (map becomes) refl c.in-None.ensures.steps.1.0 l.invariant
    ∙ ap (map becomes) lines)
    c.join.ensures.ok
