-- A line at a time comes off the text.
use Rattle.std.proofs.Common.{◌≡◌, ◌∙◌, List, ℕ, ap, subst, string_bytes}
use Rattle.std.specs.Cow.{cow_str_bytes}
use Rattle.std.specs.List.{filter}
use Rattle.ansi_str.specs.Splitting.{PartsLeft}
use Rattle.basinmug_columns.specs.Fitting.Fitting.{is_not_blank, joined_lines}
use Rattle.basinmug_columns.proofs.FittingLemmas.Lined.{next-line}
use Rattle.basinmug_columns.proofs.FittingLemmas.Plain.{Appends, AreSeen-end, AreSeen-more}
use Rattle.basinmug_columns.proofs.fitting.wrapping.joined_seen.Goals as goal

pub loop-line-preserved : goal.loop-line-preserved
loop-line-preserved c =
    let l = c.loop-line in
    let line = cow_str_bytes c.in_ok-line.line in
    let come = next-line l.line-iterator c.next.new.self c.in-Some.line c.in_ok-line.line c.in-Some.ensures.steps c.in_ok-line.was in
    let appends = subst (λ (shown : List ℕ). Appends (string_bytes l.out) (string_bytes c.push_seen_line.new.out) shown) c.deref.ensures.value c.in_ok-push_seen_line.ensures in
    AreSeen-more _ (string_bytes l.out) (string_bytes c.push_seen_line.new.out) l.line-iterator.parts c.next.new.self.parts line
    appends come l.invariant

pub returns : goal.returns
returns c =
    let l = c.loop-line in
    let lines = ap (λ (left : PartsLeft). left.parts) c.into_iter-line-iterator.ensures.into_iter_gives ∙ c.get_lines-line-items.ensures.text in
    AreSeen-end (filter is_not_blank c.into_iter-line-iterator.result.parts) (string_bytes l.out) l.line-iterator.parts c.in-None.ensures.steps.1.0 l.invariant
    ∙ ap (λ (lines : List (List ℕ)). joined_lines (filter is_not_blank lines)) lines
