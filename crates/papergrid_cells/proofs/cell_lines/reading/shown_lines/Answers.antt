-- One line more is read.
use Rattle.std.proofs.Common.{◌≡◌, ◌∙◌, ◌++◌, false, append-nil, ap, map, refl, subst, sym}
use Rattle.std.specs.List.{slice_split}
use Rattle.ansi_scan.specs.Pieces.{pieces}
use Rattle.ansi_str.specs.StyledText.{has_escape}
use Rattle.ansi_str_search.proofs.TextLemmas.LastSequence.{strip-plain}
use Rattle.grid_records_measure.specs.RawLines.{lines_behind}
use Rattle.grid_records_measure.specs.TextLines.{is_line_feed, shown_lines}
use Rattle.papergrid_cells.specs.Shown.{line_facts}
use Rattle.papergrid_cells.proofs.PlainLines.{IsPlainRest, made_more, split_plain}
use Rattle.papergrid_cells.proofs.cell_lines.reading.shown_lines.Goals as goal

pub loop-rest-init : goal.loop-rest-init
loop-rest-init c =
    let text = c.args.text.now in
    let f = line_facts c.args.trim_horizontal in
    record {
      shown = ap (λ made. made ++ map f (shown_lines (pieces text))) c.new-lines.ensures.items ∙ ap (λ shown. map f (slice_split is_line_feed shown)) (strip-plain text c.requires);
      plain = c.requires;
    }

pub loop-rest-preserved : goal.loop-rest-preserved
loop-rest-preserved c =
    let l = c.loop-rest in
    let f = line_facts c.args.trim_horizontal in
    let plain : has_escape c.in-Some.others.now ≡ false = subst IsPlainRest c.in-Some.is l.invariant.plain in
    let next = split_plain c.in-Some.others.now c.split_line.result.0.now c.split_line.result.1 plain c.split_line.ensures.parted c.split_line.ensures.lines in
    record {
      shown = made_more f (map f) (λ line lines. refl) (map f (slice_split is_line_feed c.args.text.now)) l.lines.items c.push.new.self.items c.split_line.result.0.now l.rest c.split_line.result.1
          c.line_facts.result l.invariant.shown (ap lines_behind c.in-Some.is ∙ next.0) c.in_ok-push.ensures.items c.line_facts.ensures;
      plain = next.1;
    }

pub returns : goal.returns
returns c =
    let l = c.loop-rest in
    sym (append-nil l.lines.items) ∙ ap (λ rest. l.lines.items ++ map (line_facts c.args.trim_horizontal) (lines_behind rest)) (sym c.in_default.is) ∙ l.invariant.shown
