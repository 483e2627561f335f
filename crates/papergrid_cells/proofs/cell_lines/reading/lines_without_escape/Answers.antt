-- One line more is read, with what it measures.
use Rattle.std.proofs.Common.{◌≡◌, ◌∙◌, ◌++◌, List, false, ℕ, append-nil, ap, map, refl, subst, sym}
use Rattle.std.specs.Cow.{cow_str_bytes}
use Rattle.std.specs.List.{slice_split}
use Rattle.std.proofs.lemmas.List.{map-append}
use Rattle.ansi_scan.specs.Pieces.{pieces}
use Rattle.ansi_str.specs.StyledText.{has_escape}
use Rattle.ansi_str_search.proofs.TextLemmas.LastSequence.{strip-plain}
use Rattle.grid_records_measure.specs.RawLines.{lines_behind}
use Rattle.grid_records_measure.specs.TextLines.{is_line_feed, shown_lines}
use Rattle.papergrid_cells.specs.Lines.{line_measures, line_texts}
use Rattle.papergrid_cells.specs.Shown.{line_shown, measure_shown}
use Rattle.papergrid_cells.specs.declared.cell_lines.CellLine.{CellLine}
use Rattle.papergrid_cells.proofs.PlainLines.{IsPlainRest, made_more, parts_plain, split_plain}
use Rattle.papergrid_cells.proofs.cell_lines.reading.lines_without_escape.Goals as goal

pub loop-rest-init : goal.loop-rest-init
loop-rest-init c =
    let text = c.args.text.now in
    let shown : List ℕ → List ℕ = line_shown c.args.trim_horizontal in
    let measure : List ℕ → ℕ = measure_shown c.args.trim_horizontal in
    let whole : shown_lines (pieces text) ≡ slice_split is_line_feed text = ap (slice_split is_line_feed) (strip-plain text c.requires) in
    record {
      texts = ap (λ made. line_texts made ++ map shown (shown_lines (pieces text))) c.new-lines.ensures.items ∙ ap (map shown) whole;
      measures = ap (λ made. line_measures made ++ map measure (shown_lines (pieces text))) c.new-lines.ensures.items ∙ ap (map measure) whole;
      plain = c.requires;
    }

pub plain_line-requires : goal.plain_line-requires
plain_line-requires c =
    let plain : has_escape c.in-Some.others.now ≡ false = subst IsPlainRest c.in-Some.is c.loop-rest.invariant.plain in
    (parts_plain c.in-Some.others.now c.split_line.result.0.now c.split_line.result.1 plain c.split_line.ensures.parted).0

pub loop-rest-preserved : goal.loop-rest-preserved
loop-rest-preserved c =
    let l = c.loop-rest in
    let text = c.args.text.now in
    let behind = c.split_line.result.1 in
    let line = c.split_line.result.0.now in
    let shown : List ℕ → List ℕ = line_shown c.args.trim_horizontal in
    let measure : List ℕ → ℕ = measure_shown c.args.trim_horizontal in
    let plain : has_escape c.in-Some.others.now ≡ false = subst IsPlainRest c.in-Some.is l.invariant.plain in
    let next = split_plain c.in-Some.others.now line behind plain c.split_line.ensures.parted c.split_line.ensures.lines in
    let come = ap lines_behind c.in-Some.is ∙ next.0 in
    record {
      texts = made_more shown (map shown) (λ line lines. refl) (map shown (slice_split is_line_feed text)) (line_texts l.lines.items) (line_texts c.push.new.self.items) line l.rest behind
          (cow_str_bytes c.plain_line.result.text) l.invariant.texts come (ap line_texts c.in_ok-push.ensures.items ∙ map-append (λ (line : CellLine). cow_str_bytes line.text) l.lines.items _) c.plain_line.ensures.text;
      measures = made_more measure (map measure) (λ line lines. refl) (map measure (slice_split is_line_feed text)) (line_measures l.lines.items) (line_measures c.push.new.self.items) line l.rest behind
          c.plain_line.result.width l.invariant.measures come (ap line_measures c.in_ok-push.ensures.items ∙ map-append (λ (line : CellLine). line.width) l.lines.items _) c.plain_line.ensures.width;
      plain = next.1;
    }

pub returns-clause-texts : goal.returns-clause-texts
returns-clause-texts c =
    let l = c.loop-rest in
    sym (append-nil (line_texts l.lines.items)) ∙ ap (λ rest. line_texts l.lines.items ++ map (line_shown c.args.trim_horizontal) (lines_behind rest)) (sym c.in_default.is) ∙ l.invariant.texts

pub returns-clause-measures : goal.returns-clause-measures
returns-clause-measures c =
    let l = c.loop-rest in
    sym (append-nil (line_measures l.lines.items)) ∙ ap (λ rest. line_measures l.lines.items ++ map (measure_shown c.args.trim_horizontal) (lines_behind rest)) (sym c.in_default.is) ∙ l.invariant.measures
