-- What is printed, in either way.
use Rattle.std.proofs.Common.{◌≡◌, ◌∙◌, ap, subst, sym, ℕ, Bool, true, false, List, Option, Result, if◌then◌else◌}
use Rattle.basinmug_run.specs.Picture.TableRows.{state_of}
use Rattle.tabled.specs.Writing.{IsBuilt}
use Rattle.tabled_output.specs.declared.building.BuildFault.{BuildFault}
use Rattle.tabled_output.specs.declared.counted.Counted.{Counted}
use Rattle.tabled_steps.specs.States.{State}
use Rattle.program_options.specs.declared.basinmug.LineStyle.{LineStyle}
use Rattle.program_options.specs.declared.basinmug.Rules.{Rules}
use Rattle.basinmug_run.specs.Picture.Documents.{document_text}
use Rattle.basinmug_run.specs.Picture.Lines.{lines_text, picture_text}
use Rattle.basinmug_run.specs.Picture.Rows.{is_markdown}
use Rattle.basinmug_run.proofs.picture.printing.write_picture.Goals as goal

module _ {T : Type 0} (contents : T → Option (List ℕ)) (r : Result (Unit {0}) BuildFault) (a b : Counted T) (line_style : LineStyle) (rules : Rules) (header : Bool) (rows : ℕ) (more : List ℕ) (s : State) where
  abbrev Built : List ℕ → Type 0
  Built text = IsBuilt contents s text r a b

  abbrev either : Bool → List ℕ
  either b = if b then document_text more s else lines_text rules header rows more s

  document-built : is_markdown line_style ≡ true → Built (document_text more s) → Built (picture_text line_style rules header rows more s)
  document-built is built = subst Built (sym (ap either is)) built

  table-built : is_markdown line_style ≡ false → Built (lines_text rules header rows more s) → Built (picture_text line_style rules header rows more s)
  table-built is built = subst Built (sym (ap either is)) built

pub returns-then-is_markdown-clause-built : goal.returns-then-is_markdown-clause-built
returns-then-is_markdown-clause-built g c =
    let lines = c.args.lines.now in
    document-built g.W.Write.contents c.write_document.result c.args.writer.now c.write_document.new.writer c.args.line_style lines.rules lines.header lines.rows c.args.more.now
    (state_of c.args.table.now) (sym c.is_markdown.ensures ∙ c.if-is_markdown.true) c.write_document.ensures.built

pub returns-else-is_markdown-clause-built : goal.returns-else-is_markdown-clause-built
returns-else-is_markdown-clause-built g c =
    let lines = c.args.lines.now in
    table-built g.W.Write.contents c.write_lines.result c.args.writer.now c.write_lines.new.writer c.args.line_style lines.rules lines.header lines.rows c.args.more.now
    (state_of c.args.table.now) (sym c.is_markdown.ensures ∙ c.if-is_markdown.false) c.write_lines.ensures.built
