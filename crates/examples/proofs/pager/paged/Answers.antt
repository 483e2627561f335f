use Rattle.std.proofs.Common.{subst, sym}
use Rattle.std.proofs.lemmas.List.Elements.{All-nil}
use Rattle.program_options.specs.Columns.ColumnColors.{AllClose}
use Rattle.columns_run.specs.Narrow.{HasNarrowGlyphs}
use Rattle.columns_run.proofs.Plain.{default-narrow_glyphs}
use Rattle.examples.proofs.pager.paged.Goals as goal

pub run-requires : goal.run-requires
run-requires c = record {
  narrow = subst HasNarrowGlyphs (sym c.new-options.ensures.style) default-narrow_glyphs;
  close = subst AllClose (sym c.new-options.ensures.colors) (All-nil _);
}
