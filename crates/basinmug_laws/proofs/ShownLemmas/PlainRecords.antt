-- Records one below the other end their lines plain, whatever their texts show: each line of a name or a value ends its own styles.
use Rattle.std.proofs.Common.{ℕ, List, [], ◌∷◌, map, refl, sym, subst}
use Rattle.std.specs.List.{AllByRecursion}
use Rattle.grid_records_measure.specs.TextLines.{text_lines}
use Rattle.papergrid_picture.specs.Shown.{AreWholeTexts, IsWholeText}
use Rattle.papergrid_picture.proofs.Shown.{IsClosedPart, lines-closed_parts, lines-styled, styled_of}
use Rattle.basinmug_columns.specs.Fitting.Fitting.{ellipsis}
use Rattle.basinmug_columns.specs.declared.rows.RowsShown.{RowsShown}
use Rattle.basinmug_run.specs.declared.options.Options.{Options}
use Rattle.basinmug_run.specs.Runs.{shown_text}
use Rattle.tables_laws.specs.Shown.PlainEnds.{EndsLinesPlain}
use Rattle.tables_laws.proofs.ShownLemmas.LineEnds.{HasNoFeed, PlainHere, ends-plain, feeds-plain, plain-append, split-feeds}
use Rattle.basinmug_laws.proofs.ShownLemmas.FittedTexts.{ellipsis-whole, text-fitted}
use Rattle.basinmug_laws.proofs.ShownLemmas.OwnBytes.{own-shown}
use Rattle.basinmug_laws.proofs.ShownLemmas.PlainTexts.{ascii-text, plain-text}
use Rattle.basinmug_laws.proofs.ShownLemmas.RecordLines.{AreLined, shown-lined}
use Rattle.basinmug_laws.proofs.ShownLemmas.WholeTexts.{whole-ascii}

abbrev ArePlain : List (List ℕ) → Type 0
ArePlain lines = AllByRecursion PlainHere lines

parts-plain : (parts : List (List ℕ)) → AllByRecursion IsClosedPart parts → AllByRecursion HasNoFeed (map styled_of parts) → ArePlain parts
parts-plain [] closed none = tt
parts-plain (part ∷ parts) closed none =
    (record { here = record { utf8 = closed.0.utf8; closed = closed.0.closed; shown = refl }; feeds = feeds-plain (styled_of part) none.0 }, parts-plain parts closed.1 none.1)

lines-plain : (text : List ℕ) → IsWholeText text → ArePlain (text_lines text)
lines-plain text whole =
    parts-plain (text_lines text) (lines-closed_parts text whole) (subst (AllByRecursion HasNoFeed) (sym (lines-styled text whole)) (split-feeds (styled_of text)))

lined : AreLined IsWholeText PlainHere
lined = record {
  own_texts = λ bytes own. whole-ascii bytes (ascii-text bytes (own-shown bytes own));
  fits = text-fitted;
  lines = lines-plain;
  append = plain-append;
  own = λ bytes own. plain-text bytes (ascii-text bytes (own-shown bytes own));
  dots = plain-text ellipsis (record { utf8 = ellipsis-whole.utf8; no_escape = refl });
}

pub shown-plain : (options : Options) (shown : RowsShown) (rows : List (List (List ℕ))) → AreWholeTexts rows → EndsLinesPlain (shown_text options shown rows)
shown-plain options shown rows whole = ends-plain (shown_text options shown rows) (shown-lined IsWholeText PlainHere lined options shown rows whole)
