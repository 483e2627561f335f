-- Cells of fields that a table shows as they are.
use Rattle.std.proofs.Common.{◌≡◌, ◌∙◌, ◌<◌, ◌↔◌, ℕ, IsTrue, List, ap, chars, subst, sym, true}
use Rattle.std.proofs.lemmas.Str.{IsUtf8-from_ascii}
use Rattle.std.specs.List.{list_all}
use Rattle.std.specs.Prelude.{IsUtf8, slice_range}
use Rattle.std.specs.Str.{IsCharBoundary}
use Rattle.basinmug_cells.specs.Held.{Held, with_cell}
use Rattle.grid_records_measure.proofs.PrintableWidth.{printable-ascii}
use Rattle.grid_records_measure.specs.Measures.{are_printable}
use Rattle.program_options.specs.declared.basinmug.Escapes.{Escapes}
use Rattle.basinmug_input.specs.Cleaning.{is_shown}
use Rattle.basinmug_input.specs.Parts.{HasNext, IsFieldAt, IsPartedAt, IsSpanAt}
use Rattle.basinmug_input.specs.Rows.{HasShown}
use Rattle.basinmug_input.specs.declared.spans.FieldEnd.{FieldEnd}
use Rattle.basinmug_input.specs.declared.spans.FieldSpan.{FieldSpan}
use Rattle.basinmug_input.proofs.PartedFields.{boundary-before}
use Rattle.basinmug_input.proofs.Graphic.{printable-cleaned, printable-good}
use Rattle.basinmug_input.proofs.Shown.{shown-cleaned, shown-good}

-- printable ASCII
pub printable-shown : (escapes : Escapes) (field : List ℕ) (old new : Held) → are_printable field ≡ true → new ≡ with_cell old field → HasShown escapes field old new
printable-shown escapes field old new all more = record {
  sound = (IsUtf8-from_ascii field (printable-ascii field all), printable-good escapes field all);
  more = more ∙ ap (with_cell old) (sym (printable-cleaned escapes field all));
}

-- characters that are shown as they are, on one line
pub line-shown : (escapes : Escapes) (field : List ℕ) (old new : Held) → IsUtf8 field → list_all (is_shown escapes) (chars field) ≡ true → new ≡ with_cell old field → HasShown escapes field old new
line-shown escapes field old new utf8 all more = record {
  sound = (utf8, shown-good escapes field utf8 all);
  more = more ∙ ap (with_cell old) (sym (shown-cleaned escapes field utf8 all));
}

-- ---- a field more

-- one that ends at this place
pub field-next : (escapes : Escapes) (d : ℕ) (text bytes : List ℕ) (start at : ℕ) (end : FieldEnd) (field : List ℕ) (old new : Held) → d < 128 → bytes ≡ text → IsFieldAt d text start at field
    → end.at ≡ at → (IsTrue end.is_parted ↔ IsPartedAt d bytes at) → HasShown escapes field old new → HasNext escapes d text start end old new
field-next escapes d text bytes start at end field old new low same is ends parted shown = record {
  field = field;
  is = subst (λ k. IsFieldAt d text start k field) (sym ends) is;
  parted = subst (λ k. IsTrue end.is_parted ↔ IsPartedAt d text k) (sym ends) (subst (λ (of : List ℕ). IsTrue end.is_parted ↔ IsPartedAt d of at) same parted);
  boundary = subst (λ k. IsCharBoundary text k) (sym ends) (boundary-before d text at low is.within is.stops);
  shown = shown;
}

-- one with the bytes of a span
pub span-next : (escapes : Escapes) (d : ℕ) (text bytes : List ℕ) (start : ℕ) (span : FieldSpan) (end : FieldEnd) (old new : Held) → d < 128 → bytes ≡ text → IsSpanAt d text start span
    → end.at ≡ span.end → (IsTrue end.is_parted ↔ IsPartedAt d bytes span.end) → HasShown escapes (slice_range text span.from span.to) old new → HasNext escapes d text start end old new
span-next escapes d text bytes start span end old new low same is ends parted shown =
    field-next escapes d text bytes start span.end end (slice_range text span.from span.to) old new low same is.field ends parted shown
