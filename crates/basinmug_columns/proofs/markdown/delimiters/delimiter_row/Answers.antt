-- One mark more, and the bars and the line feed around them.
use Rattle.std.proofs.Common.{◌≡◌, ◌∙◌, ap, sym, ℕ, zero, suc, ◌+◌, ◌<◌, List, [], ◌∷◌, ◌++◌, length, string_bytes, add-one, add-zero, arith}
use Rattle.std.specs.Prelude.{codes}
use Rattle.std.specs.List.{flat_map, range_with_len}
use Rattle.std.proofs.lemmas.List.{flat_map_more}
use Rattle.grid_config_values.specs.declared.alignment.AlignmentHorizontal.{AlignmentHorizontal}
use Rattle.basinmug_columns.specs.Markdown.Documents.{column_mark_of, delimiter_row}
use Rattle.basinmug_columns.proofs.markdown.delimiters.delimiter_row.Goals as goal

one_more : (from count : ℕ) → range_with_len from (suc count) ≡ range_with_len from count ++ (from + count) ∷ []
one_more from zero = ap (λ (n : ℕ). n ∷ []) (sym (add-zero from))
one_more from (suc count) =
    ap (λ (ns : List ℕ). from ∷ ns) (one_more (from + 1) count ∙ ap (λ (n : ℕ). range_with_len (from + 1) count ++ n ∷ []) (omega arith))

next : (f : ℕ → List ℕ) (n : ℕ) (start old new : List ℕ) → old ≡ start ++ flat_map f (range_with_len 0 n) → new ≡ old ++ f n → new ≡ start ++ flat_map f (range_with_len 0 (n + 1))
next f n start old new before grown =
    let numbers : range_with_len 0 n ++ n ∷ [] ≡ range_with_len 0 (n + 1) =
    ap (λ (m : ℕ). range_with_len 0 n ++ m ∷ []) (omega arith) ∙ (sym (one_more 0 n) ∙ ap (range_with_len 0) (sym (add-one n))) in
    grown ∙ (ap (λ (bytes : List ℕ). bytes ++ f n) before ∙ (flat_map_more f start (range_with_len 0 n) n ∙ ap (λ (ns : List ℕ). start ++ flat_map f ns) numbers))

-- a row of some columns
of_some : (alignments : List AlignmentHorizontal) (widths row : List ℕ) (columns : ℕ) → columns ≡ length widths → 0 < length widths
    → row ≡ codes "|" ++ flat_map (column_mark_of alignments widths) (range_with_len 0 columns) → row ++ codes "\n" ≡ delimiter_row alignments widths
of_some alignments [] row columns all some is = absurd (omega (arith, some))
of_some alignments (width ∷ widths) row columns all some is =
    let all_of : List ℕ → List ℕ = flat_map (column_mark_of alignments (width ∷ widths)) in
    ap (λ (bytes : List ℕ). bytes ++ codes "\n") (is ∙ ap (λ (n : ℕ). codes "|" ++ all_of (range_with_len 0 n)) all)

pub loop-column-preserved : goal.loop-column-preserved
loop-column-preserved c =
    next (column_mark_of c.args.alignments.now c.args.widths.now) c.loop-column.column (codes "|") _ _ c.loop-column.invariant c.in_ok-push_delimiter_of.ensures

pub returns : goal.returns
unfolding lib.Utf8.encode
returns c =
    let all : c.loop-column.column ≡ length c.args.widths.now = omega (arith, c.loop-column.auto.column-end, c.loop-column-test.false) in
    let some : 0 < length c.args.widths.now = grind (arith, c.is_empty.ensures, c.if-is_empty.false) in
    c.in_ok-push-2.ensures.bytes
    ∙ of_some c.args.alignments.now c.args.widths.now (string_bytes c.loop-column.row) c.loop-column.column all some c.loop-column.invariant
