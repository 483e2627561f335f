-- Printable ASCII is one line, which takes a column for each byte.
use Rattle.std.proofs.Common.{◌≡◌, ◌∙◌, ℕ, true, List, [], ◌∷◌, length, max, ap, arith, subst, sym}
use Rattle.std.specs.Cow.{cow_str_bytes}
use Rattle.std.proofs.lemmas.List.Splits.{slice_split_none}
use Rattle.ansi_scan.specs.Sequences.{Piece, ArePiecesOf}
use Rattle.ansi_str_search.proofs.TextLemmas.Stripping.{strip-without_escape}
use Rattle.grid_records_measure.specs.Measures.{are_printable}
use Rattle.grid_records_measure.specs.TextLines.{is_line_feed, shown_lines, widest}
use Rattle.grid_records_measure.proofs.PrintableWidth.{measure-printable}
use Rattle.std.specs.List.{slice_split}
use Rattle.tabled_size_wrap.specs.Measured.{HasColumns, HasLines}
use Rattle.tabled_size_wrap.proofs.Printable.{printable-feeds, printable-no_escape}
use Rattle.columns_asked.proofs.measured_cells.measured.Goals as goal

module _ (text : List ℕ) (printable : are_printable text ≡ true) where
  only-line : (pieces : List Piece) → ArePiecesOf text pieces → shown_lines pieces ≡ text ∷ []
  only-line pieces are =
      ap (λ (shown : List ℕ). slice_split is_line_feed shown) (strip-without_escape text pieces are (printable-no_escape text printable))
      ∙ slice_split_none is_line_feed text (printable-feeds text printable)

  one-line : HasLines text 1
  one-line = λ pieces are. sym (ap (λ (lines : List (List ℕ)). length lines) (only-line pieces are))

  column-a-byte : HasColumns text (length text)
  column-a-byte = λ pieces are.
      let whole : max (length text) 0 ≡ length text = omega arith in
      sym (ap widest (only-line pieces are) ∙ ap (λ (columns : ℕ). max columns 0) (measure-printable text printable) ∙ whole)

pub invariant_of-result : goal.invariant_of-result
invariant_of-result c =
    let shown = c.deref.ensures.value in
    let printable = ap are_printable (sym shown) ∙ sym c.is_printable.ensures ∙ c.if-not-is_printable.false in
    record { measured = (one-line _ printable, subst (λ (columns : ℕ). HasColumns (cow_str_bytes c.args.text) columns) (sym c.len-columns.ensures) (column-a-byte _ printable)) }
