-- How the cells of a text are gathered: a slice of the text is kept there, and another is written after the copy.
use Rattle.std.proofs.Common.{◌≡◌, ℕ, ◌+◌, ◌-◌, ◌<◌, List, [], ◌∷◌, ◌++◌, chars, drop, length, slice_index, string_bytes, take, refl, ap, sym, ◌∙◌, arith, append_assoc, length-append}
use Rattle.std.specs.Prelude.{IsUtf8}
use Rattle.std.proofs.Math.Seq.{take-append_seam}
use Rattle.ansi_scan.specs.Attributes.{Attributes, plain_attributes}
use Rattle.ansi_str_search.proofs.PlainParts.{plain_part}
use Rattle.grid_records_measure.specs.Measures.{measure}
use Rattle.columns_table.specs.RowEnds.{with_cell}
use Rattle.columns_run.specs.Rows.{stripped}
use Rattle.columns_run.specs.Styled.{AddsCell, KeptEndsWith, gathered_to, part_between}
use Rattle.columns_run.specs.declared.styled_rows.Gathering.{Gathering}

-- what is before an end
abbrev pub before : List ℕ → List ℕ → List ℕ
before text rest = take (length text - length rest) text

pub before-is : (text slice rest : List ℕ) → text ≡ slice ++ rest → before text rest ≡ slice
before-is text slice rest parted =
    let size : length text - length rest ≡ length slice = omega (arith, ap length parted, length-append slice rest) in
    ap (λ n. take n text) size ∙ ap (take (length slice)) parted ∙ take-append_seam slice rest

-- between two plain styles a part is a slice
pub plain_between : (rest : List ℕ) (style : Attributes) (end : List ℕ) (end_style : Attributes) → style ≡ plain_attributes → end_style ≡ plain_attributes → part_between rest style end end_style ≡ before rest end
plain_between rest style end end_style plain end_plain = plain_part style end_style (before rest end) plain end_plain

-- after one byte
behind-first : (end : List ℕ) → 0 < length end → end ≡ slice_index end 0 ∷ drop 1 end
behind-first [] some = absurd (omega (arith, some))
behind-first (b ∷ bs) some = refl

module _ (old new : Gathering) (rest end slice : List ℕ) (keeps : KeptEndsWith old rest) (parted : rest ≡ slice ++ end) (some : 0 < length end) (kept_same : new.kept.now ≡ old.kept.now) (text_same : string_bytes new.text ≡ string_bytes old.text) where
  abbrev b : ℕ
  b = slice_index end 0

  abbrev kept_slice : List ℕ
  kept_slice = keeps.0

  kept-is : old.kept.now ≡ (kept_slice ++ (slice ++ b ∷ [])) ++ drop 1 end
  kept-is =
      keeps.1 ∙ ap (λ bytes. kept_slice ++ bytes) (parted ∙ ap (λ bytes. slice ++ bytes) (behind-first end some) ∙ sym (append_assoc slice (b ∷ []) (drop 1 end)))
      ∙ sym (append_assoc kept_slice (slice ++ b ∷ []) (drop 1 end))

  new-kept-is : new.kept.now ≡ (kept_slice ++ (slice ++ b ∷ [])) ++ drop 1 end
  new-kept-is = kept_same ∙ kept-is

  pub KeptEndsWith-slice : KeptEndsWith new (drop 1 end)
  KeptEndsWith-slice = (kept_slice ++ (slice ++ b ∷ []), new-kept-is)

  text-to : (gathered_to old rest).text ≡ string_bytes old.text ++ kept_slice
  text-to = ap (λ bytes. string_bytes old.text ++ bytes) (before-is old.kept.now kept_slice rest keeps.1)

  new-text-to : (gathered_to new (drop 1 end)).text ≡ (gathered_to old rest).text ++ slice ++ b ∷ []
  new-text-to =
      ap (λ bytes. string_bytes new.text ++ bytes) (before-is new.kept.now (kept_slice ++ (slice ++ b ∷ [])) (drop 1 end) new-kept-is)
      ∙ ap (λ bytes. bytes ++ (kept_slice ++ (slice ++ b ∷ []))) text_same
      ∙ sym (append_assoc (string_bytes old.text) kept_slice (slice ++ b ∷ []))
      ∙ ap (λ bytes. bytes ++ (slice ++ b ∷ [])) (sym text-to)
      ∙ sym (append_assoc (gathered_to old rest).text slice (b ∷ []))

  end-is : length (string_bytes old.text) + (length old.kept.now - length end) ≡ length ((gathered_to old rest).text ++ slice)
  end-is =
      omega (arith, ap length keeps.1, length-append kept_slice rest, ap length parted, length-append slice end, ap length text-to, length-append (string_bytes old.text) kept_slice, length-append (gathered_to old rest).text slice)

  pub AddsCell-slice : IsUtf8 slice → b < 128
      → new.rows ≡ with_cell old.rows (record { end = length (string_bytes old.text) + (length old.kept.now - length end); width = measure (chars (stripped slice)) })
      → AddsCell (gathered_to old rest) (gathered_to new (drop 1 end)) slice
  AddsCell-slice utf8 ascii rows = record {
    separator = b;
    ascii = ascii;
    utf8 = utf8;
    text = new-text-to;
    rows = rows ∙ ap (λ n. with_cell old.rows (record { end = n; width = measure (chars (stripped slice)) })) end-is;
  }
