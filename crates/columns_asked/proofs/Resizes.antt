-- A text that fits stays as it is where it is cut, and where it is wrapped and clearly stays.
use Rattle.std.proofs.Common.{◌≡◌, ◌≤◌, ℕ, Bool, true, false, List, cond, nat_le, ap, sym, ◌∙◌, arith}
use Rattle.std.proofs.lemmas.Bool.Decides.{nat_tests}
use Rattle.grid_records_measure.specs.TextLines.{text_width}
use Rattle.tabled_size_wrap.proofs.StayingTexts.{stays-is}
use Rattle.tabled_size_wrap.specs.Bytes.{cut_at}
use Rattle.tabled_size_wrap.specs.Staying.{stays}
use Rattle.tabled_size_wrap.specs.Cells.Resizing.{Wrap, Cut, resized_text}

fitting : (columns width room : ℕ) → columns ≡ width → columns ≤ room → nat_le width room ≡ true
fitting columns width room is fits =
    let less : width ≤ room = omega (arith, is, fits) in
    grind (arith, nat_tests)

module _ (truncate keep_words : Bool) (room : ℕ) (text : List ℕ) where
  abbrev resized_by : Bool → List ℕ
  resized_by cuts = resized_text (cond cuts (Cut room) (Wrap room keep_words)) text

  pub cut-stays : (columns : ℕ) → columns ≡ text_width text → columns ≤ room → truncate ≡ true → text ≡ resized_by truncate
  cut-stays columns is fits cuts = ap (λ t. cond t text (cut_at room text)) (sym (fitting columns (text_width text) room is fits)) ∙ ap resized_by (sym cuts)

  pub wrapped-stays : stays keep_words room text ≡ true → truncate ≡ false → text ≡ resized_by truncate
  wrapped-stays stay wraps = sym (stays-is keep_words room text stay) ∙ ap resized_by (sym wraps)
