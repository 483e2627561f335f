-- Nothing is made of an empty text.
use Rattle.std.proofs.Common.{◌≡◌, ◌&&◌, ◌||◌, not, nat_lt, nat_le, ℕ, zero, suc, Bool, true, false, [], refl, ap, ◌∙◌, arith, if◌then◌else◌}
use Rattle.std.specs.List.{list_all}
use Rattle.std.specs.Str.{chars, is_utf8}
use Rattle.std.proofs.lemmas.Bool.Decides.{nat_tests}
use Rattle.ansi_scan.specs.Pieces.{pieces}
use Rattle.grid_records_measure.specs.Measures.{line_cost}
use Rattle.grid_records_measure.specs.TextLines.{shown_lines, text_width}
use Rattle.papergrid_picture.proofs.Shown.{pieces-nothing}
use Rattle.tabled_size_wrap.specs.Cells.Resizing.{Wrap, Cut, Keep, Resize, resized_text}
use Rattle.tabled_size_wrap.specs.Bytes.{cut_at, wrapped_text}
use Rattle.tabled_size_wrap.specs.Staying.{line_stays}
use Rattle.tabled_size_wrap.proofs.StayingTexts.{stays-is}
use Rattle.columns_laws.proofs.BoundsLemmas.CellBounds.{nothing-measures}

line : (n : ℕ) (keep_words : Bool) → line_stays keep_words (suc n) [] ≡ true
unfolding chars is_utf8
line n keep_words = ap (λ b. b && (not keep_words || true)) low ∙ by keep_words
  where
    low : nat_le (line_cost []) (suc n) ≡ true
    low = grind (arith, nat_tests)

    by : (b : Bool) → (not b || true) ≡ true
    by true = refl
    by false = refl

nothing-wraps : (width : ℕ) (keep_words : Bool) → wrapped_text width keep_words [] ≡ []
unfolding wrapped_text
nothing-wraps zero keep_words = refl
nothing-wraps (suc n) keep_words =
    let some : nat_lt 0 (suc n) ≡ true = grind (arith, nat_tests) in
    stays-is keep_words (suc n) []
    (ap (λ b. b && list_all (line_stays keep_words (suc n)) (shown_lines (pieces []))) some
    ∙ ap (λ ps. list_all (line_stays keep_words (suc n)) (shown_lines ps)) pieces-nothing ∙ ap (λ b. b && true) (line n keep_words))

pub nothing-resized : (resize : Resize) → resized_text resize [] ≡ []
nothing-resized Keep = refl
nothing-resized (Wrap width keep_words) = nothing-wraps width keep_words
nothing-resized (Cut width) =
    let fits : nat_le (text_width []) width ≡ true = grind (arith, nat_tests, nothing-measures) in
    ap (λ b. if b then [] else cut_at width []) fits
