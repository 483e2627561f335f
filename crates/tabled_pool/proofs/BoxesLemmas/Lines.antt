-- A line is printed part by part.
use Rattle.std.proofs.Common.{◌≡◌, ℕ, zero, suc, ◌+◌, ◌<◌, List, [], ◌∷◌, ◌++◌, drop, get_or, length, map, refl, ap, sym, ◌∙◌, arith, append_assoc}
use Rattle.std.specs.Prelude.{Vec}
use Rattle.std.specs.declared.alloc.Global.{Global}
use Rattle.std.specs.List.{range_with_len}
use Rattle.std.proofs.lemmas.List.{at_drop_more, drop_all}
use Rattle.std.proofs.lemmas.List.FromFn.{map-range_with_len_more}
use Rattle.tabled_pool.specs.Boxes.Boxes.{BoxPart}
use Rattle.tabled_pool.specs.Boxes.Canvas.{box_part, box_parts}
use Rattle.tabled_pool.specs.declared.boxes.part.DrawnPart.{DrawnPart}
use Rattle.papergrid_cells.specs.declared.painting.GlyphRun.{GlyphRun}
use Rattle.tabled_pool.specs.Boxes.Crossings.{Shape}
use Rattle.tabled_pool.specs.Boxes.Runs.{text_with}
use Rattle.tabled_pool.specs.Boxes.Texts.{box_line}

-- ---- the lines of a vector

pub line-is : (lines : List (Vec DrawnPart Global)) (y : ℕ) (line : Vec DrawnPart Global) → y < length lines → line ≡ get_or lines y line → box_line (map box_parts lines) y ≡ box_parts line
line-is [] y line inside is = absurd (omega (arith, inside))
line-is (first ∷ lines) zero line inside is = ap box_parts (sym is)
line-is (first ∷ lines) (suc y) line inside is = line-is lines y line (omega (arith, inside)) is

-- ---- how many columns are marked

-- ---- one part more

module _ (parts : List DrawnPart) (i : ℕ) (part : DrawnPart) (inside : i < length parts) (is : part ≡ get_or parts i part) where
  pub next-part : {Y : Type 0} (f : List BoxPart → Y) → f (map box_part (drop i parts)) ≡ f (box_part part ∷ map box_part (drop (i + 1) parts))
  next-part f = at_drop_more (λ l. f (map box_part l)) parts i part inside ∙ ap (λ p. f (box_part p ∷ map box_part (drop (i + 1) parts))) (sym is)

pub no-part : {Y : Type 0} (f : List BoxPart → Y) (parts : List DrawnPart) (i : ℕ) → i ≡ length parts → f (map box_part (drop i parts)) ≡ f []
no-part f parts i e = ap (λ l. f (map box_part l)) (drop_all i parts (omega (arith, e)))

-- ---- one column more of a horizontal line

pub horizontal-more : (f : ℕ → Shape) (x i : ℕ) (out mid new : List ℕ) (held kept after : List GlyphRun)
    → ((behind : List Shape) → text_with mid kept behind ≡ text_with out held (map f (range_with_len x i) ++ behind))
    → ((behind : List Shape) → text_with new after behind ≡ text_with mid kept (f (x + i) ∷ behind))
    → (behind : List Shape) → text_with new after behind ≡ text_with out held (map f (range_with_len x (i + 1)) ++ behind)
horizontal-more f x i out mid new held kept after so step behind =
    step behind
    ∙ (so (f (x + i) ∷ behind)
    ∙ ap (text_with out held)
    (sym (append_assoc (map f (range_with_len x i)) (f (x + i) ∷ []) behind) ∙ ap (λ l. l ++ behind) (sym (map-range_with_len_more f x i (x + i) refl))))
