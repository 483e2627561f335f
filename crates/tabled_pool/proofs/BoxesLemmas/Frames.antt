-- A box drawn in its frame, onto lines that show nothing yet.
use Rattle.std.proofs.Common.{◌≡◌, ℕ, ◌+◌, ◌-◌, ◌<◌, Bool, true, false, cond, [], ◌∷◌, ◌++◌, drop, length, get_or, map, replicate, take, refl, ap, sym, ◌∙◌, arith}
use Rattle.std.specs.List.{range_with_len}
use Rattle.std.proofs.lemmas.Bool.{le-ltb}
use Rattle.std.proofs.lemmas.List.{get_or-replicate, length-map, length-replicate, take_all, take-append-le}
use Rattle.std.proofs.lemmas.List.FromFn.{fill_by_all}
use Rattle.grid_config.specs.Looks.{Look}
use Rattle.grid_config_values.specs.Glyphs.{BoundaryKind, First, Last}
use Rattle.papergrid_picture.specs.Frame.{thickness}
use Rattle.tabled_size.specs.Dimension.Takers.{Takers}
use Rattle.tabled_pool.specs.Boxes.Boxes.{Box, Upright, Horizontal, from_line}
use Rattle.tabled_pool.specs.Boxes.Canvas.{Adds, box_parts, shown_at}
use Rattle.tabled_pool.specs.Boxes.Framed.{bottom_line, framed_width, left_side, outer_horizontal, right_side, side, top_line}
use Rattle.tabled_pool.proofs.BoxesLemmas.Adding.{Line, Lines, same-start}

-- ---- what is there or not

none-there : (t : Bool) (kind : BoundaryKind) → cond t (replicate 0 (Upright kind)) [] ≡ []
none-there true kind = refl
none-there false kind = refl

module _ (a b : Lines) (kind : BoundaryKind) (top : ℕ) where
  pub horizontal-absent : (width : ℕ) → Adds a a (from_line top (outer_horizontal width (thickness false) kind))
  horizontal-absent width = same-start a top (λ _. Horizontal kind width ∷ [])

-- ---- all parts of a frame

from-zero : (f : ℕ → Line) (k : ℕ) → from_line 0 f k ≡ f k
from-zero f k =
    let same : k - 0 ≡ k = omega arith in
    ap (λ t. cond t [] (f (k - 0))) (le-ltb k 0 (omega arith)) ∙ ap f same

module _ (look : Look) (takers : Takers) (box : Box) where
  abbrev top : ℕ
  top = top_line look

  abbrev left : ℕ → Line
  left = side box (left_side look) First

  abbrev right : ℕ → Line
  right = side box (right_side look) Last

  abbrev inner : ℕ → Line
  inner = box.line takers box.width box.height

  abbrev above : ℕ → Line
  above = outer_horizontal (framed_width look box) (top_line look) First

  abbrev below : ℕ → Line
  below = outer_horizontal (framed_width look box) (bottom_line look) Last

-- ---- onto lines that show nothing yet

module _ (start now : Lines) (n : ℕ) (f : ℕ → Line) (empty : map box_parts start ≡ replicate n []) (adds : Adds start now f) where
  long : length start ≡ n
  long = sym (length-map start box_parts) ∙ (ap length empty ∙ length-replicate n [])

  pub lines-shown : map box_parts now ≡ map f (range_with_len 0 n)
  lines-shown =
      fill_by_all f (map box_parts now) n [] (length-map now box_parts ∙ (adds.0 ∙ long))
      (λ k h.
      let within : k < length start = omega (arith, long, h) in
      let none : shown_at start k ≡ [] = ap (λ l. get_or l k []) empty ∙ get_or-replicate n k [] [] h in
      adds.1 k within ∙ ap (λ l. l ++ f k) none)

-- the same of a vector whose lines were drawn upon
pub vector-shown : (items start new : Lines) (len n : ℕ) (f : ℕ → Line) → len ≡ length new → map box_parts start ≡ replicate n [] → Adds start new f
    → map box_parts (take len (new ++ drop (length new) items)) ≡ map f (range_with_len 0 n)
vector-shown items start new len n f is empty adds =
    ap (map box_parts) (take-append-le len new (drop (length new) items) (omega (arith, is)) ∙ take_all len new (omega (arith, is)))
    ∙ lines-shown start new n f empty adds
