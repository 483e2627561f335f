-- The measure of a text compared with a width.
use Rattle.std.proofs.Common.{◌≡◌, ℕ, ◌<◌, ◌≤◌, nat_lt, Bool, None, Some, List, ap, sym, ◌∙◌, if◌then◌else◌}
use Rattle.ansi_scan.specs.Pieces.{pieces}
use Rattle.ansi_scan.proofs.Comparing.{below, not_below}
use Rattle.ansi_scan.proofs.Existence.{ArePiecesOf-pieces}
use Rattle.grid_records_measure.specs.TextLines.{text_width}
use Rattle.grid_records_traits.specs.Cells.{HasWidth}

pub text_width-is : (text : List ℕ) (width : ℕ) → HasWidth text width → width ≡ text_width text
unfolding text_width
text_width-is text width h = h (pieces text) (ArePiecesOf-pieces text)

module _ (text : List ℕ) (n m : ℕ) (measured : HasWidth text n) (out : List ℕ) where
  pub narrow_stays : m ≤ n → None ≡ (if nat_lt (text_width text) m then Some out else None)
  narrow_stays le = sym (ap (λ (b : Bool). if b then Some out else None) (ap (λ k. nat_lt k m) (sym (text_width-is text n measured)) ∙ not_below n m le))

  pub narrow_changes : n < m → Some out ≡ (if nat_lt (text_width text) m then Some out else None)
  narrow_changes lt = sym (ap (λ (b : Bool). if b then Some out else None) (ap (λ k. nat_lt k m) (sym (text_width-is text n measured)) ∙ below n m lt))

  pub wide_stays : n ≤ m → None ≡ (if nat_lt m (text_width text) then Some out else None)
  wide_stays le = sym (ap (λ (b : Bool). if b then Some out else None) (ap (λ k. nat_lt m k) (sym (text_width-is text n measured)) ∙ not_below m n le))

  pub wide_changes : m < n → Some out ≡ (if nat_lt m (text_width text) then Some out else None)
  wide_changes lt = sym (ap (λ (b : Bool). if b then Some out else None) (ap (λ k. nat_lt m k) (sym (text_width-is text n measured)) ∙ below m n lt))
