-- Spaces that are kept before a text.
use Rattle.std.proofs.Common.{◌≡◌, ◌-◌, ◌≤◌, ℕ, List, ◌++◌, drop, length, take, ap, subst, sym, ◌∙◌, arith, replicate}
use Rattle.std.specs.Str.{IsCharBoundary, IsUtf8}
use Rattle.std.proofs.lemmas.List.{drop-append-le, drop-replicate, length-replicate, take-append-drop}
use Rattle.std.proofs.Math.Seq.{take-append_seam}
use Rattle.std.proofs.lemmas.Str.{IsCharBoundary-at_seam}
use Rattle.papergrid_cells.specs.Painting.{fill_bytes}
use Rattle.papergrid_cells.specs.Spaces.{IsSpaced}
use Rattle.papergrid_cells.proofs.PrintedGlyphs.{spaces-filled}

abbrev spaces : ℕ → List ℕ
spaces n = replicate n 0x20

long : (n : ℕ) → length (spaces n) ≡ n
long n = length-replicate n 0x20

module _ (n : ℕ) (text : List ℕ) {all : List ℕ} (are : all ≡ fill_bytes 0x20 n ++ text) where
  same : all ≡ spaces n ++ text
  same = are ∙ ap (λ l. l ++ text) (spaces-filled n)

  -- spaces before a text are kept with it
  pub spaced-made : IsUtf8 text → IsSpaced n all
  spaced-made utf8 = record {
    spaces = ap (take n) same ∙ (ap (λ m. take m (spaces n ++ text)) (sym (long n)) ∙ take-append_seam (spaces n) text);
    behind = subst (IsCharBoundary all) (long n) (IsCharBoundary-at_seam all (spaces n) text same utf8);
  }

module _ (n : ℕ) (bytes : List ℕ) (are : IsSpaced n bytes) where
  parts : bytes ≡ spaces n ++ drop n bytes
  parts = sym (take-append-drop n bytes) ∙ ap (λ l. l ++ drop n bytes) are.spaces

  -- the last of the spaces and the text
  pub last-spaces : (k : ℕ) → k ≤ n → drop (n - k) bytes ≡ fill_bytes 0x20 k ++ drop n bytes
  last-spaces k fits =
      let inside : n - k ≤ length (spaces n) = omega (arith, long n) in
      let left : n - (n - k) ≡ k = omega (arith, fits) in
      ap (drop (n - k)) parts
      ∙ (drop-append-le (n - k) (spaces n) (drop n bytes) inside
      ∙ (ap (λ l. l ++ drop n bytes) (drop-replicate (n - k) n 0x20)
      ∙ (ap (λ m. spaces m ++ drop n bytes) left
      ∙ ap (λ l. l ++ drop n bytes) (sym (spaces-filled k)))))
