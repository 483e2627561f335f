-- Which of some bytes, at most sixty-four, are no printable ASCII, as bits.
use Rattle.std.proofs.Common.{◌≡◌, ◌↔◌, ℕ, ◌+◌, ◌-◌, ◌%◌, ◌^◌, ◌≤◌, ◌<◌, List, [], ◌∷◌, Bool, true, false, cond, leb, length, get_or, map, replicate, refl, sym, ap, subst, ◌∙◌, arith, w8, w64, ⊎_elim}
use Rattle.std.specs.Int.{bit_at, is_in_range, trailing_zeros}
use Rattle.std.specs.Simd.Lanes.{chunk, zip2, mask_l, top}
use Rattle.std.proofs.lemmas.Bool.{cases_lt, leb-true, leb-false}
use Rattle.std.proofs.lemmas.Bool.Decides.{nat_tests}
use Rattle.std.proofs.lemmas.List.{get_or_past, length-map}
use Rattle.std.proofs.lemmas.Nat.Bits.{bit_at-trailing_zeros}
use Rattle.std.proofs.lemmas.Simd.{get_or-chunk, length-zip2, get_or-zip2, get_or-replicate, length-replicate, bit_mask_l, tops_compared, mask_l-mod}
use Rattle.std.proofs.Math.ListN.{get_or-map}
use Rattle.std.proofs.Math.Nat.{zero-div}

splat-zip : {Z : Type 0} (f : ℕ → ℕ → Z) (x : ℕ) (ys : List ℕ) → zip2 f (replicate (length ys) x) ys ≡ map (f x) ys
splat-zip f x [] = refl
splat-zip f x (y ∷ ys) = ap (λ rest. f x y ∷ rest) (splat-zip f x ys)

-- a byte without the 32 controls before the printable characters
abbrev lowered : ℕ → ℕ
lowered b = (b + (256 - 32)) % 256

abbrev lanes_lowered : ℕ → List ℕ → List ℕ
lanes_lowered n lanes = zip2 (λ a b. (a + (256 - b)) % 256) lanes (replicate n 32)

abbrev pub others : ℕ → List ℕ → ℕ
others n lanes = mask_l (map (top 7) (zip2 (λ a b. cond (leb a b) 255 0) (replicate n 95) (lanes_lowered n lanes))) % 2 ^ 64

-- a byte is other than printable where it is at least 95 then
tells : (b : ℕ) → b < 256 → (cond {A = ℕ} (leb 95 (lowered b)) 1 0 ≡ 1) ↔ (is_in_range 0x20 0x7E b ≡ false)
tells b byte = by_test (leb 95 (lowered b)) refl
  where
    by_test : (high : Bool) → leb 95 (lowered b) ≡ high → (cond {A = ℕ} high 1 0 ≡ 1) ↔ (is_in_range 0x20 0x7E b ≡ false)
    by_test true e = (λ _. let high = leb-true 95 (lowered b) e in grind (arith, nat_tests, high, byte), λ _. refl)
    by_test false e = (λ h. absurd (omega (arith, h)), λ h. absurd (let low = leb-false 95 (lowered b) e in grind (arith, nat_tests, low, byte, h)))

module _ (n : ℕ) (most : n ≤ 64) (lanes : List ℕ) (size : length lanes ≡ n) where
  lowered-size : length (lanes_lowered n lanes) ≡ n
  lowered-size = length-zip2 _ lanes (replicate n 32) (size ∙ sym (length-replicate n 32)) ∙ size

  others-is : others n lanes ≡ mask_l (map (leb 95) (lanes_lowered n lanes))
  others-is =
      ap (λ ms. mask_l ms % 2 ^ 64)
      (tops_compared w8 leb (replicate n 95) (lanes_lowered n lanes) ∙ ap (λ m. zip2 leb (replicate m 95) (lanes_lowered n lanes)) (sym lowered-size) ∙ splat-zip leb 95 (lanes_lowered n lanes))
      ∙ mask_l-mod (map (leb 95) (lanes_lowered n lanes)) 64 (omega (arith, most, length-map (lanes_lowered n lanes) (leb 95), lowered-size))

  bit-is : (k : ℕ) → bit_at (others n lanes) k ≡ cond (leb 95 (get_or (lanes_lowered n lanes) k 0)) 1 0
  bit-is k =
      ap (λ m. bit_at m k) others-is ∙ bit_mask_l (map (leb 95) (lanes_lowered n lanes)) k
      ∙ ap (λ b. cond b 1 0) (get_or-map (leb 95) (lanes_lowered n lanes) k 0)

  -- no lane, no bit
  pub bit-past : (k : ℕ) → n ≤ k → bit_at (others n lanes) k ≡ 0
  bit-past k high = bit-is k ∙ ap (λ x. cond (leb 95 x) 1 0) (get_or_past (lanes_lowered n lanes) k 0 (omega (arith, high, lowered-size)))

  pub bit-here : (k : ℕ) → k < n → get_or lanes k 0 < 256 → (bit_at (others n lanes) k ≡ 1) ↔ (is_in_range 0x20 0x7E (get_or lanes k 0) ≡ false)
  bit-here k below byte =
      let lowered-here : get_or (lanes_lowered n lanes) k 0 ≡ lowered (get_or lanes k 0) =
      get_or-zip2 _ lanes (replicate n 32) k 0 0 0 (omega (arith, size, below)) (subst (λ m. k < m) (sym (length-replicate n 32)) below) ∙ ap (λ n. (get_or lanes k 0 + (256 - n)) % 256) (get_or-replicate n k 32 0 below) in
      subst (λ b. (b ≡ 1) ↔ (is_in_range 0x20 0x7E (get_or lanes k 0) ≡ false)) (sym (bit-is k ∙ ap (λ x. cond (leb 95 x) 1 0) lowered-here)) (tells (get_or lanes k 0) byte)

  -- no bit, a printable byte
  pub bit-none : (k : ℕ) → k < n → get_or lanes k 0 < 256 → bit_at (others n lanes) k ≡ 0 → is_in_range 0x20 0x7E (get_or lanes k 0) ≡ true
  bit-none k below byte none = by_test (is_in_range 0x20 0x7E (get_or lanes k 0)) refl
    where
      by_test : (printable : Bool) → is_in_range 0x20 0x7E (get_or lanes k 0) ≡ printable → is_in_range 0x20 0x7E (get_or lanes k 0) ≡ true
      by_test true e = e
      by_test false e = let both : 0 ≡ 1 = sym none ∙ (bit-here k below byte).1 e in absurd (omega (arith, both))

-- ---- the bytes from a place on

module _ (bytes : List ℕ) (start mask : ℕ) (bits : (k : ℕ) → k < 16 → (bit_at mask k ≡ 1) ↔ (is_in_range 0x20 0x7E (get_or (chunk start 16 bytes) k 0) ≡ false)) where
  -- a lane without a bit is printable
  pub printable-lane : (k : ℕ) → k < 16 → bit_at mask k ≡ 0 → is_in_range 0x20 0x7E (get_or bytes (start + k) 0) ≡ true
  printable-lane k below none = by_test (is_in_range 0x20 0x7E (get_or bytes (start + k) 0)) refl
    where
      by_test : (printable : Bool) → is_in_range 0x20 0x7E (get_or bytes (start + k) 0) ≡ printable → is_in_range 0x20 0x7E (get_or bytes (start + k) 0) ≡ true
      by_test true e = e
      by_test false e =
          let set = (bits k below).1 (ap (is_in_range 0x20 0x7E) (get_or-chunk start 16 bytes k 0 below) ∙ e) in
          let both : 0 ≡ 1 = sym none ∙ set in
          absurd (omega (arith, both))

  pub printable-at : (k : ℕ) → start ≤ k → k < start + 16 → bit_at mask (k - start) ≡ 0 → is_in_range 0x20 0x7E (get_or bytes k 0) ≡ true
  printable-at k low high none =
      let place : start + (k - start) ≡ k = omega (arith, low) in
      subst (λ n. is_in_range 0x20 0x7E (get_or bytes n 0) ≡ true) place (printable-lane (k - start) (omega (arith, low, high)) none)

pub no-bit : (k : ℕ) → bit_at 0 k ≡ 0
no-bit k = ap (λ n. n % 2) (zero-div (2 ^ k))

-- the lowest of sixteen bits
module _ (mask : ℕ) (some : 0 < mask) (fits : mask < 2 ^ 64) (few : (k : ℕ) → 16 ≤ k → bit_at mask k ≡ 0) where
  pub lowest-lane : trailing_zeros w64 mask ≤ 16
  lowest-lane =
      ⊎_elim (λ (past : 16 < trailing_zeros w64 mask).
      let both : 0 ≡ 1 = sym (few (trailing_zeros w64 mask) (omega (arith, past))) ∙ (bit_at-trailing_zeros w64 mask some fits).1 in
      absurd (omega (arith, both)))
      (λ within. within)
      (cases_lt 16 (trailing_zeros w64 mask))

  pub below-lowest : (k : ℕ) → k < trailing_zeros w64 mask → bit_at mask k ≡ 0
  below-lowest k below = (bit_at-trailing_zeros w64 mask some fits).2 k below
