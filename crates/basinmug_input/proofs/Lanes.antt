-- Which of sixteen bytes pass a test, as bits.
use Rattle.std.proofs.Common.{◌≡◌, ◌∙◌, ◌+◌, ◌<◌, ◌≤◌, ◌%◌, ◌^◌, ℕ, Bool, true, false, List, [], ◌∷◌, ap, arith, cond, eqb, get_or, length, ltb, map, refl, replicate, bit_or}
use Rattle.std.proofs.lemmas.List.{length-map}
use Rattle.std.proofs.lemmas.Simd.{length-chunk, mask_l-mod, none_from_empty_mask, run_in_chunk_fails, run_in_chunk_le, trailing_mask_l, zip2_of_maps, zip2_splat, zip2_splat_left}
use Rattle.std.specs.List.{prefix_len}
use Rattle.std.specs.Prelude.{◌||◌, not}
use Rattle.std.specs.Simd.Lanes.{chunk, mask_l, top, zip2}
use Rattle.basinmug_input.specs.Parts.{is_special, is_unclear}
use lib.Count.{count_trailing_zeros}

-- the lane of a test: all bits or none
abbrev lane : Bool → ℕ
lane b = cond b 255 0

abbrev below : ℕ → ℕ → ℕ
below a b = lane (ltb a b)

abbrev equal : ℕ → ℕ → ℕ
equal a b = lane (eqb a b)

one-set : (p q r : Bool) → top 7 (bit_or (bit_or (lane p) (lane q)) (lane r)) ≡ ((p || q) || r)
one-set true true true = refl
one-set true true false = refl
one-set true false true = refl
one-set true false false = refl
one-set false true true = refl
one-set false true false = refl
one-set false false true = refl
one-set false false false = refl

-- no printable ASCII, or the delimiter
abbrev of_byte : ℕ → ℕ → ℕ
of_byte d b = bit_or (bit_or (below b 32) (below 126 b)) (equal b d)

each-set : (d : ℕ) (v : List ℕ) → map (top 7) (map (of_byte d) v) ≡ map (is_special d) v
each-set d [] = refl
each-set d (b ∷ v) = ap (λ (here : Bool). here ∷ map (top 7) (map (of_byte d) v)) (one-set (ltb b 32) (ltb 126 b) (eqb b d)) ∙ ap (λ (rest : List Bool). is_special d b ∷ rest) (each-set d v)

pub mask-is : (d : ℕ) (v : List ℕ) → length v ≡ 16
    → mask_l (map (top 7) (zip2 bit_or (zip2 bit_or (zip2 below v (replicate 16 32)) (zip2 below (replicate 16 126) v)) (zip2 equal v (replicate 16 d)))) % 2 ^ 64
    ≡ mask_l (map (is_special d) v)
mask-is d v size =
    let low = zip2_splat below v 16 32 size in
    let high = zip2_splat_left below 126 16 v size in
    let same = zip2_splat equal v 16 d size in
    let lanes = zip2_of_maps bit_or (λ b. bit_or (below b 32) (below 126 b)) (λ b. equal b d) v (zip2_of_maps bit_or (λ b. below b 32) (below 126) v low high) same in
    ap (λ (ls : List ℕ). mask_l (map (top 7) ls) % 2 ^ 64) lanes
    ∙ ap (λ (bs : List Bool). mask_l bs % 2 ^ 64) (each-set d v)
    ∙ mask_l-mod (map (is_special d) v) 64 (omega (arith, size, length-map v (is_special d)))

-- the delimiter, or what may begin a hidden character
any-set : (o p q r s : Bool) → top 7 (bit_or (bit_or (bit_or (bit_or (lane o) (lane p)) (lane q)) (lane r)) (lane s)) ≡ (o || (((p || q) || r) || s))
any-set true true true true true = refl
any-set true true true true false = refl
any-set true true true false true = refl
any-set true true true false false = refl
any-set true true false true true = refl
any-set true true false true false = refl
any-set true true false false true = refl
any-set true true false false false = refl
any-set true false true true true = refl
any-set true false true true false = refl
any-set true false true false true = refl
any-set true false true false false = refl
any-set true false false true true = refl
any-set true false false true false = refl
any-set true false false false true = refl
any-set true false false false false = refl
any-set false true true true true = refl
any-set false true true true false = refl
any-set false true true false true = refl
any-set false true true false false = refl
any-set false true false true true = refl
any-set false true false true false = refl
any-set false true false false true = refl
any-set false true false false false = refl
any-set false false true true true = refl
any-set false false true true false = refl
any-set false false true false true = refl
any-set false false true false false = refl
any-set false false false true true = refl
any-set false false false true false = refl
any-set false false false false true = refl
any-set false false false false false = refl

abbrev unclear_byte : ℕ → ℕ → ℕ
unclear_byte d b = bit_or (bit_or (bit_or (bit_or (equal b d) (below b 32)) (equal b 0x7f)) (equal b 0xc2)) (equal b 0xe2)

each-unclear : (d : ℕ) (v : List ℕ) → map (top 7) (map (unclear_byte d) v) ≡ map (is_unclear d) v
each-unclear d [] = refl
each-unclear d (b ∷ v) =
    ap (λ (here : Bool). here ∷ map (top 7) (map (unclear_byte d) v)) (any-set (eqb b d) (ltb b 32) (eqb b 0x7f) (eqb b 0xc2) (eqb b 0xe2))
    ∙ ap (λ (rest : List Bool). is_unclear d b ∷ rest) (each-unclear d v)

pub mask-unclear : (d : ℕ) (v : List ℕ) → length v ≡ 16
    → mask_l (map (top 7) (zip2 bit_or (zip2 bit_or (zip2 bit_or (zip2 bit_or (zip2 equal v (replicate 16 d)) (zip2 below v (replicate 16 32))) (zip2 equal v (replicate 16 0x7f))) (zip2 equal v (replicate 16 0xc2))) (zip2 equal v (replicate 16 0xe2)))) % 2 ^ 64
    ≡ mask_l (map (is_unclear d) v)
mask-unclear d v size =
    let same : (x : ℕ) → zip2 equal v (replicate 16 x) ≡ map (λ b. equal b x) v = λ x. zip2_splat equal v 16 x size in
    let two = zip2_of_maps bit_or (λ b. equal b d) (λ b. below b 32) v (same d) (zip2_splat below v 16 32 size) in
    let three = zip2_of_maps bit_or (λ b. bit_or (equal b d) (below b 32)) (λ b. equal b 0x7f) v two (same 0x7f) in
    let four = zip2_of_maps bit_or (λ b. bit_or (bit_or (equal b d) (below b 32)) (equal b 0x7f)) (λ b. equal b 0xc2) v three (same 0xc2) in
    let lanes = zip2_of_maps bit_or (λ b. bit_or (bit_or (bit_or (equal b d) (below b 32)) (equal b 0x7f)) (equal b 0xc2)) (λ b. equal b 0xe2) v four (same 0xe2) in
    ap (λ (ls : List ℕ). mask_l (map (top 7) ls) % 2 ^ 64) lanes
    ∙ ap (λ (bs : List Bool). mask_l bs % 2 ^ 64) (each-unclear d v)
    ∙ mask_l-mod (map (is_unclear d) v) 64 (omega (arith, size, length-map v (is_unclear d)))

fails : (b : Bool) → b ≡ false → not b ≡ true
fails true h = cc h
fails false h = refl

module _ (stops : ℕ → Bool) (bytes : List ℕ) (at : ℕ) (inside : at + 16 ≤ length bytes) where
  -- no bit: none of sixteen bytes stops
  pub none-stops : mask_l (map stops (chunk at 16 bytes)) ≡ 0 → (k : ℕ) → at ≤ k → k < at + 16 → not (stops (get_or bytes k 0)) ≡ true
  none-stops none k low high = fails (stops (get_or bytes k 0)) (none_from_empty_mask stops bytes at 16 0 inside none k low high)

  -- the lowest bit: so many bytes before one that stops
  module _ (some : 0 < mask_l (map stops (chunk at 16 bytes))) where
    counted : count_trailing_zeros 64 (mask_l (map stops (chunk at 16 bytes))) ≡ prefix_len (λ b. not (stops b)) (chunk at 16 bytes)
    counted = trailing_mask_l stops 64 (chunk at 16 bytes) (omega (arith, length-chunk at 16 bytes inside)) some

    pub few-pass : count_trailing_zeros 64 (mask_l (map stops (chunk at 16 bytes))) ≤ 16
    few-pass = run_in_chunk_le stops bytes at 16 _ 0 inside counted

    pub these-pass : (k : ℕ) → at ≤ k → k < at + count_trailing_zeros 64 (mask_l (map stops (chunk at 16 bytes))) → not (stops (get_or bytes k 0)) ≡ true
    these-pass k low high = fails (stops (get_or bytes k 0)) (run_in_chunk_fails stops bytes at 16 _ 0 inside counted k low high)
