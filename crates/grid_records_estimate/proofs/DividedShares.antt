-- What each of some sizes is when so much is divided among them.
use Rattle.std.proofs.Common.{◌≡◌, ℕ, zero, suc, ◌+◌, ◌/◌, ◌%◌, ◌<◌, List, [], ◌∷◌, length, get_or, refl, ap, arith}
use Rattle.std.proofs.lemmas.List.{length-map, get_or-map}
use Rattle.grid_records_estimate.specs.Estimates.{with_shares}

pub length-with_shares : (n : ℕ) (sizes : List ℕ) → length (with_shares n sizes) ≡ length sizes
length-with_shares n [] = refl
length-with_shares n (size ∷ sizes) = ap suc (length-map sizes (λ other. other + n / suc (length sizes)))

pub get_or-with_shares-first : (n : ℕ) (sizes : List ℕ) → 0 < length sizes
    → get_or (with_shares n sizes) 0 0 ≡ get_or sizes 0 0 + n / length sizes + n % length sizes
get_or-with_shares-first n [] h = absurd (omega arith)
get_or-with_shares-first n (size ∷ sizes) h = refl

pub get_or-with_shares-behind : (n : ℕ) (sizes : List ℕ) (k : ℕ) → 0 < k → k < length sizes
    → get_or (with_shares n sizes) k 0 ≡ get_or sizes k 0 + n / length sizes
get_or-with_shares-behind n [] k h b = absurd (omega arith)
get_or-with_shares-behind n (size ∷ sizes) zero h b = absurd (omega arith)
get_or-with_shares-behind n (size ∷ sizes) (suc k) h b =
    let below : k < length sizes = omega arith in
    get_or-map (λ other. other + n / suc (length sizes)) sizes k 0 0 below
