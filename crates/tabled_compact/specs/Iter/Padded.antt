-- GivenSizes to which the same is added.
use Rattle.std.specs.Prelude.{◌≡◌, ◌≤◌, ◌+◌, ◌^◌, ℕ, length}
use Rattle.tabled_size.specs.Dimension.Sizes.{GivenSizes, Alike, Listed, ListedBefore, given_size}

-- each is by so much greater
abbrev pub AreGreater : ℕ → GivenSizes → GivenSizes → Type 0
AreGreater more sizes sums = (k : ℕ) → given_size sums k ≡ given_size sizes k + more

-- how many are in a list; the number after them is the one of all others
abbrev pub listed_count : GivenSizes → ℕ
listed_count (Alike size) = 0
listed_count (Listed sizes) = length sizes
listed_count (ListedBefore sizes size) = length sizes

-- one of the list, or that of all others, passes the greatest `usize`
abbrev pub PassesRange : ℕ → GivenSizes → Type 0
PassesRange more sizes = (k : ℕ) × (k ≤ listed_count sizes) × (2 ^ 64 ≤ given_size sizes k + more)
