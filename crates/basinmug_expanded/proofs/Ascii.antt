-- Rules are ASCII, so that they may be cut at any byte.
use Rattle.std.proofs.Common.{◌≡◌, ℕ, zero, suc, ◌-◌, ◌<◌, ◌≤◌, ◌^◌, nat_le, nat_lt, Bool, true, false, List, [], ◌∷◌, ◌++◌, length, refl, subst, sym, arith, lit<, if◌then◌else◌}
use Rattle.std.specs.Prelude.{codes, decimal}
use Rattle.std.specs.List.{list_all}
use Rattle.std.specs.Str.{IsAscii}
use Rattle.std.specs.String.Boundary.{IsSplitPoint}
use Rattle.std.proofs.lemmas.Bool.{and_parts}
use Rattle.std.proofs.lemmas.Bool.Decides.{nat_tests}
use Rattle.std.proofs.lemmas.Fmt.{IsAscii-decimal}
use Rattle.std.proofs.lemmas.Str.{IsAscii-append}
use Rattle.std.proofs.lemmas.Str.Ascii.{IsAscii-cons, IsAscii-nil}
use Rattle.basinmug_expanded.specs.Columns.{head_of}
use Rattle.basinmug_expanded.specs.Records.{cross_behind, dashes}

-- each of the bytes is below 128, by a test
low-ascii : (bytes : List ℕ) → list_all (λ b. nat_lt b 128) bytes ≡ true → IsAscii bytes
low-ascii [] all = IsAscii-nil
low-ascii (b ∷ bs) all =
    let parts = and_parts (nat_lt b 128) (list_all (λ b. nat_lt b 128) bs) all in
    let low : nat_lt b 128 ≡ true = parts.0 in
    let below : b < 128 = grind (arith, nat_tests, low) in
    IsAscii-cons b bs below (low-ascii bs parts.1)

dashes-ascii : (n : ℕ) → IsAscii (dashes n)
dashes-ascii zero = IsAscii-nil
dashes-ascii (suc n) = IsAscii-cons 0x2d (dashes n) (lit< tt) (dashes-ascii n)

cross-ascii : (names taken : ℕ) → IsAscii (cross_behind names taken)
cross-ascii names taken = by (nat_le taken names)
  where
    by : (b : Bool) → IsAscii (if b then dashes (names - taken) ++ codes "-+" else [])
    by true = IsAscii-append (dashes (names - taken)) (codes "-+") (dashes-ascii (names - taken)) (low-ascii (codes "-+") refl)
    by false = IsAscii-nil

pub rule-ascii : (number names taken rule : ℕ) → number < 2 ^ 64 → IsAscii (head_of number ++ (cross_behind names taken ++ dashes rule))
rule-ascii number names taken rule few =
    IsAscii-append (head_of number) (cross_behind names taken ++ dashes rule)
    (IsAscii-append (codes "-[ RECORD ") (decimal number ++ codes " ]") (low-ascii (codes "-[ RECORD ") refl) (IsAscii-append (decimal number) (codes " ]") (IsAscii-decimal number few) (low-ascii (codes " ]") refl)))
    (IsAscii-append (cross_behind names taken) (dashes rule) (cross-ascii names taken) (dashes-ascii rule))

-- ASCII may be cut anywhere
pub split-ascii : (bytes text : List ℕ) (n : ℕ) → bytes ≡ text → IsAscii text → n ≤ length bytes → IsSplitPoint bytes n
split-ascii bytes text n is ascii inside =
    let low : IsAscii bytes = subst IsAscii (sym is) ascii in
    (inside, λ some behind high. absurd (omega (arith, high, low n)))
