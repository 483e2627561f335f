-- A field that begins with plain or clear bytes.
use Rattle.std.proofs.Common.{◌≡◌, ◌∙◌, ◌+◌, ◌-◌, ◌<◌, ◌≤◌, ℕ, zero, suc, Bool, true, List, ap, arith, drop, get_or, inl, inr, length, refl, take}
use Rattle.std.proofs.lemmas.Bool.{cases_lt}
use Rattle.std.proofs.lemmas.Bool.Decides.{nat_tests}
use Rattle.std.proofs.lemmas.List.{drop_more}
use Rattle.std.proofs.lemmas.List.Sums.{prefix_len-drop_yes}
use Rattle.std.specs.Int.{is_in_range}
use Rattle.std.specs.List.{list_all, prefix_len}
use Rattle.std.specs.Prelude.{◌&&◌, not}
use Rattle.ansi_scan.proofs.Runs.{prefix_len-fail}
use Rattle.basinmug_input.specs.Parts.{IsQuoteAt, are_clear, is_clear, is_no_quote, is_of_field, is_plain, may_begin_hidden, quote}
use Rattle.grid_records_measure.specs.Measures.{are_printable}

pub plain-of_field : (d b : ℕ) → is_plain d b ≡ true → is_of_field d b ≡ true
plain-of_field d b h = grind (arith, nat_tests)

pub clear-of_field : (d b : ℕ) → is_clear d b ≡ true → is_of_field d b ≡ true
clear-of_field d b h = grind (arith, nat_tests)

pub plain-is_clear : (d b : ℕ) → is_plain d b ≡ true → is_clear d b ≡ true
plain-is_clear d b h = grind (arith, nat_tests)

plain-no_quote : (b : ℕ) → is_plain quote b ≡ true → is_no_quote b ≡ true
plain-no_quote b h = grind (arith, nat_tests)

clear-no_quote : (b : ℕ) → is_clear quote b ≡ true → is_no_quote b ≡ true
clear-no_quote b h = grind (arith, nat_tests)

plain-printable : (d b : ℕ) → is_plain d b ≡ true → is_in_range 0x20 0x7E b ≡ true
plain-printable d b h = grind (arith, nat_tests)

clear-begins : (d b : ℕ) → is_clear d b ≡ true → not (may_begin_hidden b) ≡ true
clear-begins d b h = grind (arith, nat_tests)

module _ (bytes : List ℕ) (passes is : ℕ → Bool) (so : (b : ℕ) → passes b ≡ true → is b ≡ true) where
  -- bytes that pass one test pass another
  begins : (n start : ℕ) → start + n ≤ length bytes → ((k : ℕ) → start ≤ k → k < start + n → passes (get_or bytes k 0) ≡ true)
      → prefix_len is (drop start bytes) ≡ n + prefix_len is (drop (start + n) bytes)
  begins zero start within each =
      let same : start ≡ start + 0 = omega arith in
      let rest = ap (λ k. prefix_len is (drop k bytes)) same in
      omega (arith, rest)
  begins (suc n) start within each =
      let here = so (get_or bytes start 0) (each start (omega arith) (omega arith)) in
      let next : start + 1 + n ≡ start + suc n = omega arith in
      let more = begins n (start + 1) (omega (arith, within)) (λ k low high. each k (omega (arith, low)) (omega (arith, high))) in
      let rest = ap (λ k. n + prefix_len is (drop k bytes)) next in
      let first = prefix_len-drop_yes is bytes start 0 (omega (arith, within)) here in
      omega (arith, first, more, rest)

  all : (n start : ℕ) → start + n ≤ length bytes → ((k : ℕ) → start ≤ k → k < start + n → passes (get_or bytes k 0) ≡ true)
      → list_all is (take n (drop start bytes)) ≡ true
  all zero start within each = refl
  all (suc n) start within each =
      let here = so (get_or bytes start 0) (each start (omega arith) (omega arith)) in
      let more = all n (start + 1) (omega (arith, within)) (λ k low high. each k (omega (arith, low)) (omega (arith, high))) in
      let split = drop_more bytes start 0 (omega (arith, within)) in
      ap (λ (of : List ℕ). list_all is (take (suc n) of)) split
      ∙ ap (λ (b : Bool). b && list_all is (take n (drop (start + 1) bytes))) here
      ∙ more

  module _ (start end : ℕ) (low : start ≤ end) (within : end ≤ length bytes) (each : (k : ℕ) → start ≤ k → k < end → passes (get_or bytes k 0) ≡ true) where
    size : start + (end - start) ≡ end
    size = omega (arith, low)

    these : (k : ℕ) → start ≤ k → k < start + (end - start) → passes (get_or bytes k 0) ≡ true
    these k above below = each k above (omega (arith, size, below))

    goes-on : prefix_len is (drop start bytes) ≡ (end - start) + prefix_len is (drop end bytes)
    goes-on = begins (end - start) start (omega (arith, size, within)) these ∙ ap (λ k. (end - start) + prefix_len is (drop k bytes)) size

    all-pass : list_all is (take (end - start) (drop start bytes)) ≡ true
    all-pass = all (end - start) start (omega (arith, size, within)) these

module _ (d : ℕ) (bytes : List ℕ) (start end : ℕ) (low : start ≤ end) (within : end ≤ length bytes) where
  module _ (plain : (k : ℕ) → start ≤ k → k < end → is_plain d (get_or bytes k 0) ≡ true) where
    -- the field goes on after plain bytes, which are printable ASCII
    pub field-goes_on : prefix_len (is_of_field d) (drop start bytes) ≡ (end - start) + prefix_len (is_of_field d) (drop end bytes)
    field-goes_on = goes-on bytes (is_plain d) (is_of_field d) (plain-of_field d) start end low within plain

    pub field-printable : are_printable (take (end - start) (drop start bytes)) ≡ true
    field-printable = all-pass bytes (is_plain d) (is_in_range 0x20 0x7E) (plain-printable d) start end low within plain

  module _ (clear : (k : ℕ) → start ≤ k → k < end → is_clear d (get_or bytes k 0) ≡ true) where
    -- and after clear bytes
    pub clear-goes_on : prefix_len (is_of_field d) (drop start bytes) ≡ (end - start) + prefix_len (is_of_field d) (drop end bytes)
    clear-goes_on = goes-on bytes (is_clear d) (is_of_field d) (clear-of_field d) start end low within clear

    pub clear-all : are_clear (take (end - start) (drop start bytes)) ≡ true
    clear-all = all-pass bytes (is_clear d) (λ byte. not (may_begin_hidden byte)) (clear-begins d) start end low within clear

-- plain bytes and clear ones behind them are clear
pub clear-behind : (d : ℕ) (bytes : List ℕ) (start mid end : ℕ) → ((k : ℕ) → start ≤ k → k < mid → is_plain d (get_or bytes k 0) ≡ true)
    → ((k : ℕ) → mid ≤ k → k < end → is_clear d (get_or bytes k 0) ≡ true) → (k : ℕ) → start ≤ k → k < end → is_clear d (get_or bytes k 0) ≡ true
clear-behind d bytes start mid end plain clear k low high =
    elim (cases_lt k mid) [
      | inl before ↦ plain-is_clear d (get_or bytes k 0) (plain k low before)
      | inr behind ↦ clear k behind high
    ]

-- ---- in quotes

-- what is in quotes goes on after plain bytes, and after clear ones
module _ (bytes : List ℕ) (start end : ℕ) (low : start ≤ end) (within : end ≤ length bytes) where
  pub quoted-goes_on : ((k : ℕ) → start ≤ k → k < end → is_plain quote (get_or bytes k 0) ≡ true) → prefix_len is_no_quote (drop start bytes) ≡ (end - start) + prefix_len is_no_quote (drop end bytes)
  quoted-goes_on plain = goes-on bytes (is_plain quote) is_no_quote plain-no_quote start end low within plain

  pub quoted-clear_goes_on : ((k : ℕ) → start ≤ k → k < end → is_clear quote (get_or bytes k 0) ≡ true) → prefix_len is_no_quote (drop start bytes) ≡ (end - start) + prefix_len is_no_quote (drop end bytes)
  quoted-clear_goes_on clear = goes-on bytes (is_clear quote) is_no_quote clear-no_quote start end low within clear

-- and ends before a quote
pub quote-stops : (bytes : List ℕ) (at : ℕ) → IsQuoteAt bytes at → prefix_len is_no_quote (drop at bytes) ≡ 0
quote-stops bytes at is =
    ap (prefix_len is_no_quote) (drop_more bytes at 0 is.0)
    ∙ prefix_len-fail is_no_quote (get_or bytes at 0) (drop (at + 1) bytes) (ap is_no_quote is.1)
