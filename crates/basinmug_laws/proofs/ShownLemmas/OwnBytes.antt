-- Bytes of printable ASCII and line feeds, of which all lines are that the program writes of its own.
use Rattle.std.proofs.Common.{◌≡◌, ◌∙◌, ◌+◌, ◌<◌, ◌==◌, ◌&&◌, ◌||◌, nat_lt, ℕ, zero, suc, Bool, true, List, [], ◌∷◌, ◌++◌, replicate, take, refl, ap, arith}
use Rattle.std.specs.Prelude.{decimal, not}
use Rattle.std.specs.Int.{is_in_range}
use Rattle.std.specs.List.{list_all}
use Rattle.std.proofs.lemmas.Bool.{and_parts}
use Rattle.std.proofs.lemmas.Bool.Decides.{nat_tests}
use Rattle.std.proofs.lemmas.List.Folds.{list_all-append}
use Rattle.ansi_scan.specs.Sequences.{escape, is_not_escape}
use Rattle.grid_records_measure.specs.TextLines.{is_line_feed}
use Rattle.basinmug_laws.proofs.ShownLemmas.PlainTexts.{AreShownBytes, decimal-all, is_shown_byte}

-- a byte of printable ASCII, or a line feed
abbrev pub is_own_byte : ℕ → Bool
is_own_byte b = is_in_range 0x20 0x7E b || is_line_feed b

abbrev pub AreOwnBytes : List ℕ → Type 0
AreOwnBytes bytes = list_all is_own_byte bytes ≡ true

pub own-append : (a b : List ℕ) → AreOwnBytes a → AreOwnBytes b → AreOwnBytes (a ++ b)
own-append a b first second = list_all-append is_own_byte a b ∙ ap (λ t. t && list_all is_own_byte b) first ∙ second

own-digit : (d : ℕ) → d < 10 → is_own_byte (48 + d) ≡ true
own-digit d less = grind (arith, nat_tests)

pub own-decimal : (n : ℕ) → AreOwnBytes (decimal n)
own-decimal n = decimal-all is_own_byte own-digit n

pub own-replicate : (b : ℕ) → is_own_byte b ≡ true → (n : ℕ) → AreOwnBytes (replicate n b)
own-replicate b is zero = refl
own-replicate b is (suc n) = ap (λ t. t && list_all is_own_byte (replicate n b)) is ∙ own-replicate b is n

pub own-take : (n : ℕ) (bytes : List ℕ) → AreOwnBytes bytes → AreOwnBytes (take n bytes)
own-take zero bytes all = refl
own-take (suc n) [] all = refl
own-take (suc n) (b ∷ bs) all =
    let parts = and_parts (is_own_byte b) (list_all is_own_byte bs) all in
    ap (λ t. t && list_all is_own_byte (take n bs)) parts.0 ∙ own-take n bs parts.1

-- ---- they are ASCII, and none of them is an ESC

low-byte : (b : ℕ) → is_own_byte b ≡ true → nat_lt b 128 ≡ true
low-byte b is = grind (arith, nat_tests, is)

other-byte : (b : ℕ) → is_own_byte b ≡ true → is_not_escape b ≡ true
other-byte b is = grind (arith, nat_tests, is)

pub own-shown : (bytes : List ℕ) → AreOwnBytes bytes → AreShownBytes bytes
own-shown [] all = refl
own-shown (b ∷ bs) all =
    let parts = and_parts (is_own_byte b) (list_all is_own_byte bs) all in
    ap (λ t. t && list_all is_shown_byte bs) (ap (λ t. t && not (b == escape)) (low-byte b parts.0) ∙ other-byte b parts.0) ∙ own-shown bs parts.1

pub own-plain : (bytes : List ℕ) → AreOwnBytes bytes → list_all is_not_escape bytes ≡ true
own-plain [] all = refl
own-plain (b ∷ bs) all =
    let parts = and_parts (is_own_byte b) (list_all is_own_byte bs) all in
    ap (λ t. t && list_all is_not_escape bs) (other-byte b parts.0) ∙ own-plain bs parts.1
