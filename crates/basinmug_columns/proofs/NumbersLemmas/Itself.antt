-- A number is all that is shown of it: none of its bytes is white space, and none begins a sequence.
use Rattle.std.proofs.Common.{◌≡◌, ◌∙◌, ◌<◌, ap, refl, sym, arith, ℕ, zero, suc, ◌+◌, ◌-◌, ◌==◌, ◌&&◌, ◌||◌, not, Bool, true, false, cond, List, [], ◌∷◌, chars, drop, get_or, length, take}
use Rattle.std.proofs.Math.Utf8.{encodes}
use Rattle.std.specs.Char.{is_ascii_digit, is_ascii_whitespace, is_whitespace}
use Rattle.std.specs.Int.{is_in_range}
use Rattle.std.specs.List.{list_all, prefix_len, suffix_len}
use Rattle.std.specs.Str.{IsAscii, drop_trailing_whitespace, skip_leading_whitespace, trim, trim_end, trim_start}
use Rattle.std.proofs.lemmas.Bool.{and_parts}
use Rattle.std.proofs.lemmas.Bool.Decides.{nat_tests}
use Rattle.std.proofs.lemmas.List.{take_all}
use Rattle.std.proofs.lemmas.List.Sums.{suffix_len_is}
use Rattle.std.proofs.lemmas.Str.{chars-IsAscii, encodes-IsAscii}
use Rattle.ansi_scan.specs.Pieces.{pieces}
use Rattle.ansi_scan.specs.Sequences.{escape}
use Rattle.ansi_scan.proofs.Existence.{ArePiecesOf-pieces}
use Rattle.ansi_str.specs.StyledText.{has_escape, strip}
use Rattle.ansi_str_search.proofs.TextLemmas.Stripping.{strip-without_escape}
use Rattle.basinmug_columns.specs.Needs.{unpadded, without_blanks}
use Rattle.basinmug_columns.specs.Numbers.Columns.{content}
use Rattle.basinmug_columns.specs.Numbers.Numbers.{are_digits, comma, followed_by, is_before_groups, is_digits, is_empty, is_end, is_exponent, is_exponent_mark, is_grouped, is_mantissa, is_number, is_one, is_percent, is_point, is_sign, is_sign_or_none, is_whole, or_nothing}

-- a byte of ASCII that is seen
abbrev is_seen : ℕ → Bool
is_seen = is_in_range 0x21 0x7E

abbrev are_seen : List ℕ → Bool
are_seen text = list_all is_seen text

-- ---- the bytes of a number

-- each text that passes is of such bytes
abbrev Seen : (List ℕ → Bool) → Type 0
Seen part = (text : List ℕ) → part text ≡ true → are_seen text ≡ true

either : (a b : Bool) (P : Type 0) → (a ≡ true → P) → (b ≡ true → P) → (a || b) ≡ true → P
either true b P one other holds = one refl
either false b P one other holds = other holds

and-both : (a b : Bool) → a ≡ true → b ≡ true → (a && b) ≡ true
and-both true b is holds = holds
and-both false b is holds = is

regrouped : (a b c : Bool) → (a && (b && c)) ≡ ((a && b) && c)
regrouped true b c = refl
regrouped false b c = refl

-- a text of two parts, after bytes that are seen or not
seen-after : (before : Bool) (front rest : List ℕ → Bool) (text : List ℕ) → ((more : List ℕ) → front more ≡ true → (before && are_seen more) ≡ true) → Seen rest
    → followed_by front rest text ≡ true → (before && are_seen text) ≡ true
seen-after before front rest [] fronts rests holds = fronts [] (and_parts (front []) (rest []) holds).0
seen-after before front rest (byte ∷ bytes) fronts rests holds =
    either (front [] && rest (byte ∷ bytes)) (followed_by (λ more. front (byte ∷ more)) rest bytes) ((before && are_seen (byte ∷ bytes)) ≡ true)
    (λ here.
    let each = and_parts (front []) (rest (byte ∷ bytes)) here in
    and-both before (are_seen (byte ∷ bytes)) (and_parts before true (fronts [] each.0)).0 (rests (byte ∷ bytes) each.1))
    (λ further.
    regrouped before (is_seen byte) (are_seen bytes)
    ∙ seen-after (before && is_seen byte) (λ more. front (byte ∷ more)) rest bytes
    (λ more is. sym (regrouped before (is_seen byte) (are_seen more)) ∙ fronts (byte ∷ more) is) rests further)
    holds

seen-followed : (front rest : List ℕ → Bool) → Seen front → Seen rest → Seen (followed_by front rest)
seen-followed front rest fronts rests text holds = seen-after true front rest text fronts rests holds

seen-or_nothing : (part : List ℕ → Bool) → Seen part → Seen (or_nothing part)
seen-or_nothing part parts [] holds = refl
seen-or_nothing part parts (byte ∷ bytes) holds = parts (byte ∷ bytes) holds

seen-one : (kind : ℕ → Bool) → ((byte : ℕ) → kind byte ≡ true → is_seen byte ≡ true) → Seen (is_one kind)
seen-one kind kinds [] holds = refl
seen-one kind kinds (byte ∷ []) holds = and-both (is_seen byte) true (kinds byte (and_parts (kind byte) true holds).0) refl
seen-one kind kinds (byte ∷ next ∷ bytes) holds = cc (and_parts (kind byte) false holds).1

digit-seen : (byte : ℕ) → is_ascii_digit byte ≡ true → is_seen byte ≡ true
digit-seen byte is = grind (arith, nat_tests)

comma-seen : (byte : ℕ) → (byte == comma) ≡ true → is_seen byte ≡ true
comma-seen byte is = grind (arith, nat_tests)

sign-seen : (byte : ℕ) → is_sign byte ≡ true → is_seen byte ≡ true
sign-seen byte is = grind (arith, nat_tests)

point-seen : (byte : ℕ) → is_point byte ≡ true → is_seen byte ≡ true
point-seen byte is = grind (arith, nat_tests)

mark-seen : (byte : ℕ) → is_exponent_mark byte ≡ true → is_seen byte ≡ true
mark-seen byte is = grind (arith, nat_tests)

percent-seen : (byte : ℕ) → is_percent byte ≡ true → is_seen byte ≡ true
percent-seen byte is = grind (arith, nat_tests)

seen-digits : Seen are_digits
seen-digits [] holds = refl
seen-digits (byte ∷ bytes) holds =
    let each = and_parts (is_ascii_digit byte) (are_digits bytes) holds in
    and-both (is_seen byte) (are_seen bytes) (digit-seen byte each.0) (seen-digits bytes each.1)

seen-some_digits : Seen is_digits
seen-some_digits text holds = seen-digits text (and_parts (not (is_empty text)) (are_digits text) holds).1

seen-groups : (digits : ℕ) → Seen (is_before_groups digits)
seen-groups zero [] holds = refl
seen-groups (suc digits) [] holds = refl
seen-groups zero (byte ∷ bytes) holds =
    let each = and_parts (byte == comma) (is_before_groups 3 bytes) holds in
    and-both (is_seen byte) (are_seen bytes) (comma-seen byte each.0) (seen-groups 3 bytes each.1)
seen-groups (suc digits) (byte ∷ bytes) holds =
    let each = and_parts (is_ascii_digit byte) (is_before_groups digits bytes) holds in
    and-both (is_seen byte) (are_seen bytes) (digit-seen byte each.0) (seen-groups digits bytes each.1)

seen-grouped : Seen is_grouped
seen-grouped text holds =
    either (is_before_groups 1 text || is_before_groups 2 text) (is_before_groups 3 text) (are_seen text ≡ true)
    (λ less. either (is_before_groups 1 text) (is_before_groups 2 text) (are_seen text ≡ true) (seen-groups 1 text) (seen-groups 2 text) less) (seen-groups 3 text) holds

seen-whole : Seen is_whole
seen-whole text holds = either (is_digits text) (is_grouped text) (are_seen text ≡ true) (seen-some_digits text) (seen-grouped text) holds

seen-point : Seen (is_one is_point)
seen-point = seen-one is_point point-seen

seen-mantissa : Seen is_mantissa
seen-mantissa text holds =
    let decimals : List ℕ → Bool = or_nothing (followed_by (is_one is_point) are_digits) in
    either (followed_by is_whole decimals text) (followed_by (is_one is_point) is_digits text) (are_seen text ≡ true)
    (seen-followed is_whole decimals seen-whole (seen-or_nothing (followed_by (is_one is_point) are_digits) (seen-followed (is_one is_point) are_digits seen-point seen-digits)) text)
    (seen-followed (is_one is_point) is_digits seen-point seen-some_digits text) holds

seen-sign : Seen is_sign_or_none
seen-sign = seen-or_nothing (is_one is_sign) (seen-one is_sign sign-seen)

seen-exponent : Seen is_exponent
seen-exponent =
    seen-followed (is_one is_exponent_mark) (followed_by is_sign_or_none is_digits) (seen-one is_exponent_mark mark-seen) (seen-followed is_sign_or_none is_digits seen-sign seen-some_digits)

seen-end : Seen is_end
seen-end = seen-followed (or_nothing is_exponent) (or_nothing (is_one is_percent)) (seen-or_nothing is_exponent seen-exponent) (seen-or_nothing (is_one is_percent) (seen-one is_percent percent-seen))

number-seen : Seen is_number
number-seen = seen-followed is_sign_or_none (followed_by is_mantissa is_end) seen-sign (seen-followed is_mantissa is_end seen-mantissa seen-end)

-- ---- what is shown of such a text

no-escape : (byte : ℕ) → is_seen byte ≡ true → (byte == escape) ≡ false
no-escape byte is = grind (arith, nat_tests)

no-space : (byte : ℕ) → is_seen byte ≡ true → is_whitespace byte ≡ false
no-space byte is = grind (arith, nat_tests)

no-blank : (byte : ℕ) → is_seen byte ≡ true → is_ascii_whitespace byte ≡ false
no-blank byte is = grind (arith, nat_tests)

low : (byte : ℕ) → is_seen byte ≡ true → byte < 128
low byte is = grind (arith, nat_tests)

parts : (byte : ℕ) (bytes : List ℕ) → are_seen (byte ∷ bytes) ≡ true → (is_seen byte ≡ true) × (are_seen bytes ≡ true)
parts byte bytes seen = and_parts (is_seen byte) (are_seen bytes) seen

seen-at : (text : List ℕ) (i : ℕ) → are_seen text ≡ true → i < length text → is_seen (get_or text i 0) ≡ true
seen-at [] i seen less = absurd (omega arith)
seen-at (byte ∷ bytes) zero seen less = (parts byte bytes seen).0
seen-at (byte ∷ bytes) (suc i) seen less = seen-at bytes i (parts byte bytes seen).1 (omega arith)

seen-ascii : (text : List ℕ) → are_seen text ≡ true → IsAscii text
seen-ascii [] seen i = omega arith
seen-ascii (byte ∷ bytes) seen zero = low byte (parts byte bytes seen).0
seen-ascii (byte ∷ bytes) seen (suc i) = seen-ascii bytes (parts byte bytes seen).1 i

without-escape : (text : List ℕ) → are_seen text ≡ true → has_escape text ≡ false
without-escape [] seen = refl
without-escape (byte ∷ bytes) seen =
    let each = parts byte bytes seen in ap (λ (is : Bool). is || has_escape bytes) (no-escape byte each.0) ∙ without-escape bytes each.1

shows-itself : (text : List ℕ) → are_seen text ≡ true → strip (pieces text) ≡ text
shows-itself text seen = strip-without_escape text (pieces text) (ArePiecesOf-pieces text) (without-escape text seen)

skipped : (text : List ℕ) → are_seen text ≡ true → skip_leading_whitespace text ≡ text
skipped [] seen = refl
skipped (byte ∷ bytes) seen = ap (λ (is : Bool). cond is (skip_leading_whitespace bytes) (byte ∷ bytes)) (no-space byte (parts byte bytes seen).0)

dropped : (text : List ℕ) → are_seen text ≡ true → drop_trailing_whitespace text ≡ text
dropped [] seen = refl
dropped (byte ∷ bytes) seen =
    let each = parts byte bytes seen in
    ap (λ (is : Bool). cond (is && (length (drop_trailing_whitespace bytes) == 0)) [] (byte ∷ drop_trailing_whitespace bytes)) (no-space byte each.0)
    ∙ ap (λ (rest : List ℕ). byte ∷ rest) (dropped bytes each.1)

trims-nothing : (text : List ℕ) → are_seen text ≡ true → trim text ≡ text
unfolding trim_start trim_end
trims-nothing text seen =
    let ascii = seen-ascii text seen in
    let same : chars text ≡ text = chars-IsAscii text ascii in
    let start : trim_start text ≡ text = ap (λ cs. encodes (skip_leading_whitespace cs)) same ∙ (ap encodes (skipped text seen) ∙ encodes-IsAscii text ascii) in
    ap trim_end start ∙ (ap (λ cs. encodes (drop_trailing_whitespace cs)) same ∙ (ap encodes (dropped text seen) ∙ encodes-IsAscii text ascii))

no-prefix : (text : List ℕ) → are_seen text ≡ true → prefix_len is_ascii_whitespace text ≡ 0
no-prefix [] seen = refl
no-prefix (byte ∷ bytes) seen = ap (λ (is : Bool). cond is (1 + prefix_len is_ascii_whitespace bytes) 0) (no-blank byte (parts byte bytes seen).0)

no-suffix : (text : List ℕ) → are_seen text ≡ true → suffix_len is_ascii_whitespace text ≡ 0
no-suffix text seen =
    suffix_len_is is_ascii_whitespace text (length text) 0 (omega arith) (λ k from below. absurd (omega arith))
    (λ some. no-blank (get_or text (length text - 1) 0) (seen-at text (length text - 1) seen (omega arith)))
    ∙ nothing-left (length text)
  where
    nothing-left : (n : ℕ) → n - n ≡ 0
    nothing-left n = omega arith

blanks-nothing : (text : List ℕ) → are_seen text ≡ true → without_blanks text ≡ text
blanks-nothing text seen =
    ap (λ (n : ℕ). take (length (drop n text) - suffix_len is_ascii_whitespace (drop n text)) (drop n text)) (no-prefix text seen)
    ∙ (ap (λ (n : ℕ). take (length text - n) text) (no-suffix text seen) ∙ take_all (length text - 0) text (omega arith))

-- ---- numbers

pub number-content : (text : List ℕ) → is_number text ≡ true → content text ≡ text
number-content text is = let seen = number-seen text is in ap trim (shows-itself text seen) ∙ trims-nothing text seen

pub number-unpadded : (text : List ℕ) → is_number text ≡ true → unpadded text ≡ text
number-unpadded text is = let seen = number-seen text is in ap without_blanks (shows-itself text seen) ∙ blanks-nothing text seen
