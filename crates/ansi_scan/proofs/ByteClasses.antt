-- How the classes of bytes lie to one another.
use Rattle.std.proofs.Common.{◌≡◌, ◌==◌, ◌<◌, ℕ, Bool, true, false, arith}
use Rattle.std.proofs.lemmas.Bool.Decides.{nat_tests}
use Rattle.ansi_scan.specs.Sequences.{is_parameter, is_intermediate, is_final, is_escape_final, is_not_escape, opens_string, opens_longer}
use Rattle.ansi_scan.specs.Pieces.{is_in_string}
use Rattle.ansi_scan.specs.Styles.Rendition.{is_numeric}

pub is_parameter-numeric : (b : ℕ) → is_numeric b ≡ true → is_parameter b ≡ true
is_parameter-numeric b is_one = grind (arith, nat_tests)

pub is_numeric-intermediate : (b : ℕ) → is_intermediate b ≡ true → is_numeric b ≡ false
is_numeric-intermediate b intermediate = grind (arith, nat_tests)

pub is_parameter-final : (b : ℕ) → is_final b ≡ true → is_parameter b ≡ false
is_parameter-final b final = grind (arith, nat_tests)

pub is_intermediate-final : (b : ℕ) → is_final b ≡ true → is_intermediate b ≡ false
is_intermediate-final b final = grind (arith, nat_tests)

pub is_intermediate-escape_final : (b : ℕ) → is_escape_final b ≡ true → is_intermediate b ≡ false
is_intermediate-escape_final b final = grind (arith, nat_tests)

-- what opens a string opens no control sequence and no operating system command
pub opens_string-bracket : (b : ℕ) → opens_string b ≡ true → (b == 0x5b) ≡ false
opens_string-bracket b opens = grind (arith, nat_tests)

pub opens_string-closing_bracket : (b : ℕ) → opens_string b ≡ true → (b == 0x5d) ≡ false
opens_string-closing_bracket b opens = grind (arith, nat_tests)

-- an intermediate byte opens nothing longer
pub opens_longer-intermediate : (b : ℕ) → is_intermediate b ≡ true → opens_longer b ≡ false
opens_longer-intermediate b intermediate = grind (arith, nat_tests)

-- what ends a sequence is ASCII
pub is_final-ascii : (b : ℕ) → is_final b ≡ true → b < 128
is_final-ascii b final = grind (arith, nat_tests)

pub is_escape_final-ascii : (b : ℕ) → is_escape_final b ≡ true → b < 128
is_escape_final-ascii b final = grind (arith, nat_tests)

-- no ESC is among the bytes of parameters, of intermediates and of strings
pub is_not_escape-parameter : (b : ℕ) → is_parameter b ≡ true → is_not_escape b ≡ true
is_not_escape-parameter b is_one = grind (arith, nat_tests)

pub is_not_escape-intermediate : (b : ℕ) → is_intermediate b ≡ true → is_not_escape b ≡ true
is_not_escape-intermediate b is_one = grind (arith, nat_tests)

pub is_not_escape-inside : (bell_ends : Bool) (b : ℕ) → is_in_string bell_ends b ≡ true → is_not_escape b ≡ true
is_not_escape-inside true b is_one = grind (arith, nat_tests)
is_not_escape-inside false b is_one = grind (arith, nat_tests)

-- what opens a longer sequence is no ESC
pub is_not_escape-opens_string : (b : ℕ) → opens_string b ≡ true → is_not_escape b ≡ true
is_not_escape-opens_string b opens = grind (arith, nat_tests)
