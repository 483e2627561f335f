-- A text that begins with ESC and `[`, at most two digits, and `m`: that is its first piece.
use Rattle.std.proofs.Common.{◌≡◌, ℕ, ◌+◌, ◌-◌, ◌<◌, ◌≤◌, true, ◌||◌, ◌==◌, Option, None, Some, List, ◌∷◌, refl, ap, ◌∙◌, sym, subst, arith, take, drop, length}
use Rattle.std.specs.Prelude.{IsUtf8, cond, slice_index, unwrap_or}
use Rattle.std.specs.Str.{IsCharBoundary}
use Rattle.std.proofs.lemmas.Str.{IsCharBoundary-after_ascii}
use Rattle.std.specs.Int.{is_in_range}
use Rattle.std.specs.Option.{option_map}
use Rattle.std.proofs.lemmas.Bool.Decides.{nat_tests}
use Rattle.ansi_scan.specs.declared.items.Kind.{Kind}
use Rattle.ansi_scan.specs.declared.items.Kind.TheVariants.{Sgr, Csi, Broken}
use Rattle.ansi_scan.specs.Sequences.{is_parameter, is_intermediate, is_final}
use Rattle.ansi_scan.specs.Pieces.{text_len, control_from, opened, sequence_front, at_escape, pieces}
use Rattle.ansi_scan.proofs.Fronts.{leading_piece-escape, pieces-step}

-- the first piece is this sequence
abbrev pub begins_with_sgr : ℕ → List ℕ → Type 0
begins_with_sgr len bytes = pieces bytes ≡ record { kind = Sgr; bytes = take len bytes } ∷ pieces (drop len bytes)

from_front : (len : ℕ) (bytes : List ℕ) → 0 < length bytes → text_len bytes ≡ 0 → sequence_front bytes ≡ Some (Sgr, len) → begins_with_sgr len bytes
unfolding at_escape
from_front len bytes some escape found =
    pieces-step bytes some
    ∙ ap (λ (front : Kind × ℕ). record { kind = front.0; bytes = take front.1 bytes } ∷ pieces (drop front.1 bytes))
    (leading_piece-escape bytes escape ∙ ap (λ o. unwrap_or o (Broken, 1)) found)

-- a digit leaves open what comes
numeric_digit : (x : ℕ) → 48 ≤ x → x ≤ 57 → is_in_range 0x30 0x3b x ≡ true
numeric_digit x above below = grind (arith, nat_tests)

parameter_digit : (x : ℕ) → 48 ≤ x → x ≤ 57 → is_parameter x ≡ true
parameter_digit x above below = grind (arith, nat_tests)

control_from-digit : (len x : ℕ) (bytes : List ℕ) → 48 ≤ x → x ≤ 57 → control_from len true true (x ∷ bytes) ≡ control_from (len + 1) true true bytes
unfolding control_from
control_from-digit len x bytes above below =
    ap (λ t. cond (t || is_intermediate x) (control_from (len + 1) (is_in_range 0x30 0x3b x) t bytes)
    (cond (is_final x) (Some (cond (x == 0x6d) Sgr Csi, len + 1)) None)) (parameter_digit x above below)
    ∙ ap (λ t. control_from (len + 1) t true bytes) (numeric_digit x above below)

control_from-end : (len : ℕ) (rest : List ℕ) → control_from len true true (109 ∷ rest) ≡ Some (Sgr, len + 1)
unfolding control_from
control_from-end len rest = refl

opened-control : (bytes : List ℕ) (found : Option (Kind × ℕ)) → control_from 0 true true bytes ≡ found
    → sequence_front (27 ∷ 91 ∷ bytes) ≡ option_map (λ f. (f.0, f.1 + 2)) found
unfolding sequence_front opened
opened-control bytes found e = ap (option_map (λ f. (f.0, f.1 + 2))) e

pub no_digit : (bytes rest : List ℕ) → bytes ≡ 27 ∷ 91 ∷ 109 ∷ rest → begins_with_sgr 3 bytes
no_digit bytes rest e = subst (begins_with_sgr 3) (sym e)
    (from_front 3 (27 ∷ 91 ∷ 109 ∷ rest) (omega arith) refl (opened-control (109 ∷ rest) (Some (Sgr, 1)) (control_from-end 0 rest)))

pub one_digit : (bytes rest : List ℕ) (x : ℕ) → 48 ≤ x → x ≤ 57 → bytes ≡ 27 ∷ 91 ∷ x ∷ 109 ∷ rest → begins_with_sgr 4 bytes
one_digit bytes rest x above below e = subst (begins_with_sgr 4) (sym e)
    (from_front 4 (27 ∷ 91 ∷ x ∷ 109 ∷ rest) (omega arith) refl
    (opened-control (x ∷ 109 ∷ rest) (Some (Sgr, 2)) (control_from-digit 0 x (109 ∷ rest) above below ∙ control_from-end 1 rest)))

pub two_digits : (bytes rest : List ℕ) (x y : ℕ) → 48 ≤ x → x ≤ 57 → 48 ≤ y → y ≤ 57 → bytes ≡ 27 ∷ 91 ∷ x ∷ y ∷ 109 ∷ rest → begins_with_sgr 5 bytes
two_digits bytes rest x y above below above_last below_last e = subst (begins_with_sgr 5) (sym e)
    (from_front 5 (27 ∷ 91 ∷ x ∷ y ∷ 109 ∷ rest) (omega arith) refl
    (opened-control (x ∷ y ∷ 109 ∷ rest) (Some (Sgr, 3))
    (control_from-digit 0 x (y ∷ 109 ∷ rest) above below ∙ (control_from-digit 1 y (109 ∷ rest) above_last below_last ∙ control_from-end 2 rest))))

-- a text can be cut after an ASCII character
pub cut_behind : (text : List ℕ) (len : ℕ) → IsUtf8 text → 0 < len → len ≤ length text → slice_index text (len - 1) < 128 → IsCharBoundary text len
cut_behind text len utf8 some within last =
    let behind : len - 1 + 1 ≡ len = omega arith in
    subst (IsCharBoundary text) behind (IsCharBoundary-after_ascii text (len - 1) utf8 (omega arith) last)
