-- The first piece of a text, and the pieces one by one.
use Rattle.std.proofs.Common.{◌≡◌, ◌≢◌, ◌+◌, ◌<◌, ◌≤◌, ℕ, zero, suc, Option, Some, None, unwrap_or, List, [], ◌∷◌, length, take, drop, nat_lt, refl, ap, sym, ◌∙◌, subst, inl, inr, arith, length-append, length-drop}
use Rattle.std.proofs.lemmas.Bool.{cases_lt, cond-true, cond-false, lt-ltb, le-ltb}
use Rattle.std.proofs.lemmas.List.Sums.{prefix_len-le-length}
use Rattle.ansi_scan.specs.declared.items.Kind.{Kind}
use Rattle.ansi_scan.specs.declared.items.Kind.TheVariants.{Text, Broken}
use Rattle.ansi_scan.specs.Sequences.{Piece, escape, is_not_escape}
use Rattle.ansi_scan.specs.Pieces.{text_len, sequence_front, at_escape, leading_piece, first_pieces, pieces}
use Rattle.ansi_scan.proofs.Sound.{FormAtFront, FormAtFront-sequence_front}
use Rattle.ansi_scan.proofs.Forms.{HasForm-some, HasForm-other}

-- where the text does not begin with an ESC
pub leading_piece-text : (bytes : List ℕ) → 0 < text_len bytes → leading_piece bytes ≡ (Text, text_len bytes)
unfolding leading_piece
leading_piece-text bytes some = cond-true (nat_lt 0 (text_len bytes)) (Text, text_len bytes) (at_escape bytes) (lt-ltb 0 (text_len bytes) some)

-- where it does, or is empty
pub leading_piece-escape : (bytes : List ℕ) → text_len bytes ≡ 0 → leading_piece bytes ≡ at_escape bytes
unfolding leading_piece
leading_piece-escape bytes none = cond-false (nat_lt 0 (text_len bytes)) (Text, text_len bytes) (at_escape bytes) (le-ltb 0 (text_len bytes) (omega arith))

-- the byte that is an ESC is not read again
pub sequence_front-first : (b c : ℕ) (bs : List ℕ) → sequence_front (b ∷ bs) ≡ sequence_front (c ∷ bs)
unfolding sequence_front
sequence_front-first b c [] = refl
sequence_front-first b c (opener ∷ rest) = refl

-- a piece that begins with an ESC has a byte, is no longer than the text, and is no Text piece
pub record IsAtEscape (bytes : List ℕ) (found : Kind × ℕ) : Type 0 where
  pub some : 0 < found.1
  pub in_range : 0 < length bytes → found.1 ≤ length bytes
  pub other : found.0 ≢ Text

pub IsAtEscape-found : (bytes : List ℕ) (found : Option (Kind × ℕ)) → sequence_front bytes ≡ found → IsAtEscape bytes (unwrap_or found (Broken, 1))
unfolding sequence_front
IsAtEscape-found bytes None is = record { some = omega arith; in_range = λ nonempty. nonempty; other = λ same. cc same }
IsAtEscape-found [] (Some found) is = absurd (let none : None ≡ Some found = is in cc none)
IsAtEscape-found (b ∷ bs) (Some found) is =
    let at : FormAtFront (escape ∷ bs) found = FormAtFront-sequence_front bs found (sequence_front-first escape b bs ∙ is) in
    let len : suc (length bs) ≡ length at.form + length at.after = ap length at.spelled ∙ length-append at.form at.after in
    record {
      some = omega (arith, at.counted, HasForm-some found.0 at.form at.has);
      in_range = λ nonempty. (let within : found.1 ≤ suc (length bs) = omega (arith, at.counted, len) in within);
      other = HasForm-other found.0 at.form at.has;
    }

pub IsAtEscape-at_escape : (bytes : List ℕ) → IsAtEscape bytes (at_escape bytes)
unfolding at_escape
IsAtEscape-at_escape bytes = IsAtEscape-found bytes (sequence_front bytes) refl

-- the first piece has a byte
pub leading_piece-some : (bytes : List ℕ) → 0 < (leading_piece bytes).1
leading_piece-some bytes =
    let Some_ : (Kind × ℕ) → Type 0 = λ f. 0 < f.1 in
    elim (cases_lt 0 (text_len bytes)) [
      | inl some ↦ subst Some_ (sym (leading_piece-text bytes some)) some
      | inr none ↦ subst Some_ (sym (leading_piece-escape bytes (omega arith))) (IsAtEscape-at_escape bytes).some
    ]

-- the first piece is no longer than the text
pub leading_piece-in_range : (bytes : List ℕ) → 0 < length bytes → (leading_piece bytes).1 ≤ length bytes
leading_piece-in_range bytes nonempty =
    let Fits_ : (Kind × ℕ) → Type 0 = λ f. f.1 ≤ length bytes in
    elim (cases_lt 0 (text_len bytes)) [
      | inl some ↦ subst Fits_ (sym (leading_piece-text bytes some)) (prefix_len-le-length is_not_escape bytes)
      | inr none ↦ subst Fits_ (sym (leading_piece-escape bytes (omega arith))) ((IsAtEscape-at_escape bytes).in_range nonempty)
    ]

-- the first piece, as `first_pieces` makes it
abbrev pub first_piece : List ℕ → Piece
first_piece bytes = record { kind = (leading_piece bytes).0; bytes = take (leading_piece bytes).1 bytes }

-- what is left after the first piece
abbrev pub behind_first : List ℕ → List ℕ
behind_first bytes = drop (leading_piece bytes).1 bytes

-- fewer bytes are left
pub length-behind_first : (b : ℕ) (bs : List ℕ) (n : ℕ) → length (b ∷ bs) ≤ suc n → length (behind_first (b ∷ bs)) ≤ n
length-behind_first b bs n enough = omega (arith, length-drop (leading_piece (b ∷ bs)).1 (b ∷ bs), leading_piece-some (b ∷ bs))

-- more turns than bytes change nothing
pub first_pieces-enough : (n m : ℕ) (bytes : List ℕ) → length bytes ≤ n → length bytes ≤ m → first_pieces n bytes ≡ first_pieces m bytes
unfolding first_pieces
first_pieces-enough zero zero bytes in_n in_m = refl
first_pieces-enough zero (suc m) [] in_n in_m = refl
first_pieces-enough zero (suc m) (b ∷ bs) in_n in_m = absurd (omega arith)
first_pieces-enough (suc n) zero [] in_n in_m = refl
first_pieces-enough (suc n) zero (b ∷ bs) in_n in_m = absurd (omega arith)
first_pieces-enough (suc n) (suc m) [] in_n in_m = refl
first_pieces-enough (suc n) (suc m) (b ∷ bs) in_n in_m =
    ap (λ ps. first_piece (b ∷ bs) ∷ ps) (first_pieces-enough n m (behind_first (b ∷ bs)) (length-behind_first b bs n in_n) (length-behind_first b bs m in_m))

-- the pieces are the first one and those of what is left
pub pieces-step : (bytes : List ℕ) → 0 < length bytes → pieces bytes ≡ first_piece bytes ∷ pieces (behind_first bytes)
unfolding pieces first_pieces
pieces-step [] nonempty = absurd (omega arith)
pieces-step (b ∷ bs) nonempty =
    ap (λ ps. first_piece (b ∷ bs) ∷ ps) (first_pieces-enough (length bs) (length (behind_first (b ∷ bs))) (behind_first (b ∷ bs)) (length-behind_first b bs (length bs) (omega arith)) (omega arith))
