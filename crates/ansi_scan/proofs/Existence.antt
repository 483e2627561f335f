-- The pieces that the function makes are pieces of the text.
use Rattle.std.proofs.Common.{◌≡◌, ◌≢◌, ◌≤◌, ℕ, zero, suc, Option, Some, None, unwrap_or, List, [], ◌∷◌, ◌++◌, length, take, drop, nat_eq, refl, ap, sym, ◌∙◌, subst, inl, inr, arith}
use Rattle.std.proofs.lemmas.List.{take-append-drop}
use Rattle.std.proofs.Math.Seq.{take-append_seam}
use Rattle.std.proofs.lemmas.List.Folds.{length-prefix_len}
use Rattle.std.proofs.lemmas.Bool.{cases_lt, cases_Bool, not-false, eqb-true}
use Rattle.ansi_scan.specs.declared.items.Kind.{Kind}
use Rattle.ansi_scan.specs.declared.items.Kind.TheVariants.{Text, Broken}
use Rattle.ansi_scan.specs.Sequences.{Piece, escape, joined, is_not_escape, NoTextFirst, NoFormBegins, Stands, EachStands, ArePiecesOf}
use Rattle.ansi_scan.specs.Pieces.{text_len, sequence_front, at_escape, leading_piece, first_pieces, pieces}
use Rattle.ansi_scan.proofs.Sound.{FormAtFront, FormAtFront-sequence_front}
use Rattle.ansi_scan.proofs.Forms.{Stands-HasForm, NoFormBegins-None}
use Rattle.ansi_scan.proofs.Runs.{prefix_len-pass, list_all-take_run, prefix_len-drop_run}
use Rattle.ansi_scan.proofs.Fronts.{leading_piece-text, leading_piece-escape, IsAtEscape-at_escape, behind_first, length-behind_first}

-- joined the pieces are the text
pub joined-first_pieces : (n : ℕ) (bytes : List ℕ) → length bytes ≤ n → joined (first_pieces n bytes) ≡ bytes
unfolding first_pieces
joined-first_pieces zero [] enough = refl
joined-first_pieces zero (b ∷ bs) enough = absurd (omega arith)
joined-first_pieces (suc n) [] enough = refl
joined-first_pieces (suc n) (b ∷ bs) enough =
    ap (λ rest. take (leading_piece (b ∷ bs)).1 (b ∷ bs) ++ rest) (joined-first_pieces n (behind_first (b ∷ bs)) (length-behind_first b bs n enough))
    ∙ take-append-drop (leading_piece (b ∷ bs)).1 (b ∷ bs)

-- before an ESC and at the end no Text piece comes
pub NoTextFirst-first_pieces : (n : ℕ) (bytes : List ℕ) → text_len bytes ≡ 0 → NoTextFirst (first_pieces n bytes)
unfolding first_pieces
NoTextFirst-first_pieces zero bytes stops = tt
NoTextFirst-first_pieces (suc n) [] stops = tt
NoTextFirst-first_pieces (suc n) (b ∷ bs) stops =
    let IsOther : (Kind × ℕ) → Type 0 = λ f. f.0 ≢ Text in
    subst IsOther (sym (leading_piece-escape (b ∷ bs) stops)) (IsAtEscape-at_escape (b ∷ bs)).other

-- a text with a byte, but with none before its first ESC, begins with that ESC
pub starts_with_escape : (b : ℕ) (bs : List ℕ) → text_len (b ∷ bs) ≡ 0 → b ≡ escape
starts_with_escape b bs stops =
    elim (cases_Bool (is_not_escape b)) [
      | inl passes ↦ (let more : text_len (b ∷ bs) ≡ suc (text_len bs) = prefix_len-pass is_not_escape b bs passes in absurd (omega (arith, more)))
      | inr fails ↦ eqb-true b escape (not-false (nat_eq b escape) fails)
    ]

-- the piece at an ESC is one that the relation allows
pub Stands-found : (bs : List ℕ) (after : List Piece) (found : Option (Kind × ℕ)) → sequence_front (escape ∷ bs) ≡ found → joined after ≡ drop (unwrap_or found (Broken, 1)).1 (escape ∷ bs) → Stands (unwrap_or found (Broken, 1)).0 (take (unwrap_or found (Broken, 1)).1 (escape ∷ bs)) after
Stands-found bs after None is rest =
    let No : List ℕ → Type 0 = λ cs. NoFormBegins (escape ∷ cs) in
    record { spelled = refl; no_form = subst No (sym rest) (NoFormBegins-None (escape ∷ bs) is) }
Stands-found bs after (Some found) is rest =
    let at : FormAtFront (escape ∷ bs) found = FormAtFront-sequence_front bs found is in
    let own : take found.1 (escape ∷ bs) ≡ at.form =
    ap (λ n. take n (escape ∷ bs)) at.counted ∙ ap (λ cs. take (length at.form) cs) at.spelled ∙ take-append_seam at.form at.after in
    let Right : List ℕ → Type 0 = λ cs. Stands found.0 cs after in
    subst Right (sym own) (Stands-HasForm found.0 at.form after at.has)

pub Stands-at_escape : (b : ℕ) (bs : List ℕ) (after : List Piece) → b ≡ escape → joined after ≡ drop (at_escape (b ∷ bs)).1 (b ∷ bs) → Stands (at_escape (b ∷ bs)).0 (take (at_escape (b ∷ bs)).1 (b ∷ bs)) after
unfolding at_escape
Stands-at_escape b bs after is_escape rest =
    let Right : ℕ → Type 0 = λ c. joined after ≡ drop (at_escape (c ∷ bs)).1 (c ∷ bs) → Stands (at_escape (c ∷ bs)).0 (take (at_escape (c ∷ bs)).1 (c ∷ bs)) after in
    subst Right (sym is_escape) (λ left. Stands-found bs after (sequence_front (escape ∷ bs)) refl left) rest

-- the first piece is one that the relation allows
pub Stands-leading_piece : (b : ℕ) (bs : List ℕ) (after : List Piece) → joined after ≡ behind_first (b ∷ bs) → (text_len (joined after) ≡ 0 → NoTextFirst after) → Stands (leading_piece (b ∷ bs)).0 (take (leading_piece (b ∷ bs)).1 (b ∷ bs)) after
Stands-leading_piece b bs after rest none_first =
    let Right : (Kind × ℕ) → Type 0 = λ f. Stands f.0 (take f.1 (b ∷ bs)) after in
    elim (cases_lt 0 (text_len (b ∷ bs))) [
      | inl some ↦
          (let is_text = leading_piece-text (b ∷ bs) some in
          let rest' : joined after ≡ drop (text_len (b ∷ bs)) (b ∷ bs) = rest ∙ ap (λ f. drop f.1 (b ∷ bs)) is_text in
          subst Right (sym is_text) (record {
            some = (let len : length (take (text_len (b ∷ bs)) (b ∷ bs)) ≡ text_len (b ∷ bs) = length-prefix_len is_not_escape (b ∷ bs) in omega (arith, len));
            plain = list_all-take_run is_not_escape (b ∷ bs);
            ends = none_first (ap text_len rest' ∙ prefix_len-drop_run is_not_escape (b ∷ bs));
          }))
      | inr none ↦
          (let stops : text_len (b ∷ bs) ≡ 0 = omega arith in
          let is_other = leading_piece-escape (b ∷ bs) stops in
          subst Right (sym is_other) (Stands-at_escape b bs after (starts_with_escape b bs stops) (rest ∙ ap (λ f. drop f.1 (b ∷ bs)) is_other)))
    ]

-- each piece is one that the relation allows
pub EachStands-first_pieces : (n : ℕ) (bytes : List ℕ) → length bytes ≤ n → EachStands (first_pieces n bytes)
unfolding first_pieces
EachStands-first_pieces zero bytes enough = tt
EachStands-first_pieces (suc n) [] enough = tt
EachStands-first_pieces (suc n) (b ∷ bs) enough =
    let shorter = length-behind_first b bs n enough in
    let joins : joined (first_pieces n (behind_first (b ∷ bs))) ≡ behind_first (b ∷ bs) = joined-first_pieces n (behind_first (b ∷ bs)) shorter in (
      Stands-leading_piece b bs (first_pieces n (behind_first (b ∷ bs))) joins
          (λ stops. NoTextFirst-first_pieces n (behind_first (b ∷ bs)) (ap text_len (sym joins) ∙ stops)),
      EachStands-first_pieces n (behind_first (b ∷ bs)) shorter,
    )

-- every text has pieces
pub ArePiecesOf-pieces : (text : List ℕ) → ArePiecesOf text (pieces text)
unfolding pieces
ArePiecesOf-pieces text = record {
  joins = joined-first_pieces (length text) text (omega arith);
  stand = EachStands-first_pieces (length text) text (omega arith);
}
