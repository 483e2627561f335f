-- One step of a `Scan`.
use Rattle.std.proofs.Common.{◌≡◌, ◌+◌, ◌<◌, ℕ, List, [], ◌∷◌, length, take, drop, refl, ap, sym, ◌∙◌, arith}
use Rattle.std.proofs.lemmas.List.{length-take-le}
use Rattle.ansi_scan.specs.declared.items.Kind.{Kind}
use Rattle.ansi_scan.specs.declared.items.Item.{Item}
use Rattle.ansi_scan.specs.Pieces.{leading_piece, first_pieces, pieces}
use Rattle.ansi_scan.specs.Places.{placed}
use Rattle.ansi_scan.proofs.Fronts.{leading_piece-in_range, behind_first, pieces-step}

-- nothing is left of nothing
pub placed-none : (place : ℕ) (bytes : List ℕ) → length bytes ≡ 0 → placed place (pieces bytes) ≡ []
unfolding pieces first_pieces
placed-none place [] empty = refl
placed-none place (b ∷ bs) empty = absurd (omega arith)

-- the first item, and those of what is left
pub placed-leading_piece : (place : ℕ) (bytes : List ℕ) → 0 < length bytes → placed place (pieces bytes) ≡ record { kind = (leading_piece bytes).0; start = place; end = place + (leading_piece bytes).1 } ∷ placed (place + (leading_piece bytes).1) (pieces (behind_first bytes))
placed-leading_piece place bytes nonempty =
    let own : length (take (leading_piece bytes).1 bytes) ≡ (leading_piece bytes).1 = length-take-le (leading_piece bytes).1 bytes (leading_piece-in_range bytes nonempty) in
    ap (λ ps. placed place ps) (pieces-step bytes nonempty)
    ∙ ap (λ n. record { kind = (leading_piece bytes).0; start = place; end = place + n } ∷ placed (place + n) (pieces (behind_first bytes))) own

-- the same for a given prefix and a given rest
pub placed-step : (place : ℕ) (bytes : List ℕ) (f : Kind × ℕ) (rest : List ℕ) → 0 < length bytes → f ≡ leading_piece bytes → rest ≡ drop f.1 bytes → placed place (pieces bytes) ≡ record { kind = f.0; start = place; end = place + f.1 } ∷ placed (place + f.1) (pieces rest)
placed-step place bytes f rest nonempty is_front is_rest =
    let Step : (Kind × ℕ) → List Item = λ g. record { kind = g.0; start = place; end = place + g.1 } ∷ placed (place + g.1) (pieces (drop g.1 bytes)) in
    placed-leading_piece place bytes nonempty
    ∙ ap Step (sym is_front)
    ∙ ap (λ bs. record { kind = f.0; start = place; end = place + f.1 } ∷ placed (place + f.1) (pieces bs)) (sym is_rest)
