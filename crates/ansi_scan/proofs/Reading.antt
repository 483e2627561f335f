-- The pieces of a text read again at their places.
use Rattle.std.proofs.Common.{◌≡◌, ◌+◌, ◌-◌, ℕ, List, [], ◌∷◌, ◌++◌, length, take, drop, map, slice_range, refl, ap, sym, ◌∙◌, arith, append_assoc, length-append}
use Rattle.std.proofs.Math.Seq.{take-append_seam, drop-append_seam}
use Rattle.std.specs.List.{flat_map, fold}
use Rattle.std.proofs.lemmas.List.{map-id}
use Rattle.std.proofs.lemmas.List.Folds.{flat_map-map, fold-map}
use Rattle.ansi_scan.specs.Sequences.{Piece, joined}
use Rattle.ansi_scan.specs.Places.{placed, piece_at}

-- the bytes between two others
pub slice_range-middle : (before middle after : List ℕ) → slice_range (before ++ (middle ++ after)) (length before) (length before + length middle) ≡ middle
slice_range-middle before middle after =
    let len : (length before + length middle) - length before ≡ length middle = omega arith in
    ap (λ n. take n (drop (length before) (before ++ (middle ++ after)))) len
    ∙ ap (λ bs. take (length middle) bs) (drop-append_seam before (middle ++ after))
    ∙ take-append_seam middle after

-- what is read of the pieces at their places after other bytes is what is read of the pieces
pub map-placed_behind : {X : Type 0} (f : Piece → X) (text before : List ℕ) (ps : List Piece) → before ++ joined ps ≡ text → map (λ item. f (piece_at text item)) (placed (length before) ps) ≡ map f ps
map-placed_behind f text before [] joins = refl
map-placed_behind f text before (p ∷ ps) joins =
    let own : slice_range text (length before) (length before + length p.bytes) ≡ p.bytes =
    ap (λ t. slice_range t (length before) (length before + length p.bytes)) (sym joins) ∙ slice_range-middle before p.bytes (joined ps) in
    let joins' : (before ++ p.bytes) ++ joined ps ≡ text = append_assoc before p.bytes (joined ps) ∙ joins in
    let rest : map (λ item. f (piece_at text item)) (placed (length (before ++ p.bytes)) ps) ≡ map f ps = map-placed_behind f text (before ++ p.bytes) ps joins' in
    let len : length before + length p.bytes ≡ length (before ++ p.bytes) = sym (length-append before p.bytes) in
    ap (λ bs. f (record { kind = p.kind; bytes = bs }) ∷ map (λ item. f (piece_at text item)) (placed (length before + length p.bytes) ps)) own
    ∙ ap (λ n. f p ∷ map (λ item. f (piece_at text item)) (placed n ps)) len
    ∙ ap (λ xs. f p ∷ xs) rest

-- what is read of the pieces of a text at their places is what is read of the pieces
pub map-placed : {X : Type 0} (f : Piece → X) (text : List ℕ) (ps : List Piece) → joined ps ≡ text → map (λ item. f (piece_at text item)) (placed 0 ps) ≡ map f ps
map-placed f text ps joins = map-placed_behind f text [] ps joins

-- the pieces of a text are in it at their places
pub map-piece_at : (text : List ℕ) (ps : List Piece) → joined ps ≡ text → map (piece_at text) (placed 0 ps) ≡ ps
map-piece_at text ps joins = map-placed (λ p. p) text ps joins ∙ map-id ps

-- the same for lists that are made of each piece, and for a fold over the pieces
pub flat_map-placed : {X : Type 0} (f : Piece → List X) (text : List ℕ) (ps : List Piece) → joined ps ≡ text → flat_map (λ item. f (piece_at text item)) (placed 0 ps) ≡ flat_map f ps
flat_map-placed f text ps joins = sym (flat_map-map f (piece_at text) (placed 0 ps)) ∙ ap (λ qs. flat_map f qs) (map-piece_at text ps joins)

pub fold-placed : {X : Type 0} (f : X → Piece → X) (x : X) (text : List ℕ) (ps : List Piece) → joined ps ≡ text → fold (λ y item. f y (piece_at text item)) x (placed 0 ps) ≡ fold f x ps
fold-placed f x text ps joins = sym (fold-map f (piece_at text) x (placed 0 ps)) ∙ ap (λ qs. fold f x qs) (map-piece_at text ps joins)
