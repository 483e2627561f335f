-- Which places of a table an entity covers.
use Rattle.std.proofs.Common.{◌≡◌, ◌==◌, ◌||◌, ◌&&◌, ℕ, zero, suc, ◌+◌, nat_le, nat_lt, Bool, true, false, cond, List, [], ◌∷◌, map, refl, ap, sym, ◌∙◌, arith}
use Rattle.std.specs.List.{filter, flat_map, list_any, range_with_len}
use Rattle.std.proofs.lemmas.Bool.Decides.{nat_tests}
use Rattle.std.proofs.lemmas.List.Folds.{list_any-append}
use Rattle.grid_config_values.specs.Entities.{covered_positions, covers, table_positions}
use Rattle.grid_config_values.specs.Order.{same_place}
use Rattle.grid_config_values.specs.declared.entity.Entity.{Entity}
use Rattle.grid_config_values.specs.declared.position.Position.{Position}
use Rattle.grid_config_values.proofs.SpansLemmas.Order.{same_position}

abbrev pub is_among : Position → List Position → Bool
is_among p places = list_any (same_place p) places

-- ---- tests

not_both : (k : Bool) → false ≡ (k && false)
not_both true = refl
not_both false = refl

kept_here : (s k m : Bool) → (s ≡ true → true ≡ k) → (s || (k && m)) ≡ (k && (s || m))
kept_here true true m same = refl
kept_here true false m same = absurd (cc (same refl))
kept_here false k m same = refl

left_out : (s k m : Bool) → (s ≡ true → false ≡ k) → (k && m) ≡ (k && (s || m))
left_out true true m same = absurd (cc (same refl))
left_out true false m same = refl
left_out false k m same = refl

both_in : (a b m : Bool) → ((a && b) || (a && m)) ≡ (a && (b || m))
both_in true b m = refl
both_in false b m = refl

either_in : (a b m : Bool) → ((a && m) || (b && m)) ≡ ((a || b) && m)
either_in true b true = refl
either_in true true false = refl
either_in true false false = refl
either_in false b m = refl

-- ---- places

among_kept : (keep : Position → Bool) (p : Position) (places : List Position) → is_among p (filter keep places) ≡ (keep p && is_among p places)
among_kept keep p [] = not_both (keep p)
among_kept keep p (q ∷ places) =
    let later = among_kept keep p places in
    let same : same_place p q ≡ true → keep q ≡ keep p = λ is. ap keep (sym (same_position p q is)) in
    elim (keep q) as (λ k. (same_place p q ≡ true → k ≡ keep p) → is_among p (cond k (q ∷ filter keep places) (filter keep places)) ≡ (keep p && (same_place p q || is_among p places))) [
      | true ↦ λ same. ap (λ m. same_place p q || m) later ∙ kept_here (same_place p q) (keep p) (is_among p places) same
      | false ↦ λ same. later ∙ left_out (same_place p q) (keep p) (is_among p places) same
    ] same

among_row : (row : ℕ) (p : Position) (columns : List ℕ) → is_among p (map (λ col. record { row = row; col = col }) columns) ≡ (p.row == row && list_any (λ col. p.col == col) columns)
among_row row p [] = not_both (p.row == row)
among_row row p (col ∷ columns) =
    ap (λ m. (p.row == row && p.col == col) || m) (among_row row p columns) ∙ both_in (p.row == row) (p.col == col) (list_any (λ col. p.col == col) columns)

among_rows : (p : Position) (rows columns : List ℕ) → is_among p (flat_map (λ row. map (λ col. record { row = row; col = col }) columns) rows)
    ≡ (list_any (λ row. p.row == row) rows && list_any (λ col. p.col == col) columns)
among_rows p [] columns = refl
among_rows p (row ∷ rows) columns =
    let in_row : ℕ → List Position = λ row. map (λ col. record { row = row; col = col }) columns in
    list_any-append (same_place p) (in_row row) (flat_map in_row rows)
    ∙ ap (λ m. m || is_among p (flat_map in_row rows)) (among_row row p columns)
    ∙ ap (λ m. (p.row == row && list_any (λ col. p.col == col) columns) || m) (among_rows p rows columns)
    ∙ either_in (p.row == row) (list_any (λ row. p.row == row) rows) (list_any (λ col. p.col == col) columns)

in_range : (x a n : ℕ) → list_any (λ k. x == k) (range_with_len a n) ≡ (nat_le a x && nat_lt x (a + n))
in_range x a zero = grind (arith, nat_tests)
in_range x a (suc n) = ap (λ m. x == a || m) (in_range x (a + 1) n) ∙ grind (arith, nat_tests)

below : (x n : ℕ) → list_any (λ k. x == k) (range_with_len 0 n) ≡ nat_lt x n
below x n = in_range x 0 n ∙ grind (arith, nat_tests)

-- a place is one of those that an entity covers of a table
pub among_covered : (at : Entity) (rows columns : ℕ) (p : Position) → is_among p (covered_positions at rows columns) ≡ (covers at p && (nat_lt p.row rows && nat_lt p.col columns))
among_covered at rows columns p =
    among_kept (covers at) p (table_positions rows columns)
    ∙ ap (λ m. covers at p && m)
    (among_rows p (range_with_len 0 rows) (range_with_len 0 columns)
    ∙ ap (λ m. m && list_any (λ col. p.col == col) (range_with_len 0 columns)) (below p.row rows)
    ∙ ap (λ m. nat_lt p.row rows && m) (below p.col columns))
