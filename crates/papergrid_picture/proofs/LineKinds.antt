-- The kind of each line.
use Rattle.std.proofs.Common.{◌≡◌, inl, inr, ℕ, suc, ◌+◌, ◌-◌, ◌<◌, ◌≤◌, Bool, true, false, cond, List, [], ◌∷◌, length, drop, get_or, refl, ap, sym, subst, ◌∙◌, arith}
use Rattle.std.specs.Prelude.{nat_lt}
use Rattle.std.proofs.lemmas.Bool.Decides.{nat_tests}
use Rattle.std.proofs.lemmas.List.{drop_more, length-drop}
use Rattle.papergrid_picture.specs.Frame.{Tracks, thickness, boundary_at, track_at, Boundary, Row, InMargin, kind_from, line_kind}
use Rattle.papergrid_picture.specs.Tiling.{ShowsKind}
use Rattle.papergrid_picture.proofs.Frames.{boundary-first, boundary-next}

there : (b : Bool) (z : ℕ) → nat_lt z (thickness b) ≡ true → (b ≡ true) × (z ≡ 0)
there true z h = (refl, grind (arith, nat_tests, h))
there false z h = absurd (grind (arith, nat_tests, h))

module _ (rows : Tracks) where
  -- from boundary i on, where the tracks from i on have these sizes
  kind-shown_from : (i : ℕ) (heights : List ℕ) (z y : ℕ) → heights ≡ drop i rows.sizes → i ≤ length rows.sizes → y ≡ boundary_at rows i + z
      → ShowsKind rows y (kind_from rows.has_boundary i heights z)
  kind-shown_from i [] z y sizes inside is =
      let count = length rows.sizes in
      let last : count ≡ i = omega (arith, ap length sizes, length-drop i rows.sizes, inside) in
      elim (nat_lt z (thickness (rows.has_boundary i))) as (λ b. nat_lt z (thickness (rows.has_boundary i)) ≡ b → ShowsKind rows y (cond b (Boundary i) InMargin)) [
        | true ↦ λ h. let found = there (rows.has_boundary i) z h in (inside, found.0, omega (arith, is, found.1))
        | false ↦ λ h.
            let past : thickness (rows.has_boundary i) ≤ z = grind (arith, nat_tests, h) in
            inr (subst (λ n. track_at rows n ≤ y) (sym last) (omega (arith, is, past)))
      ] refl
  kind-shown_from i (height ∷ heights) z y sizes inside is =
      let t = thickness (rows.has_boundary i) in
      let more : length (drop i rows.sizes) ≡ suc (length heights) = sym (ap length sizes) in
      let within : i < length rows.sizes = omega (arith, more, length-drop i rows.sizes) in
      let both : height ∷ heights ≡ get_or rows.sizes i 0 ∷ drop (i + 1) rows.sizes = sizes ∙ drop_more rows.sizes i 0 within in
      let size : height ≡ get_or rows.sizes i 0 = ap (λ (xs : List ℕ). get_or xs 0 0) both in
      let rest : heights ≡ drop (i + 1) rows.sizes = ap (drop 1) both in
      elim (nat_lt z t) as (λ b. nat_lt z t ≡ b → ShowsKind rows y (cond b (Boundary i) (cond (nat_lt (z - t) height) (Row i) (kind_from rows.has_boundary (i + 1) heights (z - t - height))))) [
        | true ↦ λ h. let found = there (rows.has_boundary i) z h in (inside, found.0, omega (arith, is, found.1))
        | false ↦ λ h.
            let past : t ≤ z = grind (arith, nat_tests, h) in
            elim (nat_lt (z - t) height) as (λ b. nat_lt (z - t) height ≡ b → ShowsKind rows y (cond b (Row i) (kind_from rows.has_boundary (i + 1) heights (z - t - height)))) [
              | true ↦ λ g.
                  let here : z - t < height = grind (arith, nat_tests, g) in
                  (within, omega (arith, is, past), omega (arith, is, past, here, size))
              | false ↦ λ g.
                  let behind : height ≤ z - t = grind (arith, nat_tests, g) in
                  kind-shown_from (i + 1) heights (z - t - height) y rest (omega (arith, within)) (omega (arith, is, past, behind, size, boundary-next rows i within))
            ] refl
      ] refl

  pub kind-shown : (y : ℕ) → ShowsKind rows y (line_kind rows y)
  kind-shown y =
      elim (nat_lt y rows.margin) as (λ b. nat_lt y rows.margin ≡ b → ShowsKind rows y (cond b InMargin (kind_from rows.has_boundary 0 rows.sizes (y - rows.margin)))) [
        | true ↦ λ h. inl (grind (arith, nat_tests, h))
        | false ↦ λ h.
            let past : rows.margin ≤ y = grind (arith, nat_tests, h) in
            kind-shown_from 0 rows.sizes (y - rows.margin) y refl (omega arith) (omega (arith, past, boundary-first rows))
      ] refl
