-- The units of a line, and any that follow one another in it, measure together at most what they cost.
use Rattle.std.proofs.Common.{◌≡◌, ◌≤◌, ◌<◌, ◌⊎◌, inl, inr, nat_le, ℕ, ◌+◌, Bool, true, false, cond, List, [], ◌∷◌, ◌++◌, flat_map, map, refl, ap, sym, subst, ◌∙◌, arith, append-nil}
use Rattle.std.specs.List.{join_by, slice_split}
use Rattle.std.proofs.lemmas.Bool.Decides.{nat_tests}
use Rattle.std.proofs.lemmas.List.Sums.{sum_by-cons}
use Rattle.unicode_width.specs.Width.{Reading, plain, read_before, step, str_width}
use Rattle.unicode_width.specs.declared.state.State.{State}
use Rattle.grid_records_measure.specs.Measures.{cost, measure}
use Rattle.grid_records_fronts.proofs.BoundsLemmas.Costs.{Bounded, bounded-plain, bounded-step, bounded-total}
use Rattle.grid_records_fronts.proofs.BoundsLemmas.Spaces.{read-append, read-more, space-resets}
use Rattle.tabled_size_wrap.specs.FittingRuns.{run_cost}
use Rattle.tabled_size_wrap.specs.Units.{LineUnit, character_unit, is_space, line_units, space_unit, word_units}
use Rattle.tabled_size_wrap.proofs.AllUnits.{texts}

-- ---- which units follow one another

module _ (width : ℕ) where
  abbrev pub IsCharacter : LineUnit → Type 0
  IsCharacter unit = (c : ℕ) × (unit ≡ character_unit c)

  abbrev pub IsWord : LineUnit → Type 0
  IsWord unit = (unit.cost ≡ measure unit.text) × (unit.cost ≤ width)

  abbrev pub SpaceNext : List LineUnit → Type 0
  SpaceNext [] = Unit {0}
  SpaceNext (unit ∷ units) = unit ≡ space_unit

  abbrev pub NoWordNext : List LineUnit → Type 0
  NoWordNext [] = Unit {0}
  NoWordNext (unit ∷ units) = (unit ≡ space_unit) ⊎ IsCharacter unit

  -- a word comes before a space alone, and a character before no word
  abbrev pub Placed : LineUnit → List LineUnit → Type 0
  Placed unit units = (unit ≡ space_unit) ⊎ ((IsCharacter unit × NoWordNext units) ⊎ (IsWord unit × SpaceNext units))

  abbrev pub Stand : List LineUnit → Type 0
  Stand [] = Unit {0}
  Stand (unit ∷ units) = Placed unit units × Stand units

  last-placed : (unit : LineUnit) (units : List LineUnit) → Placed unit units → Placed unit []
  last-placed unit units (inl e) = inl e
  last-placed unit units (inr (inl is)) = inr (inl (is.0, tt))
  last-placed unit units (inr (inr is)) = inr (inr (is.0, tt))

  pub stand-front : (xs ys : List LineUnit) → Stand (xs ++ ys) → Stand xs
  stand-front [] ys stand = tt
  stand-front (x ∷ []) ys stand = (last-placed x ys stand.0, tt)
  stand-front (x ∷ y ∷ xs) ys stand = (stand.0, stand-front (y ∷ xs) ys stand.1)

  pub stand-behind : (xs ys : List LineUnit) → Stand (xs ++ ys) → Stand ys
  stand-behind [] ys stand = stand
  stand-behind (x ∷ xs) ys stand = stand-behind xs ys stand.1

  -- ---- those of a line do

  no-word : (units : List LineUnit) → SpaceNext units → NoWordNext units
  no-word [] next = tt
  no-word (unit ∷ units) next = inl next

  characters-stand : (cs : List ℕ) (rest : List LineUnit) → NoWordNext rest → Stand rest → Stand (map character_unit cs ++ rest) × NoWordNext (map character_unit cs ++ rest)
  characters-stand [] rest next stand = (stand, next)
  characters-stand (c ∷ cs) rest next stand =
      let others = characters-stand cs rest next stand in
      ((inr (inl ((c, refl), others.1)), others.0), inr (c, refl))

  word-stand : (word : List ℕ) (rest : List LineUnit) → SpaceNext rest → Stand rest → Stand (word_units width word ++ rest)
  word-stand [] rest next stand = stand
  word-stand (c ∷ cs) rest next stand = by (nat_le (measure (c ∷ cs)) width) refl
    where
      by : (b : Bool) → nat_le (measure (c ∷ cs)) width ≡ b → Stand ((cond b (record { text = c ∷ cs; cost = measure (c ∷ cs) } ∷ []) (map character_unit (c ∷ cs))) ++ rest)
      by true e = let fits : measure (c ∷ cs) ≤ width = grind (arith, nat_tests, e) in (inr (inr ((refl, fits), next)), stand)
      by false e = (characters-stand (c ∷ cs) rest (no-word rest next) stand).0

  behind-stand : (parts : List (List ℕ)) → Stand (flat_map (λ part. (space_unit ∷ []) ++ word_units width part) parts) × SpaceNext (flat_map (λ part. (space_unit ∷ []) ++ word_units width part) parts)
  behind-stand [] = (tt, tt)
  behind-stand (part ∷ parts) =
      let others = flat_map (λ (word : List ℕ). (space_unit ∷ []) ++ word_units width word) parts in
      let rest = behind-stand parts in
      ((inl refl, word-stand part others rest.1 rest.0), refl)

  join-stand : (parts : List (List ℕ)) → Stand (join_by (word_units width) (space_unit ∷ []) parts)
  join-stand [] = tt
  join-stand (part ∷ parts) =
      let rest = behind-stand parts in
      word-stand part (flat_map (λ (word : List ℕ). (space_unit ∷ []) ++ word_units width word) parts) rest.1 rest.0

  pub units-stand : (keep_words : Bool) (cs : List ℕ) → Stand (line_units width keep_words cs)
  units-stand true cs = join-stand (slice_split is_space cs)
  units-stand false cs = subst Stand (append-nil (map character_unit cs)) (characters-stand cs [] tt tt).0

  -- ---- what they measure

  abbrev reading : List LineUnit → Reading
  reading units = read_before false (texts units) (0, plain)

  abbrev IsRead : List LineUnit → Type 0
  IsRead units = ((reading units).0 ≤ run_cost units) × (NoWordNext units → Bounded (reading units) (run_cost units))

  state-plain : (units : List LineUnit) → SpaceNext units → (reading units).1 ≡ plain
  state-plain [] next = refl
  state-plain (unit ∷ units) next = subst (λ (u : LineUnit). (reading (u ∷ units)).1 ≡ plain) (sym next) (ap (λ r. r.1) (space-resets (reading units)))

  cost-cons : (unit : LineUnit) (units : List LineUnit) → run_cost (unit ∷ units) ≡ unit.cost + run_cost units
  cost-cons unit units = sum_by-cons (λ (u : LineUnit). u.cost) unit units

  all-read : (units : List LineUnit) → Bounded (reading units) (run_cost units) → IsRead units
  all-read units bounded = (bounded-total (reading units) (run_cost units) bounded, λ _. bounded)

  space-read : (unit : LineUnit) (units : List LineUnit) → unit ≡ space_unit → (reading units).0 ≤ run_cost units → Bounded (reading (unit ∷ units)) (run_cost (unit ∷ units))
  space-read unit units is least =
      subst (λ (u : LineUnit). Bounded (reading (u ∷ units)) (run_cost (u ∷ units))) (sym is)
      (subst (λ (r : Reading). Bounded r (run_cost (space_unit ∷ units))) (sym (space-resets (reading units)))
      (bounded-plain ((reading units).0 + 1) (run_cost (space_unit ∷ units)) (omega (arith, least, cost-cons space_unit units))))

  character-read : (unit : LineUnit) (units : List LineUnit) → IsCharacter unit → Bounded (reading units) (run_cost units) → Bounded (reading (unit ∷ units)) (run_cost (unit ∷ units))
  character-read unit units is bounded =
      let sum : run_cost units + cost is.0 ≡ run_cost (character_unit is.0 ∷ units) = omega (arith, cost-cons (character_unit is.0) units) in
      subst (λ (u : LineUnit). Bounded (reading (u ∷ units)) (run_cost (u ∷ units))) (sym is.1)
      (subst (λ n. Bounded (step false is.0 (reading units)) n) sum (bounded-step is.0 (reading units) (run_cost units) bounded))

  word-read : (unit : LineUnit) (units : List LineUnit) → IsWord unit → SpaceNext units → (reading units).0 ≤ run_cost units → IsRead (unit ∷ units)
  word-read unit units word next least =
      let plain-here : reading units ≡ ((reading units).0, plain) = ap (λ (s : State). ((reading units).0, s)) (state-plain units next) in
      let parted : reading (unit ∷ units) ≡ read_before false unit.text ((reading units).0, plain) = read-append unit.text (texts units) (0, plain) ∙ ap (read_before false unit.text) plain-here in
      let taken : (reading (unit ∷ units)).0 ≡ (reading units).0 + measure unit.text = ap (λ r. r.0) parted ∙ read-more unit.text (reading units).0 in
      let bounded : Bounded (reading units) (run_cost units) = subst (λ (r : Reading). Bounded r (run_cost units)) (sym plain-here) (bounded-plain (reading units).0 (run_cost units) least) in
      (omega (arith, taken, least, word.0, cost-cons unit units), by bounded)
    where
      by : Bounded (reading units) (run_cost units) → NoWordNext (unit ∷ units) → Bounded (reading (unit ∷ units)) (run_cost (unit ∷ units))
      by bounded (inl is) = space-read unit units is least
      by bounded (inr is) = character-read unit units is bounded

  units-read : (units : List LineUnit) → Stand units → IsRead units
  units-read [] stand = (omega arith, λ _. bounded-plain 0 0 (omega arith))
  units-read (unit ∷ units) stand = by stand.0 (units-read units stand.1)
    where
      by : Placed unit units → IsRead units → IsRead (unit ∷ units)
      by (inl is) rest = all-read (unit ∷ units) (space-read unit units is rest.0)
      by (inr (inl is)) rest = all-read (unit ∷ units) (character-read unit units is.0 (rest.1 is.1))
      by (inr (inr is)) rest = word-read unit units is.0 is.1 rest.0

  pub units-measure : (units : List LineUnit) → Stand units → measure (texts units) ≤ run_cost units
  unfolding str_width
  units-measure units stand = (units-read units stand).0

  -- ---- nothing comes after a unit that costs more than the width

  pub nothing-behind : 0 < width → (wide : LineUnit) (behind : List LineUnit) → width < wide.cost → run_cost behind ≡ 0 → Stand (wide ∷ behind) → behind ≡ []
  nothing-behind some wide [] more none stand = refl
  nothing-behind some wide (unit ∷ units) more none stand = by stand.0
    where
      costs : (unit ≡ space_unit) ⊎ IsCharacter unit → 0 < unit.cost
      costs (inl is) = subst (λ (u : LineUnit). 0 < u.cost) (sym is) (omega arith)
      costs (inr is) = subst (λ (u : LineUnit). 0 < u.cost) (sym is.1) (omega arith)

      by : Placed wide (unit ∷ units) → unit ∷ units ≡ []
      by (inl is) = let one : wide.cost ≡ 1 = ap (λ (u : LineUnit). u.cost) is in absurd (omega (arith, one, more, some))
      by (inr (inl is)) = absurd (omega (arith, costs is.1, none, cost-cons unit units))
      by (inr (inr is)) = absurd (omega (arith, is.0.1, more))
