-- Columns that fit in a width leave each of them one column of text, or what it needs where that is less.
use Rattle.std.proofs.Common.{◌≡◌, ◌==◌, ◌&&◌, ◌≤◌, ◌<◌, ◌+◌, ◌-◌, ◌*◌, ◌⊎◌, cond, inl, inr, nat_le, nat_lt, ℕ, zero, suc, Bool, true, false, List, [], ◌∷◌, ◌++◌, drop, length, map, sum, take, refl, ap, sym, ◌∙◌, arith, if◌then◌else◌}
use Rattle.std.specs.List.{count_by}
use Rattle.std.proofs.lemmas.Bool.{and_parts}
use Rattle.std.proofs.lemmas.Bool.Decides.{nat_tests}
use Rattle.std.proofs.lemmas.List.{length-drop, length-map, length-take, map-append, take-append-drop}
use Rattle.std.proofs.lemmas.List.Sums.{count_by-le-length, sum_by-append, sum_by-cons}
use Rattle.papergrid_picture.proofs.Shown.{drop-map, take-map}
use Rattle.basinmug_columns.specs.Shown.{columns_that_fit, cost_of, first_alone, first_count, fit_count, greatest, has_room_beside, kept, last_count, line_width, mark_cost, shown_width, so_many}
use Rattle.basinmug_columns.specs.declared.rooms.Need.{Need}
use Rattle.basinmug_columns.specs.declared.shown.ShownColumn.{ShownColumn}
use Rattle.basinmug_columns.specs.declared.shown.ShownColumn.TheVariants.{LeftOut, Number}
use Rattle.basinmug_run.specs.Columns.{is_of_input}

-- ---- the greatest number of which a test holds

greatest-below : (test : ℕ → Bool) (most : ℕ) → greatest test most ≤ most
greatest-below test zero = omega arith
greatest-below test (suc most) = by (test (suc most)) (greatest-below test most)
  where
    by : (b : Bool) → greatest test most ≤ most → (if b then suc most else greatest test most) ≤ suc most
    by true rest = omega arith
    by false rest = omega (arith, rest)

greatest-passes : (test : ℕ → Bool) (most : ℕ) → 0 < greatest test most → test (greatest test most) ≡ true
greatest-passes test zero = λ some. absurd (omega (arith, some))
greatest-passes test (suc most) = by (test (suc most)) refl (greatest-passes test most)
  where
    by : (b : Bool) → test (suc most) ≡ b → (0 < greatest test most → test (greatest test most) ≡ true) → 0 < (if b then suc most else greatest test most) → test (if b then suc most else greatest test most) ≡ true
    by true e rest some = e
    by false e rest some = rest some

module _ (needs : List Need) (lined : Bool) (width : ℕ) where
  abbrev line : ℕ
  line = line_width lined

  abbrev cost : ShownColumn → ℕ
  cost column = cost_of needs lined column

  -- all of these columns and their boundaries fit, with what they need or with one column of text each
  abbrev pub Fit : List ShownColumn → Type 0
  Fit columns = (line + sum (map cost columns) ≤ width) ⊎ (line + length columns * (3 + line) ≤ width)

  line-most : line ≤ 1
  line-most = by lined
    where
      by : (b : Bool) → line_width b ≤ 1
      by true = omega arith
      by false = omega arith

  module _ (enough : 5 ≤ width) where
    -- ---- the first alone

    one-fits : (column : ShownColumn) → Fit (column ∷ [])
    one-fits column = inr (omega (arith, enough, line-most))

    alone-fits : (columns : List ShownColumn) → Fit (first_alone (has_room_beside lined width) columns)
    alone-fits [] = by (has_room_beside lined width)
      where
        by : (b : Bool) → Fit (take 1 [] ++ (if b && nat_lt 1 0 then LeftOut ∷ [] else []))
        by true = inr (omega (arith, enough, line-most))
        by false = inr (omega (arith, enough, line-most))
    alone-fits (column ∷ columns) = by (has_room_beside lined width && nat_lt 1 (length (column ∷ columns))) refl
      where
        by : (b : Bool) → (has_room_beside lined width && nat_lt 1 (length (column ∷ columns))) ≡ b → Fit (column ∷ (if b then LeftOut ∷ [] else []))
        by true e =
            let beside : has_room_beside lined width ≡ true = (and_parts (has_room_beside lined width) (nat_lt 1 (length (column ∷ columns))) e).0 in
            let fits : line + mark_cost lined + mark_cost lined ≤ width = grind (arith, nat_tests, beside) in
            inr (omega (arith, fits))
        by false e = one-fits column

    -- ---- as many as fit

    module _ (columns : List ShownColumn) (shown : ℕ) where
      abbrev costs : List ℕ
      costs = map cost columns

      costs-many : length costs ≡ length columns
      costs-many = length-map columns cost

      sums : (n m : ℕ) → sum (take n costs ++ drop m costs) ≡ sum (map cost (take n columns)) + sum (map cost (drop m columns))
      sums n m =
          sum_by-append (λ x. x) (take n costs) (drop m costs)
          ∙ ap (λ (xs : List ℕ). sum xs + sum (drop m costs)) (take-map cost n columns)
          ∙ ap (λ (xs : List ℕ). sum (map cost (take n columns)) + sum xs) (drop-map cost m columns)

      kept-sum : sum (kept shown costs) ≡ sum (map cost (take (first_count shown) columns)) + sum (map cost (drop (length columns - last_count shown) columns))
      kept-sum = sums (first_count shown) (length costs - last_count shown) ∙ ap (λ (m : ℕ). sum (map cost (take (first_count shown) columns)) + sum (map cost (drop (m - last_count shown) columns))) costs-many

      marked : sum (map cost (take (first_count shown) columns ++ LeftOut ∷ drop (length columns - last_count shown) columns))
          ≡ sum (map cost (take (first_count shown) columns)) + (mark_cost lined + sum (map cost (drop (length columns - last_count shown) columns)))
      marked =
          let first = take (first_count shown) columns in
          let last = drop (length columns - last_count shown) columns in
          ap sum (map-append cost first (LeftOut ∷ last)) ∙ sum_by-append (λ x. x) (map cost first) (mark_cost lined ∷ map cost last)
          ∙ ap (λ (n : ℕ). sum (map cost first) + n) (sum_by-cons (λ x. x) (mark_cost lined) (map cost last))

      whole : shown ≡ length columns → sum (map cost (take (first_count shown) columns)) + sum (map cost (drop (length columns - last_count shown) columns)) ≡ sum costs
      whole all =
          let first = take (first_count shown) columns in
          let same : length columns - last_count shown ≡ first_count shown = omega (arith, all) in
          ap (λ (m : ℕ). sum (map cost first) + sum (map cost (drop m columns))) same
          ∙ sym (ap sum (map-append cost first (drop (first_count shown) columns)) ∙ sum_by-append (λ x. x) (map cost first) (map cost (drop (first_count shown) columns)))
          ∙ ap (λ (xs : List ShownColumn). sum (map cost xs)) (take-append-drop (first_count shown) columns)

      many-fit : shown ≤ length columns → shown_width line (mark_cost lined) costs shown ≤ width → Fit (so_many shown columns)
      many-fit below fits = by (nat_lt shown (length columns)) refl (nat_lt shown (length costs)) (ap (nat_lt shown) costs-many)
        where
          by : (b : Bool) → nat_lt shown (length columns) ≡ b → (c : Bool) → nat_lt shown (length costs) ≡ nat_lt shown (length columns)
              → Fit (if b then take (first_count shown) columns ++ LeftOut ∷ drop (length columns - last_count shown) columns else columns)
          by true e c same =
              let some : (if nat_lt shown (length costs) then mark_cost lined else 0) ≡ mark_cost lined = ap (λ (b : Bool). if b then mark_cost lined else 0) (same ∙ e) in
              inl (omega (arith, fits, some, kept-sum, marked))
          by false e c same =
              let all : shown ≡ length columns = grind (arith, nat_tests, e, below) in
              inl (omega (arith, fits, kept-sum, whole all))

    pub that-fit : (columns : List ShownColumn) → Fit (columns_that_fit needs lined width columns)
    that-fit columns = by (fit_count line (mark_cost lined) (map cost columns) width == 0) refl
      where
        shown : ℕ
        shown = fit_count line (mark_cost lined) (map cost columns) width

        test : ℕ → Bool
        test some = nat_le (shown_width line (mark_cost lined) (map cost columns) some) width

        by : (b : Bool) → (fit_count line (mark_cost lined) (map cost columns) width == 0) ≡ b
            → Fit (if b then first_alone (has_room_beside lined width) columns else so_many (fit_count line (mark_cost lined) (map cost columns) width) columns)
        by true e = alone-fits columns
        by false e =
            let some : 0 < shown = grind (arith, nat_tests, e) in
            let below : shown ≤ length (map cost columns) = greatest-below test (length (map cost columns)) in
            let passes : test shown ≡ true = greatest-passes test (length (map cost columns)) some in
            many-fit columns shown (omega (arith, below, length-map columns cost)) (grind (arith, nat_tests, passes))

    -- ---- where none is left out

    abbrev counted : ShownColumn → ℕ
    counted column = cond (is_of_input column) 1 0

    one-most : (column : ShownColumn) → counted column ≤ 1
    one-most (Number number) = omega arith
    one-most LeftOut = omega arith

    alone-few : (b : Bool) (column : ShownColumn) → count_by is_of_input (column ∷ (if b then LeftOut ∷ [] else [])) ≤ 1
    alone-few true column = omega (arith, one-most column, sum_by-cons counted column (LeftOut ∷ []), sum_by-cons counted LeftOut [])
    alone-few false column = omega (arith, one-most column, sum_by-cons counted column [])

    alone-all : (columns : List ShownColumn) → count_by is_of_input (first_alone (has_room_beside lined width) columns) ≡ length columns → first_alone (has_room_beside lined width) columns ≡ columns
    alone-all [] all = by (has_room_beside lined width)
      where
        by : (b : Bool) → take 1 [] ++ (if b && nat_lt 1 0 then LeftOut ∷ [] else []) ≡ []
        by true = refl
        by false = refl
    alone-all (column ∷ []) all = by (has_room_beside lined width)
      where
        by : (b : Bool) → column ∷ (if b && nat_lt 1 1 then LeftOut ∷ [] else []) ≡ column ∷ []
        by true = refl
        by false = refl
    alone-all (column ∷ next ∷ columns) all = absurd (omega (arith, all, alone-few (has_room_beside lined width && nat_lt 1 (length (column ∷ next ∷ columns))) column))

    many-all : (columns : List ShownColumn) (shown : ℕ) → count_by is_of_input (so_many shown columns) ≡ length columns → so_many shown columns ≡ columns
    many-all columns shown = by (nat_lt shown (length columns)) refl
      where
        first : List ShownColumn
        first = take (first_count shown) columns

        last : List ShownColumn
        last = drop (length columns - last_count shown) columns

        by : (b : Bool) → nat_lt shown (length columns) ≡ b → count_by is_of_input (if b then first ++ LeftOut ∷ last else columns) ≡ length columns → (if b then first ++ LeftOut ∷ last else columns) ≡ columns
        by true e all =
            let less : shown < length columns = grind (arith, nat_tests, e) in
            let both : count_by is_of_input (first ++ LeftOut ∷ last) ≡ count_by is_of_input first + count_by is_of_input (LeftOut ∷ last) = sum_by-append counted first (LeftOut ∷ last) in
            let mark : count_by is_of_input (LeftOut ∷ last) ≡ 0 + count_by is_of_input last = sum_by-cons counted LeftOut last in
            let few = length-take (first_count shown) columns in
            let others = length-drop (length columns - last_count shown) columns in
            absurd (omega (arith, less, both, mark, all, few, others, count_by-le-length is_of_input first, count_by-le-length is_of_input last))
        by false e all = refl

    -- where as many are shown as there are, they are all of them
    pub all-shown : (columns : List ShownColumn) → count_by is_of_input (columns_that_fit needs lined width columns) ≡ length columns → columns_that_fit needs lined width columns ≡ columns
    all-shown columns = by (fit_count line (mark_cost lined) (map cost columns) width == 0)
      where
        by : (b : Bool) → count_by is_of_input (if b then first_alone (has_room_beside lined width) columns else so_many (fit_count line (mark_cost lined) (map cost columns) width) columns) ≡ length columns
            → (if b then first_alone (has_room_beside lined width) columns else so_many (fit_count line (mark_cost lined) (map cost columns) width) columns) ≡ columns
        by true all = alone-all columns all
        by false all = many-all columns (fit_count line (mark_cost lined) (map cost columns) width) all
