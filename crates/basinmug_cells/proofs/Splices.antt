-- Items in place of others between two rows: none where rows are removed, and those of a row that comes.
use Rattle.std.proofs.Common.{◌≡◌, ◌∙◌, ℕ, ◌+◌, ◌-◌, ◌≤◌, List, [], ◌∷◌, ◌++◌, ap, ap₂, arith, drop, length, map, sym, subst, take}
use Rattle.std.specs.Prelude.{slice_range}
use Rattle.std.proofs.lemmas.List.{append-nil, append_assoc, drop-drop, drop_at, length-append, length-drop, length-take}
use lib.Seq.{drop-append-add, take-append_seam}
use Rattle.basinmug_cells.specs.Ends.{Ascend, rows_by, start_at}
use Rattle.basinmug_cells.proofs.Ends.{ascend-cons, rows-drop, start-up}
use Rattle.basinmug_cells.proofs.Moves.{ascend-append, ascend-drop, ascend-moved, ascend-take, rows-append, rows-first, rows-moved, start-append, start-drop, start-moved, start-take}

module _ {X : Type 0} (items mid : List X) (ends : List ℕ) (row to : ℕ) (f : ℕ → ℕ) (asc : Ascend 0 ends (length items)) (up : row ≤ to) (there : to ≤ length ends)
    (at : (k : ℕ) → start_at 0 ends to ≤ k → f k ≡ start_at 0 ends row + length mid + (k - start_at 0 ends to)) where
  abbrev from : ℕ
  from = start_at 0 ends row

  abbrev end : ℕ
  end = start_at 0 ends to

  abbrev pub spliced : List X
  spliced = take from items ++ mid ++ drop end items

  first-long : length (take from items) ≡ from
  first-long = omega (arith, length-take from items, asc.within row (omega (arith, up, there)))

  from-end : from ≤ end
  from-end = start-up 0 ends (length items) row to asc up there

  end-fits : end ≤ length items
  end-fits = asc.within to there

  behind : (k : ℕ) → end ≤ k → drop (f k) spliced ≡ drop k items
  behind k past =
      let place : f k ≡ length (take from items ++ mid) + (k - end) = omega (arith, at k past, length-append (take from items) mid, first-long) in
      let all : end + (k - end) ≡ k = omega (arith, past) in
      ap (λ n. drop n spliced) place ∙ drop-append-add (take from items ++ mid) (drop end items) (k - end) ∙ drop-drop (k - end) end items ∙ ap (λ n. drop n items) all

  same-len : (s e : ℕ) → end ≤ s → s ≤ e → f e - f s ≡ e - s
  same-len s e past more = omega (arith, at s past, at e (omega (arith, past, more)), past, more)

  pub rows-behind : rows_by (f end) (map f (drop to ends)) spliced ≡ drop to (rows_by 0 ends items)
  rows-behind = rows-moved f end items spliced same-len behind end (drop to ends) (length items) (omega arith) (ascend-drop 0 ends (length items) to asc there) ∙ sym (rows-drop 0 ends items to there)

  pub rows-before : rows_by 0 (take row ends) spliced ≡ take row (rows_by 0 ends items)
  rows-before =
      ap (rows_by 0 (take row ends)) (append_assoc (take from items) mid (drop end items))
      ∙ rows-first 0 ends (length items) items (mid ++ drop end items) row asc (omega (arith, up, there)) (omega arith)

  -- what is behind all rows
  pub rest-behind : (last : ℕ) → last ≡ f (start_at 0 ends (length ends)) → drop last spliced ≡ drop (start_at 0 ends (length ends)) items
  rest-behind last is = ap (λ n. drop n spliced) is ∙ behind (start_at 0 ends (length ends)) (start-up 0 ends (length items) to (length ends) asc there (omega arith))

  pub last-behind : start_at (f end) (map f (drop to ends)) (length (map f (drop to ends))) ≡ f (start_at 0 ends (length ends))
  last-behind = start-moved f end (drop to ends) ∙ ap f (start-drop 0 ends to there)

  pub ascend-before : Ascend 0 (take row ends) from
  ascend-before = ascend-take 0 ends (length items) row asc (omega (arith, up, there))

  pub long : length spliced ≡ from + length mid + (length items - end)
  long = omega (arith, length-append (take from items ++ mid) (drop end items), length-append (take from items) mid, first-long, length-drop end items)

  pub ascend-behind : ((s e : ℕ) → s ≤ e → f s ≤ f e) → Ascend (f end) (map f (drop to ends)) (length spliced)
  ascend-behind mono =
      let count : f (length items) ≡ length spliced = omega (arith, at (length items) end-fits, long) in
      subst (Ascend (f end) (map f (drop to ends))) count (ascend-moved f end (drop to ends) (length items) mono (ascend-drop 0 ends (length items) to asc there))

-- rows that are removed
module _ {X : Type 0} (items : List X) (ends : List ℕ) (row to : ℕ) (f : ℕ → ℕ) (asc : Ascend 0 ends (length items)) (up : row ≤ to) (there : to ≤ length ends)
    (at : (k : ℕ) → start_at 0 ends to ≤ k → f k ≡ start_at 0 ends row + (k - start_at 0 ends to)) (mono : (s e : ℕ) → s ≤ e → f s ≤ f e) where
  abbrev none : List X
  none = []

  abbrev pub fewer : List X
  fewer = take (start_at 0 ends row) items ++ drop (start_at 0 ends to) items

  abbrev pub fewer_ends : List ℕ
  fewer_ends = take row ends ++ map f (drop to ends)

  whole : spliced items none ends row to f asc up there (λ k past. omega (arith, at k past)) ≡ fewer
  whole = ap (λ (front : List X). front ++ drop (start_at 0 ends to) items) (append-nil (take (start_at 0 ends row) items))

  seam : start_at 0 (take row ends) (length (take row ends)) ≡ f (start_at 0 ends to)
  seam = start-take 0 ends row (omega (arith, up, there)) ∙ sym (omega (arith, at (start_at 0 ends to) (omega arith)))

  pub rows-fewer : rows_by 0 fewer_ends fewer ≡ take row (rows_by 0 ends items) ++ drop to (rows_by 0 ends items)
  rows-fewer =
      rows-append 0 (take row ends) (map f (drop to ends)) fewer
      ∙ ap₂ (λ (a b : List (List X)). a ++ b)
      (ap (rows_by 0 (take row ends)) (sym whole) ∙ rows-before items none ends row to f asc up there (λ k past. omega (arith, at k past)))
      (ap (λ n. rows_by n (map f (drop to ends)) fewer) seam
      ∙ ap (rows_by (f (start_at 0 ends to)) (map f (drop to ends))) (sym whole)
      ∙ rows-behind items none ends row to f asc up there (λ k past. omega (arith, at k past)))

  pub rest-fewer : drop (start_at 0 fewer_ends (length fewer_ends)) fewer ≡ drop (start_at 0 ends (length ends)) items
  rest-fewer =
      ap (drop (start_at 0 fewer_ends (length fewer_ends))) (sym whole)
      ∙ rest-behind items none ends row to f asc up there (λ k past. omega (arith, at k past)) (start_at 0 fewer_ends (length fewer_ends))
      (start-append 0 (take row ends) (map f (drop to ends))
      ∙ ap (λ n. start_at n (map f (drop to ends)) (length (map f (drop to ends)))) seam
      ∙ last-behind items none ends row to f asc up there (λ k past. omega (arith, at k past)))

  pub ascend-fewer : Ascend 0 fewer_ends (length fewer)
  ascend-fewer =
      ascend-append 0 (take row ends) (map f (drop to ends)) (length fewer) (start_at 0 ends row)
      (ascend-before items none ends row to f asc up there (λ k past. omega (arith, at k past)))
      (subst (λ n. Ascend n (map f (drop to ends)) (length fewer)) (sym seam)
      (subst (λ (of : List X). Ascend (f (start_at 0 ends to)) (map f (drop to ends)) (length of)) whole
      (ascend-behind items none ends row to f asc up there (λ k past. omega (arith, at k past)) mono)))

-- a row that comes
module _ {X : Type 0} (items mid : List X) (ends : List ℕ) (row : ℕ) (f : ℕ → ℕ) (asc : Ascend 0 ends (length items)) (there : row ≤ length ends)
    (at : (k : ℕ) → start_at 0 ends row ≤ k → f k ≡ k + length mid) (mono : (s e : ℕ) → s ≤ e → f s ≤ f e) where
  abbrev place : ℕ
  place = start_at 0 ends row

  moves : (k : ℕ) → start_at 0 ends row ≤ k → f k ≡ start_at 0 ends row + length mid + (k - start_at 0 ends row)
  moves k past = omega (arith, at k past, past)

  same : row ≤ row
  same = omega arith

  abbrev pub more : List X
  more = take (start_at 0 ends row) items ++ mid ++ drop (start_at 0 ends row) items

  abbrev pub more_ends : List ℕ
  more_ends = take row ends ++ (start_at 0 ends row + length mid) ∷ map f (drop row ends)

  front : length (take place items) ≡ place
  front = omega (arith, length-take place items, asc.within row there)

  new-row : slice_range more place (place + length mid) ≡ mid
  new-row =
      let size : place + length mid - place ≡ length mid = omega arith in
      ap (λ n. take n (drop place more)) size
      ∙ ap (λ of. take (length mid) (drop place of)) (append_assoc (take place items) mid (drop place items))
      ∙ ap (take (length mid)) (drop_at (take place items) (mid ++ drop place items) place front)
      ∙ take-append_seam mid (drop place items)

  turn : f place ≡ place + length mid
  turn = at place (omega arith)

  behind-row : rows_by (place + length mid) (map f (drop row ends)) more ≡ drop row (rows_by 0 ends items)
  behind-row = ap (λ n. rows_by n (map f (drop row ends)) more) (sym turn) ∙ rows-behind items mid ends row row f asc same there moves

  pub rows-more : rows_by 0 more_ends more ≡ take row (rows_by 0 ends items) ++ mid ∷ drop row (rows_by 0 ends items)
  rows-more =
      rows-append 0 (take row ends) ((place + length mid) ∷ map f (drop row ends)) more
      ∙ ap₂ (λ (a b : List (List X)). a ++ b) (rows-before items mid ends row row f asc same there moves)
      (ap (λ n. rows_by n ((place + length mid) ∷ map f (drop row ends)) more) (start-take 0 ends row there)
      ∙ ap₂ (λ (a : List X) (b : List (List X)). a ∷ b) new-row behind-row)

  pub rest-more : drop (start_at 0 more_ends (length more_ends)) more ≡ drop (start_at 0 ends (length ends)) items
  rest-more =
      rest-behind items mid ends row row f asc same there moves (start_at 0 more_ends (length more_ends))
      (start-append 0 (take row ends) ((place + length mid) ∷ map f (drop row ends))
      ∙ ap (λ n. start_at n (map f (drop row ends)) (length (map f (drop row ends)))) (sym turn)
      ∙ last-behind items mid ends row row f asc same there moves)

  pub ascend-more-row : Ascend 0 more_ends (length more)
  ascend-more-row =
      ascend-append 0 (take row ends) ((place + length mid) ∷ map f (drop row ends)) (length more) place
      (ascend-before items mid ends row row f asc same there moves)
      (subst (λ n. Ascend n ((place + length mid) ∷ map f (drop row ends)) (length more)) (sym (start-take 0 ends row there))
      (ascend-cons place (place + length mid) (map f (drop row ends)) (length more) (omega arith)
      (subst (λ n. Ascend n (map f (drop row ends)) (length more)) turn (ascend-behind items mid ends row row f asc same there moves mono))))
