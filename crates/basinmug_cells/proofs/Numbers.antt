-- Numbers of which those from one on are turned into others.
use Rattle.std.proofs.Common.{◌≡◌, ◌∙◌, ℕ, ◌+◌, ◌-◌, ◌<◌, ◌≤◌, List, ◌++◌, ap, ap₂, arith, drop, get_or, inl, inr, length, map, sym, take}
use Rattle.std.proofs.lemmas.Bool.{cases_lt}
use Rattle.std.proofs.lemmas.List.{drop_at, ext_get_or, get_or-append_right, get_or-drop, get_or-map, get_or-take, get_or_append_left, length-append, length-drop, length-map, length-take, take_at}

module _ (f : ℕ → ℕ) (old now : List ℕ) (from : ℕ) (fits : from ≤ length old) (long : length now ≡ length old)
    (low : (k : ℕ) → k < from → get_or now k 0 ≡ get_or old k 0) (high : (k : ℕ) → from ≤ k → k < length old → get_or now k 0 ≡ f (get_or old k 0)) where
  abbrev turned : List ℕ
  turned = take from old ++ map f (drop from old)

  front : length (take from old) ≡ from
  front = omega (arith, length-take from old, fits)

  turned-long : length turned ≡ length old
  turned-long = omega (arith, length-append (take from old) (map f (drop from old)), front, length-map (drop from old) f, length-drop from old, fits)

  each : (k : ℕ) → k < length now → get_or now k 0 ≡ get_or turned k 0
  each k below =
      elim (cases_lt k from) [
        | inl before ↦
            low k before ∙ sym (get_or_append_left (take from old) (map f (drop from old)) 0 k (omega (arith, before, front)) ∙ get_or-take from old k 0 before)
        | inr behind ↦
            let whole : from + (k - from) ≡ k = omega (arith, behind) in
            high k behind (omega (arith, below, long))
            ∙ ap (λ n. f (get_or old n 0)) (sym whole)
            ∙ ap f (sym (get_or-drop from old (k - from) 0))
            ∙ sym (get_or-map f (drop from old) (k - from) 0 0 (omega (arith, length-drop from old, below, long, behind)))
            ∙ sym (get_or-append_right (take from old) (map f (drop from old)) from k 0 front behind)
      ]

  pub turned-are : now ≡ turned
  turned-are = ext_get_or 0 now turned (long ∙ sym turned-long) each

-- the ends where some are gone, and those behind them are turned
pub lowered : (f : ℕ → ℕ) (ends less now : List ℕ) (row to : ℕ) → row ≤ length ends → less ≡ take row ends ++ drop to ends → now ≡ take row less ++ map f (drop row less) → now ≡ take row ends ++ map f (drop to ends)
lowered f ends less now row to fits gone is =
    let front : length (take row ends) ≡ row = omega (arith, length-take row ends, fits) in
    is
    ∙ ap (λ (of : List ℕ). take row of ++ map f (drop row of)) gone
    ∙ ap₂ (λ (a b : List ℕ). a ++ map f b) (take_at (take row ends) (drop to ends) row front) (drop_at (take row ends) (drop to ends) row front)
