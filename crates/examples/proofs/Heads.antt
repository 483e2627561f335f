-- Heads that are known one by one are known as a list.
use Rattle.std.proofs.Common.{◌≡◌, ◌<◌, ◌∙◌, ℕ, zero, suc, ◌∷◌, List, [], Result, Ok, Err, String, ap, get_or, length, map, refl, sym, arith}
use Rattle.std.specs.Prelude.{IfOk, string_bytes}
use Rattle.std.specs.List.{range_with_len}
use Rattle.std.proofs.lemmas.List.{same_lists}
use Rattle.std.proofs.lemmas.List.FromFn.{get_or-map-range_with_len, length-map-range_with_len}
use Rattle.std.specs.declared.alloc.Global.{Global}
use Rattle.grid_config_values.specs.declared.fault.Fault.{Fault}
use Rattle.examples.specs.Headed.{day_of}
use Rattle.tabled_expanded.specs.Expanded.{Expanded, expanded_text}

abbrev pub days : ℕ → List (List ℕ)
days count = map day_of (range_with_len 0 count)

get_or-same : {X : Type 0} (xs : List X) (k : ℕ) (d e : X) → k < length xs → get_or xs k d ≡ get_or xs k e
get_or-same [] k d e inside = absurd (omega (arith, inside))
get_or-same (x ∷ xs) zero d e inside = refl
get_or-same (x ∷ xs) (suc k) d e inside = get_or-same xs k d e (omega (arith, inside))

-- what may be given for the head of a record
module _ (gives : ℕ → String Global → Type 0) where
  abbrev AreDays : Type 0
  AreDays = (i : ℕ) (text : String Global) → gives i text → string_bytes text ≡ day_of i

  abbrev AreGiven : List (List ℕ) → Type 0
  AreGiven heads = (i : ℕ) → i < length heads → (text : String Global) × gives i text × (string_bytes text ≡ get_or heads i [])

  heads-are : AreDays → (heads : List (List ℕ)) → AreGiven heads → heads ≡ days (length heads)
  heads-are each heads are =
      same_lists heads (days (length heads)) (sym (length-map-range_with_len day_of 0 (length heads)))
      (λ k d inside.
      let head = are k inside in
      get_or-same heads k d [] inside ∙ sym head.2 ∙ each k head.0 head.1 ∙ sym (get_or-map-range_with_len day_of 0 (length heads) k k d inside (omega arith)))

  pub headed-by : (table : Expanded) (result : Result (String Global) Fault)
      → IfOk result (λ text. (heads : List (List ℕ)) × AreGiven heads × (length heads ≡ length table.records) × (string_bytes text ≡ expanded_text table heads))
      → AreDays → IfOk result (λ text. string_bytes text ≡ expanded_text table (days (length table.records)))
  headed-by table (Ok text) told each =
      told.3 ∙ ap (expanded_text table) (heads-are each told.0 told.1 ∙ ap days told.2)
  headed-by table (Err fault) told each = tt
