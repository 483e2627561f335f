-- Forms with two numbers whose lists are all comparable: of one sum there is one list.
use Rattle.std.proofs.Common.{◌≡◌, ℕ, ◌≤◌, ◌<◌, List, map, sum, sym, ◌∙◌, ap, inl, inr}
use Rattle.std.specs.Prelude.{◌⊎◌}
use Rattle.std.specs.List.{range_with_len}
use Rattle.tabled_size_priority.specs.Shrinking.{IsOfForm}
use Rattle.tabled_size_priority.specs.Laws.Lists.{map-same}

-- of any two lists the one is nowhere above the other
abbrev pub IsChain : (ℕ → ℕ → ℕ → ℕ) → ℕ → Type 0
IsChain at n = (a c b d : ℕ) → ((i : ℕ) → i < n → at a c i ≤ at b d i) ⊎ ((i : ℕ) → i < n → at b d i ≤ at a c i)

pub one_of_form : (form : ℕ → ℕ → List ℕ) (at : ℕ → ℕ → ℕ → ℕ) (n : ℕ) → ((a c : ℕ) → form a c ≡ map (at a c) (range_with_len 0 n)) → (total : ℕ) → IsChain at n
    → (xs ys : List ℕ) → IsOfForm form total xs → IsOfForm form total ys → xs ≡ ys
one_of_form form at n formed total chain xs ys one two =
    let x_is : xs ≡ map (at one.number one.column) (range_with_len 0 n) = one.formed ∙ formed one.number one.column in
    let y_is : ys ≡ map (at two.number two.column) (range_with_len 0 n) = two.formed ∙ formed two.number two.column in
    let sums : sum (map (at one.number one.column) (range_with_len 0 n)) ≡ sum (map (at two.number two.column) (range_with_len 0 n)) = sym (ap sum x_is) ∙ one.sums ∙ sym two.sums ∙ ap sum y_is in
    elim (chain one.number one.column two.number two.column) [
      | inl below ↦ x_is ∙ map-same (at one.number one.column) (at two.number two.column) n below sums ∙ sym y_is
      | inr above ↦ x_is ∙ sym (map-same (at two.number two.column) (at one.number one.column) n above (sym sums)) ∙ sym y_is
    ]
