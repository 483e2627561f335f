-- Tables that become narrower as a whole.
use Rattle.std.proofs.Common.{◌≡◌, ℕ, ◌-◌, ◌<◌, true, List, Option, Ok, length, nat_lt, ap, subst, arith}
use Rattle.std.proofs.lemmas.Bool.Decides.{nat_tests}
use Rattle.tabled_steps.specs.Outcomes.{all_sized}
use Rattle.tabled_steps.specs.States.{State, column_count}
use Rattle.tabled_width.specs.WholeTables.Rooms.{column_widths, empty_widths}
use Rattle.tabled_width.specs.WholeTables.Tables.{Narrows, table_sizes, sizes_with, keeping, narrowed_state}

is_less : (a b : ℕ) → a < b → nat_lt a b ≡ true
is_less a b less = grind (arith, nat_tests)

-- what is left of the widths, where a table takes more than it may
module _ {P : Type 0} (shrinks : P → List ℕ → ℕ → List ℕ → P → List ℕ → Type 0) (priority : P) (change : ℕ → List ℕ → Option (List ℕ)) (s : State)
    (columns : ℕ) (counted : columns ≡ column_count s.rows) (asked : ℕ) (widths heights : List ℕ) (whole : ℕ) (is : table_sizes s.look columns s.rows s.sizes ≡ Ok (sizes_with widths heights whole)) where
  pub narrows : (more : asked < whole) (least left : List ℕ) → all_sized (empty_widths s.look columns (length s.rows)) ≡ Ok least → (after : P) → shrinks priority least (whole - asked) (column_widths columns widths) after left →
      (new : State) → narrowed_state change least left (keeping (sizes_with widths heights whole) s) ≡ new → Narrows shrinks priority change asked s (Ok new)
  narrows more least left leasts after shrunk new same =
      let here = subst (λ n. table_sizes s.look n s.rows s.sizes ≡ Ok (sizes_with widths heights whole)) counted is in
      let bounds = subst (λ n. all_sized (empty_widths s.look n (length s.rows)) ≡ Ok least) counted leasts in
      let taken = subst (λ n. shrinks priority least (whole - asked) (column_widths n widths) after left) counted shrunk in
      rw here (rw (is_less asked whole more) (rw bounds (left, (after, taken), ap (λ (s : State). Ok s) same)))
