-- The one list that widths shrink to, as a function: the first list of the priority's form that has the sum which is left.
use Rattle.std.specs.Prelude.{ℕ, ◌+◌, ◌==◌, false, true, List, [], length, map, sum, unwrap_or}
use Rattle.std.specs.List.{find, flat_map, range_with_len}
use Rattle.tabled_size_priority.specs.Columns.{by_width, from_column, from_side}
use Rattle.tabled_size_priority.specs.Shrinking.{shrunk_in_order, shrunk_in_turns, shrunk_sum, shrunk_to_level}
use Rattle.tabled_size_priority.specs.declared.choice.Choice.{Choice}
use Rattle.tabled_size_priority.specs.declared.choice.Choice.TheVariants.{None, MinLeft, MinRight, MaxLeft, MaxRight, Left, Right}

-- the lists of a form by its two numbers, neither of which passes its bound
abbrev pub lists_of_form : (ℕ → ℕ → List ℕ) → ℕ → ℕ → List (List ℕ)
lists_of_form form most columns = flat_map (λ number. map (form number) (range_with_len 0 (columns + 1))) (range_with_len 0 (most + 1))

-- the first that has the sum
abbrev pub first_of_form : (ℕ → ℕ → List ℕ) → ℕ → ℕ → ℕ → List ℕ
first_of_form form most columns total = unwrap_or (find (λ sizes. sum sizes == total) (lists_of_form form most columns)) []

-- the forms of the priorities
abbrev pub form_of : Choice → List ℕ → List ℕ → ℕ → ℕ → List ℕ
form_of None least widths = shrunk_in_turns (from_column 0 (length widths)) least widths
form_of MinLeft least widths = shrunk_in_order (by_width false widths) least widths
form_of MinRight least widths = shrunk_in_order (by_width true widths) least widths
form_of MaxLeft least widths = shrunk_to_level (from_side false (length widths)) least widths
form_of MaxRight least widths = shrunk_to_level (from_side true (length widths)) least widths
form_of Left least widths = shrunk_in_order (from_side false (length widths)) least widths
form_of Right least widths = shrunk_in_order (from_side true (length widths)) least widths

-- widths shrunk by an amount, by a priority, not below the leasts
unfoldable pub shrunk_list : Choice → List ℕ → ℕ → List ℕ → List ℕ
shrunk_list priority least by widths =
    first_of_form (form_of priority least widths) (sum widths) (length widths) (shrunk_sum least widths by)
