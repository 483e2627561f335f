-- Tables that can be worked out by hand, and what a setting makes of them.
use Rattle.std.specs.Prelude.{◌≡◌, ◌==◌, ℕ, Bool, List, [], ◌∷◌, None, Ok, codes, false, true}
use Rattle.grid_config_values.specs.declared.alignment.AlignmentHorizontal.TheVariants.{Right}
use Rattle.grid_config_values.specs.declared.sides.Indent.{Indent}
use Rattle.grid_config_values.specs.declared.sides.Sides.{Sides}
use Rattle.papergrid.specs.LineKind.{LineKind}
use Rattle.papergrid_print.specs.declared.choice.LineKind.TheVariants.{Boundary, InMargin, Row}
use Rattle.tables_laws.specs.Shown.ShownTables.{sized}
use Rattle.tabled.specs.Tables.{new_look, new_state}
use Rattle.tabled_list.specs.Settings.{setting_step}
use Rattle.tabled_list.specs.Stripping.Printing.{printed}
use Rattle.tabled_list.specs.declared.setting.Setting.{Setting}
use Rattle.tabled_steps.specs.States.{Outcome, State}

-- ---- tables that no option has changed yet

-- of one text
abbrev pub of_one : List ℕ → State
of_one text = new_state ((text ∷ []) ∷ [])

-- of two texts, side by side, and one below the other
abbrev pub beside : List ℕ → List ℕ → State
beside left right = new_state ((left ∷ right ∷ []) ∷ [])

abbrev pub below : List ℕ → List ℕ → State
below upper lower = new_state ((upper ∷ []) ∷ (lower ∷ []) ∷ [])

-- of two rows of two letters
abbrev pub square : State
square = new_state ((codes "a" ∷ codes "b" ∷ []) ∷ (codes "c" ∷ codes "d" ∷ []) ∷ [])

-- ---- texts of one column and of two, in two rows, in columns of these widths

abbrev pub wide_texts : List (List (List ℕ))
wide_texts = (codes "a" ∷ codes "bc" ∷ []) ∷ (codes "de" ∷ codes "f" ∷ []) ∷ []

abbrev pub in_widths : List ℕ → State
in_widths widths = sized new_look wide_texts (λ _. None) widths (1 ∷ 1 ∷ [])

-- ---- tables that are changed

-- `<` at the left, `>` at the right, `^` above and `_` below, so many of each
abbrev pub marked_sides : (left right top bottom : ℕ) → Sides Indent
marked_sides left right top bottom = record {
  left = record { size = left; fill = 0x3c };
  right = record { size = right; fill = 0x3e };
  top = record { size = top; fill = 0x5e };
  bottom = record { size = bottom; fill = 0x5f };
}

-- the texts are at the right
abbrev pub at_the_right : State → State
at_the_right s = record s { look = record s.look { alignment_horizontal = λ _. Right } }

-- with this margin
abbrev pub in_margin : Sides Indent → State → State
in_margin margin s = record s { look = record s.look { margin = margin } }

-- ---- lines that are chosen

abbrev pub is_row : LineKind → Bool
is_row (Row i) = true
is_row (Boundary i) = false
is_row InMargin = false

abbrev pub is_boundary : ℕ → LineKind → Bool
is_boundary n (Row i) = false
is_boundary n (Boundary i) = i == n
is_boundary n InMargin = false

abbrev pub is_in_margin : LineKind → Bool
is_in_margin (Row i) = false
is_in_margin (Boundary i) = false
is_in_margin InMargin = true

-- ---- settings

-- the setting is accepted, and the table then prints this
abbrev pub Gives : Setting → State → List ℕ → Type 0
Gives setting s text = (outcome : Outcome) → setting_step setting s outcome → (left : State) × (outcome ≡ Ok left) × (printed left ≡ text)
