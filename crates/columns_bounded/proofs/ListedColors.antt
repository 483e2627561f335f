-- The colours in a list that is text, and in one that is none.
use Rattle.std.proofs.Common.{◌≡◌, ℕ, Bool, true, false, List, Option, None, Some, IfSome, ap, refl, subst, sym, if◌then◌else◌}
use Rattle.std.specs.Prelude.{IsUtf8}
use Rattle.std.specs.List.{AllByRecursion}
use Rattle.std.specs.Str.{is_utf8}
use Rattle.std.proofs.lemmas.List.Elements.{All-from_recursion}
use Rattle.std.proofs.lemmas.Str.{IsUtf8-from_is_utf8, is_utf8-from_IsUtf8}
use Rattle.columns_bounded.specs.Requests.{colors_in}
use Rattle.program_options.specs.ColorList.Listed.{listed_colors}
use Rattle.program_options.proofs.ColorListLemmas.ClosedLists.{lists-close}
use Rattle.program_options.specs.Columns.ColumnColors.{AllClose}
use Rattle.grid_config.specs.Colors.{Color}
use Rattle.papergrid_picture.specs.Colors.ClosingColors.{IsClosing}

pub colors-text : (list : List ℕ) → IsUtf8 list → colors_in (Some list) ≡ listed_colors list
colors-text list text = ap (λ (b : Bool). if b then listed_colors list else None) (is_utf8-from_IsUtf8 list text)

pub colors-no_text : (list : List ℕ) → (IsUtf8 list → ⊥) → colors_in (Some list) ≡ None
colors-no_text list refuses = by (is_utf8 list) refl
  where
    by : (b : Bool) → is_utf8 list ≡ b → (if b then listed_colors list else None) ≡ None
    by true e = absurd (refuses (IsUtf8-from_is_utf8 list e))
    by false e = refl

pub listed-close : (list : List ℕ) (colors : List (ℕ × Color)) → Some colors ≡ listed_colors list → AllClose colors
listed-close list colors is =
    All-from_recursion (λ (given : ℕ × Color). IsClosing given.1) colors
    (subst (λ (found : Option (List (ℕ × Color))). IfSome found (AllByRecursion (λ given. IsClosing given.1))) (sym is) (lists-close list))
