-- Texts of cells' own. A text is the list of its bytes.
use Rattle.std.specs.Prelude.{ℕ, List, map, string_bytes}
use Rattle.std.specs.declared.rc.Rc.{Rc}
use Rattle.basinmug_cells.specs.declared.own_text.OwnText.{OwnText}
use Rattle.basinmug_cells.specs.declared.own_text.OwnText.TheVariants.{Short, Long}

-- the text
abbrev pub own_text : OwnText → List ℕ
own_text (Short short) = string_bytes short.text
own_text (Long long) = long

-- some of them
abbrev pub own_texts : {Z : Type 0} → List (Rc OwnText Z) → List (List ℕ)
own_texts own = map (λ shared. own_text shared.value) own
