-- What the lists of a request say.
use Rattle.std.specs.Prelude.{◌≡◌, ℕ, List, [], ◌∷◌, Option, None, Some, if◌then◌else◌}
use Rattle.std.specs.Str.{is_utf8}
use Rattle.basinmug_bounded.specs.declared.lists.Lists.{Lists}
use Rattle.basinmug_bounded.specs.declared.refusal.ListFault.{ListFault}
use Rattle.basinmug_bounded.specs.declared.refusal.Refusal.{Refusal}
use Rattle.basinmug_bounded.specs.declared.refusal.Refusal.TheVariants.{Request, List as OfList, Cell, Run, OverMaxSize}
use Rattle.basinmug_run.specs.declared.fault.RunFault.TheVariants.{Memory}

-- the texts of the lists
pub record Texts : Type 0 where
  pub columns : List ℕ
  pub align : List ℕ
  pub color : List ℕ

abbrev pub texts_of : Lists → Texts
texts_of lists = record { columns = lists.columns.now; align = lists.align.now; color = lists.color.now }

abbrev pub texts : (columns align color : List ℕ) → Texts
texts columns align color = record { columns = columns; align = align; color = color }

-- what a list says that is read so: nothing if it is empty; `None` if it is no text, or does not have the form
abbrev pub list_in : {T : Type 0} → (List ℕ → Option (List T)) → List ℕ → Option (List T)
list_in read [] = Some []
list_in read (byte ∷ bytes) = if is_utf8 (byte ∷ bytes) then read (byte ∷ bytes) else None

-- the list does not have the form, and this is reported of it; or memory ran out
abbrev pub IsRefusedList : {T : Type 0} → ListFault → Option (List T) → Refusal → Type 0
IsRefusedList which found (OfList fault) = (found ≡ None) × (fault ≡ which)
IsRefusedList which found (Run fault) = fault ≡ Memory
IsRefusedList which found (Request fault) = ⊥
IsRefusedList which found (Cell fault) = ⊥
IsRefusedList which found OverMaxSize = ⊥
