-- Columns that were met, and one more.
use Rattle.std.proofs.Common.{◌≡◌, ◌∙◌, ◌||◌, ℕ, Bool, true, false, List, ap, refl, sym, cond}
use Rattle.std.specs.Prelude.{nat_eq}
use Rattle.std.specs.Borrow.{Bor}
use Rattle.std.specs.HashSet.{Updates, contains, contains_by}
use Rattle.std.specs.Str.{bytes_eq}
use Rattle.basinmug_values.specs.Lists.{Column, Numbered, Titled, is_same}
use Rattle.basinmug_values.specs.Met.{is_met}
use Rattle.basinmug_values.specs.declared.twice.MetColumns.{MetColumns}

either : (a b : Bool) → cond a true b ≡ (a || b)
either true b = refl
either false b = refl

abbrev pub same_text : Bor (List ℕ) → Bor (List ℕ) → Bool
same_text x y = bytes_eq x.now y.now

-- one title more was met
pub title-met : (old new : MetColumns) (title : Bor (List ℕ)) (column : Column) → column ≡ Titled title.now → new.numbers ≡ old.numbers → Updates same_text old.titles new.titles title true
    → (other : Column) → is_met new other ≡ (is_same column other || is_met old other)
title-met old new title column is same updates (Numbered number) =
    ap (λ numbers. contains nat_eq numbers number) same ∙ ap (λ (c : Column). is_same c (Numbered number) || is_met old (Numbered number)) (sym is)
title-met old new title column is same updates (Titled text) =
    updates.0 (record { ref_ptr = (0, 0); now = text })
    ∙ (either (bytes_eq title.now text) (contains_by (λ known. bytes_eq text known.now) old.titles)
    ∙ ap (λ (c : Column). is_same c (Titled text) || is_met old (Titled text)) (sym is))
