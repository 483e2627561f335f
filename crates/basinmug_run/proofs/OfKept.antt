-- Rows that are kept of others.
use Rattle.std.proofs.Common.{◌≡◌, ◌∙◌, ◌+◌, ◌-◌, ◌<◌, ◌≤◌, ◌^◌, ap, sym, refl, arith, inl, inr, ℕ, zero, suc, min, take, drop, Bool, true, false, List, [], ◌∷◌, ◌++◌, Option, None, Some, length}
use Rattle.std.proofs.lemmas.Bool.{cases_lt}
use Rattle.std.proofs.lemmas.List.{drop_all, length-append, length-drop, length-take, take_all}
use Rattle.tabled_text.specs.Rows.{longest}
use Rattle.basinmug_columns.specs.declared.rows.RowsShown.{RowsShown}
use Rattle.basinmug_input.specs.Kept.{kept_rows, last_of, rows_left_out}
use Rattle.basinmug_input.specs.declared.kept.RowChoice.{RowChoice}
use Rattle.basinmug_input.specs.declared.kept.RowChoice.TheVariants.{All as AllRows, Ends}
use Rattle.basinmug_input.proofs.KeptRows.{kept-first-ones}
use Rattle.basinmug_columns.specs.Names.{column_number}
use Rattle.basinmug_run.specs.declared.options.Options.{Options}
use Rattle.basinmug_run.specs.Columns.{missing_choices, missing_in, missing_of_columns}
use Rattle.basinmug_run.specs.Picture.Names.{missing_names}
use Rattle.basinmug_run.specs.Kept.{Kept, choice_by, choice_of, first_rows, kept_of, kept_read, shown_by, shown_rows}
use Rattle.basinmug_run.specs.Picture.Rows.{header_of, header_rows}

-- ---- all of it

abbrev made : List (List (List ℕ)) → RowsShown → ℕ → Kept
made rows shown columns = record { rows = rows; shown = shown; columns = columns }

-- by the rows that are kept, how many are left out, and the columns of the longest
pub read-kept : (options : Options) (all : List (List (List ℕ))) (choice : RowChoice) → choice ≡ choice_of options → (rows : List (List (List ℕ))) (left_out columns : ℕ)
    → rows ≡ kept_rows choice all → left_out ≡ rows_left_out choice all → columns ≡ longest all → kept_read options rows left_out columns ≡ kept_of options all
read-kept options all choice by rows left_out columns are out wide =
    let shown : ℕ → RowsShown = shown_by options.max_rows options.tail in
    ap (λ (it : List (List (List ℕ))). made it (shown left_out) columns) (are ∙ ap (λ (it : RowChoice). kept_rows it all) by)
    ∙ ap (λ (it : ℕ). made (shown_rows options all) (shown it) columns) (out ∙ ap (λ (it : RowChoice). rows_left_out it all) by)
    ∙ ap (λ (it : ℕ). made (shown_rows options all) (shown (rows_left_out (choice_of options) all)) it) wide

-- the kept ones are no more than all
pub kept-fewer : {X : Type 0} (first last : ℕ) (xs : List X) → length (kept_rows (Ends first last) xs) ≤ length xs
kept-fewer first last xs =
    let rest = drop first xs in
    let both = length-append (take first xs) (last_of last rest) in
    let one = length-take first xs in
    let other = length-drop (length rest - last) rest in
    let left = length-drop first xs in
    omega (arith, both, one, other, left)

-- ---- the header is kept

-- where there is a header, one of the first rows at least is kept
header-first : (header : Bool) (first last : ℕ) (rows : List (List (List ℕ))) → header_rows header ≤ first → header_of header (kept_rows (Ends first last) rows) ≡ header_of header rows
header-first false first last rows some = refl
header-first true zero last rows some = absurd (let none : 1 ≤ 0 = some in omega (arith, none))
header-first true (suc first) last [] some = ap (header_of true) (drop_all (0 - last) [] (omega arith))
header-first true (suc first) last (row ∷ rows) some = refl

first-some : (header : Bool) (most : ℕ) → header_rows header ≤ first_rows header most
first-some true most = omega arith
first-some false most = omega arith

header-by : (header : Bool) (most last : Option ℕ) (rows : List (List (List ℕ))) → header_of header (kept_rows (choice_by header most last) rows) ≡ header_of header rows
header-by header None None rows = refl
header-by header (Some most) None rows = header-first header (first_rows header most) 0 rows (first-some header most)
header-by header None (Some last) rows = header-first header (header_rows header) last rows (omega arith)
header-by header (Some most) (Some last) rows = header-first header (first_rows header most) last rows (first-some header most)

pub header-kept : (options : Options) (rows : List (List (List ℕ))) → header_of options.header (shown_rows options rows) ≡ header_of options.header rows
header-kept options rows = header-by options.header options.max_rows options.tail rows

-- so the names that are missing are those that are missing of all rows
pub missing-kept : (options : Options) (rows : List (List (List ℕ))) → missing_of_columns options (longest rows) (shown_rows options rows) ≡ missing_in options rows
missing-kept options rows =
    ap (λ (header : List (List ℕ)). missing_choices (column_number header) (longest rows) options.columns.items ++ (missing_names header options.alignments.items ++ missing_names header options.colors.items)) (header-kept options rows)

-- ---- the first records

take-most : {X : Type 0} (m n : ℕ) (xs : List X) → length xs ≤ n → take (min m n) xs ≡ take m xs
take-most m n xs few =
    elim (cases_lt m n) [
      | inl less ↦ let same : min m n ≡ m = omega (arith, less) in ap (λ (k : ℕ). take k xs) same
      | inr more ↦ take_all (min m n) xs (omega (arith, few, more)) ∙ sym (take_all m xs (omega (arith, few, more)))
    ]

pub first-kept : (header : Bool) (most : ℕ) (rows : List (List (List ℕ))) → length rows < 2 ^ 64 → kept_rows (choice_by header (Some most) None) rows ≡ take (most + header_rows header) rows
first-kept header most rows few =
    kept-first-ones (first_rows header most) rows ∙ take-most (most + header_rows header) (2 ^ 64 - 1) rows (omega (arith, few))
