-- Which rows or records are shown, and the line that says how many others there are. A text is the list of its bytes.
use Rattle.std.specs.Prelude.{ℕ, ◌==◌, List, [], ◌++◌, codes, decimal, if◌then◌else◌}
use Rattle.basinmug_columns.specs.declared.rows.RowsShown.{RowsShown}
use Rattle.basinmug_columns.specs.declared.rows.RowsShown.TheVariants.{All, More, Earlier, Between}

-- how many are left out
abbrev pub left_out_of : RowsShown → ℕ
left_out_of All = 0
left_out_of (More count) = count
left_out_of (Earlier count) = count
left_out_of (Between first count) = count

-- what follows a noun after a count: `1 row`, `2 rows`
abbrev pub plural_end : ℕ → List ℕ
plural_end count = if count == 1 then [] else codes "s"

-- what is said of them between their count and the noun, and after the noun
abbrev pub before_noun : RowsShown → List ℕ
before_noun All = []
before_noun (More count) = codes "more "
before_noun (Earlier count) = codes "earlier "
before_noun (Between first count) = []

abbrev pub after_noun : RowsShown → List ℕ
after_noun All = []
after_noun (More count) = []
after_noun (Earlier count) = []
after_noun (Between first count) = codes " left out"

-- the line below rows or records of this noun: how many are left out, in brackets, with a line feed; empty where none is
abbrev pub rows_line : List ℕ → RowsShown → List ℕ
rows_line noun shown =
    let count = left_out_of shown in
    if count == 0 then []
    else codes "(" ++ (decimal count ++ (codes " " ++ (before_noun shown ++ (noun ++ (plural_end count ++ (after_noun shown ++ codes ")\n"))))))
