-- The lines of a pool are plain, and its text is these, with a line feed between each two.
use Rattle.std.proofs.Common.{◌≡◌, ◌<◌, ℕ, Bool, true, false, All, List, [], ◌∷◌, ◌++◌, Result, Ok, Err, length, map, refl, ap, sym, subst, ◌∙◌, append-nil, arith, if◌then◌else◌}
use Rattle.std.specs.Prelude.{IfOk, String, string_bytes}
use Rattle.std.specs.List.{AllByRecursion, join_with_byte}
use Rattle.std.proofs.lemmas.List.Elements.{All-from_recursion}
use Rattle.ansi_scan.specs.Pieces.{pieces}
use Rattle.ansi_scan.proofs.Existence.{ArePiecesOf-pieces}
use Rattle.ansi_str.specs.Lines.{IsClosedLine}
use Rattle.grid_config_values.specs.declared.fault.Fault.{Fault}
use Rattle.grid_records_measure.specs.TextLines.{line_feed, text_lines}
use Rattle.grid_records_measure.proofs.LinesAndBlocks.{lines-joined}
use Rattle.grid_records_measure.proofs.TextLines.{text_lines-are}
use Rattle.papergrid_picture.specs.Shown.{AreWholeTexts, IsWholeText}
use Rattle.papergrid_picture.proofs.Shown.{ShowsHere-nothing}
use Rattle.tabled_pool.specs.Boxes.Framed.{framed_width}
use Rattle.tabled_pool.specs.Boxes.Texts.{behind_feeds, joined_lines, shows_nothing}
use Rattle.tabled_pool.specs.Boxes.Values.{Nesting, Text, members}
use Rattle.tabled_pool.specs.Pools.{Pool, begun, look_of_pool, own_box, row_nesting, rows_nesting, text_of}
use Rattle.tables_laws.specs.Pools.PoolLines.{pool_lines}
use Rattle.tables_laws.specs.Pools.WholeNestings.{AreWholeNestings, IsWholeNesting}
use Rattle.tables_laws.specs.Shown.ClosingLooks.{IsClosingLook}
use Rattle.tables_laws.specs.Shown.PlainEnds.{EndsLinesPlain}
use Rattle.tables_laws.proofs.PoolsLemmas.AllLines.{all_lines-hold}
use Rattle.tables_laws.proofs.PoolsLemmas.PlainLines.{PlainLine, feed-before, line-beside, line-ends_plain, line-is_closed, line-nothing, line-of_text, line-painted, line-sign}
use Rattle.tables_laws.proofs.ShownLemmas.LineEnds.{PlainHere, ends-plain, plain-append, plain-nothing}
use Rattle.tables_laws.proofs.ShownLemmas.NewLooks.{new-closing}
use Rattle.tables_laws.proofs.ShownLemmas.Signs.{IsNoControl-blank}

pub whole-nothing : IsWholeText []
whole-nothing = record { utf8 = ShowsHere-nothing.utf8; whole = ShowsHere-nothing.closed.none_broken }

-- ---- lines with a line feed between each two

behind-plain : (lines : List (List ℕ)) → AllByRecursion PlainLine lines → PlainHere (behind_feeds lines)
behind-plain [] all = plain-nothing
behind-plain (line ∷ lines) all = plain-append (line_feed ∷ line) (behind_feeds lines) (feed-before line all.0) (behind-plain lines all.1)

joined-plain : (lines : List (List ℕ)) → AllByRecursion PlainLine lines → PlainHere (joined_lines lines)
joined-plain [] all = plain-nothing
joined-plain (line ∷ lines) all = plain-append line (behind_feeds lines) (line-ends_plain line all.0) (behind-plain lines all.1)

joined-behind : (line : List ℕ) (lines : List (List ℕ)) → line ++ behind_feeds lines ≡ join_with_byte line_feed (line ∷ lines)
joined-behind line [] = append-nil line
joined-behind line (next ∷ lines) = ap (λ rest. line ++ line_feed ∷ rest) (joined-behind next lines)

joined-same : (lines : List (List ℕ)) → joined_lines lines ≡ join_with_byte line_feed lines
joined-same [] = refl
joined-same (line ∷ lines) = joined-behind line lines

all-closed : (lines : List (List ℕ)) → AllByRecursion PlainLine lines → AllByRecursion IsClosedLine lines
all-closed [] all = tt
all-closed (line ∷ lines) all = (line-is_closed line all.0, all-closed lines all.1)

some-lines : (lines : List (List ℕ)) → 0 < length (joined_lines lines) → 0 < length lines
some-lines [] some = some
some-lines (line ∷ lines) some = omega arith

-- ---- a pool

module _ (pool : Pool) (closing : IsClosingLook (look_of_pool pool)) (whole : IsWholeNesting pool.nesting) where
  lines-plain : AllByRecursion PlainLine (pool_lines pool)
  lines-plain =
      let look = look_of_pool pool in
      all_lines-hold PlainLine line-nothing line-beside line-sign IsNoControl-blank (line-painted look) line-of_text whole-nothing look closing
      pool.takers pool.nesting whole (framed_width look (own_box pool))

  pub lines-closed : All IsClosedLine (pool_lines pool)
  lines-closed = All-from_recursion IsClosedLine (pool_lines pool) (all-closed (pool_lines pool) lines-plain)

  pub text-plain : EndsLinesPlain (text_of pool)
  text-plain = by (shows_nothing (look_of_pool pool) pool.takers (own_box pool))
    where
      by : (test : Bool) → EndsLinesPlain (if test then [] else joined_lines (pool_lines pool))
      by true = ends-plain [] plain-nothing
      by false = ends-plain (joined_lines (pool_lines pool)) (joined-plain (pool_lines pool) lines-plain)

  pub text_lines-are_lines : 0 < length (text_of pool) → text_lines (text_of pool) ≡ pool_lines pool
  text_lines-are_lines some = by (shows_nothing (look_of_pool pool) pool.takers (own_box pool)) some
    where
      by : (test : Bool) → 0 < length (if test then [] else joined_lines (pool_lines pool)) → text_lines (if test then [] else joined_lines (pool_lines pool)) ≡ pool_lines pool
      by true none = absurd (omega (arith, none))
      by false some =
          let lines = pool_lines pool in
          let joined = join_with_byte line_feed lines in
          ap text_lines (joined-same lines)
          ∙ lines-joined lines (text_lines joined) (pieces joined) (some-lines lines some) lines-closed (ArePiecesOf-pieces joined) (text_lines-are joined)

-- ---- rows

texts-whole : (row : List (List ℕ)) → AllByRecursion IsWholeText row → AreWholeNestings (members (map Text row))
texts-whole [] all = tt
texts-whole (text ∷ row) all = (all.0, texts-whole row all.1)

rows-whole : (rows : List (List (List ℕ))) → AreWholeTexts rows → AreWholeNestings (members (map row_nesting rows))
rows-whole [] all = tt
rows-whole (row ∷ rows) all = (texts-whole row all.0, rows-whole rows all.1)

pub rows_nesting-whole : (rows : List (List (List ℕ))) → AreWholeTexts rows → IsWholeNesting (rows_nesting rows)
rows_nesting-whole rows all = rows-whole rows all

-- ---- a pool that no call has changed yet

pub begun-closing : (nesting : Nesting) → IsClosingLook (look_of_pool (begun nesting))
begun-closing nesting = record {
  shown = record {
    crossings = new-closing.shown.crossings;
    along_columns = new-closing.shown.along_columns;
    in_rows = new-closing.shown.in_rows;
    margins = new-closing.shown.margins;
    paddings = new-closing.shown.paddings;
    justification = new-closing.shown.justification;
  };
  colors = record {
    crossings = new-closing.colors.crossings;
    along_columns = new-closing.colors.along_columns;
    in_rows = new-closing.colors.in_rows;
    margins = new-closing.colors.margins;
    paddings = new-closing.colors.paddings;
    justification = new-closing.colors.justification;
  };
}

-- ---- what a call gives

module _ (pool : Pool) (closing : IsClosingLook (look_of_pool pool)) (whole : IsWholeNesting pool.nesting) where
  pub told-plain : {Z : Type 0} (result : Result (String Z) Fault) → IfOk result (λ text. string_bytes text ≡ text_of pool) → IfOk result (λ text. EndsLinesPlain (string_bytes text))
  told-plain (Ok text) same = subst EndsLinesPlain (sym same) (text-plain pool closing whole)
  told-plain (Err fault) same = tt

pub told-new : {Z : Type 0} (rows : List (List (List ℕ))) → AreWholeTexts rows → (pool : Pool) → pool ≡ begun (rows_nesting rows) → (result : Result (String Z) Fault)
    → IfOk result (λ text. string_bytes text ≡ text_of pool) → IfOk result (λ text. EndsLinesPlain (string_bytes text))
told-new rows whole pool is result told =
    told-plain pool (subst (λ (p : Pool). IsClosingLook (look_of_pool p)) (sym is) (begun-closing (rows_nesting rows))) (subst (λ (p : Pool). IsWholeNesting p.nesting) (sym is) (rows_nesting-whole rows whole)) result told
