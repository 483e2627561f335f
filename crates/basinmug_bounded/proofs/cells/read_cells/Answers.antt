-- One cell more is read, or has a flaw.
use Rattle.std.proofs.Common.{◌≡◌, ◌∙◌, ◌+◌, ◌<◌, ◌≤◌, ◌∷◌, ◌++◌, ℕ, List, [], add-one, ap, arith, drop, get_or, length, map, refl, subst, sum, sym, take}
use Rattle.std.proofs.lemmas.List.{drop_more, length-drop, length-map, length-take-le, map_push, take-append-drop, take_all}
use Rattle.std.proofs.lemmas.List.Sums.{sum_by-drop_more}
use Rattle.std.specs.List.{AllByRecursion}
use Rattle.basinmug_cells.specs.Held.{no_rows}
use Rattle.basinmug_input.proofs.Rows.{all-push}
use Rattle.basinmug_input.specs.Cleaning.{cleaned}
use Rattle.basinmug_input.specs.Flaws.{IsReadableField}
use Rattle.basinmug_bounded.proofs.OfCells.{AreInRows, cells-length, in_rows-more, next-dropped, next-taken, rest-taken, whole-rows}
use Rattle.basinmug_bounded.specs.Cells.{AreWhole, cells_in}
use Rattle.basinmug_bounded.proofs.cells.read_cells.Goals as goal

-- what is left of cells begins with the next
next : (lengths bytes rest : List ℕ) (i : ℕ) → i < length lengths → drop i (cells_in lengths bytes) ≡ cells_in (drop i lengths) rest
    → drop i (cells_in lengths bytes) ≡ take (get_or lengths i 0) rest ∷ cells_in (drop (i + 1) lengths) (drop (get_or lengths i 0) rest)
next lengths bytes rest i below left = left ∙ ap (λ (left : List ℕ). cells_in left rest) (drop_more lengths i 0 below)

pub loop-cell-init : goal.loop-cell-init
loop-cell-init c =
    let none : AreInRows c.args.per_record [] (no_rows []) = record { joined = refl; whole = tt; part = λ some. some } in
    record {
      readable = tt;
      in_rows = subst (AreInRows c.args.per_record []) (sym c.new-rows.ensures) none;
      left = refl;
      enough = c.requires.enough;
    }

pub loop-cell-preserved : goal.loop-cell-preserved
loop-cell-preserved c =
    let lengths = c.args.lengths.now in
    let bytes = c.args.bytes.now in
    let i = c.loop-cell.cell in
    let rest = c.loop-cell.rest.now in
    let known = c.loop-cell.invariant in
    let cells = cells_in lengths bytes in
    let count = get_or lengths i 0 in
    let below : i < length lengths = omega arith in
    let after = next lengths bytes rest i below known.left in
    let taken = ap (λ (k : ℕ). take k cells) (add-one i) ∙ next-taken i cells _ _ after in
    let read = rw c.in-Ok.is at c.in_ok-push_field.ensures.read in
    let total = sum_by-drop_more (λ x. x) lengths i 0 below in
    let enough = known.enough in
    let left_len = length-drop count rest in
    let shown = ap (map (cleaned c.args.escapes)) taken ∙ map_push (cleaned c.args.escapes) (take i cells) (take count rest) in
    record {
      readable = subst (AllByRecursion (IsReadableField c.args.escapes)) (sym taken) (all-push (IsReadableField c.args.escapes) (take i cells) (take count rest) known.readable read.sound);
      in_rows = subst (λ (shown : List (List ℕ)). AreInRows c.args.per_record shown c.end_full.new.rows) (sym shown)
          (in_rows-more c.args.per_record (map (cleaned c.args.escapes) (take i cells)) c.loop-cell.rows (cleaned c.args.escapes (take count rest)) known.in_rows c.push_field.new.rows c.end_full.new.rows
          read.more c.in_ok-end_full-in-Ok.ensures);
      left = ap (λ (k : ℕ). drop k cells) (add-one i) ∙ next-dropped i cells _ _ after ∙ ap (cells_in (drop (i + 1) lengths)) (sym (rest-taken count rest));
      enough = subst (λ (left : List ℕ). sum (drop (i + 1) lengths) ≤ length left) (sym (rest-taken count rest)) (omega (arith, total, enough, left_len));
    }

pub returns-in-Err : goal.returns-in-Err
returns-in-Err c =
    let lengths = c.args.lengths.now in
    let bytes = c.args.bytes.now in
    let i = c.loop-cell.cell in
    let rest = c.loop-cell.rest.now in
    let known = c.loop-cell.invariant in
    let cells = cells_in lengths bytes in
    let below : i < length lengths = omega arith in
    let after = next lengths bytes rest i below known.left in
    let all = cells-length lengths bytes in
    let low : i ≤ length cells = omega (arith, all, below) in
    record {
      before = take i cells;
      here = take (get_or lengths i 0) rest;
      after = cells_in (drop (i + 1) lengths) (drop (get_or lengths i 0) rest);
      of_cells = sym (take-append-drop i cells) ∙ ap (λ (left : List (List ℕ)). take i cells ++ left) after;
      readable = known.readable;
      is_place = sym (length-take-le i cells low);
      is_flawed = rw c.in-Err.is at c.in_ok-push_field.ensures.read;
    }

pub returns : goal.returns
returns c =
    let lengths = c.args.lengths.now in
    let bytes = c.args.bytes.now in
    let cells = cells_in lengths bytes in
    let i = c.loop-cell.cell in
    let known = c.loop-cell.invariant in
    let all = cells-length lengths bytes in
    let taken : take i cells ≡ cells = take_all i cells (omega (arith, all)) in
    let rows = c.loop-cell.rows in
    let in_rows = subst (λ (of : List (List ℕ)). AreInRows c.args.per_record (map (cleaned c.args.escapes) of) rows) taken known.in_rows in
    let count = sym (cells-length lengths bytes) ∙ sym (length-map cells (cleaned c.args.escapes)) in
    record {
      readable = subst (AllByRecursion (IsReadableField c.args.escapes)) taken known.readable;
      rows_are = whole-rows c.args.per_record (map (cleaned c.args.escapes) cells) rows.rows rows.begun in_rows.joined in_rows.whole in_rows.part
          (subst (λ (count : ℕ). AreWhole count c.args.per_record) count c.requires.whole);
    }
