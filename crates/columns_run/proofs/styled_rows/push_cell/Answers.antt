-- A cell between two plain styles is kept as a slice, and another is written.
use Rattle.std.proofs.Common.{◌≡◌, ◌∙◌, ◌++◌, ℕ, List, chars, drop, subst, sym, ap}
use Rattle.std.specs.Prelude.{Err, Ok, OnOk, Result}
use Rattle.grid_records_measure.specs.Measures.{measure}
use Rattle.grid_records_estimate.proofs.Meets.{OnOk-implies}
use Rattle.columns_run.specs.Rows.{stripped}
use Rattle.columns_run.specs.Styled.{AddsCell, gathered_to}
use Rattle.columns_run.proofs.Kept.{AddsCell-slice, KeptEndsWith-slice, before, before-is, plain_between}
use Rattle.columns_run.proofs.styled_rows.push_cell.Goals as goal

-- the slice, and what comes after it
parted : (rest slice end found : List ℕ) → rest ≡ slice ++ end → found ≡ before rest end → rest ≡ found ++ end
parted rest slice end found is taken = is ∙ ap (λ bytes. bytes ++ end) (sym (taken ∙ before-is rest slice end is))

on_both : {T E P Q R : Type 0} (result : Result T E) → (P → Q → R) → OnOk result P → OnOk result Q → OnOk result R
on_both (Ok x) f p q = f p q
on_both (Err e) f p q = tt

pub push_slice-requires-clause-measured : goal.push_slice-requires-clause-measured
push_slice-requires-clause-measured c = λ printable.
    let place = c.args.place.now in
    let end = c.args.end.now.place in
    let is = plain_between place.rest.now place.style end.rest.now end.style (c.requires.plain c.if-plain.true).0 (c.requires.plain c.if-plain.true).1 in
    subst (λ bytes. measure (chars (stripped bytes)) ≡ c.args.end.now.size) (is ∙ sym c.front.ensures) (c.requires.measured printable)

pub returns-then-plain-clause-kept : goal.returns-then-plain-clause-kept
returns-then-plain-clause-kept c =
    let rest = c.args.place.now.rest.now in
    let end = c.args.end.now.place.rest.now in
    let slice = c.front.result.now in
    let begins = c.requires.begins in
    OnOk-implies c.push_slice.result
    (λ same. KeptEndsWith-slice c.args.cells.now c.push_slice.new.cells rest end slice c.requires.kept (parted rest begins.0 end slice begins.1 c.front.ensures) c.requires.parted.0 same.0 same.1) c.push_slice.ensures.kept

pub returns-then-plain-clause-adds : goal.returns-then-plain-clause-adds
returns-then-plain-clause-adds c =
    let place = c.args.place.now in
    let stop = c.args.end.now.place in
    let rest = place.rest.now in
    let end = stop.rest.now in
    let slice = c.front.result.now in
    let begins = c.requires.begins in
    let old = c.args.cells.now in
    let new = c.push_slice.new.cells in
    let is = plain_between rest place.style end stop.style (c.requires.plain c.if-plain.true).0 (c.requires.plain c.if-plain.true).1 in
    on_both c.push_slice.result
    (λ same rows. subst (λ part. AddsCell (gathered_to old rest) (gathered_to new (drop 1 end)) part) (c.front.ensures ∙ sym is)
    (AddsCell-slice old new rest end slice c.requires.kept (parted rest begins.0 end slice begins.1 c.front.ensures) c.requires.parted.0 same.0 same.1 c.front.utf8 c.requires.parted.1 rows))
    c.push_slice.ensures.kept c.push_slice.ensures.rows
