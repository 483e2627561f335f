use Rattle.std.proofs.Common.{◌≡◌, ◌<◌, ◌++◌, ◌⊎◌, ◌∙◌, inl, inr, arith, ap, length, List, ℕ, [], OnOk, string_bytes, subst, sym, take}
use Rattle.std.proofs.lemmas.Bool.Decides.{nat_tests}
use Rattle.std.proofs.lemmas.List.{append-nil}
use Rattle.std.proofs.lemmas.Result.{err_from_is_err_and}
use Rattle.grid_records_traits.specs.Sources.{texts_of_rows}
use Rattle.tabled_compact.specs.Tables.{first_or_all}
use Rattle.tabled_compact.specs.Iter.Content.{columns_or}
use Rattle.tabled_compact.specs.Iter.Tables.{Streamed, sniffed, stream_columns, streamed}
use Rattle.tabled_compact.proofs.IterLemmas.Pictures.{fault_here, fits_here, kept-counted, none_kept, nothing_printed, refused_here, sniffed-are, some_kept, text_here}
use Rattle.tabled_compact.proofs.iter.table.IterTable.fmt.Goals.{then-columns-eq0-via-then-columns-eq0, then-columns-eq0-via-else-columns-eq0+then-is_empty}
use Rattle.tabled_compact.proofs.iter.table.IterTable.fmt.Goals as goal

pub returns-then-columns-eq0-clause-text : goal.returns-then-columns-eq0-clause-text
returns-then-columns-eq0-clause-text g c =
    let table : Streamed = streamed g.I.RecordTexts.rows c.args.self in
    let text = g.I.Cell.Cell.text in
    let read : texts_of_rows text c.as_slice.result.now ≡ take c.max.result table.rows = c.as_slice.ensures ∙ c.in_ok-rows.ensures.kept in
    let texts : texts_of_rows text c.first-sniffed.result.now ≡ sniffed table =
    sniffed-are text c.as_slice.result.now c.first-sniffed.result.now table.sniff c.max.result table.rows read c.first-sniffed.ensures (omega (arith, c.max.ensures)) in
    let columns : c.columns_or-columns.result ≡ stream_columns table = c.columns_or-columns.ensures ∙ ap (columns_or table.columns) texts in
    let nothing : (stream_columns table ≡ 0) ⊎ (first_or_all table.kept table.rows ≡ []) = elim c.then-columns-eq0.branch as (λ _. (stream_columns table ≡ 0) ⊎ (first_or_all table.kept table.rows ≡ [])) [
      | then-columns-eq0-via-then-columns-eq0 w ↦ inl (let none : c.columns_or-columns.result ≡ 0 = grind (arith, nat_tests, w.if-columns-eq0.true) in sym columns ∙ none)
      | then-columns-eq0-via-else-columns-eq0+then-is_empty w ↦
          let again : texts_of_rows text w.as_slice-else-columns-eq0.result.now ≡ take c.max.result table.rows = w.as_slice-else-columns-eq0.ensures ∙ c.in_ok-rows.ensures.kept in
          let counted = ap length w.first_or_all.ensures ∙ kept-counted text w.as_slice-else-columns-eq0.result.now table.kept c.max.result table.rows again in
          let none : length w.first_or_all.result.now ≡ 0 = grind (arith, nat_tests, w.is_empty.ensures, w.if-is_empty.true) in
          inr (none_kept table.kept c.max.result table.rows (omega (arith, c.max.ensures)) (sym counted ∙ none))
    ] in
    sym (append-nil (string_bytes c.args.out.now)) ∙ ap (λ (bytes : List ℕ). string_bytes c.args.out.now ++ bytes) (sym (nothing_printed table nothing).0)

pub returns-then-columns-eq0-clause-fits : goal.returns-then-columns-eq0-clause-fits
returns-then-columns-eq0-clause-fits g c =
    let table : Streamed = streamed g.I.RecordTexts.rows c.args.self in
    let text = g.I.Cell.Cell.text in
    let read : texts_of_rows text c.as_slice.result.now ≡ take c.max.result table.rows = c.as_slice.ensures ∙ c.in_ok-rows.ensures.kept in
    let texts : texts_of_rows text c.first-sniffed.result.now ≡ sniffed table =
    sniffed-are text c.as_slice.result.now c.first-sniffed.result.now table.sniff c.max.result table.rows read c.first-sniffed.ensures (omega (arith, c.max.ensures)) in
    let columns : c.columns_or-columns.result ≡ stream_columns table = c.columns_or-columns.ensures ∙ ap (columns_or table.columns) texts in
    let nothing : (stream_columns table ≡ 0) ⊎ (first_or_all table.kept table.rows ≡ []) = elim c.then-columns-eq0.branch as (λ _. (stream_columns table ≡ 0) ⊎ (first_or_all table.kept table.rows ≡ [])) [
      | then-columns-eq0-via-then-columns-eq0 w ↦ inl (let none : c.columns_or-columns.result ≡ 0 = grind (arith, nat_tests, w.if-columns-eq0.true) in sym columns ∙ none)
      | then-columns-eq0-via-else-columns-eq0+then-is_empty w ↦
          let again : texts_of_rows text w.as_slice-else-columns-eq0.result.now ≡ take c.max.result table.rows = w.as_slice-else-columns-eq0.ensures ∙ c.in_ok-rows.ensures.kept in
          let counted = ap length w.first_or_all.ensures ∙ kept-counted text w.as_slice-else-columns-eq0.result.now table.kept c.max.result table.rows again in
          let none : length w.first_or_all.result.now ≡ 0 = grind (arith, nat_tests, w.is_empty.ensures, w.if-is_empty.true) in
          inr (none_kept table.kept c.max.result table.rows (omega (arith, c.max.ensures)) (sym counted ∙ none))
    ] in
    (nothing_printed table nothing).1

pub returns-in_err-both-clause-fault : goal.returns-in_err-both-clause-fault
returns-in_err-both-clause-fault g c =
    let table : Streamed = streamed g.I.RecordTexts.rows c.args.self in
    let text = g.I.Cell.Cell.text in
    let read : texts_of_rows text c.as_slice.result.now ≡ take c.max.result table.rows = c.as_slice.ensures ∙ c.in_ok-rows.ensures.kept in
    let texts : texts_of_rows text c.first-sniffed.result.now ≡ sniffed table =
    sniffed-are text c.as_slice.result.now c.first-sniffed.result.now table.sniff c.max.result table.rows read c.first-sniffed.ensures (omega (arith, c.max.ensures)) in
    let columns : c.columns_or-columns.result ≡ stream_columns table = c.columns_or-columns.ensures ∙ ap (columns_or table.columns) texts in
    let again : texts_of_rows text c.as_slice-else-columns-eq0.result.now ≡ take c.max.result table.rows = c.as_slice-else-columns-eq0.ensures ∙ c.in_ok-rows.ensures.kept in
    let counted = ap length c.first_or_all.ensures ∙ kept-counted text c.as_slice-else-columns-eq0.result.now table.kept c.max.result table.rows again in
    let some_columns : 0 < c.columns_or-columns.result = grind (arith, nat_tests, c.if-columns-eq0.false) in
    let some_first : 0 < length c.first_or_all.result.now = grind (arith, nat_tests, c.is_empty.ensures, c.if-is_empty.false) in
    let some_rows : 0 < length (first_or_all table.kept table.rows) = some_kept table.kept c.max.result table.rows (length c.first_or_all.result.now) counted some_first in
    let p = err_from_is_err_and c.from_residual-in_err-both.result c.from_residual-in_err-both.ensures.1 in
    rw (p.1, p.2) (refused_here table c.get_padding.result.now c.columns_or-columns.result (texts_of_rows text c.first-sniffed.result.now) c.get_padding.ensures columns texts c.in_err-both.field-0.0 some_columns some_rows c.in_err-both.ensures.refused)

pub returns-clause-text : goal.returns-clause-text
returns-clause-text g c =
    let table : Streamed = streamed g.I.RecordTexts.rows c.args.self in
    let text = g.I.Cell.Cell.text in
    let read : texts_of_rows text c.as_slice.result.now ≡ take c.max.result table.rows = c.as_slice.ensures ∙ c.in_ok-rows.ensures.kept in
    let texts : texts_of_rows text c.first-sniffed.result.now ≡ sniffed table =
    sniffed-are text c.as_slice.result.now c.first-sniffed.result.now table.sniff c.max.result table.rows read c.first-sniffed.ensures (omega (arith, c.max.ensures)) in
    let columns : c.columns_or-columns.result ≡ stream_columns table = c.columns_or-columns.ensures ∙ ap (columns_or table.columns) texts in
    subst (λ (bytes : List ℕ). OnOk c.draw.result (string_bytes c.draw.new.out ≡ string_bytes c.args.out.now ++ bytes))
    (text_here table c.get_padding.result.now c.columns_or-columns.result (texts_of_rows text c.first-sniffed.result.now) c.get_padding.ensures columns texts
    c.in_ok-both.both.content.0 c.in_ok-both.both.sizes.0 c.in_ok-both.both.sizes.1 _ c.in_ok-rows.ensures.rows c.in_ok-both.ensures.widths c.in_ok-both.ensures.wide c.in_ok-both.ensures.high)
    c.draw.ensures.text

pub returns-clause-fits : goal.returns-clause-fits
returns-clause-fits g c =
    let table : Streamed = streamed g.I.RecordTexts.rows c.args.self in
    let text = g.I.Cell.Cell.text in
    let read : texts_of_rows text c.as_slice.result.now ≡ take c.max.result table.rows = c.as_slice.ensures ∙ c.in_ok-rows.ensures.kept in
    let texts : texts_of_rows text c.first-sniffed.result.now ≡ sniffed table =
    sniffed-are text c.as_slice.result.now c.first-sniffed.result.now table.sniff c.max.result table.rows read c.first-sniffed.ensures (omega (arith, c.max.ensures)) in
    let columns : c.columns_or-columns.result ≡ stream_columns table = c.columns_or-columns.ensures ∙ ap (columns_or table.columns) texts in
    fits_here table c.get_padding.result.now c.columns_or-columns.result (texts_of_rows text c.first-sniffed.result.now) c.get_padding.ensures columns texts
    c.in_ok-both.both.content.0 c.in_ok-both.both.sizes.0 c.in_ok-both.both.sizes.1 _ c.in_ok-rows.ensures.rows c.in_ok-both.ensures.widths c.in_ok-both.ensures.wide c.in_ok-both.ensures.high
    c.draw.result c.draw.ensures.fits

pub returns-clause-fault : goal.returns-clause-fault
returns-clause-fault g c =
    let table : Streamed = streamed g.I.RecordTexts.rows c.args.self in
    let text = g.I.Cell.Cell.text in
    let read : texts_of_rows text c.as_slice.result.now ≡ take c.max.result table.rows = c.as_slice.ensures ∙ c.in_ok-rows.ensures.kept in
    let texts : texts_of_rows text c.first-sniffed.result.now ≡ sniffed table =
    sniffed-are text c.as_slice.result.now c.first-sniffed.result.now table.sniff c.max.result table.rows read c.first-sniffed.ensures (omega (arith, c.max.ensures)) in
    let columns : c.columns_or-columns.result ≡ stream_columns table = c.columns_or-columns.ensures ∙ ap (columns_or table.columns) texts in
    fault_here table c.get_padding.result.now c.columns_or-columns.result (texts_of_rows text c.first-sniffed.result.now) c.get_padding.ensures columns texts
    c.in_ok-both.both.content.0 c.in_ok-both.both.sizes.0 c.in_ok-both.both.sizes.1 _ c.in_ok-rows.ensures.rows c.in_ok-both.ensures.widths c.in_ok-both.ensures.wide c.in_ok-both.ensures.high
    c.draw.result c.draw.ensures.fault
