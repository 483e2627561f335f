-- The place is one of them where a line feed is there.
use Rattle.std.proofs.Common.{◌≡◌, ◌∙◌, ◌∷◌, ◌++◌, [], append-nil, ap, get_or, sym}
use Rattle.grid_records.proofs.RowsLemmas.KeptLines.{feed_here, no_feed_here, places_more}
use Rattle.grid_records.proofs.rows.records.vec_records.text.kept_lines.line_feed_places.Goals.{then-byte-eq10+in_ok-push, else-byte-eq10}
use Rattle.grid_records.proofs.rows.records.vec_records.text.kept_lines.line_feed_places.Goals as goal

pub loop-place-preserved : goal.loop-place-preserved
loop-place-preserved c =
    let text = c.args.text.now in
    let before = c.loop-place.places.items in
    let place = c.loop-place.place in
    let byte : get_or c.as_bytes-byte-items.result.now place 0 ≡ get_or text place 0 = ap (λ bytes. get_or bytes place 0) c.as_bytes-byte-items.ensures.value in
    places_more text before c.if-byte-eq10.places.items place c.loop-place.invariant (elim c.if-byte-eq10.branch [
      | then-byte-eq10+in_ok-push w ↦
          ap (λ v. v.items) w.places-is ∙ w.in_ok-push.ensures.items
          ∙ ap (λ more. before ++ more) (sym (feed_here (get_or text place 0) (place ∷ []) (sym byte ∙ w.if-byte-eq10.true)))
      | else-byte-eq10 w ↦
          ap (λ v. v.items) w.places-is ∙ sym (append-nil before)
          ∙ ap (λ more. before ++ more) (sym (no_feed_here (get_or text place 0) (place ∷ []) (λ is. w.if-byte-eq10.false (byte ∙ is))))
    ])
