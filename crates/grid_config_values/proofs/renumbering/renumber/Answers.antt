use Rattle.std.proofs.Common.{◌≡◌, ◌<◌, ◌∙◌, ap, sym, set, length, arith}
use Rattle.std.proofs.lemmas.List.{get_or_read, set-get_or}
use Rattle.std.proofs.lemmas.List.Edits.{map_over_more}
use Rattle.grid_config_values.specs.Numbers.{renumbered}
use Rattle.grid_config_values.proofs.NewNumbers.{mapped_length, renumbered-changed, renumbered-same, same_items}
use Rattle.grid_config_values.proofs.renumbering.renumber.Goals as goal
use Rattle.grid_config_values.proofs.renumbering.renumber.Goals.{then-index-from, else-index-from}

pub loop-i-preserved : goal.loop-i-preserved
loop-i-preserved g c =
    let from = c.args.from in
    let to = c.args.to in
    let xs = c.args.kept.now.items in
    let ys = c.loop-i.kept.items in
    let i = c.loop-i.i in
    let y = c.index.result.now in
    let inside : i < length xs = omega (arith, c.loop-i-test.true, c.len-i-end.ensures, c.args.kept.now.ok.0) in
    let within : i < length ys = omega (arith, inside, ap length c.loop-i.invariant, mapped_length (renumbered from to) xs i (omega arith)) in
    elim c.if-index-from.branch [
      | then-index-from w ↦
          let x = w.index_mut.result.now in
          let same : x ≡ y = get_or_read ys i x within w.index_mut.ensures.value y ∙ sym c.index.ensures in
          same_items c.if-index-from.kept _ w.kept-is
          ∙ ap (set ys i) (sym (renumbered-changed from to x (ap (λ (one : _). one.number) same ∙ w.if-index-from.true)))
          ∙ map_over_more (renumbered from to) xs ys i x inside c.loop-i.invariant w.index_mut.ensures.value
      | else-index-from w ↦
          same_items c.if-index-from.kept c.loop-i.kept w.kept-is
          ∙ sym (set-get_or ys i y)
          ∙ ap (set ys i) (sym c.index.ensures ∙ sym (renumbered-same from to y w.if-index-from.false))
          ∙ map_over_more (renumbered from to) xs ys i y inside c.loop-i.invariant c.index.ensures
    ]
