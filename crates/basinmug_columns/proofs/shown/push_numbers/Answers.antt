-- One number more.
use Rattle.std.proofs.Common.{◌∙◌, ap, sym, refl, ◌++◌, ◌∷◌, ◌+◌, [], List, append_assoc}
use Rattle.std.proofs.lemmas.List.FromFn.{map-range_with_len_more}
use Rattle.basinmug_columns.specs.Shown.{numbered}
use Rattle.basinmug_columns.specs.declared.shown.ShownColumn.{ShownColumn}
use Rattle.basinmug_columns.specs.declared.shown.ShownColumn.TheVariants.{Number}
use Rattle.basinmug_columns.proofs.shown.push_numbers.Goals as goal

pub loop-number-preserved : goal.loop-number-preserved
loop-number-preserved c =
    let from = c.args.from in
    let n = c.loop-number.number in
    let old = c.args.columns.now.items in
    c.in_ok-push.ensures.items ∙ ap (λ (it : List ShownColumn). it ++ Number (from + n) ∷ []) c.loop-number.invariant
    ∙ append_assoc old (numbered from n) (Number (from + n) ∷ [])
    ∙ ap (λ (it : List ShownColumn). old ++ it) (sym (map-range_with_len_more Number from n (from + n) refl))
