-- The last column comes after those before it.
use Rattle.std.proofs.Common.{◌≡◌, ◌∙◌, ◌+◌, ◌-◌, ◌++◌, ◌∷◌, [], ap, sym, arith, List, append_assoc}
use Rattle.std.proofs.lemmas.List.FromFn.{map-range_with_len_more}
use Rattle.basinmug_columns.specs.Shown.{numbered}
use Rattle.basinmug_columns.specs.declared.shown.ShownColumn.{ShownColumn}
use Rattle.basinmug_columns.specs.declared.shown.ShownColumn.TheVariants.{Number}
use Rattle.basinmug_run.proofs.columns.push_through.Goals as goal

pub returns-in_ok-push : goal.returns-in_ok-push
returns-in_ok-push c =
    let first = c.args.first in
    let last = c.args.last in
    let old = c.args.columns.now.items in
    let end : first + (last - first) ≡ last = omega (arith, c.if-first-last.true) in
    let count : last - first + 1 ≡ last + 1 - first = omega (arith, c.if-first-last.true) in
    c.in_ok-push.ensures.items ∙ ap (λ (it : List ShownColumn). it ++ Number last ∷ []) c.in_ok-push_numbers.ensures
    ∙ append_assoc old (numbered first (last - first)) (Number last ∷ [])
    ∙ ap (λ (it : List ShownColumn). old ++ it) (sym (map-range_with_len_more Number first (last - first) last end) ∙ ap (numbered first) count)
