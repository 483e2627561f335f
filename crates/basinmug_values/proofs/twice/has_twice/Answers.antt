use Rattle.std.proofs.Common.{◌≡◌, ◌∙◌, ◌<◌, ◌+◌, ◌++◌, ◌||◌, ◌∷◌, [], Bool, ap, arith, length, map, take, sym, true}
use Rattle.std.specs.Prelude.{if◌then◌else◌}
use Rattle.std.specs.List.{list_any}
use Rattle.std.proofs.lemmas.List.{map_more}
use Rattle.program_options.specs.declared.basinmug.ColumnName.{ColumnName}
use Rattle.basinmug_values.specs.Lists.{Column, column_of_name, has_twice, is_same}
use Rattle.basinmug_values.proofs.OneMore.{any-push, twice-step}
use Rattle.basinmug_values.proofs.twice.has_twice.Goals as goal
use Rattle.basinmug_values.proofs.twice.has_twice.Goals.{then-not-branch, else-not-branch}

pub loop-item-preserved : goal.loop-item-preserved
loop-item-preserved g c =
    let given = c.args.given.now in
    let i = c.loop-item.item-index in
    let lt : i < length given = omega arith in
    let item = c.item-item.result in
    let column = column_of_name item.0 in
    let view = λ (x : ColumnName × g.row.T.Denot). column_of_name x.0 in
    let taken = map view (take i given) in
    let is_new = c.in_ok-add.field-0 in
    let before = c.loop-item.twice in
    let more : map view (take (i + 1) given) ≡ taken ++ column ∷ [] =
    map_more view given i item lt ∙ ap (λ (x : ColumnName × g.row.T.Denot). taken ++ view x ∷ []) (sym c.item-item.is) in
    let after : c.if-not-branch.twice ≡ (if is_new then before else true) =
    elim c.if-not-branch.branch [
      | then-not-branch w ↦ w.twice-is ∙ sym (ap (λ (b : Bool). if b then before else true) w.if-not-branch.true)
      | else-not-branch w ↦ w.twice-is ∙ sym (ap (λ (b : Bool). if b then before else true) w.if-not-branch.false)
    ] in
    record {
      twice =
          after
          ∙ (twice-step taken column before _ is_new c.loop-item.invariant.twice (c.loop-item.invariant.met column) c.in_ok-add.ensures.is_new
          ∙ ap has_twice (sym more));
      met = λ other.
          c.in_ok-add.ensures.met other
          ∙ (ap (λ (b : Bool). is_same column other || b) (c.loop-item.invariant.met other)
          ∙ (sym (any-push (λ (known : Column). is_same known other) taken column) ∙ ap (list_any (λ (known : Column). is_same known other)) (sym more)));
    }
