use Rattle.std.proofs.Common.{◌≡◌, ◌∙◌, List, Option, Some, Vec, Global, true, false, ap, map, option_map, subst, sym}
use Rattle.program_options.specs.declared.basinmug.ColumnName.{ColumnName}
use Rattle.basinmug_values.specs.Lists.{column_of_name, has_twice, items_of, seen_items}
use Rattle.basinmug_values.proofs.OneMore.{listed-found}
use Rattle.basinmug_values.proofs.lists.listed.Goals as goal

pub returns-then-branch : goal.returns-then-branch
returns-then-branch g c =
    let found : Some (seen_items c.in-Some.given.items) ≡ items_of g.T.Named.value_of c.args.list.now =
    subst (λ (o : Option (Vec (ColumnName × g.row.T.Denot) Global)). option_map (λ items. seen_items items.items) o ≡ items_of g.T.Named.value_of c.args.list.now) c.in-Some.is c.in_ok-given.ensures in
    listed-found g.T.Named.value_of c.args.list.now c.in-Some.given.items true found
    (sym c.if-branch.true ∙ (c.in_ok-has_twice.ensures ∙ ap (λ (items : List (ColumnName × g.row.T.Denot)). has_twice (map (λ item. column_of_name item.0) items)) c.deref.ensures.value))

pub returns : goal.returns
returns g c =
    let found : Some (seen_items c.in-Some.given.items) ≡ items_of g.T.Named.value_of c.args.list.now =
    subst (λ (o : Option (Vec (ColumnName × g.row.T.Denot) Global)). option_map (λ items. seen_items items.items) o ≡ items_of g.T.Named.value_of c.args.list.now) c.in-Some.is c.in_ok-given.ensures in
    listed-found g.T.Named.value_of c.args.list.now c.in-Some.given.items false found
    (sym c.if-branch.false ∙ (c.in_ok-has_twice.ensures ∙ ap (λ (items : List (ColumnName × g.row.T.Denot)). has_twice (map (λ item. column_of_name item.0) items)) c.deref.ensures.value))
