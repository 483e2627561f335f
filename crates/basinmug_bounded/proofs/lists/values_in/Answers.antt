use Rattle.std.proofs.Common.{◌≡◌, ◌∙◌, ap, option_map, refl, subst, sym, Some, Option, Vec, Global}
use Rattle.basinmug_bounded.proofs.OfLists.{list-no_text, list-text}
use Rattle.basinmug_bounded.proofs.lists.values_in.Goals as goal
use Rattle.basinmug_values.specs.Lists.{listed, seen_items}
use Rattle.program_options.specs.declared.basinmug.ColumnName.{ColumnName}

pub returns-in_default-clause-refused : goal.returns-in_default-clause-refused
returns-in_default-clause-refused g c =
    (list-no_text (listed g.T.Named.value_of) c.args.list.now (sym c.is_empty.ensures ∙ c.if-is_empty.false) c.in_default.ensures.cases.0, refl)

pub returns-in-Ok-Some-clause-read : goal.returns-in-Ok-Some-clause-read
returns-in-Ok-Some-clause-read g c =
    let v = g.T.Named.value_of in
    let found : Some (seen_items c.in-Ok-Some.found.items) ≡ listed v c.in-Ok.text.now =
    subst (λ (found : Option (Vec (ColumnName × g.row.T.Denot) Global)). option_map (λ given. seen_items given.items) found ≡ listed v c.in-Ok.text.now) c.in-Ok-Some.field-0-is c.in-Ok-Some.ensures in
    list-text (listed v) c.args.list.now (sym c.is_empty.ensures ∙ c.if-is_empty.false) c.in-Ok.ensures.cases.1
    ∙ (ap (listed v) (sym c.in-Ok.ensures.cases.0) ∙ sym found)
