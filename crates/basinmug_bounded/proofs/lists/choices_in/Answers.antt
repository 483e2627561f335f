use Rattle.std.proofs.Common.{◌≡◌, ◌∙◌, ap, map, option_map, refl, subst, sym, Some, Option, Vec, Global}
use Rattle.basinmug_bounded.proofs.OfLists.{list-no_text, list-text}
use Rattle.basinmug_bounded.proofs.lists.choices_in.Goals as goal
use Rattle.basinmug_values.specs.Choices.{chosen_listed, chosen_of}
use Rattle.program_options.specs.declared.basinmug.ColumnChoice.{ColumnChoice}

pub returns-in_default-clause-refused : goal.returns-in_default-clause-refused
returns-in_default-clause-refused c =
    (list-no_text chosen_listed c.args.list.now (sym c.is_empty.ensures ∙ c.if-is_empty.false) c.in_default.ensures.cases.0, refl)

pub returns-in-Ok-Some-clause-read : goal.returns-in-Ok-Some-clause-read
returns-in-Ok-Some-clause-read c =
    let listed : Some (map chosen_of c.in-Ok-Some.found.items) ≡ chosen_listed c.in-Ok.text.now =
    subst (λ (found : Option (Vec ColumnChoice Global)). option_map (λ choices. map chosen_of choices.items) found ≡ chosen_listed c.in-Ok.text.now) c.in-Ok-Some.field-0-is c.in-Ok-Some.ensures in
    list-text chosen_listed c.args.list.now (sym c.is_empty.ensures ∙ c.if-is_empty.false) c.in-Ok.ensures.cases.1
    ∙ (ap chosen_listed (sym c.in-Ok.ensures.cases.0) ∙ sym listed)
