use Rattle.std.proofs.Common.{◌≡◌, ◌∙◌, Some, ap, option_map, subst, sym, vec_items}
use Rattle.columns_bounded.proofs.ListedColors.{colors-no_text, colors-text, listed-close}
use Rattle.columns_bounded.proofs.colors.listed.Goals as goal
use Rattle.program_options.specs.ColorList.Listed.{listed_colors}

pub returns-in_default-from_utf8-clause-refused : goal.returns-in_default-from_utf8-clause-refused
returns-in_default-from_utf8-clause-refused c = rw c.in-Some.is (colors-no_text c.in-Some.list.now c.in_default-from_utf8.ensures.cases.0)

pub returns-in-Ok-Some-clause-colors : goal.returns-in-Ok-Some-clause-colors
returns-in-Ok-Some-clause-colors c =
    let listed : Some c.in-Ok-Some.found.items ≡ listed_colors c.in-Ok.list.now = subst (λ found. option_map vec_items found ≡ listed_colors c.in-Ok.list.now) c.in-Ok-Some.field-0-is c.in-Ok-Some.ensures in
    rw c.in-Some.is (colors-text c.in-Some.list.now c.in-Ok.ensures.cases.1 ∙ (ap listed_colors (sym c.in-Ok.ensures.cases.0) ∙ sym listed))

pub returns-in-Ok-Some-clause-close : goal.returns-in-Ok-Some-clause-close
returns-in-Ok-Some-clause-close c =
    let listed : Some c.in-Ok-Some.found.items ≡ listed_colors c.in-Ok.list.now = subst (λ found. option_map vec_items found ≡ listed_colors c.in-Ok.list.now) c.in-Ok-Some.field-0-is c.in-Ok-Some.ensures in
    listed-close c.in-Ok.list.now c.in-Ok-Some.found.items listed
