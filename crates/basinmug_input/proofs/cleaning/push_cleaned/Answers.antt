-- A text of characters that stay is shown as it is.
use Rattle.std.proofs.Common.{rules, ◌≡◌, ◌∙◌, sym, chars}
use Rattle.std.proofs.lemmas.Str.{encodes-chars}
use Rattle.basinmug_input.specs.Cleaning.{cleaned_text}
use Rattle.basinmug_input.proofs.Cleans.{stay-cleaned}
use Rattle.basinmug_input.proofs.cleaning.push_cleaned.Goals as goal

pub returns-then-all_stay : goal.returns-then-all_stay
returns-then-all_stay c =
    let text = c.args.text.now in
    let escapes = c.args.escapes in
    let same : cleaned_text escapes (chars text) ≡ text = stay-cleaned escapes (chars text) (sym c.all_stay.ensures ∙ c.if-all_stay.true) ∙ encodes-chars text c.utf8.text in
    search (rules, same)
