-- A number shows itself.
use Rattle.std.proofs.Common.{◌≡◌, ◌∙◌, ap, sym, Bool, true, length}
use Rattle.std.specs.Prelude.{◌==◌, if◌then◌else◌}
use Rattle.basinmug_columns.specs.Numbers.Columns.{content_kind}
use Rattle.basinmug_columns.specs.Numbers.Numbers.{is_number}
use Rattle.basinmug_columns.specs.declared.numbers.columns.Content.TheVariants.{Blank, Number, Text}
use Rattle.basinmug_columns.proofs.NumbersLemmas.Itself.{number-content}
use Rattle.basinmug_columns.proofs.numbers.columns.content_of.Goals as goal

pub returns-then-is_number : goal.returns-then-is_number
returns-then-is_number c =
    let text = c.args.text.now in
    let is : is_number text ≡ true = ap is_number (sym c.as_bytes.ensures.value) ∙ sym c.is_number.ensures ∙ c.if-is_number.true in
    sym (ap content_kind (number-content text is) ∙ ap (λ (number : Bool). if number then Number else if length text == 0 then Blank else Text) is)
