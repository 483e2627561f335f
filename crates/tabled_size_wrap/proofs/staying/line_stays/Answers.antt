use Rattle.std.proofs.Common.{Bool, ap, sym, ◌∙◌, chars}
use Rattle.std.specs.Prelude.{◌||◌, not}
use Rattle.std.specs.List.{list_all}
use Rattle.grid_records_measure.specs.PlainCharacters.{is_plain_character}
use Rattle.tabled_size_wrap.proofs.StayingTexts.{costs_less}
use Rattle.tabled_size_wrap.proofs.staying.line_stays.Goals as goal

pub returns-then-not-keep_words : goal.returns-then-not-keep_words
returns-then-not-keep_words c =
    let line = c.args.line.now in
    let keep : Bool = c.args.keep_words in
    let plain : Bool = list_all is_plain_character (chars line) in
    costs_less c.args.width line c.utf8.line keep (not keep) (sym c.if-takes_at_most.true ∙ c.takes_at_most.ensures)
    (ap not c.if-not-keep_words.true ∙ sym (ap (λ k. not k || plain) c.if-not-keep_words.true))

pub returns-else-not-keep_words : goal.returns-else-not-keep_words
returns-else-not-keep_words c =
    let line = c.args.line.now in
    let plain : Bool = list_all is_plain_character (chars line) in
    costs_less c.args.width line c.utf8.line c.args.keep_words c.is_plain.result (sym c.if-takes_at_most.true ∙ c.takes_at_most.ensures)
    (c.is_plain.ensures ∙ sym (ap (λ k. not k || plain) c.if-not-keep_words.false))
