-- The least place after the start at which the text can be cut is such a place of the stripped text too.
use Rattle.std.proofs.Common.{sym, ◌∙◌, length, arith, eqb-true}
use Rattle.ansi_str_search.proofs.Finds.{char_within, first_match-character, first_match-no_character, not_empty, text_some}
use Rattle.ansi_str_search.proofs.matches.first_character.Goals as goal

pub returns-clause-found : goal.returns-clause-found
returns-clause-found c =
    let text = c.args.text.now in
    let some = not_empty (length text) c.if-is_empty.ensures in
    first_match-character text c.ceil_char_boundary.result c.utf8.text (text_some text c.requires some) (c.ceil_char_boundary.ensures.bound (omega (arith, some))) c.ceil_char_boundary.ensures.boundary c.ceil_char_boundary.ensures.nearest

pub returns-clause-within : goal.returns-clause-within
returns-clause-within c =
    let text = c.args.text.now in
    let some = not_empty (length text) c.if-is_empty.ensures in
    char_within text c.ceil_char_boundary.result c.utf8.text (text_some text c.requires some) (c.ceil_char_boundary.ensures.bound (omega (arith, some))) c.ceil_char_boundary.ensures.boundary c.ceil_char_boundary.ensures.nearest

pub returns-then-is_empty-clause-found : goal.returns-then-is_empty-clause-found
returns-then-is_empty-clause-found c = first_match-no_character c.args.text.now (eqb-true (length c.args.text.now) 0 (sym c.is_empty.ensures ∙ c.if-is_empty.true))
