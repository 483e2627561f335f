-- The front comes first, then the first item of text, then the back.
use Rattle.std.proofs.Common.{rules, ◌≡◌, [], ◌∷◌, ℕ, List, ap, sym, ◌∙◌}
use Rattle.std.specs.Prelude.{chars}
use Rattle.std.proofs.lemmas.Str.{chars-nil}
use Rattle.ansi_str_search.proofs.TextLemmas.ShownCharacters.{left_chars, left_chars-first, left_chars-back, left_chars-only_back}
use Rattle.ansi_str_search.proofs.text.characters.StrippedCharsIterator.next.Goals as goal

pub returns-in-Some-split_first-clause-steps : goal.returns-in-Some-split_first-clause-steps
returns-in-Some-split_first-clause-steps c =
    sym c.self.view_is
    ∙ left_chars-first c.self.inside.front.now c.self.inside.rest.now c.self.inside.back.now c.split_first_text.result.0.now c.split_first_text.result.1.now c.in-Some-split_first.left.now c.in-Some-split_first.character
    c.in_default.ensures c.split_first_text.ensures.shown c.in-Some-split_first.ensures

pub returns-in_err-character-clause-steps : goal.returns-in_err-character-clause-steps
returns-in_err-character-clause-steps c =
    let none : chars c.self.inside.back.now ≡ [] = ap chars c.in_err-character.ensures ∙ chars-nil in
    let before : c.args.self.now ≡ [] =
    sym c.self.view_is
    ∙ left_chars-back c.self.inside.front.now c.self.inside.rest.now c.self.inside.back.now c.split_first_text.result.0.now c.split_first_text.result.1.now
    c.in_default.ensures c.split_first_text.ensures.shown c.in_default-split_first.ensures c.split_first_text.ensures.empty
    ∙ none in
    let after : left_chars c.self.inside.front.now c.split_first_text.result.1.now c.self.inside.back.now ≡ [] =
    left_chars-only_back c.self.inside.front.now c.split_first_text.result.1.now c.self.inside.back.now c.in_default.ensures (c.split_first_text.ensures.empty c.in_default-split_first.ensures) ∙ none in
    search (rules, before, after)

pub returns-clause-steps : goal.returns-clause-steps
returns-clause-steps c =
    sym c.self.view_is
    ∙ left_chars-back c.self.inside.front.now c.self.inside.rest.now c.self.inside.back.now c.split_first_text.result.0.now c.split_first_text.result.1.now
    c.in_default.ensures c.split_first_text.ensures.shown c.in_default-split_first.ensures c.split_first_text.ensures.empty
    ∙ c.in_ok-character.ensures
    ∙ ap (λ (cs : List ℕ). c.in_ok-character.character ∷ cs)
    (sym (left_chars-only_back c.self.inside.front.now c.split_first_text.result.1.now c.in_ok-character.left.now c.in_default.ensures (c.split_first_text.ensures.empty c.in_default-split_first.ensures)))
