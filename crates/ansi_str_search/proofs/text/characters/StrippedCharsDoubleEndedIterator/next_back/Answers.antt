-- The back comes first, then the last item of text, then the front.
use Rattle.std.proofs.Common.{rules, ◌≡◌, [], ◌∷◌, ◌++◌, ℕ, List, ap, sym, ◌∙◌}
use Rattle.std.specs.Prelude.{chars}
use Rattle.std.proofs.lemmas.Str.{chars-nil}
use Rattle.ansi_str_search.proofs.TextLemmas.ShownCharacters.{left_chars, left_chars-last, left_chars-front, left_chars-only_front}
use Rattle.ansi_str_search.proofs.text.characters.StrippedCharsDoubleEndedIterator.next_back.Goals as goal

pub returns-in-Some-split_last-clause-steps : goal.returns-in-Some-split_last-clause-steps
returns-in-Some-split_last-clause-steps c =
    sym c.self.view_is
    ∙ left_chars-last c.self.inside.front.now c.self.inside.rest.now c.self.inside.back.now c.split_last_text.result.1.now c.split_last_text.result.0.now c.in-Some-split_last.left.now c.in-Some-split_last.character
    c.in_default.ensures c.split_last_text.ensures.shown c.in-Some-split_last.ensures

pub returns-in_err-left-clause-steps : goal.returns-in_err-left-clause-steps
returns-in_err-left-clause-steps c =
    let none : chars c.self.inside.front.now ≡ [] = ap chars c.in_err-left.ensures ∙ chars-nil in
    let before : c.args.self.now ≡ [] =
    sym c.self.view_is
    ∙ left_chars-front c.self.inside.front.now c.self.inside.rest.now c.self.inside.back.now c.split_last_text.result.1.now c.split_last_text.result.0.now
    c.in_default.ensures c.split_last_text.ensures.shown c.in_default-split_last.ensures c.split_last_text.ensures.empty
    ∙ none in
    let after : left_chars c.self.inside.front.now c.split_last_text.result.0.now c.self.inside.back.now ≡ [] =
    left_chars-only_front c.self.inside.front.now c.split_last_text.result.0.now c.self.inside.back.now c.in_default.ensures (c.split_last_text.ensures.empty c.in_default-split_last.ensures) ∙ none in
    search (rules, before, after)

pub returns-clause-steps : goal.returns-clause-steps
returns-clause-steps c =
    sym c.self.view_is
    ∙ left_chars-front c.self.inside.front.now c.self.inside.rest.now c.self.inside.back.now c.split_last_text.result.1.now c.split_last_text.result.0.now
    c.in_default.ensures c.split_last_text.ensures.shown c.in_default-split_last.ensures c.split_last_text.ensures.empty
    ∙ c.in_ok-left.ensures
    ∙ ap (λ (cs : List ℕ). cs ++ c.in_ok-left.character ∷ [])
    (sym (left_chars-only_front c.in_ok-left.left.now c.split_last_text.result.0.now c.self.inside.back.now c.in_default.ensures (c.split_last_text.ensures.empty c.in_default-split_last.ensures)))
