-- A sequence at a time comes off the end of the text, where nothing comes after it.
use Rattle.std.proofs.Common.{rules, ◌≡◌, ◌++◌, [], length, ℕ, List, ap, sym, ◌∙◌, eqb-true}
use Rattle.std.specs.Prelude.{chars}
use Rattle.std.proofs.lemmas.Str.{chars-nil}
use Rattle.ansi_str_search.specs.Text.Characters.{shown_chars}
use Rattle.ansi_str_search.proofs.TextLemmas.ShownCharacters.{shown_chars-nothing, shown_chars-empty, chars-behind_none}
use Rattle.ansi_str_search.proofs.text.last.split_last_text.Goals as goal

pub loop-rest-preserved : goal.loop-rest-preserved
loop-rest-preserved c =
    let same : shown_chars c.split_last.result.0.now ≡ shown_chars c.args.text.now =
    sym (c.split_last.ensures.shown ∙ chars-behind_none (shown_chars c.split_last.result.0.now) c.split_last.result.1.now (eqb-true (length c.split_last.result.1.now) 0 (sym c.if-not-is_empty.ensures)))
    ∙ c.loop-rest.invariant.1 in
    search (rules, same)

pub returns-clause-shown : goal.returns-clause-shown
returns-clause-shown c =
    let none : shown_chars c.args.text.now ≡ [] =
    sym c.loop-rest.invariant.1 ∙ shown_chars-empty c.loop-rest.rest.now (eqb-true (length c.loop-rest.rest.now) 0 (sym c.loop-rest-test.ensures)) in
    none ∙ sym (ap (λ (cs : List ℕ). cs ++ chars []) shown_chars-nothing ∙ chars-nil)

pub returns-clause-empty : goal.returns-clause-empty
returns-clause-empty c = λ _. shown_chars-nothing
