-- What the last sequence separates.
use Rattle.std.proofs.Common.{◌≡◌, ◌-◌, ℕ, List, ◌++◌, take, ap, sym, ◌∙◌, arith}
use Rattle.std.specs.Prelude.{chars}
use Rattle.ansi_str_search.proofs.TextLemmas.LastSequence.{strip-last}
use Rattle.ansi_str_search.proofs.TextLemmas.ShownCharacters.{shown_chars-last, shown_chars-plain, shown_chars-nothing}
use Rattle.ansi_str_search.proofs.text.last.split_last.Goals as goal

pub returns-in_default-clause-shown : goal.returns-in_default-clause-shown
returns-in_default-clause-shown c =
    shown_chars-plain c.args.text.now c.in_default.ensures ∙ ap (λ (cs : List ℕ). cs ++ chars c.args.text.now) (sym shown_chars-nothing)

pub returns-clause-shown : goal.returns-clause-shown
returns-clause-shown c =
    let whole : c.in-Some.start - 0 ≡ c.in-Some.start = omega arith in
    let before : c.range.result.now ≡ take c.in-Some.start c.args.text.now = c.range.ensures.value ∙ ap (λ n. take n c.args.text.now) whole in
    shown_chars-last c.args.text.now c.range.result.now c.range_from.result.now
    (strip-last c.args.text.now c.range.result.now c.range_from-sequence.result.now c.range_from.result.now c.in-Some.start c.first_len.result
    c.in-Some.ensures before c.range_from-sequence.ensures.value c.first_len.ensures.value c.range_from.ensures.value)
    c.range.utf8
