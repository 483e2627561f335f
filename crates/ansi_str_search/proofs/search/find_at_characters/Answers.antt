-- A step over a character, and the sequences after it.
use Rattle.std.proofs.Common.{rules, ◌∙◌, ◌≤◌, ◌+◌, ap, sym, length, List, ℕ, arith}
use Rattle.ansi_scan.specs.Pieces.{pieces}
use Rattle.ansi_str_search.specs.Text.StyledText.{strip}
use Rattle.ansi_str_search.proofs.Rests.{strip-fits}
use Rattle.ansi_str_search.proofs.FirstPlaces.{IsFoundLeft-on, found-here, found-nowhere, char_sum, char_shorter}
use Rattle.ansi_str_search.proofs.search.find_at_characters.Goals as goal

pub returns-in_err-len : goal.returns-in_err-len
returns-in_err-len c =
    let l = c.loop-rest in
    c.from_residual.ensures
    ∙ found-nowhere c.args.pattern.now l.rest.now l.passed c.args.text.now l.invariant.1 (sym c.shows_first.ensures ∙ c.loop-rest-test.true) c.in_err-len.ensures.found

pub overflow_add-passed : goal.overflow_add-passed
overflow_add-passed c =
    let l = c.loop-rest in
    let sum = char_sum c.args.pattern.now l.rest.now l.passed c.args.text.now l.invariant.1 (sym c.shows_first.ensures ∙ c.loop-rest-test.true) c.in_ok-len.len c.in_ok-len.ensures.found in
    let all = strip-fits c.args.text.now in
    let fits : l.passed + c.in_ok-len.len ≤ length c.args.text.now = omega (arith, sum, all) in
    search (rules, fits)

pub loop-rest-smaller : goal.loop-rest-smaller
loop-rest-smaller c =
    let l = c.loop-rest in
    let behind = c.behind_sequences-rest-in-loop-rest in
    char_shorter c.args.pattern.now l.rest.now l.passed c.args.text.now l.invariant.1 (sym c.shows_first.ensures ∙ c.loop-rest-test.true) c.in_ok-len.len c.in_ok-len.ensures.found c.in_ok-len.ensures.within
    behind.result.now (behind.ensures.shown ∙ ap (λ (bytes : List ℕ). strip (pieces bytes)) c.range_from.ensures.value)

pub loop-rest-preserved : goal.loop-rest-preserved
loop-rest-preserved c =
    let l = c.loop-rest in
    let behind = c.behind_sequences-rest-in-loop-rest in (
      behind.utf8,
      IsFoundLeft-on c.args.pattern.now l.rest.now l.passed c.args.text.now l.invariant.1 (sym c.shows_first.ensures ∙ c.loop-rest-test.true) c.in_ok-len.len c.in_ok-len.ensures.found c.in_ok-len.ensures.within
          behind.result.now (behind.ensures.shown ∙ ap (λ (bytes : List ℕ). strip (pieces bytes)) c.range_from.ensures.value) behind.ensures.behind,
    )

pub returns : goal.returns
returns c =
    let l = c.loop-rest in
    found-here c.args.pattern.now l.rest.now l.passed c.args.text.now l.invariant.1 l.invariant.0 (sym c.shows_first.ensures ∙ c.loop-rest-test.false)
