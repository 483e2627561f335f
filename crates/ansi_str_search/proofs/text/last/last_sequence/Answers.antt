-- The last ESC begins the last sequence, or ends the string that the ESC before it opens.
use Rattle.std.proofs.Common.{rules, ◌≡◌, ◌+◌, ◌-◌, ℕ, List, take, drop, ap, sym, ◌∙◌, subst, arith}
use Rattle.ansi_scan.specs.Pieces.{leading_piece}
use Rattle.ansi_str_search.specs.Text.StyledText.{has_escape}
use Rattle.ansi_str_search.specs.Text.Last.{IsLastEscape}
use Rattle.ansi_str_search.proofs.TextLemmas.LastSequence.{NoneReaches-byte, NoneReaches-none, NoneReaches-short, IsLastSequence-last, IsLastSequence-opened}
use Rattle.ansi_str_search.proofs.text.last.last_sequence.Goals as goal

-- what comes before the last ESC is the text up to it
before-last : (text before : List ℕ) (last : ℕ) → before ≡ take (last - 0) text → before ≡ take last text
before-last text before last is = let whole : last - 0 ≡ last = omega arith in is ∙ ap (λ n. take n text) whole

-- the length of the first sequence after a place
first-long : (text rest : List ℕ) (at len : ℕ) → len ≡ (leading_piece rest).1 → rest ≡ drop at text → len ≡ (leading_piece (drop at text)).1
first-long text rest at len told is = told ∙ ap (λ (bs : List ℕ). (leading_piece bs).1) is

pub returns-in_err-last : goal.returns-in_err-last
returns-in_err-last c = let none = c.in_err-last.ensures.found in search (rules, none)

pub returns-then-not-is_backslash_at : goal.returns-then-not-is_backslash_at
returns-then-not-is_backslash_at c =
    let text : List ℕ = c.args.text.now in
    let last : ℕ = c.in_ok-last.last in
    IsLastSequence-last text last c.in_ok-last.ensures.found (NoneReaches-byte text last (sym c.is_backslash_at.ensures ∙ c.if-not-is_backslash_at.true))

pub returns-in-Some : goal.returns-in-Some
returns-in-Some c =
    let text : List ℕ = c.args.text.now in
    let last : ℕ = c.in_ok-last.last in
    let before = before-last text c.range.result.now last c.range.ensures.value in
    let len = first-long text c.range_from.result.now c.in-Some.opened c.first_len.result c.first_len.ensures.value c.range_from.ensures.value in
    IsLastSequence-opened text last c.in-Some.opened c.in_ok-last.ensures.found (subst (λ (bs : List ℕ). IsLastEscape bs c.in-Some.opened) before c.in-Some.ensures.found)
    (omega (arith, len, c.if-opened-first_len.true))

pub returns-in_default : goal.returns-in_default
returns-in_default c =
    let text : List ℕ = c.args.text.now in
    let last : ℕ = c.in_ok-last.last in
    let before = before-last text c.range.result.now last c.range.ensures.value in
    let len = first-long text c.range_from.result.now c.in-Some.opened c.first_len.result c.first_len.ensures.value c.range_from.ensures.value in
    IsLastSequence-last text last c.in_ok-last.ensures.found
    (NoneReaches-short text last c.in-Some.opened c.in_ok-last.ensures.found (subst (λ (bs : List ℕ). IsLastEscape bs c.in-Some.opened) before c.in-Some.ensures.found)
    (omega (arith, len, c.if-opened-first_len.false)))

pub returns-in_default-2 : goal.returns-in_default-2
returns-in_default-2 c =
    let text : List ℕ = c.args.text.now in
    let last : ℕ = c.in_ok-last.last in
    let before = before-last text c.range.result.now last c.range.ensures.value in
    IsLastSequence-last text last c.in_ok-last.ensures.found
    (NoneReaches-none (take last text) (drop (last + 1) text) (ap has_escape (sym before) ∙ c.in_default.ensures.found))
