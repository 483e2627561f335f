-- A text that shows no tab stays; else each piece is replaced.
use Rattle.std.proofs.Common.{◌≡◌, ◌∙◌, ap, sym, replicate, true, false}
use Rattle.ansi_scan.specs.Pieces.{pieces}
use Rattle.ansi_scan.proofs.Existence.{ArePiecesOf-pieces}
use Rattle.ansi_scan.proofs.Uniqueness.{ArePiecesOf-unique}
use Rattle.ansi_str.specs.StyledText.{strip}
use Rattle.grid_records_measure.specs.Tabs.{space, has_tab, tabs_replaced}
use Rattle.grid_records_measure.proofs.AroundTabs.{pieces-without_tab}
use Rattle.grid_records_measure.proofs.tabs.replace_tab.Goals as goal

pub returns-then-not-shows_tab-clause-replaces : goal.returns-then-not-shows_tab-clause-replaces
returns-then-not-shows_tab-clause-replaces c = λ ps of_text.
    let text = c.args.text.now in
    let same = ArePiecesOf-unique text (pieces text) ps (ArePiecesOf-pieces text) of_text in
    let none : has_tab (strip ps) ≡ false = ap (λ of. has_tab (strip of)) (sym same) ∙ sym c.shows_tab.ensures ∙ c.if-not-shows_tab.true in
    sym of_text.joins ∙ sym (pieces-without_tab (replicate c.args.n space) ps none)

pub returns-in_err-with_spaces-clause-answers : goal.returns-in_err-with_spaces-clause-answers
returns-in_err-with_spaces-clause-answers c = λ ps of_text none.
    let text = c.args.text.now in
    let same = ArePiecesOf-unique text (pieces text) ps (ArePiecesOf-pieces text) of_text in
    let found : true ≡ false = sym c.if-not-shows_tab.false ∙ c.shows_tab.ensures ∙ ap (λ of. has_tab (strip of)) same ∙ none in
    absurd (cc found)

pub returns-clause-replaces : goal.returns-clause-replaces
returns-clause-replaces c = λ ps of_text.
    let text = c.args.text.now in
    c.in_ok-with_spaces.ensures ∙ ap (tabs_replaced c.args.n) (ArePiecesOf-unique text (pieces text) ps (ArePiecesOf-pieces text) of_text)

pub returns-clause-borrows : goal.returns-clause-borrows
returns-clause-borrows c = λ _ ps of_text.
    let text = c.args.text.now in
    let same = ArePiecesOf-unique text (pieces text) ps (ArePiecesOf-pieces text) of_text in
    ap (λ of. has_tab (strip of)) (sym same) ∙ sym c.shows_tab.ensures ∙ c.if-not-shows_tab.false
