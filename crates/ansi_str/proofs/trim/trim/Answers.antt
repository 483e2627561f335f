-- What the text shows is trimmed, and the text is kept where that is left.
use Rattle.std.proofs.Common.{◌∙◌, subst, List, ℕ}
use Rattle.std.specs.Str.{IsCharBoundary}
use Rattle.ansi_scan.specs.Pieces.{pieces}
use Rattle.ansi_scan.proofs.Existence.{ArePiecesOf-pieces}
use Rattle.ansi_str.specs.Keeping.{IsTrimmedAt}
use Rattle.ansi_str.proofs.Trims.{all_trimmed}
use Rattle.ansi_str.proofs.trim.trim.Goals as goal

pub keep-requires-clause-from : goal.keep-requires-clause-from
keep-requires-clause-from c = λ less.
    let text = c.args.text.now in
    let shown = c.as_str-shown.ensures.value ∙ c.in_ok-shown.ensures.strips (pieces text) (ArePiecesOf-pieces text) in
    subst (λ (bytes : List ℕ). IsCharBoundary bytes c.trimmed_bounds-from.result.0) shown c.trimmed_bounds-from.ensures.from

pub keep-requires-clause-to : goal.keep-requires-clause-to
keep-requires-clause-to c = λ less.
    let text = c.args.text.now in
    let shown = c.as_str-shown.ensures.value ∙ c.in_ok-shown.ensures.strips (pieces text) (ArePiecesOf-pieces text) in
    subst (λ (bytes : List ℕ). IsCharBoundary bytes c.trimmed_bounds-from.result.1) shown c.trimmed_bounds-from.ensures.to

pub returns-clause-trims : goal.returns-clause-trims
returns-clause-trims c =
    let text = c.args.text.now in
    let shown = c.as_str-shown.ensures.value ∙ c.in_ok-shown.ensures.strips (pieces text) (ArePiecesOf-pieces text) in
    let from = c.trimmed_bounds-from.result.0 in
    let to = c.trimmed_bounds-from.result.1 in
    all_trimmed text from to (subst (λ (bytes : List ℕ). IsTrimmedAt bytes from to) shown c.trimmed_bounds-from.ensures.trimmed) c.keep.result c.keep.ensures.kept
