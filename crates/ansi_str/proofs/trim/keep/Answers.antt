-- Without sequences the text shows itself.
use Rattle.std.proofs.Common.{◌≡◌, ◌∙◌, ◌<◌, false, sym, subst, length, List, ℕ}
use Rattle.std.specs.Str.{IsCharBoundary}
use Rattle.ansi_scan.specs.Pieces.{pieces}
use Rattle.ansi_scan.proofs.Existence.{ArePiecesOf-pieces}
use Rattle.ansi_str.specs.StyledText.{has_escape, strip}
use Rattle.ansi_str_search.proofs.TextLemmas.Stripping.{strip-without_escape}
use Rattle.ansi_str.proofs.Keeps.{kept-plain}
use Rattle.ansi_str.proofs.trim.keep.Goals as goal

shows_itself : (text : List ℕ) → has_escape text ≡ false → strip (pieces text) ≡ text
shows_itself text gone = strip-without_escape text (pieces text) (ArePiecesOf-pieces text) gone

pub within-requires-clause-from : goal.within-requires-clause-from
within-requires-clause-from c =
    subst (λ (bytes : List ℕ). c.args.from < length bytes → IsCharBoundary bytes c.args.from) (shows_itself c.args.text.now (sym c.has_escape.ensures ∙ c.if-not-has_escape.true)) c.requires.from

pub within-requires-clause-to : goal.within-requires-clause-to
within-requires-clause-to c =
    subst (λ (bytes : List ℕ). c.args.to < length bytes → IsCharBoundary bytes c.args.to) (shows_itself c.args.text.now (sym c.has_escape.ensures ∙ c.if-not-has_escape.true)) c.requires.to

pub returns-then-not-has_escape-clause-kept : goal.returns-then-not-has_escape-clause-kept
returns-then-not-has_escape-clause-kept c = c.within.ensures ∙ kept-plain c.args.from c.args.to c.args.text.now (sym c.has_escape.ensures ∙ c.if-not-has_escape.true)
