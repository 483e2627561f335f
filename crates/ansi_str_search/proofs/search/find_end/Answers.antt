-- Where the text ends with the pattern, the pattern is at the one place from which so many bytes are left.
use Rattle.std.proofs.Common.{◌≡◌, ◌∙◌, ◌+◌, ◌-◌, true, false, ap, sym, drop, length, List, arith}
use Rattle.ansi_scan.specs.Sequences.{Piece}
use Rattle.ansi_scan.specs.Pieces.{pieces}
use Rattle.ansi_str_search.specs.Text.StyledText.{strip}
use Rattle.ansi_str_search.specs.PartsLeft.{begins_with}
use Rattle.ansi_str_search.proofs.PiecesAtPlaces.{strip-from}
use Rattle.ansi_str_search.proofs.FirstPlaces.{ends-boundary, ends-begins, ends-there}
use Rattle.ansi_str_search.proofs.search.find_end.Goals as goal

pub returns-in_default : goal.returns-in_default
returns-in_default c = λ ends.
    let text = c.args.text.now in
    let p = c.args.pattern.now in
    let n = c.shown_len-len.result - length p in
    let sum : n + length p ≡ length (strip (pieces text)) = omega (arith, c.shown_len-len.ensures, c.if-len-pattern.false) in
    c.in_default.ensures (ends-boundary p (strip (pieces text)) n sum c.utf8.pattern ends)

pub returns-then-shows_first : goal.returns-then-shows_first
returns-then-shows_first c =
    let text = c.args.text.now in
    let p = c.args.pattern.now in
    let n = c.shown_len-len.result - length p in
    let sum : n + length p ≡ length (strip (pieces text)) = omega (arith, c.shown_len-len.ensures, c.if-len-pattern.false) in
    let begins : begins_with p (drop n (strip (pieces text))) ≡ true =
    ap (begins_with p) (sym (strip-from n (pieces text)) ∙ ap (λ (ps : List Piece). strip ps) (sym c.in-Some.ensures.1)) ∙ sym c.shows_first.ensures ∙ c.if-shows_first.true in
    (ends-there p (strip (pieces text)) n sum begins, (sum, c.in-Some.ensures.0))

pub returns-else-shows_first : goal.returns-else-shows_first
returns-else-shows_first c = λ ends.
    let text = c.args.text.now in
    let p = c.args.pattern.now in
    let n = c.shown_len-len.result - length p in
    let sum : n + length p ≡ length (strip (pieces text)) = omega (arith, c.shown_len-len.ensures, c.if-len-pattern.false) in
    let both : true ≡ false =
    sym (ends-begins p (strip (pieces text)) n sum ends) ∙ ap (begins_with p) (sym (strip-from n (pieces text)) ∙ ap (λ (ps : List Piece). strip ps) (sym c.in-Some.ensures.1)) ∙ sym c.shows_first.ensures ∙ c.if-shows_first.false in
    cc both
