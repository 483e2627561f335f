-- The new bytes follow those that have come.
use Rattle.std.proofs.Common.{◌≡◌, ◌∙◌, List, ℕ, ◌++◌, ap, drop, subst, sym, take, true}
use Rattle.std.specs.Prelude.{Some}
use Rattle.std.proofs.lemmas.List.{take-append-drop, take_rest}
use Rattle.std.proofs.lemmas.List.Sums.{fold-append}
use Rattle.basinmug_delimiter.specs.FirstLines.{IsStandOf}
use Rattle.basinmug_delimiter.specs.Preamble.{text_after_mark, tells_mark}
use Rattle.basinmug_delimiter.specs.States.{next_state, state_after}
use Rattle.basinmug_delimiter.specs.declared.state.State.{State}
use Rattle.basinmug_delimiter.specs.declared.state.State.TheVariants.{Before}
use Rattle.basinmug_delimiter.proofs.FirstLines.{mark-more, told-more}
use Rattle.basinmug_delimiter.proofs.first_line.FirstLine.with.Goals as goal

pub returns-in-Some : goal.returns-in-Some
returns-in-Some c =
    let bytes = c.args.bytes.now in
    let from = c.args.from in
    let front = take from bytes in
    let more = drop from bytes in
    let stand = c.in-Some.stand in
    let known : IsStandOf front (Some stand) = rw c.in-Some.is at c.requires.known in
    let all : front ++ more ≡ bytes = take-append-drop from bytes in
    let marked : text_after_mark bytes ≡ text_after_mark front ++ more = ap text_after_mark (sym all) ∙ mark-more front more known.0 in
    let is : state_after true stand more ≡ state_after true Before (text_after_mark bytes) =
    ap (λ (s : State). state_after true s more) known.1
    ∙ (sym (fold-append (next_state true) Before (text_after_mark front) more) ∙ ap (state_after true Before) (sym marked)) in
    (subst (λ (of : List ℕ). tells_mark of ≡ true) all (told-more front more known.0), c.state_behind.ensures ∙ (ap (state_after true stand) (take_rest bytes from) ∙ is))
