use Rattle.std.proofs.Common.{◌≡◌, ap, length, subst, sym, ◌∙◌}
use Rattle.ansi_scan.specs.Pieces.{pieces}
use Rattle.ansi_str.specs.StyledText.{strip}
use Rattle.papergrid_picture.specs.Colors.ClosingColors.{ShowNothing}
use Rattle.tabled_steps.specs.States.{State, column_count}
use Rattle.tabled_list.specs.Stripping.Printing.{IsFitsAnswer, SpansAreGood, drawn_frame, printed}
use Rattle.tabled_list.specs.Stripping.Stripping.{stripped_state, uncolored_state}
use Rattle.tabled_list.proofs.StrippingLemmas.BareLooks.{colors-silent, runs-bare}
use Rattle.tabled_list.proofs.StrippingLemmas.OneOutcome.{one-run}
use Rattle.tabled_list.proofs.StrippingLemmas.StrippedRuns.{runs-stripped}
use Rattle.tabled_list.proofs.StrippingLemmas.StrippedTables.{fit-stripped, one-answer, printed-stripped, printed-uncolored, strips-same}
use Rattle.tabled_list.proofs.stripping.layout_and_stripping_can_be_exchanged.Goals as goal

pub returns-clause-look : goal.returns-clause-look
returns-clause-look c = λ settings s last no_escape bare is. (runs-bare settings no_escape s last bare is).0

pub returns-clause-colors : goal.returns-clause-colors
returns-clause-colors c = λ settings s last no_escape bare is. (runs-bare settings no_escape s last bare is).1

pub returns-clause-silent : goal.returns-clause-silent
returns-clause-silent c = λ settings s last no_escape bare silent is.
    subst ShowNothing (sym (runs-bare settings no_escape s last bare is).1) (colors-silent settings no_escape s.colors silent)

pub returns-clause-text : goal.returns-clause-text
returns-clause-text c = λ settings s last other no_escape whole bare silent is there.
    let passed = runs-stripped settings s last no_escape whole is in
    let looks = runs-bare settings no_escape s last bare is in
    printed-stripped last looks.0 passed.1 (subst ShowNothing (sym looks.1) (colors-silent settings no_escape s.colors silent))
    ∙ ap (λ (m : State). printed (uncolored_state m)) (one-run settings (stripped_state s) (stripped_state last) other passed.0 there)

pub returns-clause-both : goal.returns-clause-both
returns-clause-both c = λ settings s last other no_escape whole bare silent is there.
    let passed = runs-stripped settings s last no_escape whole is in
    let looks = runs-bare settings no_escape s last bare is in
    strips-same last looks.0 passed.1 (subst ShowNothing (sym looks.1) (colors-silent settings no_escape s.colors silent))
    ∙ ap (λ (m : State). strip (pieces (printed m))) (one-run settings (stripped_state s) (stripped_state last) other passed.0 there)

pub returns-clause-no_colors : goal.returns-clause-no_colors
returns-clause-no_colors c = λ settings s last other no_escape whole bare none is there.
    let passed = runs-stripped settings s last no_escape whole is in
    let looks = runs-bare settings no_escape s last bare is in
    printed-uncolored last looks.0 passed.1 (looks.1 ∙ none) ∙ ap printed (one-run settings (stripped_state s) (stripped_state last) other passed.0 there)

pub returns-clause-refused : goal.returns-clause-refused
returns-clause-refused c = λ settings s last other a b no_escape whole is there fit_a fit_b.
    let passed = runs-stripped settings s last no_escape whole is in
    let same : stripped_state last ≡ other = one-run settings (stripped_state s) (stripped_state last) other passed.0 there in
    one-answer (drawn_frame last) last.rows (SpansAreGood last.look.extent (length last.rows) (column_count last.rows)) a b fit_a
    (subst (λ (T : Type 0). T) (fit-stripped last b) (subst (λ (m : State). IsFitsAnswer m b) (sym same) fit_b))
