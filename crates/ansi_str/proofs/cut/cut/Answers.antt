-- What the ends of a cut say, where it borrows and where it is joined.
use Rattle.std.proofs.Common.{◌≡◌, ◌∙◌, ◌++◌, true, false, ℕ, List, sym, ap}
use Rattle.ansi_scan.specs.Sequences.{joined}
use Rattle.ansi_scan.specs.Pieces.{pieces}
use Rattle.ansi_str.specs.StyledText.{has_escape}
use Rattle.ansi_str.specs.Parts.{before_place}
use Rattle.ansi_str.proofs.CutSteps.{true-unless}
use Rattle.ansi_str.specs.Walking.{sequences}
use Rattle.ansi_scan.specs.StartsAndEnds.{end_bytes}
use Rattle.ansi_str.proofs.cut.cut.Goals.{else-is_plain-via-then-is_plain+else-not-has_escape, else-is_plain-via-else-is_plain}
use Rattle.ansi_str.proofs.cut.cut.Goals as goal

pub front-requires : goal.front-requires
front-requires c = (joined (before_place c.args.start (pieces c.args.text.now)), c.cut_ends-first.ensures.behind)

pub front-slice-requires : goal.front-slice-requires
front-slice-requires c = (c.cut_ends-first.ensures.slice, c.cut_ends-first.ensures.sliced)

pub returns-then-not-has_escape-clause-part : goal.returns-then-not-has_escape-clause-part
returns-then-not-has_escape-clause-part c = λ ps of_text.
    let none = ap has_escape (sym c.front.ensures) ∙ sym c.has_escape.ensures ∙ c.if-not-has_escape.true in
    c.front-slice.ensures ∙ c.cut_ends-first.ensures.bare none (c.is_plain.ensures.0 c.if-is_plain.true) ps of_text

pub returns-in_err-joined_cut-clause-answers : goal.returns-in_err-joined_cut-clause-answers
returns-in_err-joined_cut-clause-answers c = λ gone.
    elim c.else-is_plain.branch [
      | else-is_plain-via-then-is_plain+else-not-has_escape w ↦
          let found : true ≡ false = sym w.if-not-has_escape.false ∙ w.has_escape.ensures ∙ ap has_escape w.front.ensures ∙ c.cut_ends-first.ensures.none_before gone in cc found
      | else-is_plain-via-else-is_plain w ↦
          let plain : false ≡ true = sym w.if-is_plain.false ∙ c.is_plain.ensures.1 (c.cut_ends-first.ensures.plain gone) in cc plain
    ]

pub returns-clause-part : goal.returns-clause-part
returns-clause-part c = λ ps of_text.
    c.in_ok-joined_cut.ensures
    ∙ ap (λ (bytes : List ℕ). sequences (before_place c.args.start (pieces c.args.text.now)) ++ (bytes ++ end_bytes c.cut_ends-first.result.1.style)) c.front-slice.ensures
    ∙ c.cut_ends-first.ensures.spelled ps of_text

pub returns-clause-borrows : goal.returns-clause-borrows
returns-clause-borrows c = λ _. true-unless (has_escape c.args.text.now) (λ gone.
    elim c.else-is_plain.branch [
      | else-is_plain-via-then-is_plain+else-not-has_escape w ↦
          let found : true ≡ false = sym w.if-not-has_escape.false ∙ w.has_escape.ensures ∙ ap has_escape w.front.ensures ∙ c.cut_ends-first.ensures.none_before gone in cc found
      | else-is_plain-via-else-is_plain w ↦
          let plain : false ≡ true = sym w.if-is_plain.false ∙ c.is_plain.ensures.1 (c.cut_ends-first.ensures.plain gone) in cc plain
    ])
