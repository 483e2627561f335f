-- A step over text or over a sequence.
use Rattle.std.proofs.Common.{rules, ◌≡◌, ◌∙◌, ◌++◌, string_bytes, sym, ap, arith, append_assoc, append-nil}
use Rattle.ansi_scan.specs.Sequences.{Piece}
use Rattle.ansi_scan.specs.Pieces.{pieces}
use Rattle.ansi_str.specs.Parts.{before_place}
use Rattle.ansi_str.specs.Walking.{sequences}
use Rattle.ansi_scan.specs.Joining.{is_text_kind}
use Rattle.ansi_str_search.proofs.Dressed.{other_kind}
use Rattle.ansi_str_search.proofs.PiecesAtPlaces.{before-none}
use Rattle.ansi_str_search.proofs.Walks.{first-shorter}
use Rattle.ansi_str.proofs.CutSteps.{sequences-past_text, sequences-past_sequence}
use Rattle.ansi_str.proofs.cut.sequences_before.Goals.{else-loop-left-test, then-loop-left-test+in_default}
use Rattle.ansi_str.proofs.cut.sequences_before.Goals as goal

pub loop-left-smaller-in-Text : goal.loop-left-smaller-in-Text
loop-left-smaller-in-Text c = first-shorter c.loop-left.rest.now c.in-Some.behind.now (record { kind = c.in-Some.kind; bytes = c.in-Some.bytes.now }) c.in-Some.ensures

pub loop-left-preserved-in-Text : goal.loop-left-preserved-in-Text
loop-left-preserved-in-Text c =
    let out = string_bytes c.loop-left.out in
    let left = c.loop-left.left in
    let first : Piece = record { kind = c.in-Some.kind; bytes = c.in-Some.bytes.now } in
    let behind = pieces c.in-Some.behind.now in (
      search rules,
      ap (λ n. out ++ sequences (before_place n behind)) c.saturating_sub-left.ensures
          ∙ ap (λ bytes. out ++ bytes) (sym (sequences-past_text left first behind c.loop-left-test.true (ap is_text_kind c.in-Text.is)))
          ∙ ap (λ ps. out ++ sequences (before_place left ps)) (sym c.in-Some.ensures) ∙ c.loop-left.invariant.1,
    )

pub loop-left-preserved : goal.loop-left-preserved
loop-left-preserved c =
    let out = string_bytes c.loop-left.out in
    let left = c.loop-left.left in
    let first : Piece = record { kind = c.in-Some.kind; bytes = c.in-Some.bytes.now } in
    let behind = pieces c.in-Some.behind.now in (
      search rules,
      ap (λ bytes. bytes ++ sequences (before_place left behind)) c.in_ok-push_str-in_default-kind.ensures.bytes
          ∙ append_assoc out c.in-Some.bytes.now (sequences (before_place left behind))
          ∙ ap (λ bytes. out ++ bytes) (sym (sequences-past_sequence left first behind c.loop-left-test.true (other_kind c.in-Some.kind c.in_default-kind.not-Text)))
          ∙ ap (λ ps. out ++ sequences (before_place left ps)) (sym c.in-Some.ensures) ∙ c.loop-left.invariant.1,
    )

pub loop-left-smaller : goal.loop-left-smaller
loop-left-smaller c = first-shorter c.loop-left.rest.now c.in-Some.behind.now (record { kind = c.in-Some.kind; bytes = c.in-Some.bytes.now }) c.in-Some.ensures

pub returns : goal.returns
returns c = elim c.loop-left-test.branch [
  | else-loop-left-test w ↦
      let over : 0 ≡ c.loop-left.left = omega (arith, w.loop-left-test.false) in
      sym (append-nil (string_bytes c.loop-left.out))
      ∙ ap (λ found. string_bytes c.loop-left.out ++ sequences found) (sym (before-none (pieces c.loop-left.rest.now)))
      ∙ ap (λ n. string_bytes c.loop-left.out ++ sequences (before_place n (pieces c.loop-left.rest.now))) over ∙ c.loop-left.invariant.1
  | then-loop-left-test+in_default w ↦
      sym (append-nil (string_bytes c.loop-left.out))
      ∙ ap (λ ps. string_bytes c.loop-left.out ++ sequences (before_place c.loop-left.left ps)) (sym w.in_default.ensures) ∙ c.loop-left.invariant.1
]
