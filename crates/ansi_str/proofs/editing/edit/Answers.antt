-- A step by one edit.
use Rattle.std.proofs.Common.{◌≡◌, ◌+◌, ◌∷◌, [], ◌<◌, ◌≤◌, refl, ◌∙◌, suc, ℕ, List, ap, length, drop, get_or, sym, subst, arith}
use Rattle.std.specs.Prelude.{string_bytes}
use Rattle.std.specs.Cow.{cow_str_bytes}
use Rattle.std.proofs.Math.Seq.{drop-cons}
use Rattle.std.proofs.lemmas.List.{drop_all}
use Rattle.ansi_scan.specs.Pieces.{pieces}
use Rattle.ansi_str.specs.declared.edits.Edit.{Edit}
use Rattle.ansi_str.specs.declared.edits.Edit.TheVariants.{Cut}
use Rattle.ansi_str.specs.Edits.{FailsOf, LeavesOf, TakeInTurn}
use Rattle.ansi_str.proofs.PickedParts.{Answers, Edited, Edited-end, Edited-fails, Edited-next}
use Rattle.ansi_str.proofs.EditLaws.{TakeInTurn-fails}
use Rattle.ansi_str.proofs.editing.edit.Goals as goal

-- the edit of this number
abbrev edit_at : List Edit → ℕ → Edit
edit_at edits i = get_or edits i (Cut 0 0)

-- the next edit is the first of those that are left
next : (edits : List Edit) (text now : List ℕ) (i : ℕ) → i < length edits → Edited edits text (drop i edits) now → Edited edits text (edit_at edits i ∷ drop (i + 1) edits) now
next edits text now i less edited =
    let one : suc i ≡ i + 1 = omega arith in
    subst (λ (left : List Edit). Edited edits text left now) (drop-cons edits i (Cut 0 0) less ∙ ap (λ n. edit_at edits i ∷ drop n edits) one) edited

pub returns-in_default-clause-none : goal.returns-in_default-clause-none
returns-in_default-clause-none c =
    let edits = c.args.edits.now in
    let text = c.args.text.now in
    let i = c.loop-edit.edit-index in
    let now = string_bytes c.loop-edit.left in
    let edit = edit_at edits i in
    let fails = subst (Answers edit (pieces c.as_str.result.now)) c.in_default.is c.in_ok-next.ensures in
    let failed =
    Edited-fails edits text edit (drop (i + 1) edits) now (next edits text now i c.loop-edit-test.true c.loop-edit.invariant)
    (subst (λ (bytes : List ℕ). FailsOf edit (pieces bytes)) c.as_str.ensures.value fails) in
    (λ _. failed, λ _. refl)

pub loop-edit-preserved : goal.loop-edit-preserved
loop-edit-preserved c =
    let edits = c.args.edits.now in
    let text = c.args.text.now in
    let i = c.loop-edit.edit-index in
    let now = string_bytes c.loop-edit.left in
    let edit = edit_at edits i in
    let left = cow_str_bytes c.in-Some.next in
    let leaves = subst (Answers edit (pieces c.as_str.result.now)) c.in-Some.is c.in_ok-next.ensures in
    let leaves_now = subst (λ (bytes : List ℕ). LeavesOf edit (pieces bytes) left) c.as_str.ensures.value leaves in
    subst (λ (bytes : List ℕ). Edited edits text (drop (i + 1) edits) bytes) (sym c.in_ok-left-2.ensures.ok)
    (Edited-next edits text edit (drop (i + 1) edits) now (next edits text now i c.loop-edit-test.true c.loop-edit.invariant) left leaves_now)

-- no edit is left
taken : (edits : List Edit) (text now : List ℕ) (i : ℕ) → length edits ≤ i → Edited edits text (drop i edits) now → TakeInTurn edits text now
taken edits text now i over edited =
    let none : drop i edits ≡ [] = drop_all i edits over in
    Edited-end edits text now (subst (λ (left : List Edit). Edited edits text left now) none edited)

pub returns-clause-none : goal.returns-clause-none
returns-clause-none c =
    let edits = c.args.edits.now in
    let text = c.args.text.now in
    let now = string_bytes c.loop-edit.left in
    let left = taken edits text now c.loop-edit.edit-index c.loop-edit-test.false c.loop-edit.invariant in
    (λ e. cc e, λ fails. absurd (TakeInTurn-fails edits text now left fails))
