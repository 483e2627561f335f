-- What is said of all pieces of the text is said of its pieces.
use Rattle.std.proofs.Common.{sym, subst}
use Rattle.std.specs.Prelude.{IfOk}
use Rattle.std.specs.Cow.{cow_str_bytes}
use Rattle.ansi_scan.specs.Pieces.{pieces}
use Rattle.ansi_scan.proofs.Existence.{ArePiecesOf-pieces}
use Rattle.ansi_str.specs.declared.edits.Edit.{Edit}
use Rattle.ansi_str.specs.declared.edits.Edit.TheVariants.{Cut, Prefix, Suffix}
use Rattle.ansi_str.specs.Edits.{LeavesOf}
use Rattle.ansi_str.proofs.PickedParts.{Answers, at_pieces}
use Rattle.ansi_str.proofs.editing.edited.Goals as goal

pub returns-in-Cut : goal.returns-in-Cut
returns-in-Cut c =
    subst (λ (edit : Edit). IfOk c.get.result (Answers edit (pieces c.args.text.now))) (sym c.in-Cut.is)
    (at_pieces c.args.text.now (λ found ps. Answers (Cut c.in-Cut.start c.in-Cut.end) ps found) c.get.result c.get.ensures.cut)

pub returns-in-Prefix : goal.returns-in-Prefix
returns-in-Prefix c =
    subst (λ (edit : Edit). IfOk c.strip_prefix.result (Answers edit (pieces c.args.text.now))) (sym c.in-Prefix.is)
    (at_pieces c.args.text.now (λ found ps. Answers (Prefix c.in-Prefix.prefix) ps found) c.strip_prefix.result c.strip_prefix.ensures.kept)

pub returns-in-Suffix : goal.returns-in-Suffix
returns-in-Suffix c =
    subst (λ (edit : Edit). IfOk c.strip_suffix.result (Answers edit (pieces c.args.text.now))) (sym c.in-Suffix.is)
    (at_pieces c.args.text.now (λ found ps. Answers (Suffix c.in-Suffix.suffix) ps found) c.strip_suffix.result c.strip_suffix.ensures.kept)

pub returns-in_ok-trim-in-Trim : goal.returns-in_ok-trim-in-Trim
returns-in_ok-trim-in-Trim c =
    let text = c.args.text.now in
    subst (λ (edit : Edit). LeavesOf edit (pieces text) (cow_str_bytes c.in_ok-trim-in-Trim.field-0)) (sym c.in-Trim.is)
    (c.in_ok-trim-in-Trim.ensures.trims (pieces text) (ArePiecesOf-pieces text))
