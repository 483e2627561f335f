-- What is left of a new `Scan` are the pieces of the whole text.
use Rattle.std.proofs.Common.{◌∙◌, ap, sym, subst, arith, length, All}
use Rattle.ansi_scan.specs.Pieces.{pieces}
use Rattle.ansi_scan.specs.Places.{placed, CanBeCutAround}
use Rattle.ansi_scan.specs.Reads.{reads_over}
use Rattle.ansi_scan.proofs.Existence.{ArePiecesOf-pieces}
use Rattle.ansi_scan.proofs.Uniqueness.{pieces-ArePiecesOf}
use Rattle.ansi_scan.proofs.Boundaries.{All-CanBeCutAround, length-placed}
use Rattle.ansi_scan.proofs.scan.Goals as goal

pub returns-clause-items : goal.returns-clause-items
returns-clause-items c = record {
  pieces = pieces c.args.text.now;
  of_text = ArePiecesOf-pieces c.args.text.now;
  at_places = c.new.ensures.items ∙ ap (λ bytes. placed 0 (pieces bytes)) c.as_bytes.ensures.value;
}

pub returns-clause-cuts : goal.returns-clause-cuts
returns-clause-cuts c =
    subst (λ items. All (CanBeCutAround c.args.text.now) items) (sym (c.new.ensures.items ∙ ap (λ bytes. placed 0 (pieces bytes)) c.as_bytes.ensures.value))
    (All-CanBeCutAround c.args.text.now (pieces c.args.text.now) c.utf8.text (ArePiecesOf-pieces c.args.text.now))

pub returns-clause-count : goal.returns-clause-count
returns-clause-count c =
    let are = ArePiecesOf-pieces c.args.text.now in
    omega (
      arith,
      length-placed 0 (pieces c.args.text.now) are.stand,
      ap length are.joins,
      ap length (c.new.ensures.items ∙ ap (λ bytes. placed 0 (pieces bytes)) c.as_bytes.ensures.value),
    )

pub returns-clause-reads : goal.returns-clause-reads
returns-clause-reads c = λ ps are.
    c.new.ensures.reads ∙ ap (λ bytes. reads_over (pieces bytes)) c.as_bytes.ensures.value ∙ ap reads_over (pieces-ArePiecesOf c.args.text.now ps are)
