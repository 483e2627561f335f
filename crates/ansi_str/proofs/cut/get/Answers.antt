-- Good bounds are good in all pieces of the text.
use Rattle.std.proofs.Common.{◌≡◌, ◌∙◌, false, true, List, sym, subst}
use Rattle.ansi_scan.specs.Sequences.{Piece}
use Rattle.ansi_scan.specs.Pieces.{pieces}
use Rattle.ansi_scan.proofs.Existence.{ArePiecesOf-pieces}
use Rattle.ansi_scan.proofs.Uniqueness.{ArePiecesOf-unique}
use Rattle.ansi_str.specs.StyledText.{strip}
use Rattle.ansi_str.specs.Cuts.{AreGoodBounds}
use Rattle.ansi_str_search.proofs.Searches.{of_pieces, refused_where}
use Rattle.ansi_str.proofs.cut.get.Goals as goal

pub returns-then-not-are_good_bounds-clause-cut : goal.returns-then-not-are_good_bounds-clause-cut
returns-then-not-are_good_bounds-clause-cut c = λ ps of_text good.
    let text = c.args.text.now in
    let same = ArePiecesOf-unique text ps (pieces text) of_text (ArePiecesOf-pieces text) in
    let found = c.are_good_bounds.ensures.1 (subst (λ (qs : List Piece). AreGoodBounds (strip qs) c.args.start c.args.end) same good) in
    let both : false ≡ true = sym c.if-not-are_good_bounds.true ∙ found in cc both

pub cut-requires : goal.cut-requires
cut-requires c = λ ps of_text.
    let text = c.args.text.now in
    subst (λ (qs : List Piece). AreGoodBounds (strip qs) c.args.start c.args.end) (ArePiecesOf-unique text (pieces text) ps (ArePiecesOf-pieces text) of_text)
    (c.are_good_bounds.ensures.0 c.if-not-are_good_bounds.false)

pub returns-clause-cut : goal.returns-clause-cut
returns-clause-cut c = λ ps of_text.
    let text = c.args.text.now in (
      subst (λ (qs : List Piece). AreGoodBounds (strip qs) c.args.start c.args.end) (ArePiecesOf-unique text (pieces text) ps (ArePiecesOf-pieces text) of_text)
          (c.are_good_bounds.ensures.0 c.if-not-are_good_bounds.false),
      c.in_ok-cut.ensures.part ps of_text,
    )

pub returns-in_err-cut-clause-refuses : goal.returns-in_err-cut-clause-refuses
returns-in_err-cut-clause-refuses c =
    refused_where (of_pieces (λ (ps : List Piece). AreGoodBounds (strip ps) c.args.start c.args.end) c.args.text.now
    (c.are_good_bounds.ensures.0 c.if-not-are_good_bounds.false)) c.from_residual.result
