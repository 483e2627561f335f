-- The function of `Bytes` meets the relation, and nothing else does.
use Rattle.std.proofs.Common.{◌≡◌, ℕ, zero, suc, Bool, List, refl, subst, arith}
use Rattle.ansi_scan.specs.Sequences.{Piece, ArePiecesOf}
use Rattle.ansi_scan.specs.Pieces.{pieces}
use Rattle.ansi_scan.proofs.Existence.{ArePiecesOf-pieces}
use Rattle.ansi_scan.proofs.Uniqueness.{ArePiecesOf-unique}
use Rattle.grid_records_measure.specs.TextLines.{text_lines}
use Rattle.grid_records_measure.proofs.TextLines.{text_lines-are}
use Rattle.tabled_size_wrap.specs.Bytes.{wrapped_text}
use Rattle.tabled_size_wrap.specs.Runs.{wrapped}
use Rattle.tabled_size_wrap.specs.Wrapping.{IsWrapped}
use Rattle.tabled_size_wrap.proofs.Wraps.{is-wrapped, wrapped-one}

same-pieces : (text : List ℕ) (ps : List Piece) → ArePiecesOf text ps → pieces text ≡ ps
same-pieces text ps of_text = ArePiecesOf-unique text (pieces text) ps (ArePiecesOf-pieces text) of_text

meets : (width : ℕ) (keep_words : Bool) (text : List ℕ) → IsWrapped width keep_words (pieces text) (wrapped width keep_words (text_lines text))
meets zero keep_words text = refl
meets (suc n) keep_words text = is-wrapped (suc n) keep_words (pieces text) (wrapped (suc n) keep_words (text_lines text)) (text_lines text) (omega arith) (text_lines-are text) refl

pub wrapped_text-meets : (width : ℕ) (keep_words : Bool) (text : List ℕ) (ps : List Piece) → ArePiecesOf text ps → IsWrapped width keep_words ps (wrapped_text width keep_words text)
unfolding wrapped_text
wrapped_text-meets width keep_words text ps of_text =
    subst (λ (qs : List Piece). IsWrapped width keep_words qs (wrapped width keep_words (text_lines text))) (same-pieces text ps of_text) (meets width keep_words text)

pub wrapped_text-one : (width : ℕ) (keep_words : Bool) (text bytes : List ℕ) (ps : List Piece) → ArePiecesOf text ps → IsWrapped width keep_words ps bytes → bytes ≡ wrapped_text width keep_words text
wrapped_text-one width keep_words text bytes ps of_text is = wrapped-one width keep_words ps bytes (wrapped_text width keep_words text) is (wrapped_text-meets width keep_words text ps of_text)
