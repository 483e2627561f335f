-- A text that is its only line, wrapped.
use Rattle.std.proofs.Common.{◌≡◌, ◌<◌, ℕ, Bool, List, [], ◌∷◌, append-nil, ap, sym, ◌∙◌, flat_map}
use Rattle.std.specs.List.{join_with_byte}
use Rattle.ansi_scan.specs.Pieces.{pieces}
use Rattle.ansi_scan.proofs.Existence.{ArePiecesOf-pieces}
use Rattle.grid_records_measure.specs.TextLines.{line_feed, text_lines}
use Rattle.grid_records_measure.proofs.TextLines.{text_lines-are}
use Rattle.tabled_size_wrap.specs.Bytes.{wrapped_text}
use Rattle.tabled_size_wrap.specs.Runs.{wrapped_lines}
use Rattle.tabled_size_wrap.proofs.Bytes.{wrapped_text-one}
use Rattle.tabled_size_wrap.proofs.Wraps.{is-wrapped, wrapped-nothing}

module _ (text bytes : List ℕ) (width : ℕ) (keep_words : Bool) where
  pub one_line-wrapped : 0 < width → text_lines text ≡ text ∷ [] → bytes ≡ join_with_byte line_feed (wrapped_lines width keep_words (pieces text)) → bytes ≡ wrapped_text width keep_words text
  one_line-wrapped some one is =
      let wrapped_one : List ℕ → List (List ℕ) = λ line. wrapped_lines width keep_words (pieces line) in
      wrapped_text-one width keep_words text bytes (pieces text) (ArePiecesOf-pieces text)
      (is-wrapped width keep_words (pieces text) bytes (text_lines text) some (text_lines-are text)
      (is ∙ ap (join_with_byte line_feed) (sym (append-nil (wrapped_one text))) ∙ sym (ap (λ lines. join_with_byte line_feed (flat_map wrapped_one lines)) one)))

  pub no_width-wrapped : width ≡ 0 → bytes ≡ [] → bytes ≡ wrapped_text width keep_words text
  no_width-wrapped zero-width none = wrapped_text-one width keep_words text bytes (pieces text) (ArePiecesOf-pieces text) (wrapped-nothing width keep_words (pieces text) bytes zero-width none)
