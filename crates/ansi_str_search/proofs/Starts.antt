-- The start and the end of a style, read as texts.
use Rattle.std.proofs.Common.{◌≡◌, ℕ, All, List, [], sym, subst, ◌∙◌, append-nil}
use Rattle.std.specs.List.{concat}
use Rattle.ansi_scan.specs.Sequences.{Piece, EachStands, ArePiecesOf, NoneBroken}
use Rattle.ansi_scan.specs.Attributes.{Attributes, IsRendition, plain_attributes}
use Rattle.ansi_scan.specs.StartsAndEnds.{start_bytes, start_sequences, end_bytes, end_sequences}
use Rattle.ansi_scan.proofs.Uniqueness.{ArePiecesOf-unique}
use Rattle.ansi_scan.proofs.Effects.{start_from_plain, start_from_itself, end_from_itself, start_bytes-sequences, end_bytes-sequences, start_sequences_are_read, end_sequences_are_read}
use Rattle.ansi_str_search.specs.Text.StyledText.{strip, style_after_all}
use Rattle.ansi_str_search.proofs.Dressed.{renditions, IsRead, joined-renditions, EachStands-renditions, NoneBroken-renditions, style_after_all-renditions}
use Rattle.ansi_str_search.proofs.Slices.{strip-renditions}

-- the pieces of a text that is sequences of renditions alone are those
pub pieces-renditions : (bytes : List ℕ) (sequences : List (List ℕ)) (pieces : List Piece) → bytes ≡ concat sequences → All IsRead sequences → ArePiecesOf bytes pieces → pieces ≡ renditions sequences
pieces-renditions bytes sequences pieces same read of_text =
    ArePiecesOf-unique bytes pieces (renditions sequences) of_text
    (record { joins = joined-renditions sequences ∙ sym same; stand = subst EachStands (append-nil (renditions sequences)) (EachStands-renditions sequences [] read tt) })

-- what is so of the sequences is so of the pieces
of_renditions : (P : List Piece → Type 0) (bytes : List ℕ) (sequences : List (List ℕ)) (pieces : List Piece)
    → bytes ≡ concat sequences → All IsRead sequences → ArePiecesOf bytes pieces → P (renditions sequences) → P pieces
of_renditions P bytes sequences pieces same read of_text h = subst P (sym (pieces-renditions bytes sequences pieces same read of_text)) h

shows_nothing : (sequences : List (List ℕ)) → (strip (renditions sequences) ≡ []) × NoneBroken (renditions sequences)
shows_nothing sequences = (strip-renditions sequences, NoneBroken-renditions sequences)

module _ (a : Attributes) (pieces : List Piece) where
  abbrev ShowsNothing : List Piece → Type 0
  ShowsNothing ps = (strip ps ≡ []) × NoneBroken ps

  pub start-read : IsRendition a → ArePiecesOf (start_bytes a) pieces → (style_after_all plain_attributes pieces ≡ a) × (style_after_all a pieces ≡ a)
  start-read rendition of_text =
      of_renditions (λ ps. (style_after_all plain_attributes ps ≡ a) × (style_after_all a ps ≡ a)) (start_bytes a) (start_sequences a) pieces
      (start_bytes-sequences a) (start_sequences_are_read a rendition) of_text (
        style_after_all-renditions plain_attributes (start_sequences a) ∙ start_from_plain a rendition,
        style_after_all-renditions a (start_sequences a) ∙ start_from_itself a rendition,
      )

  pub start-shows : IsRendition a → ArePiecesOf (start_bytes a) pieces → ShowsNothing pieces
  start-shows rendition of_text =
      of_renditions ShowsNothing (start_bytes a) (start_sequences a) pieces (start_bytes-sequences a) (start_sequences_are_read a rendition) of_text (shows_nothing (start_sequences a))

  pub end-read : ArePiecesOf (end_bytes a) pieces → style_after_all a pieces ≡ plain_attributes
  end-read of_text =
      of_renditions (λ ps. style_after_all a ps ≡ plain_attributes) (end_bytes a) (end_sequences a) pieces (end_bytes-sequences a) (end_sequences_are_read a) of_text
      (style_after_all-renditions a (end_sequences a) ∙ end_from_itself a)

  pub end-shows : ArePiecesOf (end_bytes a) pieces → ShowsNothing pieces
  end-shows of_text =
      of_renditions ShowsNothing (end_bytes a) (end_sequences a) pieces (end_bytes-sequences a) (end_sequences_are_read a) of_text (shows_nothing (end_sequences a))
