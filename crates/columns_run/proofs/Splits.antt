-- What the parts of a text at an ASCII character show.
use Rattle.std.proofs.Common.{◌≡◌, ℕ, zero, suc, ◌<◌, ◌==◌, All, List, [], ◌∷◌, get_or, map, arith, subst}
use Rattle.std.specs.Prelude.{IsUtf8}
use Rattle.std.specs.List.{slice_split, AllByRecursion}
use Rattle.std.proofs.lemmas.List.Elements.{All-head, All-tail}
use Rattle.std.proofs.lemmas.Str.{IsUtf8-from_ascii}
use Rattle.ansi_scan.specs.Sequences.{NoneBroken}
use Rattle.ansi_scan.specs.Pieces.{pieces}
use Rattle.ansi_scan.proofs.Existence.{ArePiecesOf-pieces}
use Rattle.ansi_scan.proofs.Uniqueness.{ArePiecesOf-unique}
use Rattle.ansi_scan.specs.Attributes.{Attributes}
use Rattle.ansi_str.specs.StyledText.{IsClosed, styled}
use Rattle.ansi_str.specs.Lines.{IsClosedText}
use Rattle.ansi_str_search.proofs.Utf8.{All-closed, All-utf8}
use Rattle.ansi_str_search.proofs.Cuts.{shown-parts}
use Rattle.columns_run.specs.Rows.{stripped, places, parts_by_character}
use Rattle.columns_run.proofs.Places.{AreMatches-places}

-- the characters that a text shows, each with its style
abbrev pub styled_characters : List ℕ → List (ℕ × Attributes)
styled_characters text = styled (pieces text)

-- text without a broken sequence
pub record IsWholeText (text : List ℕ) : Type 0 where
  pub utf8 : IsUtf8 text
  pub none_broken : NoneBroken (pieces text)

-- text that is closed
pub record IsClosedPart (part : List ℕ) : Type 0 where
  pub utf8 : IsUtf8 part
  pub closed : IsClosed (pieces part)

pub whole-closed : (part : List ℕ) → IsClosedPart part → IsWholeText part
whole-closed part closed = record { utf8 = closed.utf8; none_broken = closed.closed.none_broken }

pub one_ascii : (c : ℕ) → c < 128 → (i : ℕ) → get_or (c ∷ []) i 0 < 128
one_ascii c ascii zero = ascii
one_ascii c ascii (suc i) = omega arith

pub IsUtf8-one : (c : ℕ) → c < 128 → IsUtf8 (c ∷ [])
IsUtf8-one c ascii = IsUtf8-from_ascii (c ∷ []) (one_ascii c ascii)

both : (parts : List (List ℕ)) → All IsUtf8 parts → All IsClosedText parts → AllByRecursion IsClosedPart parts
both [] utf8 closed = tt
both (part ∷ parts) utf8 closed =
    let here = All-head IsClosedText part parts closed in (
      record {
        utf8 = All-head IsUtf8 part parts utf8;
        closed = subst IsClosed (ArePiecesOf-unique part here.pieces (pieces part) here.of_text (ArePiecesOf-pieces part)) here.closed;
      },
      both parts (All-tail IsUtf8 part parts utf8) (All-tail IsClosedText part parts closed),
    )

module _ (c : ℕ) (text : List ℕ) (ascii : c < 128) (whole : IsWholeText text) where
  pub styled-parts_by_character : map styled_characters (parts_by_character c text) ≡ slice_split (λ x. x.0 == c) (styled_characters text)
  styled-parts_by_character =
      shown-parts c text (pieces text) ascii whole.utf8 (ArePiecesOf-pieces text) whole.none_broken (places c (stripped text)) (AreMatches-places c (stripped text) ascii)

  pub closed-parts_by_character : AllByRecursion IsClosedPart (parts_by_character c text)
  closed-parts_by_character =
      let matches = places c (stripped text) in
      let are = AreMatches-places c (stripped text) ascii in
      both (parts_by_character c text)
      (All-utf8 (c ∷ []) text (pieces text) matches (ArePiecesOf-pieces text) are whole.utf8 (IsUtf8-one c ascii))
      (All-closed (c ∷ []) text (pieces text) matches (ArePiecesOf-pieces text) are whole.none_broken)
