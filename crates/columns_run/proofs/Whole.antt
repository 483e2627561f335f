-- Where a walk over a text meets a broken sequence the text is not whole, and where it meets none it is.
use Rattle.std.proofs.Common.{◌≡◌, ◌≢◌, ℕ, ◌<◌, true, false, not, List, [], ◌∷◌, ◌++◌, length, take, drop, refl, ap, sym, subst, ◌∙◌, arith}
use Rattle.std.specs.List.{prefix_len, list_all}
use Rattle.std.proofs.lemmas.Bool.{and_parts}
use Rattle.std.specs.Cmp.Derive.{both_true}
use Rattle.std.proofs.lemmas.List.{take-append-drop}
use Rattle.ansi_scan.specs.Sequences.{Piece, NoneBroken, IsWhole, is_not_escape}
use Rattle.ansi_scan.specs.Pieces.{pieces}
use Rattle.ansi_scan.specs.declared.items.Kind.TheVariants.{Broken}
use Rattle.ansi_scan.proofs.Existence.{ArePiecesOf-pieces}
use Rattle.ansi_scan.proofs.Joins.{IsWhole-append}
use Rattle.ansi_scan.proofs.Runs.{list_all-take_run}
use Rattle.ansi_scan.proofs.Uniqueness.{pieces-ArePiecesOf}
use Rattle.ansi_str_search.proofs.Dressed.{NoneBroken-from}
use Rattle.ansi_str_search.proofs.Walks.{from-plain}
use Rattle.ansi_str_search.specs.Parts.{from_place}
use Rattle.ansi_str_search.specs.Walking.{begins_with_escape}
use Rattle.ansi_str_search.proofs.TextLemmas.Stripping.{has_escape-plain}
use Rattle.columns_run.specs.Ends.{is_cell_byte, is_cell_text}
use Rattle.columns_run.proofs.Ends.{run-within}
use Rattle.columns_run.proofs.Places.{IsWhole-without_escape}

pub whole-pieces : (text : List ℕ) → NoneBroken (pieces text) → IsWhole text
whole-pieces text none = record { pieces = pieces text; of_text = ArePiecesOf-pieces text; none_broken = none }

pub pieces-whole : (text : List ℕ) → IsWhole text → NoneBroken (pieces text)
pieces-whole text whole = subst NoneBroken (sym (pieces-ArePiecesOf text whole.pieces whole.of_text)) whole.none_broken

pub whole-nothing : (text : List ℕ) → length text ≡ 0 → IsWhole text
whole-nothing [] none = IsWhole-without_escape [] refl
whole-nothing (b ∷ bs) none = absurd (omega (arith, none))

-- ---- what is after some of what a text shows

pub whole-from : (text rest : List ℕ) (n : ℕ) → pieces rest ≡ from_place n (pieces text) → IsWhole text → IsWhole rest
whole-from text rest n there whole = whole-pieces rest (subst NoneBroken (sym there) (NoneBroken-from n (pieces text) (pieces-whole text whole)))

pub bytes_without_escape : (xs : List ℕ) → list_all is_cell_text xs ≡ true → list_all is_not_escape xs ≡ true
bytes_without_escape [] each = refl
bytes_without_escape (x ∷ xs) each =
    let parts = and_parts (is_cell_text x) (list_all is_cell_text xs) each in
    both_true (and_parts (is_not_escape x) (is_cell_byte x) parts.0).0 (bytes_without_escape xs parts.1)

-- after bytes of a cell
module _ (rest left : List ℕ) (is_left : left ≡ drop (prefix_len is_cell_text rest) rest) where
  abbrev run : ℕ
  run = prefix_len is_cell_text rest

  pub left-whole : IsWhole rest → IsWhole left
  left-whole whole = whole-from rest left run (ap pieces is_left ∙ sym (from-plain rest run (run-within rest run refl))) whole

  pub whole-left : IsWhole left → IsWhole rest
  whole-left whole =
      let front : IsWhole (take run rest) = IsWhole-without_escape (take run rest) (has_escape-plain (take run rest) (bytes_without_escape (take run rest) (list_all-take_run is_cell_text rest))) in
      subst IsWhole (ap (λ bytes. take run rest ++ bytes) is_left ∙ take-append-drop run rest) (IsWhole-append (take run rest) left front whole)

-- after a byte that is no ESC
pub whole-byte : (end next : List ℕ) → 0 < length end → begins_with_escape end ≡ false → next ≡ drop 1 end → IsWhole next → IsWhole end
whole-byte [] next some plain is whole = absurd (omega (arith, some))
whole-byte (b ∷ bs) next some plain is whole =
    let front : IsWhole (b ∷ []) = IsWhole-without_escape (b ∷ []) (has_escape-plain (b ∷ []) (both_true (ap not plain) refl)) in
    IsWhole-append (b ∷ []) bs front (subst IsWhole is whole)

-- ---- after a piece

module _ (rest behind : List ℕ) (first : Piece) (parted : pieces rest ≡ first ∷ pieces behind) where
  both : IsWhole rest → (first.kind ≢ Broken) × NoneBroken (pieces behind)
  both whole = subst NoneBroken parted (pieces-whole rest whole)

  pub behind-whole : IsWhole rest → IsWhole behind
  behind-whole whole = whole-pieces behind (both whole).1

  pub not-broken : first.kind ≡ Broken → ¬ IsWhole rest
  not-broken broken = λ whole. (both whole).0 broken

  pub whole-behind : first.kind ≢ Broken → IsWhole behind → IsWhole rest
  whole-behind kind whole = whole-pieces rest (subst NoneBroken (sym parted) (kind, pieces-whole behind whole))
