-- Texts whose sequences are all of some kind: one after the other, by their pieces, and in parts.
use Rattle.std.proofs.Common.{◌≡◌, ◌≢◌, ◌+◌, ◌-◌, ◌&&◌, ℕ, zero, suc, Bool, true, false, List, [], ◌∷◌, ◌++◌, length, refl, ap, sym, subst, arith, append-nil, if◌then◌else◌}
use Rattle.std.specs.Prelude.{IsSome, encode_utf8, flat_map, slice_range}
use Rattle.std.specs.List.{AllByRecursion, concat, join_with_byte, list_all, repeat}
use Rattle.std.proofs.lemmas.Bool.{cond_both}
use Rattle.ansi_scan.specs.Joining.{is_text_kind, put_all_before, put_before}
use Rattle.ansi_scan.specs.Pieces.{pieces}
use Rattle.ansi_scan.specs.Rendition.{sgr_parameters}
use Rattle.ansi_scan.specs.Sequences.{ArePiecesOf, EachStands, NoneBroken, Piece, Stands, is_not_escape}
use Rattle.ansi_scan.specs.declared.items.Kind.TheVariants.{Text, Sgr, Broken}
use Rattle.ansi_scan.proofs.Existence.{ArePiecesOf-pieces}
use Rattle.ansi_scan.proofs.Joins.{ArePiecesOf-append}
use Rattle.ansi_scan.proofs.Renditions.{IsSgr-if_read}
use Rattle.ansi_scan.proofs.Uniqueness.{pieces-ArePiecesOf}
use Rattle.ansi_str_search.proofs.Dressed.{Stands-before, list_all-take}
use Rattle.ansi_str_search.proofs.PiecesAtPlaces.{list_all-drop}
use Rattle.ansi_str_search.specs.Parts.{Places, taken, taken_piece}
use Rattle.ansi_str_search.specs.Text.StyledText.{text_of}
use Rattle.papergrid_picture.specs.Shown.{BeginsNoSequence}
use Rattle.papergrid_picture.proofs.Items.{All-keeps}
use Rattle.papergrid_picture.proofs.Shown.{pieces-character, pieces-nothing}
use Rattle.basinmug_laws.proofs.ShownLemmas.WholeTexts.{plain-bytes}

-- sequences that are allowed
module _ (Allows : List ℕ → Type 0) where
  -- a text, or a sequence that is allowed
  abbrev pub IsAllowed : Piece → Type 0
  IsAllowed piece = (piece.kind ≢ Broken) × (is_text_kind piece.kind ≡ false → Allows piece.bytes)

  -- no ESC is broken, and each sequence is allowed
  abbrev pub HasAllowed : List ℕ → Type 0
  HasAllowed bytes = AllByRecursion IsAllowed (pieces bytes)

  none-broken : (ps : List Piece) → AllByRecursion IsAllowed ps → NoneBroken ps
  none-broken [] all = tt
  none-broken (p ∷ ps) all = (all.0.0, none-broken ps all.1)

  -- ---- bytes by their pieces

  pub allowed-pieces : (bytes : List ℕ) (ps : List Piece) → ArePiecesOf bytes ps → AllByRecursion IsAllowed ps → HasAllowed bytes
  allowed-pieces bytes ps are all = subst (AllByRecursion IsAllowed) (sym (pieces-ArePiecesOf bytes ps are)) all

  pub allowed-nothing : HasAllowed []
  allowed-nothing = subst (AllByRecursion IsAllowed) (sym pieces-nothing) tt

  -- bytes without ESC
  pub allowed-plain : (bytes : List ℕ) → list_all is_not_escape bytes ≡ true → HasAllowed bytes
  allowed-plain [] plain = allowed-nothing
  allowed-plain (b ∷ bs) plain =
      let text : Piece = record { kind = Text; bytes = b ∷ bs } in
      allowed-pieces (b ∷ bs) (text ∷ [])
      (record { joins = append-nil (b ∷ bs); stand = (record { some = omega arith; plain = plain; ends = tt }, tt) })
      (((λ same. cc same), (λ other. cc other)), tt)

  -- a character that begins no sequence
  pub allowed-character : (c : ℕ) → BeginsNoSequence c → HasAllowed (encode_utf8 c)
  allowed-character c begins = subst (AllByRecursion IsAllowed) (sym (pieces-character c begins)) (((λ same. cc same), (λ other. cc other)), tt)

  -- one piece by itself
  pub allowed-piece : (piece : Piece) (after : List Piece) → Stands piece.kind piece.bytes after → IsAllowed piece → HasAllowed piece.bytes
  allowed-piece piece after stands is =
      allowed-pieces piece.bytes (piece ∷ [])
      (record { joins = append-nil piece.bytes; stand = (Stands-before piece.kind piece.bytes after [] stands is.0 (λ first. tt), tt) }) (is, tt)

  -- ---- one after the other

  before-allowed : (p : Piece) (qs : List Piece) → IsAllowed p → AllByRecursion IsAllowed qs → AllByRecursion IsAllowed (put_before p qs)
  before-allowed p [] is all = (is, tt)
  before-allowed p (q ∷ qs) is all =
      cond_both (is_text_kind p.kind && is_text_kind q.kind) (record { kind = Text; bytes = p.bytes ++ q.bytes } ∷ qs) (p ∷ q ∷ qs)
      (λ (ps : List Piece). AllByRecursion IsAllowed ps)
      (λ _. (((λ same. cc same), (λ other. cc other)), all.1))
      (λ _. (is, all))

  all-before-allowed : (ps qs : List Piece) → AllByRecursion IsAllowed ps → AllByRecursion IsAllowed qs → AllByRecursion IsAllowed (put_all_before ps qs)
  all-before-allowed [] qs all others = others
  all-before-allowed (p ∷ ps) qs all others = before-allowed p (put_all_before ps qs) all.0 (all-before-allowed ps qs all.1 others)

  pub allowed-append : (a b : List ℕ) → HasAllowed a → HasAllowed b → HasAllowed (a ++ b)
  allowed-append a b first second =
      allowed-pieces (a ++ b) (put_all_before (pieces a) (pieces b))
      (ArePiecesOf-append a b (pieces a) (pieces b) (ArePiecesOf-pieces a) (none-broken (pieces a) first) (ArePiecesOf-pieces b))
      (all-before-allowed (pieces a) (pieces b) first second)

  pub allowed-flat_map : {A : Type 0} (P : A → Type 0) (f : A → List ℕ) → ((x : A) → P x → HasAllowed (f x)) → (xs : List A) → AllByRecursion P xs → HasAllowed (flat_map f xs)
  allowed-flat_map P f each [] all = allowed-nothing
  allowed-flat_map P f each (x ∷ xs) all = allowed-append (f x) (flat_map f xs) (each x all.0) (allowed-flat_map P f each xs all.1)

  pub allowed-concat : (parts : List (List ℕ)) → AllByRecursion HasAllowed parts → HasAllowed (concat parts)
  allowed-concat [] all = allowed-nothing
  allowed-concat (part ∷ parts) all = allowed-append part (concat parts) all.0 (allowed-concat parts all.1)

  pub allowed-repeat : (n : ℕ) (bytes : List ℕ) → HasAllowed bytes → HasAllowed (repeat n bytes)
  allowed-repeat zero bytes is = allowed-nothing
  allowed-repeat (suc n) bytes is = allowed-append bytes (repeat n bytes) is (allowed-repeat n bytes is)

  -- lines with a byte that is no ESC between each two
  pub allowed-joined : (c : ℕ) → is_not_escape c ≡ true → (lines : List (List ℕ)) → AllByRecursion HasAllowed lines → HasAllowed (join_with_byte c lines)
  allowed-joined c plain [] all = allowed-nothing
  allowed-joined c plain (line ∷ []) all = all.0
  allowed-joined c plain (line ∷ next ∷ lines) all =
      allowed-append line (c ∷ join_with_byte c (next ∷ lines)) all.0
      (allowed-append (c ∷ []) (join_with_byte c (next ∷ lines)) (allowed-plain (c ∷ []) (ap (λ t. t && true) plain)) (allowed-joined c plain (next ∷ lines) all.1))

  -- ---- what is taken of pieces

  slice-plain : (bytes : List ℕ) (a b : ℕ) → list_all is_not_escape bytes ≡ true → list_all is_not_escape (slice_range bytes a b) ≡ true
  slice-plain bytes a b plain = list_all-take is_not_escape (b - a) _ (list_all-drop is_not_escape a bytes plain)

  piece-taken : (counts : Places) (a b place : ℕ) (piece : Piece) (after : List Piece) → Stands piece.kind piece.bytes after → IsAllowed piece → HasAllowed (taken_piece counts a b place piece)
  piece-taken counts a b place piece after stands is = by (is_text_kind piece.kind) (counts place) refl
    where
      by : (text counted : Bool) → is_text_kind piece.kind ≡ text
          → HasAllowed (if text then slice_range piece.bytes (a - place) (b - place) else if counted then piece.bytes else [])
      by true counted e = allowed-plain (slice_range piece.bytes (a - place) (b - place)) (slice-plain piece.bytes (a - place) (b - place) (plain-bytes piece.kind piece.bytes after e stands))
      by false true e = allowed-piece piece after stands is
      by false false e = allowed-nothing

  pub allowed-taken : (counts : Places) (a b place : ℕ) (ps : List Piece) → EachStands ps → AllByRecursion IsAllowed ps → HasAllowed (taken counts a b place ps)
  allowed-taken counts a b place [] stand all = allowed-nothing
  allowed-taken counts a b place (piece ∷ ps) stand all =
      allowed-append (taken_piece counts a b place piece) (taken counts a b (place + length (text_of piece)) ps)
      (piece-taken counts a b place piece ps stand.0 all.0) (allowed-taken counts a b (place + length (text_of piece)) ps stand.1 all.1)

  -- ---- sequences of SELECT GRAPHIC RENDITION

  pub allowed-sequence : (bytes : List ℕ) → IsSome (sgr_parameters bytes) → Allows bytes → HasAllowed bytes
  allowed-sequence bytes read is =
      let piece : Piece = record { kind = Sgr; bytes = bytes } in
      allowed-piece piece [] (IsSgr-if_read bytes read) ((λ same. cc same), (λ other. is))

  pub allowed-sequences : ((bytes : List ℕ) → Allows bytes → IsSome (sgr_parameters bytes)) → (sequences : List (List ℕ)) → AllByRecursion Allows sequences → HasAllowed (concat sequences)
  allowed-sequences read [] all = allowed-nothing
  allowed-sequences read (bytes ∷ others) all = allowed-append bytes (concat others) (allowed-sequence bytes (read bytes all.0) all.0) (allowed-sequences read others all.1)

-- what allows more allows the sequences of a text
pub allowed-also : (Allows Also : List ℕ → Type 0) → ((bytes : List ℕ) → Allows bytes → Also bytes) → (bytes : List ℕ) → HasAllowed Allows bytes → HasAllowed Also bytes
allowed-also Allows Also so bytes all = All-keeps (IsAllowed Allows) (IsAllowed Also) (λ piece is. (is.0, (λ other. so piece.bytes (is.1 other)))) (pieces bytes) all
