-- Texts that show no control character, and whose sequences are allowed: as they are cleaned, and at each step on their way into a table.
use Rattle.std.proofs.Common.{◌≡◌, ◌≢◌, ◌∙◌, ◌+◌, ◌≤◌, ◌/◌, ◌==◌, ◌&&◌, ◌||◌, nat_lt, ℕ, Bool, true, false, cond, inl, inr, List, [], ◌∷◌, ◌++◌, map, refl, ap, sym, subst, arith, if◌then◌else◌}
use Rattle.std.specs.Prelude.{◌⊎◌, IsSome, IsTrue, chars, codes, encode_utf8, encode_utf8_all, flat_map, not}
use Rattle.std.specs.List.{AllByRecursion, concat, list_all}
use Rattle.std.specs.Cmp.Derive.{both_true}
use Rattle.std.proofs.Math.Utf8.{encode, next}
use Rattle.std.proofs.lemmas.Bool.{and_parts, ne_eqb}
use Rattle.std.proofs.lemmas.List.Folds.{list_all-append}
use Rattle.std.proofs.lemmas.Str.{chars-append, encodes-chars}
use Rattle.ansi_scan.specs.Joining.{is_text_kind}
use Rattle.ansi_scan.specs.Pieces.{pieces}
use Rattle.ansi_scan.specs.Rendition.{sgr_parameters}
use Rattle.ansi_scan.specs.Sequences.{EachStands, Piece, escape, is_not_escape, joined}
use Rattle.ansi_scan.proofs.Existence.{ArePiecesOf-pieces}
use Rattle.ansi_str_search.proofs.Parts.{text_of-text}
use Rattle.ansi_str_search.proofs.TextLemmas.Utf8Pieces.{EachUtf8, EachUtf8-of, IsUtf8-text_of}
use Rattle.ansi_str_search.specs.Text.StyledText.{strip, text_of}
use Rattle.ansi_scan.specs.Attributes.{Attributes}
use Rattle.grid_records_measure.specs.TextLines.{is_line_feed, text_lines}
use Rattle.basinmug_columns.specs.Fitting.Fitting.{ellipsis}
use Rattle.basinmug_columns.specs.Markdown.Escapes.{markdown_char, markdown_piece, markdown_text}
use Rattle.basinmug_input.specs.Cleaning.{HasNoControls, HasOnly, always_stays}
use Rattle.basinmug_laws.specs.Controls.ControlTexts.{ShowsNoControls, is_no_control}
use Rattle.basinmug_laws.proofs.AdditiveLemmas.RowsOf.{kept-of}
use Rattle.basinmug_laws.proofs.ControlsLemmas.CleanedTexts.{ascii-inside, dots-inside, mark-inside}
use Rattle.basinmug_laws.proofs.SequencesLemmas.Allowed.{HasAllowed, IsAllowed, allowed-append, allowed-character, allowed-concat, allowed-flat_map, allowed-nothing, allowed-piece, allowed-plain, allowed-sequence}
use Rattle.basinmug_laws.proofs.SequencesLemmas.Parts.{AreClosed, cut-allowed, lines-allowed, wrapped-allowed}
use Rattle.basinmug_laws.proofs.ShownLemmas.OwnBytes.{own-plain}
use Rattle.basinmug_laws.proofs.ShownLemmas.TextSteps.{IsKeptByEach}
use Rattle.basinmug_laws.proofs.ShownLemmas.WholeTexts.{IsSign, plain-bytes, signs-of}

-- ---- parts without control characters have no ESC

high-byte : (b : ℕ) → 128 ≤ b → is_not_escape b ≡ true
high-byte b high = ap not (ne_eqb b escape (λ same. absurd (omega (arith, high, same))))

plain-encoded : (c : ℕ) → c ≢ escape → list_all is_not_escape (encode_utf8 c) ≡ true
unfolding encode
plain-encoded c other = by (nat_lt c 128) (nat_lt c 2048) (nat_lt c 65536)
  where
    last : (n : ℕ) → list_all is_not_escape (next n ∷ []) ≡ true
    last n = both_true (high-byte (next n) (omega arith)) refl

    two : (n m : ℕ) → list_all is_not_escape (next n ∷ next m ∷ []) ≡ true
    two n m = both_true (high-byte (next n) (omega arith)) (last m)

    by : (one two_bytes three : Bool) → list_all is_not_escape (cond one (c ∷ []) (cond two_bytes ((192 + c / 64) ∷ next c ∷ [])
        (cond three ((224 + c / 4096) ∷ next (c / 64) ∷ next c ∷ []) ((240 + c / 262144) ∷ next (c / 4096) ∷ next (c / 64) ∷ next c ∷ [])))) ≡ true
    by true two_bytes three = both_true (ap not (ne_eqb c escape other)) refl
    by false true three = both_true (high-byte (192 + c / 64) (omega arith)) (last c)
    by false false true = both_true (high-byte (224 + c / 4096) (omega arith)) (two (c / 64) c)
    by false false false = both_true (high-byte (240 + c / 262144) (omega arith)) (both_true (high-byte (next (c / 4096)) (omega arith)) (two (c / 64) c))

stays-other : (c : ℕ) → always_stays c ≡ true → c ≢ escape
stays-other c stays = λ same. let clash : false ≡ true = ap always_stays (sym same) ∙ stays in cc clash

plain-all : (cs : List ℕ) → list_all always_stays cs ≡ true → list_all is_not_escape (encode_utf8_all cs) ≡ true
plain-all [] all = refl
plain-all (c ∷ cs) all =
    let parts = and_parts (always_stays c) (list_all always_stays cs) all in
    list_all-append is_not_escape (encode_utf8 c) (encode_utf8_all cs)
    ∙ both_true (plain-encoded c (stays-other c parts.0)) (plain-all cs parts.1)

no-controls-plain : (bytes : List ℕ) → HasNoControls bytes → list_all is_not_escape bytes ≡ true
no-controls-plain bytes none = ap (list_all is_not_escape) (sym none.spelled) ∙ plain-all none.characters none.each

-- ---- a text that is parts: sequences that pass a test, and others without control characters

module _ (is_sequence : List ℕ → Bool) where
  abbrev Passes : List ℕ → Type 0
  Passes bytes = IsTrue (is_sequence bytes)

  pub only-allowed : ((bytes : List ℕ) → Passes bytes → IsSome (sgr_parameters bytes)) → (text : List ℕ) → HasOnly is_sequence text → HasAllowed Passes text
  only-allowed read text only = subst (HasAllowed Passes) only.joins (allowed-concat Passes only.parts (each only.parts only.each))
    where
      each : (parts : List (List ℕ)) → AllByRecursion (λ part. IsTrue (is_sequence part) ⊎ HasNoControls part) parts → AllByRecursion (HasAllowed Passes) parts
      each [] all = tt
      each (part ∷ parts) all = (one all.0, each parts all.1)
        where
          one : IsTrue (is_sequence part) ⊎ HasNoControls part → HasAllowed Passes part
          one (inl passes) = allowed-sequence Passes part (read part passes) passes
          one (inr none) = allowed-plain Passes part (no-controls-plain part none)

  abbrev passes : ℕ → Bool
  passes c = is_no_control c || is_line_feed c

  piece-only : (piece : Piece) → IsAllowed Passes piece → EachUtf8 (piece ∷ []) → list_all passes (chars (text_of piece)) ≡ true → IsTrue (is_sequence piece.bytes) ⊎ HasNoControls piece.bytes
  piece-only piece is utf8 shown = by (is_text_kind piece.kind) refl
    where
      by : (text : Bool) → is_text_kind piece.kind ≡ text → IsTrue (is_sequence piece.bytes) ⊎ HasNoControls piece.bytes
      by true e = inr (record { characters = chars piece.bytes; spelled = encodes-chars piece.bytes utf8.0; each = subst (λ (bytes : List ℕ). list_all passes (chars bytes) ≡ true) (text_of-text piece e) shown })
      by false e = inl (is.1 e)

  pieces-only : (ps : List Piece) → AllByRecursion (IsAllowed Passes) ps → EachUtf8 ps → list_all passes (chars (strip ps)) ≡ true
      → AllByRecursion (λ part. IsTrue (is_sequence part) ⊎ HasNoControls part) (map (λ (piece : Piece). piece.bytes) ps)
  pieces-only [] all utf8 shown = tt
  pieces-only (piece ∷ ps) all utf8 shown =
      let parted : chars (strip (piece ∷ ps)) ≡ chars (text_of piece) ++ chars (strip ps) = chars-append (text_of piece) (strip ps) (IsUtf8-text_of piece utf8.0) in
      let both : list_all passes (chars (text_of piece)) && list_all passes (chars (strip ps)) ≡ true =
      sym (list_all-append passes (chars (text_of piece)) (chars (strip ps))) ∙ ap (list_all passes) (sym parted) ∙ shown in
      let parts = and_parts (list_all passes (chars (text_of piece))) (list_all passes (chars (strip ps))) both in
      (piece-only piece all.0 (utf8.0, tt) parts.0, pieces-only ps all.1 utf8.1 parts.1)

  joined-parts : (ps : List Piece) → concat (map (λ (piece : Piece). piece.bytes) ps) ≡ joined ps
  joined-parts [] = refl
  joined-parts (piece ∷ ps) = ap (λ bytes. piece.bytes ++ bytes) (joined-parts ps)

  pub allowed-only : (text : List ℕ) → ShowsNoControls text → HasAllowed Passes text → HasOnly is_sequence text
  allowed-only text shows all =
      let are = ArePiecesOf-pieces text in
      record {
        parts = map (λ (piece : Piece). piece.bytes) (pieces text);
        joins = joined-parts (pieces text) ∙ are.joins;
        each = pieces-only (pieces text) all (EachUtf8-of text (pieces text) shows.whole.utf8 are) shows.shown;
      }

-- what passes more has only such parts too
pub only-also : (is_sequence also : List ℕ → Bool) → ((bytes : List ℕ) → is_sequence bytes ≡ true → also bytes ≡ true) → (text : List ℕ) → HasOnly is_sequence text → HasOnly also text
only-also is_sequence also so text only = record { parts = only.parts; joins = only.joins; each = each only.parts only.each }
  where
    one : (part : List ℕ) → IsTrue (is_sequence part) ⊎ HasNoControls part → IsTrue (also part) ⊎ HasNoControls part
    one part (inl passes) = inl (so part passes)
    one part (inr none) = inr none

    each : (parts : List (List ℕ)) → AllByRecursion (λ part. IsTrue (is_sequence part) ⊎ HasNoControls part) parts → AllByRecursion (λ part. IsTrue (also part) ⊎ HasNoControls part) parts
    each [] all = tt
    each (part ∷ parts) all = (one part all.0, each parts all.1)

-- ---- each step

module _ (Allows : List ℕ → Type 0) where
  -- it shows no control character but line feeds, and each of its sequences is allowed
  pub record IsClean (text : List ℕ) : Type 0 where
    pub shows : ShowsNoControls text
    pub allowed : HasAllowed Allows text

  both-clean : (texts : List (List ℕ)) → AllByRecursion ShowsNoControls texts → AllByRecursion (HasAllowed Allows) texts → AllByRecursion IsClean texts
  both-clean [] shows allowed = tt
  both-clean (text ∷ texts) shows allowed = (record { shows = shows.0; allowed = allowed.0 }, both-clean texts shows.1 allowed.1)

  char-allowed : (c : ℕ) → IsSign c → HasAllowed Allows (markdown_char c)
  char-allowed c is = by (c == 0x7c) (c == 0x5c) (c == 0x0a)
    where
      by : (bar backslash feed : Bool) → HasAllowed Allows (if bar then codes "\\|" else if backslash then codes "\\\\" else if feed then codes "<br>" else encode_utf8 c)
      by true backslash feed = allowed-plain Allows (codes "\\|") refl
      by false true feed = allowed-plain Allows (codes "\\\\") refl
      by false false true = allowed-plain Allows (codes "<br>") refl
      by false false false = allowed-character Allows c (record { scalar = is.0; no_escape = is.1 })

  markdown-allowed : (ps : List Piece) → EachStands ps → EachUtf8 ps → AllByRecursion (IsAllowed Allows) ps → HasAllowed Allows (flat_map markdown_piece ps)
  markdown-allowed [] stand utf8 all = allowed-nothing Allows
  markdown-allowed (piece ∷ ps) stand utf8 all =
      allowed-append Allows (markdown_piece piece) (flat_map markdown_piece ps) (here (is_text_kind piece.kind) refl) (markdown-allowed ps stand.1 utf8.1 all.1)
    where
      here : (text : Bool) → is_text_kind piece.kind ≡ text → HasAllowed Allows (if text then markdown_text (chars piece.bytes) else piece.bytes)
      here true e =
          allowed-flat_map Allows IsSign markdown_char char-allowed (chars piece.bytes) (signs-of piece.bytes utf8.0 (plain-bytes piece.kind piece.bytes ps e stand.0))
      here false e = allowed-piece Allows piece ps stand.0 all.0

  module _ (IsStyle : Attributes → Type 0) (closed : AreClosed Allows IsStyle) where
    pub kept-clean : IsKeptByEach IsClean
    kept-clean =
        let text = kept-of is_no_control ascii-inside mark-inside dots-inside in
        record {
          nothing = record { shows = text.nothing; allowed = allowed-nothing Allows };
          append = λ a b first second. record { shows = text.append a b first.shows second.shows; allowed = allowed-append Allows a b first.allowed second.allowed };
          own = λ bytes own. record { shows = text.own bytes own; allowed = allowed-plain Allows bytes (own-plain bytes own) };
          dots = record { shows = text.dots; allowed = allowed-plain Allows ellipsis refl };
          lines = λ bytes is. both-clean (text_lines bytes) (text.lines bytes is.shows) (lines-allowed Allows IsStyle closed bytes is.allowed);
          cut = λ width bytes is. record { shows = text.cut width bytes is.shows; allowed = cut-allowed Allows IsStyle closed width bytes is.allowed };
          wrapped = λ width keep_words bytes is. record { shows = text.wrapped width keep_words bytes is.shows; allowed = wrapped-allowed Allows IsStyle closed width keep_words bytes is.allowed };
          markdown = λ bytes is.
              let are = ArePiecesOf-pieces bytes in
              record {
                shows = text.markdown bytes is.shows;
                allowed = markdown-allowed (pieces bytes) are.stand (EachUtf8-of bytes (pieces bytes) is.shows.whole.utf8 are) is.allowed;
              };
        }
