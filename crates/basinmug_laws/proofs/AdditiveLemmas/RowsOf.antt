-- Texts of a class are of the class at each step on their way into a table.
use Rattle.std.proofs.Common.{◌≡◌, ◌≢◌, ◌==◌, ◌&&◌, ◌||◌, ◌<◌, ◌≤◌, ℕ, Bool, true, false, List, [], ◌∷◌, ◌++◌, refl, ap, sym, subst, ◌∙◌, arith, append-nil, eqb-true, ⊎_elim, if◌then◌else◌}
use Rattle.std.specs.Prelude.{IsUtf8, chars, codes, encode_utf8, flat_map}
use Rattle.std.specs.Int.{is_in_range}
use Rattle.std.specs.List.{AllByRecursion, list_all}
use Rattle.std.proofs.Math.Utf8.{encode}
use Rattle.std.proofs.lemmas.Bool.{and_parts, or_cases}
use Rattle.std.proofs.lemmas.Bool.Decides.{nat_tests}
use Rattle.std.proofs.lemmas.List.Folds.{list_all-append}
use Rattle.std.proofs.lemmas.Str.{chars-append, chars-nil, encode_ascii}
use Rattle.ansi_scan.specs.Joining.{is_text_kind}
use Rattle.ansi_scan.specs.Pieces.{pieces}
use Rattle.ansi_scan.specs.Sequences.{ArePiecesOf, EachStands, NoneBroken, Piece, Stands, escape}
use Rattle.ansi_scan.specs.declared.items.Kind.TheVariants.{Broken}
use Rattle.ansi_scan.proofs.Existence.{ArePiecesOf-pieces}
use Rattle.ansi_scan.proofs.Uniqueness.{pieces-ArePiecesOf}
use Rattle.ansi_str_search.proofs.Dressed.{Stands-before}
use Rattle.ansi_str_search.proofs.Parts.{text_of-sequence, text_of-text}
use Rattle.ansi_str_search.specs.Text.Characters.{shown_chars}
use Rattle.ansi_str_search.specs.Text.StyledText.{strip, text_of}
use Rattle.ansi_str_search.proofs.TextLemmas.Utf8Pieces.{EachUtf8, EachUtf8-of, IsUtf8-text_of}
use Rattle.grid_records_measure.specs.Cutting.{replacement}
use Rattle.grid_records_measure.specs.TextLines.{is_line_feed, text_lines}
use Rattle.tables_laws.specs.Grids.TextsOf.{IsTextOf}
use Rattle.tables_laws.proofs.GridsLemmas.Resized.{cut-text, resized-text}
use Rattle.tables_laws.proofs.GridsLemmas.Texts.{append-of, character-of, line-text, nothing-of, parts-of_text}
use Rattle.papergrid_picture.proofs.Shown.{IsClosedPart, lines-closed_parts}
use Rattle.tabled_size_wrap.specs.Cells.Resizing.{Wrap}
use Rattle.basinmug_columns.specs.Fitting.Fitting.{ellipsis}
use Rattle.basinmug_columns.specs.Markdown.Escapes.{in_markdown, markdown_char, markdown_text}
use Rattle.basinmug_laws.proofs.ShownLemmas.OwnBytes.{is_own_byte}
use Rattle.basinmug_laws.proofs.ShownLemmas.TextSteps.{IsKeptByEach}
use Rattle.basinmug_laws.proofs.ShownLemmas.WholeTexts.{IsSign, piece-whole, plain-bytes, signs-of}

ellipsis-is : encode_utf8 0x2026 ≡ ellipsis
unfolding encode
ellipsis-is = refl

-- a class that has printable ASCII and what is put in the place of what is cut
module _ (p : ℕ → Bool) (ascii : (c : ℕ) → is_in_range 0x20 0x7E c ≡ true → p c ≡ true) (mark : p replacement ≡ true) (dots : p 0x2026 ≡ true) where
  abbrev passes : ℕ → Bool
  passes c = p c || is_line_feed c

  abbrev Passes : List ℕ → Type 0
  Passes cs = list_all passes cs ≡ true

  -- ---- one after the other

  pub flat_map-of : {A : Type 0} (P : A → Type 0) (f : A → List ℕ) → ((x : A) → P x → IsTextOf p (f x)) → (xs : List A) → AllByRecursion P xs → IsTextOf p (flat_map f xs)
  flat_map-of P f each [] all = nothing-of p
  flat_map-of P f each (x ∷ xs) all = append-of p (f x) (flat_map f xs) (each x all.0) (flat_map-of P f each xs all.1)

  printable-of : (b : ℕ) → is_in_range 0x20 0x7E b ≡ true → IsTextOf p (b ∷ [])
  printable-of b printable =
      let least : 0x20 ≤ b = grind (arith, nat_tests, printable) in
      let low : b < 128 = grind (arith, nat_tests, printable) in
      let other : b ≢ escape = λ same. omega (arith, least, same) in
      subst (IsTextOf p) (encode_ascii b low)
      (character-of p b (record { scalar = grind (arith, nat_tests, printable); no_escape = other }) (ap (λ t. t || is_line_feed b) (ascii b printable)))

  or-second : (a b : Bool) → b ≡ true → (a || b) ≡ true
  or-second true b is = refl
  or-second false b is = is

  pub feed-of : IsTextOf p (codes "\n")
  feed-of =
      let low : 0x0a < 128 = omega arith in
      subst (IsTextOf p) (encode_ascii 0x0a low) (character-of p 0x0a (record { scalar = refl; no_escape = λ same. cc same }) (or-second (p 0x0a) true refl))

  byte-of : (b : ℕ) → is_own_byte b ≡ true → IsTextOf p (b ∷ [])
  byte-of b is =
      ⊎_elim (printable-of b) (λ feed. let same : b ≡ 0x0a = eqb-true b 0x0a feed in subst (λ c. IsTextOf p (c ∷ [])) (sym same) feed-of)
      (or_cases (is_in_range 0x20 0x7E b) (is_line_feed b) is)

  pub ascii-of : (bytes : List ℕ) → list_all is_own_byte bytes ≡ true → IsTextOf p bytes
  ascii-of [] all = nothing-of p
  ascii-of (b ∷ bs) all = let parts = and_parts (is_own_byte b) (list_all is_own_byte bs) all in append-of p (b ∷ []) bs (byte-of b parts.0) (ascii-of bs parts.1)

  -- ---- a text in Markdown

  abbrev IsSignOf : ℕ → Type 0
  IsSignOf c = IsSign c × (passes c ≡ true)

  all-signs : (cs : List ℕ) → AllByRecursion IsSign cs → Passes cs → AllByRecursion IsSignOf cs
  all-signs [] signs all = tt
  all-signs (c ∷ cs) signs all = let parts = and_parts (passes c) (list_all passes cs) all in ((signs.0, parts.0), all-signs cs signs.1 parts.1)

  markdown-of : (c : ℕ) → IsSignOf c → IsTextOf p (markdown_char c)
  markdown-of c is = by (c == 0x7c) (c == 0x5c) (c == 0x0a)
    where
      by : (bar backslash feed : Bool) → IsTextOf p (if bar then codes "\\|" else if backslash then codes "\\\\" else if feed then codes "<br>" else encode_utf8 c)
      by true backslash feed = ascii-of (codes "\\|") refl
      by false true feed = ascii-of (codes "\\\\") refl
      by false false true = ascii-of (codes "<br>") refl
      by false false false = character-of p c (record { scalar = is.0.0; no_escape = is.0.1 }) is.1

  abbrev changed : Piece → List ℕ
  changed piece = if is_text_kind piece.kind then markdown_text (chars piece.bytes) else piece.bytes

  -- a sequence shows nothing
  pub sequence-of : (piece : Piece) (ps : List Piece) → Stands piece.kind piece.bytes ps → piece.kind ≢ Broken → IsUtf8 piece.bytes → is_text_kind piece.kind ≡ false → IsTextOf p piece.bytes
  sequence-of piece ps stands whole utf8 e =
      let are : ArePiecesOf piece.bytes (piece ∷ []) = record { joins = append-nil piece.bytes; stand = (Stands-before piece.kind piece.bytes ps [] stands whole (λ first. tt), tt) } in
      record {
        whole = piece-whole piece ps stands whole utf8;
        shown =
            ap (λ (qs : List Piece). list_all passes (chars (strip qs))) (pieces-ArePiecesOf piece.bytes (piece ∷ []) are)
            ∙ ap (λ (bytes : List ℕ). list_all passes (chars (bytes ++ []))) (text_of-sequence piece e)
            ∙ ap (list_all passes) chars-nil;
      }

  pieces-of : (ps : List Piece) → EachStands ps → NoneBroken ps → EachUtf8 ps → Passes (chars (strip ps)) → IsTextOf p (flat_map changed ps)
  pieces-of [] stand whole utf8 all = nothing-of p
  pieces-of (piece ∷ ps) stand whole utf8 all =
      let parted : chars (strip (piece ∷ ps)) ≡ chars (text_of piece) ++ chars (strip ps) = chars-append (text_of piece) (strip ps) (IsUtf8-text_of piece utf8.0) in
      let both : list_all passes (chars (text_of piece)) && list_all passes (chars (strip ps)) ≡ true =
      sym (list_all-append passes (chars (text_of piece)) (chars (strip ps))) ∙ ap (list_all passes) (sym parted) ∙ all in
      let parts = and_parts (list_all passes (chars (text_of piece))) (list_all passes (chars (strip ps))) both in
      append-of p (changed piece) (flat_map changed ps) (here (is_text_kind piece.kind) refl parts.0) (pieces-of ps stand.1 whole.1 utf8.1 parts.1)
    where
      here : (text : Bool) → is_text_kind piece.kind ≡ text → Passes (chars (text_of piece)) → IsTextOf p (if text then markdown_text (chars piece.bytes) else piece.bytes)
      here true e shown =
          let own : Passes (chars piece.bytes) = subst (λ (bytes : List ℕ). Passes (chars bytes)) (text_of-text piece e) shown in
          flat_map-of IsSignOf markdown_char markdown-of (chars piece.bytes) (all-signs (chars piece.bytes) (signs-of piece.bytes utf8.0 (plain-bytes piece.kind piece.bytes ps e stand.0)) own)
      here false e shown = sequence-of piece ps stand.0 whole.0 utf8.0 e

  text-in_markdown : (text : List ℕ) → IsTextOf p text → IsTextOf p (in_markdown text)
  text-in_markdown text is = let are = ArePiecesOf-pieces text in pieces-of (pieces text) are.stand is.whole.whole (EachUtf8-of text (pieces text) is.whole.utf8 are) is.shown

  -- ---- each step

  texts-of_parts : (parts : List (List ℕ)) → AllByRecursion IsClosedPart parts → AllByRecursion (λ part. list_all p (shown_chars part) ≡ true) parts → AllByRecursion (IsTextOf p) parts
  texts-of_parts [] closed all = tt
  texts-of_parts (part ∷ parts) closed all = (line-text p part closed.0 all.0, texts-of_parts parts closed.1 all.1)

  lines-of : (text : List ℕ) → IsTextOf p text → AllByRecursion (IsTextOf p) (text_lines text)
  lines-of text is = texts-of_parts (text_lines text) (lines-closed_parts text is.whole) (parts-of_text p text is)

  pub ellipsis-of : IsTextOf p ellipsis
  ellipsis-of = subst (IsTextOf p) ellipsis-is (character-of p 0x2026 (record { scalar = refl; no_escape = λ same. cc same }) (ap (λ t. t || is_line_feed 0x2026) dots))

  pub kept-of : IsKeptByEach (IsTextOf p)
  kept-of = record {
    nothing = nothing-of p;
    append = append-of p;
    own = ascii-of;
    dots = ellipsis-of;
    lines = lines-of;
    cut = cut-text p mark;
    wrapped = λ width keep_words text is. resized-text p mark (Wrap width keep_words) text is;
    markdown = text-in_markdown;
  }
