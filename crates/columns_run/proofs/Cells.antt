-- The rows and cells of a text by its parts, and by its styled characters.
use Rattle.std.proofs.Common.{◌≡◌, ℕ, suc, ◌==◌, Bool, true, false, cond, List, [], ◌∷◌, map, length, refl, ap, sym, subst, ◌∙◌, arith, if◌then◌else◌, lit<}
use Rattle.std.specs.Prelude.{chars, encode_utf8_all, IsUtf8}
use Rattle.std.specs.List.{slice_split, onto_first, AllByRecursion}
use Rattle.std.proofs.lemmas.Bool.Decides.{nat_tests}
use Rattle.std.proofs.lemmas.Simd.{map-map}
use Rattle.std.proofs.lemmas.Str.{chars-nil, encodes-chars}
use Rattle.ansi_scan.specs.Sequences.{NoneBroken, IsWhole}
use Rattle.ansi_scan.proofs.Uniqueness.{pieces-ArePiecesOf}
use Rattle.papergrid_picture.specs.Shown.{AreWholeTexts, IsWholeText as IsWholeCell, Styled}
use Rattle.papergrid_picture.proofs.Items.{slice_split-map}
use Rattle.ansi_str_search.proofs.TextLemmas.Utf8Pieces.{IsUtf8-shown_text}
use Rattle.columns_run.specs.Rows.{line_feed, tab, stripped, without_empty_last, rows_of, row_texts, parts_by_character, without_unshown_last, row_parts, cell_parts}
use Rattle.columns_run.specs.DrawnTables.{characters_of, encoded_cells}
use Rattle.columns_run.proofs.Shows.{characters_of-styled}
use Rattle.columns_run.proofs.Splits.{styled_characters, IsWholeText, IsClosedPart, whole-closed, styled-parts_by_character, closed-parts_by_character}
use Rattle.columns_run.proofs.Items.{AllByRecursion-keeps, AllByRecursion-map_of, map-same}

pub whole_text : (text : List ℕ) → IsUtf8 text → IsWhole text → IsWholeText text
whole_text text utf8 whole = record { utf8 = utf8; none_broken = subst NoneBroken (sym (pieces-ArePiecesOf text whole.pieces whole.of_text)) whole.none_broken }

-- ---- the rows and cells of the bytes are those of the styled characters

-- a text shows nothing exactly where nothing is left of it without its sequences
shows-none : (text : List ℕ) → IsUtf8 text → stripped text ≡ [] → styled_characters text ≡ []
shows-none text utf8 none = nothing (styled_characters text) (characters_of-styled text utf8 ∙ ap chars none ∙ chars-nil)
  where
    nothing : (cs : List Styled) → characters_of cs ≡ [] → cs ≡ []
    nothing [] h = refl
    nothing (c ∷ cs) h = absurd (cc h)

shows-some : (text : List ℕ) → IsUtf8 text → styled_characters text ≡ [] → stripped text ≡ []
shows-some text utf8 none =
    sym (encodes-chars (stripped text) (IsUtf8-shown_text text utf8)) ∙ ap encode_utf8_all (sym (characters_of-styled text utf8) ∙ ap characters_of none)

one_shown : (cs : List Styled) → (cs ≡ [] → ⊥) → cs ∷ [] ≡ without_empty_last (cs ∷ [])
one_shown [] some = absurd (some refl)
one_shown (c ∷ cs) some = refl

without_empty_last-more : (cs next : List Styled) (others : List (List Styled)) → without_empty_last (cs ∷ next ∷ others) ≡ cs ∷ without_empty_last (next ∷ others)
without_empty_last-more [] next others = refl
without_empty_last-more (c ∷ cs) next others = refl

last_shown : (part left : List ℕ) → IsUtf8 part → stripped part ≡ left
    → map styled_characters (if length left == 0 then [] else part ∷ []) ≡ without_empty_last (styled_characters part ∷ [])
last_shown part [] utf8 is = ap (λ cs. without_empty_last (cs ∷ [])) (sym (shows-none part utf8 is))
last_shown part (b ∷ bs) utf8 is =
    let some : (length (b ∷ bs) == 0) ≡ false = some_length (length bs) in
    ap (λ bare. map styled_characters (if bare then [] else part ∷ [])) some
    ∙ one_shown (styled_characters part) (λ none. let both : [] ≡ b ∷ bs = sym (shows-some part utf8 none) ∙ is in cc both)
  where
    some_length : (n : ℕ) → (suc n == 0) ≡ false
    some_length n = grind (arith, nat_tests)

styled-without_unshown_last : (parts : List (List ℕ)) → AllByRecursion IsClosedPart parts → map styled_characters (without_unshown_last parts) ≡ without_empty_last (map styled_characters parts)
styled-without_unshown_last [] all = refl
styled-without_unshown_last (part ∷ []) all = last_shown part (stripped part) all.0.utf8 refl
styled-without_unshown_last (part ∷ next ∷ parts) all =
    ap (λ others. styled_characters part ∷ others) (styled-without_unshown_last (next ∷ parts) all.1)
    ∙ sym (without_empty_last-more (styled_characters part) (styled_characters next) (map styled_characters parts))

one-if : (P : List ℕ → Type 0) (bare : Bool) (part : List ℕ) → P part → AllByRecursion P (if bare then [] else part ∷ [])
one-if P true part here = tt
one-if P false part here = (here, tt)

pub without_unshown_last-keeps : (P : List ℕ → Type 0) (parts : List (List ℕ)) → AllByRecursion P parts → AllByRecursion P (without_unshown_last parts)
without_unshown_last-keeps P [] all = tt
without_unshown_last-keeps P (part ∷ []) all = one-if P (length (stripped part) == 0) part all.0
without_unshown_last-keeps P (part ∷ next ∷ parts) all = (all.0, without_unshown_last-keeps P (next ∷ parts) all.1)

module _ (text : List ℕ) (whole : IsWholeText text) where
  pub closed_rows : AllByRecursion IsClosedPart (row_parts text)
  closed_rows = without_unshown_last-keeps IsClosedPart (parts_by_character line_feed text) (closed-parts_by_character line_feed text (lit< tt) whole)

  pub closed_cells : AllByRecursion (AllByRecursion IsClosedPart) (cell_parts text)
  closed_cells =
      AllByRecursion-map_of IsClosedPart (AllByRecursion IsClosedPart) (parts_by_character tab) (λ row closed. closed-parts_by_character tab row (lit< tt) (whole-closed row closed)) (row_parts text) closed_rows

  pub whole_cells : AreWholeTexts (cell_parts text)
  whole_cells =
      AllByRecursion-keeps (AllByRecursion IsClosedPart) (AllByRecursion IsWholeCell)
      (λ row closed. AllByRecursion-keeps IsClosedPart IsWholeCell (λ part good. record { utf8 = good.utf8; whole = good.closed.none_broken }) row closed)
      (cell_parts text) closed_cells

  styled-row_parts : map styled_characters (row_parts text) ≡ row_texts (λ x. x.0) (styled_characters text)
  styled-row_parts =
      styled-without_unshown_last (parts_by_character line_feed text) (closed-parts_by_character line_feed text (lit< tt) whole)
      ∙ ap without_empty_last (styled-parts_by_character line_feed text (lit< tt) whole)

  pub styled-cell_parts : map (map styled_characters) (cell_parts text) ≡ rows_of (λ x. x.0) (styled_characters text)
  styled-cell_parts =
      let cells = slice_split (λ (x : Styled). x.0 == tab) in
      map-map (map styled_characters) (parts_by_character tab) (row_parts text)
      ∙ map-same IsClosedPart (λ row. map styled_characters (parts_by_character tab row)) (λ row. cells (styled_characters row)) (λ row closed. styled-parts_by_character tab row (lit< tt) (whole-closed row closed)) (row_parts text) closed_rows
      ∙ sym (map-map cells styled_characters (row_parts text))
      ∙ ap (map cells) styled-row_parts

-- ---- tests on elements

abbrev pub Fails : {X : Type 0} → (X → Bool) → X → Type 0
Fails p x = p x ≡ false

onto-first : {X : Type 0} (P : X → Type 0) (x : X) (parts : List (List X)) → P x → AllByRecursion (AllByRecursion P) parts → AllByRecursion (AllByRecursion P) (onto_first x parts)
onto-first P x [] here all = ((here, tt), tt)
onto-first P x (part ∷ parts) here all = ((here, all.0), all.1)

-- no element of a part passes the test
pub slice_split-fails : {X : Type 0} (p : X → Bool) (xs : List X) → AllByRecursion (AllByRecursion (Fails p)) (slice_split p xs)
slice_split-fails p [] = (tt, tt)
slice_split-fails {X} p (x ∷ xs) =
    let rest = slice_split-fails p xs in
    let step : (test : Bool) → p x ≡ test → AllByRecursion (AllByRecursion (Fails p)) (cond test ([] ∷ slice_split p xs) (onto_first x (slice_split p xs))) =
    λ test. elim test as (λ test. p x ≡ test → AllByRecursion (AllByRecursion (Fails p)) (cond test ([] ∷ slice_split p xs) (onto_first x (slice_split p xs)))) [
      | true ↦ λ h. (tt, rest)
      | false ↦ λ h. onto-first (Fails p) x (slice_split p xs) h rest
    ] in
    step (p x) refl

pub slice_split-keeps : {X : Type 0} (P : X → Type 0) (p : X → Bool) (xs : List X) → AllByRecursion P xs → AllByRecursion (AllByRecursion P) (slice_split p xs)
slice_split-keeps P p [] all = (tt, tt)
slice_split-keeps P p (x ∷ xs) all =
    let rest = slice_split-keeps P p xs all.1 in
    elim (p x) as (λ test. AllByRecursion (AllByRecursion P) (cond test ([] ∷ slice_split p xs) (onto_first x (slice_split p xs)))) [
      | true ↦ (tt, rest)
      | false ↦ onto-first P x (slice_split p xs) all.0 rest
    ]

-- ---- characters without their styles

without_empty_last-map : {X Y : Type 0} (f : X → Y) (parts : List (List X)) → without_empty_last (map (map f) parts) ≡ map (map f) (without_empty_last parts)
without_empty_last-map f [] = refl
without_empty_last-map f ([] ∷ []) = refl
without_empty_last-map f ([] ∷ other ∷ parts) = ap (λ rest. [] ∷ rest) (without_empty_last-map f (other ∷ parts))
without_empty_last-map f ((x ∷ xs) ∷ parts) = ap (λ rest. map f (x ∷ xs) ∷ rest) (without_empty_last-map f parts)

pub rows_of-characters : (cs : List Styled) → rows_of (λ c. c) (characters_of cs) ≡ map (map characters_of) (rows_of (λ x. x.0) cs)
rows_of-characters cs =
    let character = λ (x : Styled). x.0 in
    let cells = slice_split (λ (c : ℕ). c == tab) in
    ap (λ parts. map cells (without_empty_last parts)) (slice_split-map character (λ c. c == line_feed) cs)
    ∙ ap (map cells) (without_empty_last-map character (slice_split (λ (x : Styled). x.0 == line_feed) cs))
    ∙ map-map cells characters_of (row_texts character cs)
    ∙ (λ n. map (λ row. slice_split-map character (λ c. c == tab) row n) (row_texts character cs))
    ∙ sym (map-map (map characters_of) (slice_split (λ (x : Styled). x.0 == tab)) (row_texts character cs))

-- the texts of the cells are the cells of the text without its sequences
pub texts-stripped : (text : List ℕ) → IsWholeText text → encoded_cells (chars (stripped text)) ≡ map (map stripped) (cell_parts text)
texts-stripped text whole =
    let cs = styled_characters text in
    let cells = rows_of (λ (x : Styled). x.0) cs in
    ap encoded_cells (sym (characters_of-styled text whole.utf8))
    ∙ ap (map (map encode_utf8_all)) (rows_of-characters cs)
    ∙ map-map (map encode_utf8_all) (map characters_of) cells
    ∙ ap (map (λ row. map encode_utf8_all (map characters_of row))) (sym (styled-cell_parts text whole))
    ∙ map-map (λ row. map encode_utf8_all (map characters_of row)) (map styled_characters) (cell_parts text)
    ∙ map-same (AllByRecursion IsClosedPart) (λ row. map encode_utf8_all (map characters_of (map styled_characters row))) (map stripped)
    (λ row closed. ap (map encode_utf8_all) (map-map characters_of styled_characters row) ∙ map-map encode_utf8_all (λ part. characters_of (styled_characters part)) row
    ∙ map-same IsClosedPart (λ part. encode_utf8_all (characters_of (styled_characters part))) stripped
    (λ part good. ap encode_utf8_all (characters_of-styled part good.utf8) ∙ encodes-chars (stripped part) (IsUtf8-shown_text part good.utf8)) row closed)
    (cell_parts text) (closed_cells text whole)
