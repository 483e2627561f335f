-- Cutting the bytes of a text at ASCII characters is cutting its characters.
use Rattle.std.proofs.Common.{◌≡◌, ℕ, suc, ◌<◌, ◌==◌, ◌&&◌, Bool, true, false, cond, List, [], ◌∷◌, ◌++◌, map, length, get_or, refl, ap, sym, ◌∙◌, arith, append-nil, eqb-true, ne_eqb, eq-eqb, lit<}
use Rattle.std.specs.Prelude.{encode_utf8, encode_utf8_all}
use Rattle.std.specs.List.{slice_split, onto_first, AllByRecursion}
use Rattle.std.proofs.Math.Utf8.{scalar, scalars}
use Rattle.std.proofs.lemmas.Bool.{and_parts}
use Rattle.std.proofs.lemmas.Str.{inside_one, encode_ascii, length-encode, len_utf8_bounds}
use Rattle.std.proofs.lemmas.List.Splits.{slice_split-cons_yes, slice_split-cons_no}
use Rattle.std.proofs.lemmas.Simd.{map-map}
use Rattle.columns_run.specs.Rows.{line_feed, tab, without_empty_last, row_texts, rows_of}
use Rattle.columns_run.proofs.Rows.{onto_front, slice_split-parts}

split_past : (p : ℕ → Bool) (xs ys : List ℕ) → ((k : ℕ) → k < length xs → p (get_or xs k 0) ≡ false) → slice_split p (xs ++ ys) ≡ onto_front xs (slice_split p ys)
split_past p [] ys none = let found = slice_split-parts p ys in found.2 ∙ ap (onto_front []) (sym found.2)
split_past p (x ∷ xs) ys none =
    let found = slice_split-parts p ys in
    let first : 0 < length (x ∷ xs) = omega arith in
    let others : (k : ℕ) → k < length xs → p (get_or xs k 0) ≡ false = λ k h. none (suc k) (omega arith) in
    slice_split-cons_no p x (xs ++ ys) (none 0 first)
    ∙ ap (onto_first x) (split_past p xs ys others)
    ∙ ap (λ parts. onto_first x (onto_front xs parts)) found.2
    ∙ ap (onto_front (x ∷ xs)) (sym found.2)

-- a byte of another character is no ASCII character c
other_bytes : (c x : ℕ) → c < 128 → (x == c) ≡ false → (k : ℕ) → k < length (encode_utf8 x) → (get_or (encode_utf8 x) k 0 == c) ≡ false
other_bytes c x low other k h =
    ne_eqb (get_or (encode_utf8 x) k 0) c (λ same.
    let ascii : get_or (encode_utf8 x) k 0 < 128 = omega arith in
    let whole : x ≡ get_or (encode_utf8 x) k 0 = inside_one x [] (encode_utf8 x) k (sym (append-nil (encode_utf8 x))) h ascii in
    let equal : (x == c) ≡ true = eq-eqb x c (whole ∙ same) in
    false_is_not_true (sym other ∙ equal))
  where
    false_is_not_true : false ≡ true → ⊥
    false_is_not_true e = cc

slice_split-encodes_step : (c x : ℕ) (cs : List ℕ) (b : Bool) → c < 128 → (x == c) ≡ b
    → slice_split (λ y. y == c) (encode_utf8_all cs) ≡ map encode_utf8_all (slice_split (λ y. y == c) cs)
    → slice_split (λ y. y == c) (encode_utf8_all (x ∷ cs)) ≡ map encode_utf8_all (slice_split (λ y. y == c) (x ∷ cs))
slice_split-encodes_step c x cs true low same rest =
    let is_c = λ (y : ℕ). y == c in
    let equal : x ≡ c = eqb-true x c same in
    let ascii : x < 128 = omega arith in
    ap (λ bytes. slice_split is_c (bytes ++ encode_utf8_all cs)) (encode_ascii x ascii)
    ∙ slice_split-cons_yes is_c x (encode_utf8_all cs) same
    ∙ ap (λ parts. [] ∷ parts) rest
    ∙ ap (map encode_utf8_all) (sym (slice_split-cons_yes is_c x cs same))
slice_split-encodes_step c x cs false low other rest =
    let is_c = λ (y : ℕ). y == c in
    let found = slice_split-parts is_c cs in
    split_past is_c (encode_utf8 x) (encode_utf8_all cs) (other_bytes c x low other)
    ∙ ap (onto_front (encode_utf8 x)) (rest ∙ ap (map encode_utf8_all) found.2)
    ∙ ap (λ parts. map encode_utf8_all (onto_first x parts)) (sym found.2)
    ∙ ap (map encode_utf8_all) (sym (slice_split-cons_no is_c x cs other))

slice_split-encodes : (c : ℕ) → c < 128 → (cs : List ℕ) → slice_split (λ y. y == c) (encode_utf8_all cs) ≡ map encode_utf8_all (slice_split (λ y. y == c) cs)
slice_split-encodes c low [] = refl
slice_split-encodes c low (x ∷ cs) = slice_split-encodes_step c x cs (x == c) low refl (slice_split-encodes c low cs)

-- ---- rows

encode-cons : (c : ℕ) (bytes : List ℕ) → 0 < length bytes → (b : ℕ) × (bs : List ℕ) × (bytes ≡ b ∷ bs)
encode-cons c [] h = absurd (omega arith)
encode-cons c (b ∷ bs) h = (b, bs, refl)

without_empty_last-encodes : (xss : List (List ℕ)) → without_empty_last (map encode_utf8_all xss) ≡ map encode_utf8_all (without_empty_last xss)
without_empty_last-encodes [] = refl
without_empty_last-encodes ([] ∷ []) = refl
without_empty_last-encodes ([] ∷ xs ∷ xss) = ap (λ rest. [] ∷ rest) (without_empty_last-encodes (xs ∷ xss))
without_empty_last-encodes ((x ∷ xs) ∷ xss) =
    let some : 0 < length (encode_utf8 x) = omega (arith, length-encode x, (len_utf8_bounds x).0) in
    let first = encode-cons x (encode_utf8 x) some in
    ap (λ bytes. without_empty_last ((bytes ++ encode_utf8_all xs) ∷ map encode_utf8_all xss)) first.2
    ∙ ap (λ rest. (first.0 ∷ (first.1 ++ encode_utf8_all xs)) ∷ rest) (without_empty_last-encodes xss)
    ∙ ap (λ bytes. (bytes ++ encode_utf8_all xs) ∷ map encode_utf8_all (without_empty_last xss)) (sym first.2)

pub rows_of-encodes : (cs : List ℕ) → rows_of (λ b. b) (encode_utf8_all cs) ≡ map (map encode_utf8_all) (rows_of (λ c. c) cs)
rows_of-encodes cs =
    let cells = slice_split (λ (b : ℕ). b == tab) in
    ap (λ rows. map cells (without_empty_last rows)) (slice_split-encodes line_feed (lit< tt) cs)
    ∙ ap (map cells) (without_empty_last-encodes (slice_split (λ b. b == line_feed) cs))
    ∙ map-map cells encode_utf8_all (row_texts (λ c. c) cs)
    ∙ (λ n. map (λ row. slice_split-encodes tab (lit< tt) row n) (row_texts (λ c. c) cs))
    ∙ sym (map-map (map encode_utf8_all) cells (row_texts (λ c. c) cs))

-- ---- the characters of a cell

abbrev pub AreScalars : List ℕ → Type 0
AreScalars cs = scalars cs ≡ true

AreScalars-cons : (c : ℕ) (cs : List ℕ) → scalar c ≡ true → AreScalars cs → AreScalars (c ∷ cs)
AreScalars-cons c cs first rest = ap (λ b. b && scalars cs) first ∙ rest

AreScalars-onto_first : (c : ℕ) (parts : List (List ℕ)) → scalar c ≡ true → AllByRecursion AreScalars parts → AllByRecursion AreScalars (onto_first c parts)
AreScalars-onto_first c [] first all = (AreScalars-cons c [] first refl, tt)
AreScalars-onto_first c (part ∷ parts) first all = (AreScalars-cons c part first all.0, all.1)

pub AreScalars-slice_split : (p : ℕ → Bool) (cs : List ℕ) → AreScalars cs → AllByRecursion AreScalars (slice_split p cs)
AreScalars-slice_split p [] all = (refl, tt)
AreScalars-slice_split p (c ∷ cs) all =
    let split = and_parts (scalar c) (scalars cs) all in
    let rest = AreScalars-slice_split p cs split.1 in
    elim (p c) as (λ b. AllByRecursion AreScalars (cond b ([] ∷ slice_split p cs) (onto_first c (slice_split p cs)))) [
      | true ↦ (refl, rest)
      | false ↦ AreScalars-onto_first c (slice_split p cs) split.0 rest
    ]

pub AreScalars-without_empty_last : (xss : List (List ℕ)) → AllByRecursion AreScalars xss → AllByRecursion AreScalars (without_empty_last xss)
AreScalars-without_empty_last [] all = tt
AreScalars-without_empty_last ([] ∷ []) all = tt
AreScalars-without_empty_last ([] ∷ xs ∷ xss) all = (all.0, AreScalars-without_empty_last (xs ∷ xss) all.1)
AreScalars-without_empty_last ((x ∷ xs) ∷ xss) all = (all.0, AreScalars-without_empty_last xss all.1)

pub AreScalars-cells : (p : ℕ → Bool) (rows : List (List ℕ)) → AllByRecursion AreScalars rows → AllByRecursion (AllByRecursion AreScalars) (map (slice_split p) rows)
AreScalars-cells p [] all = tt
AreScalars-cells p (row ∷ rows) all = (AreScalars-slice_split p row all.0, AreScalars-cells p rows all.1)
