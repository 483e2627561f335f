-- The text from one place to another, with every sequence.
use Rattle.std.proofs.Common.{◌≡◌, ℕ, ◌+◌, ◌-◌, ◌<◌, ◌≤◌, ◌==◌, ◌||◌, nat_lt, Bool, true, false, not, List, [], ◌∷◌, ◌++◌, length, take, drop, slice_range, refl, ap, sym, subst, ◌∙◌, arith, append_assoc, append-nil, length-append}
use Rattle.std.specs.Cmp.Derive.{both_true}
use Rattle.std.specs.List.{list_all}
use Rattle.std.specs.Str.{IsUtf8, IsCharBoundary}
use Rattle.std.proofs.lemmas.Bool.Decides.{nat_tests}
use Rattle.std.proofs.lemmas.List.{length-drop, drop_all, take_all}
use Rattle.std.proofs.lemmas.Str.{IsCharBoundary-start}
use Rattle.ansi_scan.specs.declared.items.Kind.TheVariants.{Text}
use Rattle.ansi_scan.specs.Sequences.{Piece, escape, is_not_escape}
use Rattle.ansi_scan.specs.Joining.{is_text_kind}
use Rattle.ansi_scan.specs.Pieces.{pieces}
use Rattle.ansi_scan.proofs.Existence.{ArePiecesOf-pieces}
use Rattle.ansi_scan.proofs.Uniqueness.{pieces-joined}
use Rattle.ansi_str.specs.StyledText.{has_escape, text_of, strip}
use Rattle.ansi_str.specs.Parts.{taken_piece, taken}
use Rattle.ansi_str.specs.Keeping.{kept}
use Rattle.ansi_str_search.proofs.Parts.{text_of-text, text_of-sequence, taken_piece-text, taken_piece-sequence}
use Rattle.ansi_str_search.proofs.Utf8.{EachUtf8, EachUtf8-pieces, IsUtf8-joined, IsUtf8-strip, boundary-first, boundary-second}

abbrev every : ℕ → List Piece → ℕ → ℕ → List ℕ
every place ps a b = taken (λ _. true) a b place ps

-- ---- an end after all text is the end

slice_past : (bytes : List ℕ) (a b c : ℕ) → length bytes ≤ b → length bytes ≤ c → slice_range bytes a b ≡ slice_range bytes a c
slice_past bytes a b c long longer =
    let size = length-drop a bytes in
    take_all (b - a) (drop a bytes) (omega (arith, size, long)) ∙ sym (take_all (c - a) (drop a bytes) (omega (arith, size, longer)))

piece_past : (a b c place : ℕ) (p : Piece) (text : Bool) → is_text_kind p.kind ≡ text → place + length (text_of p) ≤ b → place + length (text_of p) ≤ c
    → taken_piece (λ _. true) a b place p ≡ taken_piece (λ _. true) a c place p
piece_past a b c place p true e long longer =
    let size : length (text_of p) ≡ length p.bytes = ap length (text_of-text p e) in
    taken_piece-text (λ _. true) a b place p e
    ∙ slice_past p.bytes (a - place) (b - place) (c - place) (omega (arith, size, long)) (omega (arith, size, longer))
    ∙ sym (taken_piece-text (λ _. true) a c place p e)
piece_past a b c place p false e long longer =
    taken_piece-sequence (λ _. true) a b place p true e refl ∙ sym (taken_piece-sequence (λ _. true) a c place p true e refl)

taken_past : (a b c place : ℕ) (ps : List Piece) → place + length (strip ps) ≤ b → place + length (strip ps) ≤ c → every place ps a b ≡ every place ps a c
taken_past a b c place [] long longer = refl
taken_past a b c place (p ∷ ps) long longer =
    let size : length (strip (p ∷ ps)) ≡ length (text_of p) + length (strip ps) = length-append (text_of p) (strip ps) in
    ap (λ bytes. bytes ++ every (place + length (text_of p)) ps a b) (piece_past a b c place p (is_text_kind p.kind) refl (omega (arith, size, long)) (omega (arith, size, longer)))
    ∙ ap (λ bytes. taken_piece (λ _. true) a c place p ++ bytes)
    (taken_past a b c (place + length (text_of p)) ps (omega (arith, size, long)) (omega (arith, size, longer)))

pub kept-past : (a b : ℕ) (ps : List Piece) → length (strip ps) ≤ b → kept a b ps ≡ kept a (length (strip ps)) ps
kept-past a b ps long = taken_past a b (length (strip ps)) 0 ps (omega (arith, long)) (omega arith)

-- ---- a text without sequences

kept-one : (a b : ℕ) (t : List ℕ) → kept a b (record { kind = Text; bytes = t } ∷ []) ≡ slice_range t a b
kept-one a b t = let first : a - 0 ≡ a = omega arith in let last : b - 0 ≡ b = omega arith in
    append-nil (slice_range t (a - 0) (b - 0)) ∙ ap (λ n. slice_range t n (b - 0)) first ∙ ap (λ n. slice_range t a n) last

plain_all : (t : List ℕ) → has_escape t ≡ false → list_all is_not_escape t ≡ true
plain_all [] gone = refl
plain_all (b ∷ bs) gone = by (b == escape) refl gone (plain_all bs)
  where
    by : (is_escape : Bool) → (b == escape) ≡ is_escape → (is_escape || has_escape bs) ≡ false → (has_escape bs ≡ false → list_all is_not_escape bs ≡ true) → list_all is_not_escape (b ∷ bs) ≡ true
    by true e h others = cc h
    by false e h others = both_true (ap not e) (others h)

pieces_one : (t : List ℕ) → 0 < length t → has_escape t ≡ false → pieces t ≡ record { kind = Text; bytes = t } ∷ []
pieces_one t some gone =
    ap pieces (sym (append-nil t)) ∙ pieces-joined (record { kind = Text; bytes = t } ∷ []) (record { some = some; plain = plain_all t gone; ends = tt }, tt)

pub empty_slice : (a b : ℕ) (xs : List ℕ) → xs ≡ [] → slice_range xs a b ≡ []
empty_slice a b xs e =
    let size : length xs ≡ 0 = ap length e in
    ap (take (b - a)) (drop_all a xs (omega (arith, size))) ∙ take_all (b - a) [] (omega arith)

-- without sequences it is a slice
pub kept-plain : (a b : ℕ) (t : List ℕ) → has_escape t ≡ false → slice_range t a b ≡ kept a b (pieces t)
kept-plain a b [] gone = empty_slice a b [] refl ∙ ap (kept a b) (sym (pieces-joined [] tt))
kept-plain a b (x ∷ xs) gone = sym (kept-one a b (x ∷ xs)) ∙ ap (kept a b) (sym (pieces_one (x ∷ xs) (omega arith) gone))

-- ---- a walk over the items

-- what was kept, and what is kept of the rest, is all, and the rest can be cut where the text can
pub record IsKeptLeft (out rest : List ℕ) (place a b : ℕ) (text : List ℕ) : Type 0 where
  pub all : out ++ taken (λ _. true) a b place (pieces rest) ≡ kept a b (pieces text)
  pub counted : place + length (strip (pieces rest)) ≡ length (strip (pieces text))
  pub from : a - place < length (strip (pieces rest)) → IsCharBoundary (strip (pieces rest)) (a - place)
  pub to : b - place < length (strip (pieces rest)) → IsCharBoundary (strip (pieces rest)) (b - place)

pub IsKeptLeft-start : (a b : ℕ) (text : List ℕ) → (a < length (strip (pieces text)) → IsCharBoundary (strip (pieces text)) a)
    → (b < length (strip (pieces text)) → IsCharBoundary (strip (pieces text)) b) → IsKeptLeft [] text 0 a b text
IsKeptLeft-start a b text from to =
    let first : a ≡ a - 0 = omega arith in
    let last : b ≡ b - 0 = omega arith in
    record {
      all = refl;
      counted = omega arith;
      from = subst (λ n. n < length (strip (pieces text)) → IsCharBoundary (strip (pieces text)) n) first from;
      to = subst (λ n. n < length (strip (pieces text)) → IsCharBoundary (strip (pieces text)) n) last to;
    }

module _ (out rest : List ℕ) (place a b : ℕ) (text : List ℕ) (left : IsKeptLeft out rest place a b text) where
  pub kept-all : pieces rest ≡ [] → out ≡ kept a b (pieces text)
  kept-all gone = sym (append-nil out) ∙ ap (λ ps. out ++ taken (λ _. true) a b place ps) (sym gone) ∙ left.all

  module _ (behind : List ℕ) (first : Piece) (read : pieces rest ≡ first ∷ pieces behind) (utf8 : IsUtf8 rest) where
    each : EachUtf8 (first ∷ pieces behind)
    each = let are = ArePiecesOf-pieces rest in subst EachUtf8 read (EachUtf8-pieces (pieces rest) are.stand (subst IsUtf8 (sym are.joins) utf8))

    pub behind-utf8 : IsUtf8 behind
    behind-utf8 = subst IsUtf8 (ArePiecesOf-pieces behind).joins (IsUtf8-joined (pieces behind) each.1)

    own : strip (pieces rest) ≡ text_of first ++ strip (pieces behind)
    own = ap strip read

    size : length (strip (pieces rest)) ≡ length (text_of first) + length (strip (pieces behind))
    size = ap length own ∙ length-append (text_of first) (strip (pieces behind))

    pub kept-counts : place + length (text_of first) + length (strip (pieces behind)) ≡ length (strip (pieces text))
    kept-counts = let h = size in omega (arith, h, left.counted)

    -- where the first piece can be cut
    inside_first : (n : ℕ) → (n < length (strip (pieces rest)) → IsCharBoundary (strip (pieces rest)) n) → n < length (text_of first) → IsCharBoundary (text_of first) n
    inside_first n at less =
        let h = size in
        boundary-first (text_of first) (strip (pieces behind)) n less (subst (λ bytes. IsCharBoundary bytes n) own (at (omega (arith, h, less))))

    pub from-first : a - place < length (text_of first) → IsCharBoundary (text_of first) (a - place)
    from-first = inside_first (a - place) left.from

    pub to-first : b - place < length (text_of first) → IsCharBoundary (text_of first) (b - place)
    to-first = inside_first (b - place) left.to

    -- and what is after it
    cut_behind : (n : ℕ) (short : Bool) → nat_lt (n - place) (length (text_of first)) ≡ short → (n - place < length (strip (pieces rest)) → IsCharBoundary (strip (pieces rest)) (n - place))
        → n - (place + length (text_of first)) < length (strip (pieces behind)) → IsCharBoundary (strip (pieces behind)) (n - (place + length (text_of first)))
    cut_behind n true e at less =
        let none : n - (place + length (text_of first)) ≡ 0 = let short : n - place < length (text_of first) = grind (arith, nat_tests) in omega (arith, short) in
        subst (IsCharBoundary (strip (pieces behind))) (sym none) (IsCharBoundary-start (strip (pieces behind)) (IsUtf8-strip (pieces behind) each.1))
    cut_behind n false e at less =
        let long : length (text_of first) ≤ n - place = grind (arith, nat_tests) in
        let same : n - place - length (text_of first) ≡ n - (place + length (text_of first)) = omega arith in
        let h = size in
        subst (IsCharBoundary (strip (pieces behind))) same
        (boundary-second (text_of first) (strip (pieces behind)) (n - place) long (subst (λ bytes. IsCharBoundary bytes (n - place)) own (at (omega (arith, h, long, less)))))

    pub IsKeptLeft-on : (now : List ℕ) → now ≡ out ++ taken_piece (λ _. true) a b place first → IsKeptLeft now behind (place + length (text_of first)) a b text
    IsKeptLeft-on now same = record {
      all =
          ap (λ bytes. bytes ++ every (place + length (text_of first)) (pieces behind) a b) same
          ∙ append_assoc out (taken_piece (λ _. true) a b place first) (every (place + length (text_of first)) (pieces behind) a b)
          ∙ ap (λ ps. out ++ every place ps a b) (sym read) ∙ left.all;
      counted = kept-counts;
      from = cut_behind a (nat_lt (a - place) (length (text_of first))) refl left.from;
      to = cut_behind b (nat_lt (b - place) (length (text_of first))) refl left.to;
    }

    -- over text
    pub IsKeptLeft-text : is_text_kind first.kind ≡ true → (now : List ℕ) → now ≡ out ++ slice_range first.bytes (a - place) (b - place)
        → IsKeptLeft now behind (place + length first.bytes) a b text
    IsKeptLeft-text is_text now same =
        subst (λ n. IsKeptLeft now behind (place + n) a b text) (ap length (text_of-text first is_text))
        (IsKeptLeft-on now (same ∙ ap (λ bytes. out ++ bytes) (sym (taken_piece-text (λ _. true) a b place first is_text))))

    -- over a sequence
    pub IsKeptLeft-sequence : is_text_kind first.kind ≡ false → (now : List ℕ) → now ≡ out ++ first.bytes → IsKeptLeft now behind place a b text
    IsKeptLeft-sequence other now same =
        let none : place + length (text_of first) ≡ place = let gone : length (text_of first) ≡ 0 = ap length (text_of-sequence first other) in omega (arith, gone) in
        subst (λ n. IsKeptLeft now behind n a b text) none
        (IsKeptLeft-on now (same ∙ ap (λ bytes. out ++ bytes) (sym (taken_piece-sequence (λ _. true) a b place first true other refl))))
