-- Texts that are written over spaces.
use Rattle.std.proofs.Common.{◌≡◌, ℕ, zero, suc, ◌+◌, ◌≤◌, List, [], ◌∷◌, ◌++◌, drop, take, length, ap, sym, subst, ◌∙◌, arith, append_assoc, replicate}
use Rattle.std.specs.List.{replace_range}
use Rattle.std.specs.Str.{IsCharBoundary, IsUtf8}
use Rattle.std.specs.String.Boundary.{IsSplitPoint}
use Rattle.std.proofs.Math.Seq.{drop-append_seam, take-append_seam}
use Rattle.std.proofs.lemmas.List.{length-append, length-replicate, replicate-append-replicate}
use Rattle.std.proofs.lemmas.Str.{IsCharBoundary-at_seam, IsUtf8-append, IsUtf8-nil, IsUtf8-take}
use Rattle.ansi_str_search.proofs.Finds.{IsUtf8-byte}
use Rattle.grid_config.specs.Colors.{Color}
use Rattle.papergrid_picture.specs.Tables.{in_color}
use Rattle.papergrid_cells.specs.Spaces.{HasSpaces}

abbrev pub spaces : ℕ → List ℕ
spaces n = replicate n 0x20

pub utf8-spaces : (n : ℕ) → IsUtf8 (spaces n)
utf8-spaces zero = IsUtf8-nil
utf8-spaces (suc n) = IsUtf8-append (0x20 ∷ []) (spaces n) (IsUtf8-byte 0x20 (omega arith)) (utf8-spaces n)

long : (n : ℕ) → length (spaces n) ≡ n
long n = length-replicate n 0x20

split-at : (bytes : List ℕ) (n : ℕ) → IsCharBoundary bytes n → IsSplitPoint bytes n
split-at bytes n boundary = (boundary.0, λ some. boundary.1)

module _ (bytes : List ℕ) (start count : ℕ) (has : HasSpaces bytes start count) where
  counted : length (has.before ++ spaces count) ≡ start + count
  counted = omega (arith, length-append has.before (spaces count), long count, has.place)

  apart : bytes ≡ (has.before ++ spaces count) ++ has.after
  apart = has.parts ∙ sym (append_assoc has.before (spaces count) has.after)

  pub spaces-inside : start + count ≤ length bytes
  spaces-inside = omega (arith, ap (λ l. length l) apart, length-append (has.before ++ spaces count) has.after, counted)

  pub spaces-begin : IsSplitPoint bytes start
  spaces-begin =
      split-at bytes start (subst (IsCharBoundary bytes) (sym has.place)
      (IsCharBoundary-at_seam bytes has.before (spaces count ++ has.after) has.parts (IsUtf8-append (spaces count) has.after (utf8-spaces count) has.text)))

  pub spaces-end : IsSplitPoint bytes (start + count)
  spaces-end = split-at bytes (start + count) (subst (IsCharBoundary bytes) counted (IsCharBoundary-at_seam bytes (has.before ++ spaces count) has.after apart has.text))

  -- what comes after them
  pub behind-spaces : drop (start + count) bytes ≡ has.after
  behind-spaces = ap (λ n. drop n bytes) (sym counted) ∙ (ap (drop (length (has.before ++ spaces count))) apart ∙ drop-append_seam (has.before ++ spaces count) has.after)

  -- what is there once a text is written over them
  pub spaces-over : (text : List ℕ) → replace_range bytes start (start + count) text ≡ has.before ++ (text ++ has.after)
  spaces-over text =
      let first : take start bytes ≡ has.before = ap (λ n. take n bytes) has.place ∙ (ap (take (length has.before)) has.parts ∙ take-append_seam has.before (spaces count ++ has.after)) in
      ap (λ l. (l ++ text) ++ drop (start + count) bytes) first
      ∙ (ap (λ l. (has.before ++ text) ++ l) behind-spaces
      ∙ append_assoc has.before text has.after)

abbrev pub resized : (bytes : List ℕ) (start : ℕ) {count other : ℕ} → count ≡ other → HasSpaces bytes start count → HasSpaces bytes start other
resized bytes start same has = record {
  before = has.before;
  after = has.after;
  parts = has.parts ∙ ap (λ n. has.before ++ (spaces n ++ has.after)) same;
  place = has.place;
  text = has.text;
}

-- the first of some spaces
abbrev pub first-spaces : (bytes : List ℕ) (start first rest : ℕ) → HasSpaces bytes start (first + rest) → HasSpaces bytes start first
first-spaces bytes start first rest has = record {
  before = has.before;
  after = spaces rest ++ has.after;
  parts = has.parts
      ∙ (ap (λ l. has.before ++ (l ++ has.after)) (sym (replicate-append-replicate first rest 0x20))
      ∙ ap (λ l. has.before ++ l) (append_assoc (spaces first) (spaces rest) has.after));
  place = has.place;
  text = IsUtf8-append (spaces rest) has.after (utf8-spaces rest) has.text;
}

-- the others, once a text is written over the first
abbrev pub spaces-behind : (bytes : List ℕ) (start rest : ℕ) (text : List ℕ) {new : List ℕ} (has : HasSpaces bytes start (length text + rest))
    → new ≡ replace_range bytes start (start + length text) text → HasSpaces new (start + length text) rest
spaces-behind bytes start rest text {new} has written = record {
  before = has.before ++ text;
  after = has.after;
  parts = written
      ∙ (spaces-over bytes start (length text) (first-spaces bytes start (length text) rest has) text
      ∙ sym (append_assoc has.before text (spaces rest ++ has.after)));
  place = omega (arith, has.place, length-append has.before text);
  text = has.text;
}

-- ---- a text and the end of its colour, which are written in turn

module _ (bytes : List ℕ) (start : ℕ) (text suffix : List ℕ) (has : HasSpaces bytes start (length (text ++ suffix))) where
  abbrev both : HasSpaces bytes start (length text + length suffix)
  both = resized bytes start (length-append text suffix) has

  abbrev pub for-first : HasSpaces bytes start (length text)
  for-first = first-spaces bytes start (length text) (length suffix) both

  module _ {one : List ℕ} (first : one ≡ replace_range bytes start (start + length text) text) where
    abbrev pub for-end : HasSpaces one (start + length text) (length suffix)
    for-end = spaces-behind bytes start (length suffix) text both first

    pub two-written : {two : List ℕ} → two ≡ replace_range one (start + length text) (start + length text + length suffix) suffix
        → two ≡ replace_range bytes start (start + length (text ++ suffix)) (text ++ suffix)
    two-written second =
        second
        ∙ (spaces-over one (start + length text) (length suffix) for-end suffix
        ∙ (regroup has.before text suffix has.after
        ∙ sym (spaces-over bytes start (length (text ++ suffix)) has (text ++ suffix))))
      where
        regroup : (a b c d : List ℕ) → (a ++ b) ++ (c ++ d) ≡ a ++ ((b ++ c) ++ d)
        regroup a b c d = simp append_assoc

-- ---- a text in a colour, whose three parts are written in turn

pub in-parts : (color : Color) (text : List ℕ) {prefix suffix : List ℕ} → prefix ≡ color.prefix → suffix ≡ color.suffix → in_color color text ≡ prefix ++ (text ++ suffix)
in-parts color text {prefix} {suffix} first last = ap (λ l. l ++ (text ++ color.suffix)) (sym first) ∙ ap (λ l. prefix ++ (text ++ l)) (sym last)

module _ (bytes : List ℕ) (start : ℕ) (prefix text suffix : List ℕ) (has : HasSpaces bytes start (length (prefix ++ (text ++ suffix)))) where
  abbrev shown : List ℕ
  shown = prefix ++ (text ++ suffix)

  pub sum : length shown ≡ length prefix + (length text + length suffix)
  sum = omega (arith, length-append prefix (text ++ suffix), length-append text suffix)

  abbrev all : HasSpaces bytes start (length prefix + (length text + length suffix))
  all = resized bytes start sum has

  abbrev pub for-prefix : HasSpaces bytes start (length prefix)
  for-prefix = first-spaces bytes start (length prefix) (length text + length suffix) all

  module _ {one : List ℕ} (first : one ≡ replace_range bytes start (start + length prefix) prefix) where
    abbrev behind-prefix : HasSpaces one (start + length prefix) (length text + length suffix)
    behind-prefix = spaces-behind bytes start (length text + length suffix) prefix all first

    abbrev pub for-text : HasSpaces one (start + length prefix) (length text)
    for-text = first-spaces one (start + length prefix) (length text) (length suffix) behind-prefix

    module _ {two : List ℕ} (second : two ≡ replace_range one (start + length prefix) (start + length prefix + length text) text) where
      abbrev pub for-suffix : HasSpaces two (start + length prefix + length text) (length suffix)
      for-suffix = spaces-behind one (start + length prefix) (length suffix) text behind-prefix second

      pub three-written : {three : List ℕ} → three ≡ replace_range two (start + length prefix + length text) (start + length prefix + length text + length suffix) suffix
          → three ≡ replace_range bytes start (start + length shown) shown
      three-written third =
          third
          ∙ (spaces-over two (start + length prefix + length text) (length suffix) for-suffix suffix
          ∙ (regroup has.before prefix text suffix has.after
          ∙ sym (spaces-over bytes start (length shown) has shown)))
        where
          regroup : (a b c d e : List ℕ) → ((a ++ b) ++ c) ++ (d ++ e) ≡ a ++ ((b ++ (c ++ d)) ++ e)
          regroup a b c d e = simp append_assoc

-- a text over as many spaces leaves a text
pub utf8-over : (bytes : List ℕ) (start count : ℕ) → HasSpaces bytes start count → (text : List ℕ) → length text ≡ count → IsUtf8 bytes → IsUtf8 text → IsUtf8 (replace_range bytes start (start + length text) text)
utf8-over bytes start count has text long utf8 text-utf8 =
    let behind : IsUtf8 (spaces count ++ has.after) = IsUtf8-append (spaces count) has.after (utf8-spaces count) has.text in
    let boundary : IsCharBoundary bytes (length has.before) = IsCharBoundary-at_seam bytes has.before (spaces count ++ has.after) has.parts behind in
    let front : take (length has.before) bytes ≡ has.before = ap (take (length has.before)) has.parts ∙ take-append_seam has.before (spaces count ++ has.after) in
    let before : IsUtf8 has.before = subst IsUtf8 front (IsUtf8-take bytes (length has.before) utf8 boundary) in
    subst (λ n. IsUtf8 (replace_range bytes start (start + n) text)) (sym long)
    (subst IsUtf8 (sym (spaces-over bytes start count has text)) (IsUtf8-append has.before (text ++ has.after) before (IsUtf8-append text has.after text-utf8 has.text)))
