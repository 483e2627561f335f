-- A part of a split does not change where neighbouring Text pieces are made one.
use Rattle.std.proofs.Common.{◌≡◌, ℕ, zero, suc, ◌+◌, ◌-◌, ◌&&◌, nat_lt, true, List, [], ◌∷◌, ◌++◌, length, take, drop, slice_range, refl, ap, sym, ◌∙◌, arith, append_assoc, length-append}
use Rattle.std.specs.Prelude.{if◌then◌else◌}
use Rattle.std.proofs.lemmas.Bool.{and_parts, cond_both}
use Rattle.std.proofs.lemmas.List.{length-drop}
use Rattle.ansi_scan.specs.declared.items.Kind.TheVariants.{Text}
use Rattle.ansi_scan.specs.Sequences.{Piece}
use Rattle.ansi_scan.specs.Joining.{is_text_kind, put_before, put_all_before}
use Rattle.ansi_scan.specs.Attributes.{Attributes, plain_attributes}
use Rattle.ansi_scan.specs.StartsAndEnds.{start_bytes, end_bytes}
use Rattle.ansi_str_search.specs.Text.StyledText.{text_of, strip, style_after}
use Rattle.ansi_str_search.specs.Parts.{Places, taken_piece, taken, style_where, split_part}
use Rattle.ansi_str_search.proofs.Parts.{within, style_by-text, text_of-text, taken_piece-text}
use Rattle.ansi_str_search.proofs.Styles.{either_style}

-- ---- slices of two lists

take_both : (xs ys : List ℕ) (n : ℕ) → take n (xs ++ ys) ≡ take n xs ++ take (n - length xs) ys
take_both [] ys zero = refl
take_both [] ys (suc n) = let same : suc n ≡ suc n - 0 = omega arith in ap (λ m. take m ys) same
take_both (x ∷ xs) ys zero = let gone : 0 ≡ 0 - suc (length xs) = omega arith in ap (λ m. take m ys) gone
take_both (x ∷ xs) ys (suc n) =
    let same : n - length xs ≡ suc n - suc (length xs) = omega arith in
    ap (λ zs. x ∷ zs) (take_both xs ys n) ∙ ap (λ m. x ∷ (take n xs ++ take m ys)) same

drop_both : (xs ys : List ℕ) (n : ℕ) → drop n (xs ++ ys) ≡ drop n xs ++ drop (n - length xs) ys
drop_both [] ys zero = refl
drop_both [] ys (suc n) = let same : suc n ≡ suc n - 0 = omega arith in ap (λ m. drop m ys) same
drop_both (x ∷ xs) ys zero = let gone : 0 ≡ 0 - suc (length xs) = omega arith in ap (λ m. x ∷ (xs ++ drop m ys)) gone
drop_both (x ∷ xs) ys (suc n) =
    let same : n - length xs ≡ suc n - suc (length xs) = omega arith in
    drop_both xs ys n ∙ ap (λ m. drop n xs ++ drop m ys) same

pub slice_both : (xs ys : List ℕ) (a b : ℕ) → slice_range (xs ++ ys) a b ≡ slice_range xs a b ++ slice_range ys (a - length xs) (b - length xs)
slice_both xs ys a b =
    let size : length (drop a xs) ≡ length xs - a = length-drop a xs in
    let left : b - a - length (drop a xs) ≡ b - length xs - (a - length xs) = omega arith in
    ap (take (b - a)) (drop_both xs ys a) ∙ take_both (drop a xs) (drop (a - length xs) ys) (b - a)
    ∙ ap (λ n. slice_range xs a b ++ take n (drop (a - length xs) ys)) left

-- ---- pieces that are read alike

-- the same is taken from both lists, the same style is known after both, and both have one strip
pub record AreReadAlike (ps qs : List Piece) : Type 0 where
  pub taken_same : (counts : Places) (a b place : ℕ) → taken counts a b place ps ≡ taken counts a b place qs
  pub style_same : (counts : Places) (style : Attributes) (place : ℕ) → style_where counts style place ps ≡ style_where counts style place qs
  pub strip_same : strip ps ≡ strip qs

pub alike-same : (ps : List Piece) → AreReadAlike ps ps
alike-same ps = record { taken_same = λ counts a b place. refl; style_same = λ counts style place. refl; strip_same = refl }

pub alike-also : (ps qs rs : List Piece) → AreReadAlike ps qs → AreReadAlike qs rs → AreReadAlike ps rs
alike-also ps qs rs first second = record {
  taken_same = λ counts a b place. first.taken_same counts a b place ∙ second.taken_same counts a b place;
  style_same = λ counts style place. first.style_same counts style place ∙ second.style_same counts style place;
  strip_same = first.strip_same ∙ second.strip_same;
}

pub alike-behind : (p : Piece) (ps qs : List Piece) → AreReadAlike ps qs → AreReadAlike (p ∷ ps) (p ∷ qs)
alike-behind p ps qs alike = record {
  taken_same = λ counts a b place. ap (λ bytes. taken_piece counts a b place p ++ bytes) (alike.taken_same counts a b (place + length (text_of p)));
  style_same = λ counts style place. alike.style_same counts (if counts place then style_after style p else style) (place + length (text_of p));
  strip_same = ap (λ bytes. text_of p ++ bytes) alike.strip_same;
}

pub alike-all_behind : (ps qs rs : List Piece) → AreReadAlike qs rs → AreReadAlike (ps ++ qs) (ps ++ rs)
alike-all_behind [] qs rs alike = alike
alike-all_behind (p ∷ ps) qs rs alike = alike-behind p (ps ++ qs) (ps ++ rs) (alike-all_behind ps qs rs alike)

-- a part of a split is one of both
pub split_part-alike : (ps qs : List Piece) (a b : ℕ) → AreReadAlike ps qs → split_part a b ps ≡ split_part a b qs
split_part-alike ps qs a b alike =
    let before = λ (place : ℕ). nat_lt place a in
    let start = style_where before plain_attributes 0 qs in
    ap (λ s. start_bytes s ++ (taken (within a b) a b 0 ps ++ end_bytes (style_where (within a b) s 0 ps))) (alike.style_same before plain_attributes 0)
    ∙ ap (λ bytes. start_bytes start ++ (bytes ++ end_bytes (style_where (within a b) start 0 ps))) (alike.taken_same (within a b) a b 0)
    ∙ ap (λ s. start_bytes start ++ (taken (within a b) a b 0 qs ++ end_bytes s)) (alike.style_same (within a b) start 0)

-- ---- two texts made one

module _ (p q : Piece) (qs : List Piece) (first : is_text_kind p.kind ≡ true) (second : is_text_kind q.kind ≡ true) where
  abbrev one : Piece
  one = record { kind = Text; bytes = p.bytes ++ q.bytes }

  ends : (place : ℕ) → place + length (p.bytes ++ q.bytes) ≡ place + length (text_of p) + length (text_of q)
  ends place = omega (arith, length-append p.bytes q.bytes, ap length (text_of-text p first), ap length (text_of-text q second))

  begins : (a place : ℕ) → a - place - length p.bytes ≡ a - (place + length (text_of p))
  begins a place = omega (arith, ap length (text_of-text p first))

  taken-one : (counts : Places) (a b place : ℕ) → taken counts a b place (one ∷ qs) ≡ taken counts a b place (p ∷ q ∷ qs)
  taken-one counts a b place =
      let next = place + length (text_of p) in
      let here = slice_range p.bytes (a - place) (b - place) in
      let later = taken counts a b (next + length (text_of q)) qs in
      ap (λ n. slice_range (p.bytes ++ q.bytes) (a - place) (b - place) ++ taken counts a b n qs) (ends place)
      ∙ ap (λ bytes. bytes ++ later) (slice_both p.bytes q.bytes (a - place) (b - place))
      ∙ append_assoc here (slice_range q.bytes (a - place - length p.bytes) (b - place - length p.bytes)) later
      ∙ ap (λ n. here ++ (slice_range q.bytes n (b - place - length p.bytes) ++ later)) (begins a place)
      ∙ ap (λ n. here ++ (slice_range q.bytes (a - next) n ++ later)) (begins b place)
      ∙ ap (λ bytes. here ++ (bytes ++ later)) (sym (taken_piece-text counts a b next q second))
      ∙ ap (λ bytes. bytes ++ (taken_piece counts a b next q ++ later)) (sym (taken_piece-text counts a b place p first))

  style-one : (counts : Places) (style : Attributes) (place : ℕ) → style_where counts style place (one ∷ qs) ≡ style_where counts style place (p ∷ q ∷ qs)
  style-one counts style place =
      let next = place + length (text_of p) in
      ap (λ s. style_where counts s (place + length (p.bytes ++ q.bytes)) qs) (either_style (counts place) style style refl)
      ∙ ap (λ n. style_where counts style n qs) (ends place)
      ∙ ap (λ s. style_where counts s (next + length (text_of q)) qs) (sym (either_style (counts next) style (style_after style q) (style_by-text style q.kind q.bytes second)))
      ∙ ap (λ s. style_where counts s next (q ∷ qs)) (sym (either_style (counts place) style (style_after style p) (style_by-text style p.kind p.bytes first)))

  strip-one : strip (one ∷ qs) ≡ strip (p ∷ q ∷ qs)
  strip-one =
      append_assoc p.bytes q.bytes (strip qs) ∙ ap (λ bytes. p.bytes ++ (bytes ++ strip qs)) (sym (text_of-text q second))
      ∙ ap (λ bytes. bytes ++ (text_of q ++ strip qs)) (sym (text_of-text p first))

  alike-one : AreReadAlike (one ∷ qs) (p ∷ q ∷ qs)
  alike-one = record { taken_same = taken-one; style_same = style-one; strip_same = strip-one }

pub alike-put_before : (p : Piece) (qs : List Piece) → AreReadAlike (put_before p qs) (p ∷ qs)
alike-put_before p [] = alike-same (p ∷ [])
alike-put_before p (q ∷ qs) =
    cond_both (is_text_kind p.kind && is_text_kind q.kind) (record { kind = Text; bytes = p.bytes ++ q.bytes } ∷ qs) (p ∷ q ∷ qs)
    (λ rs. AreReadAlike rs (p ∷ q ∷ qs))
    (λ both. let texts = and_parts (is_text_kind p.kind) (is_text_kind q.kind) both in alike-one p q qs texts.0 texts.1)
    (λ _. alike-same (p ∷ q ∷ qs))

pub alike-put_all_before : (ps qs : List Piece) → AreReadAlike (put_all_before ps qs) (ps ++ qs)
alike-put_all_before [] qs = alike-same qs
alike-put_all_before (p ∷ ps) qs =
    alike-also (put_before p (put_all_before ps qs)) (p ∷ put_all_before ps qs) (p ∷ ps ++ qs)
    (alike-put_before p (put_all_before ps qs)) (alike-behind p (put_all_before ps qs) (ps ++ qs) (alike-put_all_before ps qs))
