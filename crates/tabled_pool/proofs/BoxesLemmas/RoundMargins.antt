-- Lines with a line feed between each two, and margins round them.
use Rattle.std.proofs.Common.{◌≡◌, ℕ, ◌+◌, ◌^◌, ◌<◌, ◌≤◌, max, Bool, false, cond, List, [], ◌∷◌, ◌++◌, length, map, replicate, refl, ap, sym, ◌∙◌, arith, append_assoc, append-nil, flat_map}
use Rattle.std.specs.Prelude.{nat_eq}
use Rattle.std.specs.List.{range_with_len}
use Rattle.std.proofs.lemmas.Bool.{ne_eqb}
use Rattle.std.proofs.lemmas.List.{length-map}
use Rattle.std.proofs.lemmas.List.Concat.{flat_map-append}
use Rattle.std.proofs.lemmas.List.FromFn.{length-map-range_with_len, map-range_with_len_more}
use Rattle.std.specs.Prelude.{Vec}
use Rattle.std.specs.declared.alloc.Global.{Global}
use Rattle.grid_config.specs.Looks.{Look}
use Rattle.tabled_size.specs.Dimension.Takers.{Takers}
use Rattle.tabled_pool.specs.Boxes.Boxes.{Box, BoxPart}
use Rattle.tabled_pool.specs.Boxes.Canvas.{box_parts}
use Rattle.tabled_pool.specs.Boxes.Framed.{framed_height, framed_line, framed_lines, framed_width}
use Rattle.tabled_pool.specs.Boxes.Texts.{IsPoolTooLarge, behind_feeds, in_margins, joined_lines, margin_line, printed_line, printed_lines, shows_nothing, total_height, total_width, with_margins}
use Rattle.tabled_pool.specs.declared.boxes.part.DrawnPart.{DrawnPart}

-- each line before a line feed
abbrev pub before_feeds : List (List ℕ) → List ℕ
before_feeds lines = flat_map (λ line. line ++ 0x0a ∷ []) lines

-- lines before others
pub joined-before : (lines : List (List ℕ)) (line : List ℕ) (behind : List (List ℕ)) → joined_lines (lines ++ line ∷ behind) ≡ before_feeds lines ++ joined_lines (line ∷ behind)
joined-before [] line behind = refl
joined-before (first ∷ lines) line behind =
    ap (λ l. first ++ l) (feeds lines)
    ∙ (sym (append_assoc first (0x0a ∷ []) (before_feeds lines ++ joined_lines (line ∷ behind)))
    ∙ sym (append_assoc (first ++ 0x0a ∷ []) (before_feeds lines) (joined_lines (line ∷ behind))))
  where
    feeds : (lines : List (List ℕ)) → behind_feeds (lines ++ line ∷ behind) ≡ 0x0a ∷ (before_feeds lines ++ joined_lines (line ∷ behind))
    feeds [] = refl
    feeds (next ∷ lines) =
        ap (λ l. (0x0a ∷ next) ++ l) (feeds lines)
        ∙ (ap (λ l. 0x0a ∷ l) (sym (append_assoc next (0x0a ∷ []) (before_feeds lines ++ joined_lines (line ∷ behind)))
        ∙ sym (append_assoc (next ++ 0x0a ∷ []) (before_feeds lines) (joined_lines (line ∷ behind)))))

-- lines after others
pub joined-behind : (line : List ℕ) (lines behind : List (List ℕ)) → joined_lines ((line ∷ lines) ++ behind) ≡ joined_lines (line ∷ lines) ++ behind_feeds behind
joined-behind line lines behind =
    ap (λ l. line ++ l) (flat_map-append (λ line. 0x0a ∷ line) lines behind) ∙ sym (append_assoc line (behind_feeds lines) (behind_feeds behind))

pub joined-around : (above : List (List ℕ)) (lines : List (List ℕ)) (below : List (List ℕ)) → 0 < length lines
    → joined_lines (above ++ (lines ++ below)) ≡ before_feeds above ++ (joined_lines lines ++ behind_feeds below)
joined-around above [] below some = absurd (omega (arith, some))
joined-around above (line ∷ lines) below some =
    joined-before above line (lines ++ below) ∙ ap (λ l. before_feeds above ++ l) (joined-behind line lines below)

-- one line more
pub joined-more : (lines : List (List ℕ)) (line : List ℕ) → joined_lines (lines ++ line ∷ []) ≡ joined_lines lines ++ (cond (nat_eq (length lines) 0) [] (0x0a ∷ []) ++ line)
joined-more [] line = append-nil line
joined-more (first ∷ lines) line =
    let more : nat_eq (length (first ∷ lines)) 0 ≡ false = ne_eqb (length (first ∷ lines)) 0 (λ e. omega (arith, e)) in
    joined-behind first lines (line ∷ [])
    ∙ (ap (λ l. joined_lines (first ∷ lines) ++ l) (append-nil (0x0a ∷ line))
    ∙ ap (λ t. joined_lines (first ∷ lines) ++ (cond t [] (0x0a ∷ []) ++ line)) (sym more))

-- ---- lines one by one

pub lines-more : (f : ℕ → List ℕ) (n : ℕ) → joined_lines (map f (range_with_len 0 (n + 1))) ≡ joined_lines (map f (range_with_len 0 n)) ++ (cond (nat_eq n 0) [] (0x0a ∷ []) ++ f n)
lines-more f n =
    ap joined_lines (map-range_with_len_more f 0 n n (omega arith))
    ∙ (joined-more (map f (range_with_len 0 n)) (f n)
    ∙ ap (λ m. joined_lines (map f (range_with_len 0 n)) ++ (cond (nat_eq m 0) [] (0x0a ∷ []) ++ f n)) (length-map-range_with_len f 0 n))

pub line-added : (f : ℕ → List ℕ) (n : ℕ) (start now mid new : List ℕ) → now ≡ start ++ joined_lines (map f (range_with_len 0 n)) → mid ≡ now ++ cond (nat_eq n 0) [] (0x0a ∷ []) → new ≡ mid ++ f n
    → new ≡ start ++ joined_lines (map f (range_with_len 0 (n + 1)))
line-added f n start now mid new so fed printed =
    let before = joined_lines (map f (range_with_len 0 n)) in
    let feed = cond (nat_eq n 0) [] (0x0a ∷ []) in
    printed ∙ (ap (λ l. l ++ f n) (fed ∙ ap (λ l. l ++ feed) so)
    ∙ (append_assoc (start ++ before) feed (f n) ∙ (append_assoc start before (feed ++ f n) ∙ ap (λ l. start ++ l) (sym (lines-more f n)))))

-- each line between its margins
pub mapped-twice : (g : List ℕ → List ℕ) (f : ℕ → List ℕ) (ns : List ℕ) → map g (map f ns) ≡ map (λ n. g (f n)) ns
mapped-twice g f [] = refl
mapped-twice g f (n ∷ ns) = ap (λ l. g (f n) ∷ l) (mapped-twice g f ns)

-- ---- a whole text

pub margins-around : (look : Look) (width : ℕ) (lines : List (List ℕ)) (out above mid new : List ℕ) → 0 < length lines
    → above ≡ out ++ before_feeds (replicate look.margin.top.size (margin_line look width look.margin.top look.margin_color.top))
    → mid ≡ above ++ joined_lines (map (in_margins look) lines)
    → new ≡ mid ++ behind_feeds (replicate look.margin.bottom.size (margin_line look width look.margin.bottom look.margin_color.bottom))
    → new ≡ out ++ joined_lines (with_margins look width lines)
margins-around look width lines out above mid new some first second third =
    let front = replicate look.margin.top.size (margin_line look width look.margin.top look.margin_color.top) in
    let inner = map (in_margins look) lines in
    let back = replicate look.margin.bottom.size (margin_line look width look.margin.bottom look.margin_color.bottom) in
    let there : 0 < length inner = omega (arith, length-map lines (in_margins look), some) in
    third ∙ (ap (λ l. l ++ behind_feeds back) (second ∙ ap (λ l. l ++ joined_lines inner) first)
    ∙ (append_assoc (out ++ before_feeds front) (joined_lines inner) (behind_feeds back)
    ∙ (append_assoc out (before_feeds front) (joined_lines inner ++ behind_feeds back)
    ∙ ap (λ l. out ++ l) (sym (joined-around front inner back there)))))

pub count-printed : (look : Look) (lines : List (List BoxPart)) → length (printed_lines look lines) ≡ length lines
count-printed look lines = length-map-range_with_len (printed_line look lines) 0 (length lines)

-- ---- how large it is

module _ (look : Look) (takers : Takers) (box : Box) (lines : List (Vec DrawnPart Global)) (shown : map box_parts lines ≡ framed_lines look takers box) (nothing : Bool)
    (is : nothing ≡ nat_eq (length (joined_lines (printed_lines look (map box_parts lines)))) 0) (some : nothing ≡ false) where
  shows : shows_nothing look takers box ≡ false
  shows = sym (is ∙ ap (λ l. nat_eq (length (joined_lines (printed_lines look l))) 0) shown) ∙ some

  high : length lines ≡ framed_height look box
  high = sym (length-map lines box_parts) ∙ (ap length shown ∙ length-map-range_with_len (framed_line look takers box) 0 (framed_height look box))

  wide-is : total_width look takers box ≡ look.margin.left.size + framed_width look box + look.margin.right.size
  wide-is = ap (λ t. cond t (framed_width look box) (look.margin.left.size + framed_width look box + look.margin.right.size)) shows

  high-is : total_height look takers box ≡ look.margin.top.size + framed_height look box + look.margin.bottom.size
  high-is = ap (λ t. cond t (framed_height look box) (look.margin.top.size + framed_height look box + look.margin.bottom.size)) shows

  module _ (width height : ℕ) (width_is : width ≡ framed_width look box) (height_is : height ≡ length lines) where
    pub passes : 2 ^ 64 ≤ max (look.margin.left.size + width + look.margin.right.size) (look.margin.top.size + height + look.margin.bottom.size) → IsPoolTooLarge look takers box
    passes large = omega (arith, wide-is, high-is, high, width_is, height_is, large)

    pub is-within : max (look.margin.left.size + width + look.margin.right.size) (look.margin.top.size + height + look.margin.bottom.size) < 2 ^ 64 → IsPoolTooLarge look takers box → ⊥
    is-within small large = omega (arith, wide-is, high-is, high, width_is, height_is, small, large)
