-- The line of a row of empty cells, and what it holds where texts are written over its slots.
use Rattle.std.proofs.Common.{◌≡◌, ℕ, zero, suc, ◌+◌, ◌-◌, ◌<◌, ◌≤◌, true, false, cond, List, [], ◌∷◌, ◌++◌, Option, None, Some, drop, take, get_or, length, refl, ap, sym, subst, ◌∙◌, arith, append_assoc, string_bytes}
use Rattle.std.specs.Prelude.{◌==◌}
use Rattle.std.specs.List.{replace_range}
use Rattle.std.specs.Option.{option_map}
use Rattle.std.specs.Str.{IsCharBoundary, IsUtf8}
use Rattle.std.specs.String.Boundary.{IsSplitPoint}
use Rattle.std.proofs.Math.Seq.{take-append_seam}
use Rattle.std.proofs.lemmas.List.{at_drop_more, length-append, length-replicate, replicate-append-replicate}
use Rattle.std.proofs.lemmas.Str.{IsCharBoundary-at_seam, IsUtf8-append, IsUtf8-drop, IsUtf8-nil, IsUtf8-string_bytes}
use Rattle.grid_config.specs.Colors.{Color, color_of}
use Rattle.grid_config_values.specs.declared.alignment.AlignmentHorizontal.{AlignmentHorizontal}
use Rattle.grid_config_values.specs.declared.alignment.AlignmentHorizontal.TheVariants.{Left, Center, Right}
use Rattle.grid_config_values.specs.declared.position.Position.{Position}
use Rattle.papergrid_picture.specs.Blocks.{free_left}
use Rattle.papergrid_picture.specs.Picture.{at}
use Rattle.papergrid_picture.specs.Tables.{in_color}
use Rattle.papergrid_cells.specs.Flat.{AreInks, IsInk, Joints, empty_from, joint_behind, joints_of, kept_bytes, led_bytes, line_in_column, room_in, slots_from, spaced_text, standing_of}
use Rattle.papergrid_cells.specs.Painting.{colored, fill_bytes, prefix_of, suffix_of}
use Rattle.papergrid_cells.specs.Spaces.{HasSpaces}
use Rattle.papergrid_cells.specs.declared.empty_row.Ink.{Ink}
use Rattle.papergrid_cells.specs.declared.empty_row.Ink.TheVariants.{Asked, Led, Uncolored}
use Rattle.papergrid_cells.specs.declared.empty_row.TextSlot.{TextSlot}
use Rattle.papergrid_cells.specs.declared.flat.FlatRows.{FlatRows}
use Rattle.papergrid_cells.specs.declared.spaced.Spaced.{Spaced}
use Rattle.papergrid_cells.proofs.PrintedGlyphs.{spaces-filled}
use Rattle.papergrid_cells.proofs.WrittenTexts.{first-spaces, resized, spaces, spaces-begin, spaces-end, spaces-inside, spaces-over, utf8-spaces}

abbrev fill : ℕ → List ℕ
fill n = fill_bytes 0x20 n

pub length-fill : (n : ℕ) → length (fill n) ≡ n
length-fill n = ap (λ l. length l) (spaces-filled n) ∙ length-replicate n 0x20

utf8-fill : (n : ℕ) → IsUtf8 (fill n)
utf8-fill n = subst IsUtf8 (sym (spaces-filled n)) (utf8-spaces n)

pub utf8-spaced : (spaced : Spaced) → IsUtf8 (spaced_text spaced)
utf8-spaced spaced = IsUtf8-drop (string_bytes spaced.text) spaced.spaces (IsUtf8-string_bytes spaced.text) spaced.spaced.behind

-- ---- its slots

module _ (joints : Joints) (inks : List Ink) (columns : ℕ) where
  abbrev ink_at : ℕ → Ink
  ink_at j = get_or inks j Uncolored

  abbrev room_of : List ℕ → ℕ → ℕ
  room_of widths j = room_in joints (get_or widths j 0)

  pub empty-more : (j : ℕ) (widths : List ℕ) → j < length widths
      → empty_from joints inks columns j (drop j widths)
      ≡ led_bytes (ink_at j) ++ (fill (kept_bytes (ink_at j)) ++ (fill (room_of widths j) ++ (joint_behind joints j columns ++ empty_from joints inks columns (j + 1) (drop (j + 1) widths))))
  empty-more j widths inside = at_drop_more (empty_from joints inks columns j) widths j 0 inside

  pub length-more : (j : ℕ) (widths : List ℕ) → j < length widths
      → length (empty_from joints inks columns j (drop j widths))
      ≡ length (led_bytes (ink_at j)) + (kept_bytes (ink_at j) + (room_of widths j + (length (joint_behind joints j columns) + length (empty_from joints inks columns (j + 1) (drop (j + 1) widths)))))
  length-more j widths inside =
      let lead = led_bytes (ink_at j) in
      let kept = kept_bytes (ink_at j) in
      let room = room_of widths j in
      let joint = joint_behind joints j columns in
      let tail = empty_from joints inks columns (j + 1) (drop (j + 1) widths) in
      let all : length (empty_from joints inks columns j (drop j widths)) ≡ length (lead ++ (fill kept ++ (fill room ++ (joint ++ tail)))) = ap (λ l. length l) (empty-more j widths inside) in
      omega (arith, all, length-append lead (fill kept ++ (fill room ++ (joint ++ tail))), length-append (fill kept) (fill room ++ (joint ++ tail)), length-append (fill room) (joint ++ tail), length-append joint tail, length-fill kept, length-fill room)

  -- the slot in column j, where these widths are left from column k on
  abbrev slot_at : ℕ → ℕ → List ℕ → List ℕ → TextSlot
  slot_at j k widths left = record { width = room_of widths k; ink = ink_at j; rest = length (empty_from joints inks columns j left) - length (led_bytes (ink_at j)) }

  pub slots-more : (j : ℕ) (widths : List ℕ) → j < length widths
      → slots_from joints inks columns j (drop j widths) ≡ slot_at j j widths (drop j widths) ∷ slots_from joints inks columns (j + 1) (drop (j + 1) widths)
  slots-more j widths inside =
      at_drop_more (slots_from joints inks columns j) widths j 0 inside
      ∙ ap (λ n. record { width = room_of widths j; ink = ink_at j; rest = n - length (led_bytes (ink_at j)) } ∷ slots_from joints inks columns (j + 1) (drop (j + 1) widths)) (ap (λ l. length l) (sym (empty-more j widths inside)))

  pub slot-at : (j k : ℕ) (widths : List ℕ) (default : TextSlot) → k < length widths
      → get_or (slots_from joints inks columns j widths) k default ≡ slot_at (j + k) k widths (drop k widths)
  slot-at j k [] default inside = absurd (omega (arith, inside))
  slot-at j zero (width ∷ widths) default inside =
      let same : j ≡ j + 0 = omega arith in
      ap (λ n. slot_at n 0 (width ∷ widths) (width ∷ widths)) same
  slot-at j (suc k) (width ∷ widths) default inside =
      let same : (j + 1) + k ≡ j + suc k = omega arith in
      slot-at (j + 1) k widths default (omega (arith, inside))
      ∙ ap (λ n. slot_at n k widths (drop k widths)) same

  pub slot-of : (k : ℕ) (widths : List ℕ) (default : TextSlot) → k < length widths
      → get_or (slots_from joints inks columns 0 widths) k default ≡ slot_at k k widths (drop k widths)
  slot-of k widths default inside =
      let same : 0 + k ≡ k = omega arith in
      slot-at 0 k widths default inside
      ∙ ap (λ n. slot_at n k widths (drop k widths)) same

  pub length-slots : (j : ℕ) (widths : List ℕ) → length (slots_from joints inks columns j widths) ≡ length widths
  length-slots j [] = refl
  length-slots j (width ∷ widths) = ap suc (length-slots (j + 1) widths)

  module _ (leads : (j : ℕ) → IsUtf8 (led_bytes (ink_at j))) (between : IsUtf8 joints.between) (back : IsUtf8 joints.back) where
    pub utf8-behind : (j : ℕ) → IsUtf8 (joint_behind joints j columns)
    utf8-behind j = elim (j + 1 == columns) as (λ b. IsUtf8 (cond b joints.back joints.between)) [ true ↦ back | false ↦ between ]

    pub utf8-empty : (j : ℕ) (widths : List ℕ) → IsUtf8 (empty_from joints inks columns j widths)
    utf8-empty j [] = IsUtf8-nil
    utf8-empty j (width ∷ widths) =
        IsUtf8-append (led_bytes (ink_at j)) _ (leads j)
        (IsUtf8-append (fill (kept_bytes (ink_at j))) _ (utf8-fill (kept_bytes (ink_at j)))
        (IsUtf8-append (fill (room_in joints width)) _ (utf8-fill (room_in joints width))
        (IsUtf8-append (joint_behind joints j columns) _ (utf8-behind j) (utf8-empty (j + 1) widths))))

-- ---- its inks

-- what holds for a list's items, by their places, holds with one more
pub each-more : {A : Type 0} (Holds : ℕ → A → Type 0) (default : A) (items : List A) (item : A)
    → ((k : ℕ) → k < length items → Holds k (get_or items k default)) → Holds (length items) item
    → (k : ℕ) → k < length (items ++ (item ∷ [])) → Holds k (get_or (items ++ (item ∷ [])) k default)
each-more Holds default [] item each one zero inside = one
each-more Holds default [] item each one (suc k) inside = absurd (omega (arith, inside))
each-more Holds default (first ∷ items) item each one zero inside = each 0 (omega arith)
each-more Holds default (first ∷ items) item each one (suc k) inside =
    each-more (λ n. Holds (suc n)) default items item (λ n below. each (suc n) (omega (arith, below))) one k (omega (arith, inside))

-- what comes before a slot is a text
utf8-led : (alignment : Option AlignmentHorizontal) (colors : ℕ → Option Color) (ink : Ink) → IsInk alignment colors ink → IsUtf8 (led_bytes ink)
utf8-led alignment colors Uncolored is = IsUtf8-nil
utf8-led alignment colors (Led prefix suffix) is = is.1.1
utf8-led alignment colors (Asked shade) is = IsUtf8-nil

utf8-some : (inks : List Ink) → ((j : ℕ) → j < length inks → IsUtf8 (led_bytes (get_or inks j Uncolored))) → (j : ℕ) → IsUtf8 (led_bytes (get_or inks j Uncolored))
utf8-some [] some j = IsUtf8-nil
utf8-some (ink ∷ inks) some zero = some 0 (omega arith)
utf8-some (ink ∷ inks) some (suc j) = utf8-some inks (λ n below. some (suc n) (omega (arith, below))) j

pub utf8-leads : (alignment : Option AlignmentHorizontal) (colors : Position → Option Color) (columns : ℕ) (inks : List Ink) → AreInks alignment colors columns inks
    → (j : ℕ) → IsUtf8 (led_bytes (get_or inks j Uncolored))
utf8-leads alignment colors columns inks are =
    utf8-some inks (λ j below. utf8-led alignment (λ row. colors (at row j)) (get_or inks j Uncolored) (are.each j (omega (arith, below, are.count))))

-- ---- a text over some of the spaces of a slot

pub free_left-within : (alignment : AlignmentHorizontal) (free : ℕ) → free_left alignment free ≤ free
free_left-within Left free = omega arith
free_left-within Center free = omega arith
free_left-within Right free = omega arith

-- nothing is before what leaves nothing free
pub none-left : (alignment : AlignmentHorizontal) (free : ℕ) → free ≡ 0 → 0 ≡ free_left alignment free
none-left alignment free none = omega (arith, free_left-within alignment free, none)

-- spaces for a colour and for a text in it
joined : (shade room : ℕ) → fill shade ++ fill room ≡ spaces (shade + room)
joined shade room =
    ap (λ l. l ++ fill room) (spaces-filled shade)
    ∙ (ap (λ l. spaces shade ++ l) (spaces-filled room)
    ∙ replicate-append-replicate shade room 0x20)

-- spaces before, for and after a text
parted : (all free_before_line width rest : ℕ) → all ≡ free_before_line + (width + rest) → spaces all ≡ spaces free_before_line ++ (spaces width ++ spaces rest)
parted all free_before_line width rest sum =
    ap spaces sum
    ∙ (sym (replicate-append-replicate free_before_line (width + rest) 0x20)
    ∙ ap (λ l. spaces free_before_line ++ l) (sym (replicate-append-replicate width rest 0x20)))

-- a text that takes `width` columns of a slot, and with its colour `bytes` bytes
module _ (line : List ℕ) (start shade room : ℕ) (has : HasSpaces line start (shade + room)) (alignment : AlignmentHorizontal)
    (width : ℕ) (fits : width ≤ room) (free_before_line : ℕ) (is : free_before_line ≡ free_left alignment (room - width)) (bytes : ℕ) (takes : bytes ≡ shade + width) where
  both : free_before_line + width ≤ room
  both = omega (arith, fits, is, free_left-within alignment (room - width))

  abbrev behind : ℕ
  behind = room - free_before_line - width

  pub spaced : line ≡ (has.before ++ spaces free_before_line) ++ (spaces bytes ++ (spaces behind ++ has.after))
  spaced =
      has.parts
      ∙ (ap (λ l. has.before ++ (l ++ has.after)) (parted (shade + room) free_before_line bytes behind (omega (arith, both, takes)))
      ∙ regroup has.before (spaces free_before_line) (spaces bytes) (spaces behind) has.after)
    where
      regroup : (a b c d e : List ℕ) → a ++ ((b ++ (c ++ d)) ++ e) ≡ (a ++ b) ++ (c ++ (d ++ e))
      regroup a b c d e = simp append_assoc

  abbrev pub text-spaces : HasSpaces line (start + free_before_line) bytes
  text-spaces = record {
    before = has.before ++ spaces free_before_line;
    after = spaces behind ++ has.after;
    parts = spaced;
    place = omega (arith, has.place, length-append has.before (spaces free_before_line), length-replicate {A = ℕ} free_before_line 0x20);
    text = IsUtf8-append (spaces behind) has.after (utf8-spaces behind) has.text;
  }

  pub text-inside : start + free_before_line + bytes ≤ length line
  text-inside = spaces-inside line (start + free_before_line) bytes text-spaces

  pub text-begin : IsSplitPoint line (start + free_before_line)
  text-begin = spaces-begin line (start + free_before_line) bytes text-spaces

  pub text-end : IsSplitPoint line (start + free_before_line + bytes)
  text-end = spaces-end line (start + free_before_line) bytes text-spaces

  pub text-over : (text : List ℕ) → replace_range line (start + free_before_line) (start + free_before_line + bytes) text
      ≡ has.before ++ ((fill free_before_line ++ (text ++ fill behind)) ++ has.after)
  text-over text =
      spaces-over line (start + free_before_line) bytes text-spaces text
      ∙ (ap (λ l. (has.before ++ l) ++ (text ++ (spaces behind ++ has.after))) (sym (spaces-filled free_before_line))
      ∙ (ap (λ l. (has.before ++ fill free_before_line) ++ (text ++ (l ++ has.after))) (sym (spaces-filled behind))
      ∙ regroup has.before (fill free_before_line) text (fill behind) has.after))
    where
      regroup : (a b c d e : List ℕ) → (a ++ b) ++ (c ++ (d ++ e)) ≡ a ++ ((b ++ (c ++ d)) ++ e)
      regroup a b c d e = simp append_assoc

-- the spaces of a slot that a text and the end of its colour take
abbrev pub ended-spaces : (slot : TextSlot) (start : ℕ) (bytes : List ℕ) → HasSpaces bytes start (kept_bytes slot.ink + slot.width) → (text suffix : List ℕ)
    → length text ≤ slot.width → kept_bytes slot.ink ≡ length suffix → HasSpaces bytes start (length (text ++ suffix))
ended-spaces slot start bytes has text suffix fits kept =
    let rest = slot.width - length text in
    first-spaces bytes start (length (text ++ suffix)) rest
    (resized bytes start (omega (arith, fits, kept, length-append text suffix)) has)

-- ---- the slot of a column

module _ (rows : FlatRows) (widths : List ℕ) (inks : List Ink) (leads : (j : ℕ) → IsUtf8 (led_bytes (get_or inks j Uncolored))) (before : List ℕ) (j : ℕ) (inside : j < length widths) {all : List ℕ}
    (are : all ≡ before ++ empty_from (joints_of rows) inks (length widths) j (drop j widths))
    (slots : List TextSlot) (kept : slots ≡ slots_from (joints_of rows) inks (length widths) 0 widths) (slot : TextSlot) (found : slot ≡ get_or slots j slot)
    (len : ℕ) (counted : len ≡ length all) where
  abbrev tail_from : ℕ → List ℕ
  tail_from k = empty_from (joints_of rows) inks (length widths) k (drop k widths)

  abbrev own_ink : Ink
  own_ink = get_or inks j Uncolored

  slot-is : slot ≡ record { width = room_in (joints_of rows) (get_or widths j 0); ink = own_ink; rest = length (tail_from j) - length (led_bytes own_ink) }
  slot-is = found ∙ (ap (λ slots. get_or slots j slot) kept ∙ slot-of (joints_of rows) inks (length widths) j widths slot inside)

  pub slot-wide : slot.width ≡ room_in (joints_of rows) (get_or widths j 0)
  slot-wide = ap (λ (r : TextSlot). r.width) slot-is

  pub inked : slot.ink ≡ own_ink
  inked = ap (λ (r : TextSlot). r.ink) slot-is

  left : slot.rest ≡ length (tail_from j) - length (led_bytes own_ink)
  left = ap (λ (r : TextSlot). r.rest) slot-is

  abbrev after_slot : List ℕ
  after_slot = joint_behind (joints_of rows) j (length widths) ++ tail_from (j + 1)

  abbrev lead : List ℕ
  lead = led_bytes slot.ink

  all-long : len ≡ length before + (length lead + slot.rest)
  all-long = omega (arith, counted, ap (λ l. length l) are, length-append before (tail_from j), left, length-more (joints_of rows) inks (length widths) j widths inside, ap (λ ink. length (led_bytes ink)) inked)

  pub rest-inside : slot.rest ≤ len
  rest-inside = omega (arith, all-long)

  pub lead-inside : length lead ≤ len - slot.rest
  lead-inside = omega (arith, all-long)

  front-is : len - slot.rest - length lead ≡ length before
  front-is = omega (arith, all-long)

  pub begin-is : len - slot.rest ≡ length (before ++ lead)
  begin-is = omega (arith, all-long, length-append before lead)

  utf8-from : (k : ℕ) → IsUtf8 (tail_from k)
  utf8-from k = utf8-empty (joints_of rows) inks (length widths) leads (utf8-spaced rows.between) (utf8-spaced rows.back) k (drop k widths)

  pub utf8-after : IsUtf8 after_slot
  utf8-after =
      IsUtf8-append (joint_behind (joints_of rows) j (length widths)) (tail_from (j + 1))
      (utf8-behind (joints_of rows) inks (length widths) leads (utf8-spaced rows.between) (utf8-spaced rows.back) j) (utf8-from (j + 1))

  pub split-front : IsSplitPoint all (len - slot.rest - length lead)
  split-front =
      let boundary : IsCharBoundary all (len - slot.rest - length lead) = subst (IsCharBoundary all) (sym front-is) (IsCharBoundary-at_seam all before (tail_from j) are (utf8-from j)) in
      (boundary.0, λ some. boundary.1)

  pub taken : take (len - slot.rest - length lead) all ≡ before
  taken = ap (λ n. take n all) front-is ∙ (ap (take (length before)) are ∙ take-append_seam before (tail_from j))

  pub parts : all ≡ (before ++ lead) ++ (spaces (kept_bytes slot.ink + slot.width) ++ after_slot)
  parts =
      are
      ∙ (ap (λ l. before ++ l) (empty-more (joints_of rows) inks (length widths) j widths inside)
      ∙ (ap (λ n. before ++ (led_bytes own_ink ++ (fill (kept_bytes own_ink) ++ (fill n ++ after_slot)))) (sym slot-wide)
      ∙ (ap (λ ink. before ++ (led_bytes ink ++ (fill (kept_bytes ink) ++ (fill slot.width ++ after_slot)))) (sym inked)
      ∙ (regroup before lead (fill (kept_bytes slot.ink)) (fill slot.width) after_slot
      ∙ ap (λ l. (before ++ lead) ++ (l ++ after_slot)) (joined (kept_bytes slot.ink) slot.width)))))
    where
      regroup : (a b c d e : List ℕ) → a ++ (b ++ (c ++ (d ++ e))) ≡ (a ++ b) ++ ((c ++ d) ++ e)
      regroup a b c d e = simp append_assoc

  -- the spaces of the slot
  abbrev pub slot-spaces : HasSpaces all (len - slot.rest) (kept_bytes slot.ink + slot.width)
  slot-spaces = record {
    before = before ++ lead;
    after = after_slot;
    parts = parts;
    place = begin-is;
    text = utf8-after;
  }

-- ---- what such a text shows

-- nothing is shown in no colour
pub none-shown : (color : Option Color) (text : List ℕ) → length text ≡ 0 → colored color text ≡ []
none-shown None [] none = refl
none-shown (Some color) [] none = refl
none-shown color (byte ∷ text) none = absurd (omega (arith, none))

pub some-shown : (color : Color) (text : List ℕ) → 0 < length text → colored (Some color) text ≡ in_color color text
some-shown color [] some = absurd (omega (arith, some))
some-shown color (byte ∷ text) some = refl

-- a text in a colour takes the bytes of both
pub shown-long : (color : Option Color) (text : List ℕ) → 0 < length text → length (prefix_of color) + length (suffix_of color) + length text ≡ length (colored color text)
shown-long color [] some = absurd (omega (arith, some))
shown-long None (byte ∷ text) some = omega arith
shown-long (Some color) (byte ∷ text) some =
    omega (arith, length-append color.prefix ((byte ∷ text) ++ color.suffix), length-append (byte ∷ text) color.suffix)

module _ (rows : FlatRows) (alignment : AlignmentHorizontal) (spaced : rows.fill ≡ 0x20) (bare : rows.fill_color ≡ None) where
  abbrev free_before_text : ℕ → ℕ → ℕ
  free_before_text room width = free_left alignment (room - width)

  pub placed-plain : (column width : ℕ) (color : Option Color) (text : List ℕ) → line_in_column (standing_of rows alignment) column width width color text
      ≡ fill (free_before_text (room_in (joints_of rows) column) width) ++ (colored color text ++ fill (room_in (joints_of rows) column - free_before_text (room_in (joints_of rows) column) width - width))
  placed-plain column width color text =
      let room = room_in (joints_of rows) column in
      ap (λ c. colored (option_map color_of c) (fill_bytes rows.fill (free_before_text room width)) ++ (colored color text ++ colored (option_map color_of c) (fill_bytes rows.fill (room - free_before_text room width - width)))) bare
      ∙ ap (λ n. fill_bytes n (free_before_text room width) ++ (colored color text ++ fill_bytes n (room - free_before_text room width - width))) spaced
