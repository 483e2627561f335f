-- What is left of the line of a row of empty cells, and what was appended of a row between.
use Rattle.std.proofs.Common.{◌≡◌, ℕ, ◌+◌, ◌-◌, ◌≤◌, List, [], ◌++◌, Option, drop, take, length, ap, sym, subst, ◌∙◌, arith, append_assoc, append-nil}
use Rattle.std.specs.Option.{option_map}
use Rattle.std.specs.Str.{IsCharBoundary, IsUtf8}
use Rattle.std.specs.String.Boundary.{IsSplitPoint}
use Rattle.std.proofs.Math.Seq.{take-append_seam}
use Rattle.std.proofs.lemmas.List.{length-append, replicate-append-replicate}
use Rattle.std.proofs.lemmas.Str.{IsCharBoundary-at_seam, IsUtf8-append}
use Rattle.grid_config.specs.Colors.{Color, color_of}
use Rattle.grid_config_values.specs.declared.alignment.AlignmentHorizontal.{AlignmentHorizontal}
use Rattle.papergrid_picture.specs.Blocks.{free_left}
use Rattle.papergrid_cells.specs.Flat.{GoesOn, HasSlot, IsSlotOf, joints_of, kept_bytes, led_bytes, line_in_column, room_in, standing_of}
use Rattle.papergrid_cells.specs.Painting.{colored, fill_bytes}
use Rattle.papergrid_cells.specs.Spaces.{HasSpaces}
use Rattle.papergrid_cells.specs.declared.empty_row.TextSlot.{TextSlot}
use Rattle.papergrid_cells.specs.declared.flat.FlatRows.{FlatRows}
use Rattle.papergrid_cells.proofs.EmptyRows.{free_left-within, none-shown}
use Rattle.papergrid_cells.proofs.PrintedGlyphs.{spaces-filled}
use Rattle.papergrid_cells.proofs.WrittenTexts.{behind-spaces, first-spaces, resized, spaces, spaces-end, spaces-inside, utf8-spaces}

-- ---- the slot of a column in what is left

module _ (left : List ℕ) (slot : TextSlot) (has : HasSlot left slot) where
  abbrev begin : ℕ
  begin = length left - slot.rest

  abbrev lead : List ℕ
  lead = led_bytes slot.ink

  abbrev own : List ℕ
  own = spaces (kept_bytes slot.ink + slot.width) ++ has.spaces.after

  apart : left ≡ has.middle ++ (lead ++ own)
  apart = has.spaces.parts ∙ (ap (λ l. l ++ own) has.front ∙ append_assoc has.middle lead own)

  begin-is : begin ≡ length has.middle + length lead
  begin-is = omega (arith, has.spaces.place, ap (λ l. length l) has.front, length-append has.middle lead)

  pub lead-before : length lead ≤ begin
  lead-before = omega (arith, begin-is)

  middle-is : begin - length lead ≡ length has.middle
  middle-is = omega (arith, begin-is)

  utf8-own : IsUtf8 (lead ++ own)
  utf8-own = IsUtf8-append lead own has.lead (IsUtf8-append (spaces (kept_bytes slot.ink + slot.width)) has.spaces.after (utf8-spaces (kept_bytes slot.ink + slot.width)) has.spaces.text)

  -- what comes before the column
  pub middle-boundary : IsCharBoundary left (begin - length lead)
  middle-boundary = subst (IsCharBoundary left) (sym middle-is) (IsCharBoundary-at_seam left has.middle (lead ++ own) apart utf8-own)

  pub middle-taken : take (begin - length lead) left ≡ has.middle
  middle-taken = ap (λ n. take n left) middle-is ∙ (ap (take (length has.middle)) apart ∙ take-append_seam has.middle (lead ++ own))

  -- what comes after a text in it
  module _ (free : ℕ) (within : free ≤ slot.width) where
    abbrev used : ℕ
    used = kept_bytes slot.ink + (slot.width - free)

    sum : kept_bytes slot.ink + slot.width ≡ used + free
    sum = omega (arith, within)

    abbrev used-spaces : HasSpaces left begin used
    used-spaces = first-spaces left begin used free (resized left begin sum has.spaces)

    pub used-inside : begin + used ≤ length left
    used-inside = spaces-inside left begin used used-spaces

    pub used-split : IsSplitPoint left (begin + used)
    used-split = spaces-end left begin used used-spaces

    pub used-left : drop (begin + used) left ≡ spaces free ++ has.spaces.after
    used-left = behind-spaces left begin used used-spaces

-- ---- a line in its column

module _ (rows : FlatRows) (alignment : AlignmentHorizontal) (width : ℕ) (slot : TextSlot) (is : IsSlotOf rows width slot) (measure counted : ℕ) (color : Option Color) (line : List ℕ) where
  abbrev before : ℕ
  before = free_left alignment (slot.width - counted)

  abbrev shown : List ℕ
  shown = line_in_column (standing_of rows alignment) width measure counted color line

  -- by the slot of the column
  in-slot : shown ≡ fill_bytes 0x20 before ++ (colored color line ++ fill_bytes 0x20 (slot.width - before - measure))
  in-slot =
      ap (λ c. colored (option_map color_of c) (fill_bytes rows.fill (free_left alignment (room_in (joints_of rows) width - counted)))
      ++ (colored color line ++ colored (option_map color_of c) (fill_bytes rows.fill (room_in (joints_of rows) width - free_left alignment (room_in (joints_of rows) width - counted) - measure)))) is.color
      ∙ (ap (λ n. fill_bytes n (free_left alignment (room_in (joints_of rows) width - counted))
      ++ (colored color line ++ fill_bytes n (room_in (joints_of rows) width - free_left alignment (room_in (joints_of rows) width - counted) - measure))) is.fill
      ∙ ap (λ n. fill_bytes 0x20 (free_left alignment (n - counted))
      ++ (colored color line ++ fill_bytes 0x20 (n - free_left alignment (n - counted) - measure))) (sym is.room))

  -- the line was appended after what came before the column
  pub goes-on : (out middle after : List ℕ) {new left : List ℕ} (first free : ℕ) → first ≡ before → free ≡ slot.width - first - measure
      → new ≡ ((out ++ middle) ++ fill_bytes 0x20 first) ++ colored color line → left ≡ spaces free ++ after → GoesOn new left ((out ++ middle) ++ shown) after
  goes-on out middle after {new} {left} first free first_is free_is made rest = record {
    middle = spaces free;
    parts = rest;
    shows = ap (λ l. l ++ spaces free) made
        ∙ (regroup (out ++ middle) (fill_bytes 0x20 first) (colored color line) (spaces free)
        ∙ ap (λ l. (out ++ middle) ++ l)
        (ap (λ l. fill_bytes 0x20 first ++ (colored color line ++ l)) (sym (spaces-filled free) ∙ ap (fill_bytes 0x20) free_is)
        ∙ (ap (λ n. fill_bytes 0x20 n ++ (colored color line ++ fill_bytes 0x20 (slot.width - n - measure))) first_is
        ∙ sym in-slot)));
  }
    where
      regroup : (a b c d : List ℕ) → ((a ++ b) ++ c) ++ d ≡ a ++ (b ++ (c ++ d))
      regroup a b c d = simp append_assoc

  -- a line that shows nothing was not
  none-laid : measure ≡ 0 → length line ≡ 0 → spaces slot.width ≡ shown
  none-laid nothing none =
      let within : before ≤ slot.width = omega (arith, free_left-within alignment (slot.width - counted)) in
      let sum : slot.width ≡ before + (slot.width - before - measure) = omega (arith, within, nothing) in
      let rest = slot.width - before - measure in
      ap spaces sum
      ∙ (sym (replicate-append-replicate before rest 0x20)
      ∙ (ap (λ l. l ++ spaces rest) (sym (spaces-filled before))
      ∙ (ap (λ l. fill_bytes 0x20 before ++ l) (sym (spaces-filled rest))
      ∙ (ap (λ l. fill_bytes 0x20 before ++ (l ++ fill_bytes 0x20 rest)) (sym (none-shown color line none))
      ∙ sym in-slot))))

  pub stays : (left out : List ℕ) (has : HasSlot left slot) → led_bytes slot.ink ≡ [] → kept_bytes slot.ink ≡ 0 → measure ≡ 0 → length line ≡ 0 → GoesOn out left ((out ++ has.middle) ++ shown) has.spaces.after
  stays left out has lead_none kept_none nothing none =
      let wide : kept_bytes slot.ink + slot.width ≡ slot.width = omega (arith, kept_none) in
      let after = has.spaces.after in
      record {
        middle = has.middle ++ spaces slot.width;
        parts = has.spaces.parts
            ∙ (ap (λ l. l ++ (spaces (kept_bytes slot.ink + slot.width) ++ after)) (has.front ∙ (ap (λ l. has.middle ++ l) lead_none ∙ append-nil has.middle))
            ∙ (ap (λ n. has.middle ++ (spaces n ++ after)) wide
            ∙ sym (append_assoc has.middle (spaces slot.width) after)));
        shows = sym (append_assoc out has.middle (spaces slot.width)) ∙ ap (λ l. (out ++ has.middle) ++ l) (none-laid nothing none);
      }
