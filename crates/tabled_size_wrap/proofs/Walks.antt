-- A walk through the units of a line that writes its lines.
use Rattle.std.proofs.Common.{◌≡◌, ◌≤◌, ◌<◌, ℕ, ◌+◌, ◌-◌, Bool, true, false, cond, nat_le, nat_lt, List, [], ◌∷◌, ◌++◌, length, refl, ap, sym, subst, ◌∙◌, arith, append_assoc, length-append}
use Rattle.std.specs.Prelude.{chars, encode_utf8_all}
use Rattle.std.specs.Str.{IsUtf8, IsCharBoundary}
use Rattle.std.proofs.Math.Utf8.{scalars}
use Rattle.std.specs.List.{join_with_byte, repeat}
use Rattle.std.proofs.lemmas.Bool.Decides.{nat_tests}
use Rattle.std.proofs.lemmas.Str.{encodes-append, encodes-chars, length-le-encodes, scalars-chars, IsCharBoundary-at_seam}
use Rattle.ansi_scan.specs.Sequences.{Piece}
use Rattle.ansi_scan.specs.Pieces.{pieces}
use Rattle.ansi_scan.specs.Attributes.{Attributes}
use Rattle.ansi_str.specs.StyledText.{strip}
use Rattle.ansi_str.specs.Parts.{IsGoodBound}
use Rattle.grid_records_measure.specs.TextLines.{line_feed}
use Rattle.grid_records_measure.proofs.Cuts.{scalars-behind}
use Rattle.tabled_size_wrap.specs.declared.line_units.Unit.{Unit}
use Rattle.tabled_size_wrap.specs.Units.{LineUnit, line_units, unit_len, placed_units}
use Rattle.tabled_size_wrap.specs.Wrapping.{line_part, lines_of_runs, replacement_bytes}
use Rattle.tabled_size_wrap.specs.Runs.{wrapped_lines, takes_unit, has_room_for, runs_of}
use Rattle.tabled_size_wrap.specs.Standing.{StandsAt}
use Rattle.tabled_size_wrap.specs.Room.{MakesRoom}
use Rattle.tabled_size_wrap.specs.declared.wrapped_lines.Run.{Run}
use Rattle.tabled_size_wrap.proofs.AllUnits.{texts, AllSome, texts-units, some-units}
use Rattle.tabled_size_wrap.proofs.Runs.{left_bytes, put, lines-all}
use Rattle.tabled_size_wrap.proofs.Standing.{stands-good}

-- these bytes and what the units that are left give are all bytes
pub record Walked (line : List Piece) (width : ℕ) (all out rest : List ℕ) (style : Attributes) (kept used : ℕ) (units : List Unit) : Type 0 where
  -- the place, and the units after the bytes that are kept
  pub at : ℕ
  pub left : List LineUnit
  pub front : List ℕ
  pub stands : StandsAt line at rest style
  pub units_are : units ≡ placed_units (at + kept) left
  pub fits : used ≤ width
  pub goes_on : out ++ left_bytes (line_part line) replacement_bytes width at (at + kept) used left ≡ all
  pub parted : strip line ≡ front ++ encode_utf8_all (texts left)
  pub passed : at + kept ≡ length front
  pub good : scalars (texts left) ≡ true
  pub some : AllSome left

-- what is written of a line that shows this text
pub Walked-start : (line : List Piece) (width : ℕ) (keep_words : Bool) (shown out rest : List ℕ) (style : Attributes) → StandsAt line 0 rest style → shown ≡ strip line → IsUtf8 shown
    → Walked line width (out ++ join_with_byte line_feed (wrapped_lines width keep_words line)) out rest style 0 0 (placed_units 0 (line_units width keep_words (chars shown)))
Walked-start line width keep_words shown out rest style stands same utf8 =
    let left = line_units width keep_words (chars shown) in
    let is = texts-units width keep_words (chars shown) in
    record {
      at = 0;
      left = left;
      front = [];
      stands = stands;
      units_are = refl;
      fits = omega arith;
      goes_on =
          ap (λ bytes. out ++ bytes) (sym (lines-all (line_part line) replacement_bytes width left))
          ∙ ap (λ bytes. out ++ join_with_byte line_feed (lines_of_runs unit_len (line_part line) replacement_bytes width 0 (runs_of width (line_units width keep_words (chars bytes))))) same;
      parted = sym same ∙ sym (ap encode_utf8_all is ∙ encodes-chars shown utf8);
      passed = refl;
      good = ap scalars is ∙ scalars-chars shown utf8;
      some = some-units width keep_words (chars shown);
    }

first_unit : Unit → List Unit → Unit
first_unit unit [] = unit
first_unit unit (u ∷ us) = u

other_units : List Unit → List Unit
other_units [] = []
other_units (u ∷ us) = us

-- the unit that comes next is the first of those that are left
pub record Next (place : ℕ) (left : List LineUnit) (unit : Unit) (units : List Unit) : Type 0 where
  pub first : LineUnit
  pub others : List LineUnit
  pub left_are : left ≡ first ∷ others
  pub start : unit.start ≡ place
  pub end : unit.end ≡ place + unit_len first
  pub cost : unit.cost ≡ first.cost
  pub units_are : units ≡ placed_units (place + unit_len first) others

next-unit : (place : ℕ) (left : List LineUnit) (unit : Unit) (units : List Unit) → unit ∷ units ≡ placed_units place left → Next place left unit units
unfolding first_unit other_units
next-unit place [] unit units same = let long = ap length same in absurd (omega (arith, long))
next-unit place (u ∷ us) unit units same =
    let is : unit ≡ record { start = place; end = place + unit_len u; cost = u.cost } = ap (first_unit unit) same in
    record {
      first = u;
      others = us;
      left_are = refl;
      start = ap (λ (v : Unit). v.start) is;
      end = ap (λ (v : Unit). v.end) is;
      cost = ap (λ (v : Unit). v.cost) is;
      units_are = ap other_units same;
    }

module _ (line : List Piece) (width : ℕ) (all out rest : List ℕ) (style : Attributes) (kept used : ℕ) (units : List Unit) (walked : Walked line width all out rest style kept used units) where
  utf8-left : IsUtf8 (encode_utf8_all (texts walked.left))
  utf8-left = (texts walked.left, (walked.good, refl))

  boundary : IsCharBoundary (strip line) (walked.at + kept)
  boundary = subst (IsCharBoundary (strip line)) (sym walked.passed) (IsCharBoundary-at_seam (strip line) walked.front (encode_utf8_all (texts walked.left)) walked.parted utf8-left)

  -- the bytes that are kept end where a character does
  pub kept-good : IsGoodBound (strip (pieces rest)) kept
  kept-good = stands-good line rest style kept walked.at walked.stands (λ _. boundary)

  pub kept-fits : walked.at + kept ≤ length (strip line)
  kept-fits = let long = ap length walked.parted ∙ length-append walked.front (encode_utf8_all (texts walked.left)) in omega (arith, long, walked.passed)

  -- after the last unit what is kept is the last part
  pub Walked-end : units ≡ [] → out ++ line_part line walked.at (walked.at + kept) ≡ all
  Walked-end none = by walked.left (sym none ∙ walked.units_are) walked.goes_on
    where
      by : (left : List LineUnit) → [] ≡ placed_units (walked.at + kept) left → out ++ left_bytes (line_part line) replacement_bytes width walked.at (walked.at + kept) used left ≡ all → out ++ line_part line walked.at (walked.at + kept) ≡ all
      by [] e goes_on = goes_on
      by (u ∷ us) e goes_on = let long = ap length e in absurd (omega (arith, long))

  module _ (unit : Unit) (others : List Unit) (step : units ≡ unit ∷ others) where
    pub next : Next (walked.at + kept) walked.left unit others
    next = next-unit (walked.at + kept) walked.left unit others (sym step ∙ walked.units_are)

    pub forward : unit.start ≤ unit.end
    forward = omega (arith, next.start, next.end)

    pub len-is : unit.end - unit.start ≡ unit_len next.first
    len-is = omega (arith, next.start, next.end)

    texts-are : texts walked.left ≡ next.first.text ++ texts next.others
    texts-are = ap texts next.left_are

    some-left : AllSome (next.first ∷ next.others)
    some-left = subst AllSome next.left_are walked.some

    pub some-len : 0 < unit.end - unit.start
    some-len = let long = length-le-encodes next.first.text in omega (arith, len-is, long, some-left.0)

    front-more : strip line ≡ (walked.front ++ encode_utf8_all next.first.text) ++ encode_utf8_all (texts next.others)
    front-more =
        walked.parted ∙ ap (λ cs. walked.front ++ encode_utf8_all cs) texts-are
        ∙ ap (λ bytes. walked.front ++ bytes) (encodes-append next.first.text (texts next.others))
        ∙ sym (append_assoc walked.front (encode_utf8_all next.first.text) (encode_utf8_all (texts next.others)))

    good-more : scalars (texts next.others) ≡ true
    good-more = scalars-behind next.first.text (texts next.others) (sym (ap scalars texts-are) ∙ walked.good)

    boundary-more : IsCharBoundary (strip line) (walked.at + kept + (unit.end - unit.start))
    boundary-more =
        let place : length (walked.front ++ encode_utf8_all next.first.text) ≡ walked.at + kept + (unit.end - unit.start) = omega (arith, length-append walked.front (encode_utf8_all next.first.text), walked.passed, len-is) in
        subst (IsCharBoundary (strip line)) place
        (IsCharBoundary-at_seam (strip line) (walked.front ++ encode_utf8_all next.first.text) (encode_utf8_all (texts next.others)) front-more (texts next.others, (good-more, refl)))

    pub more-fits : walked.at + kept + (unit.end - unit.start) ≤ length (strip line)
    more-fits =
        let long = ap length front-more ∙ length-append (walked.front ++ encode_utf8_all next.first.text) (encode_utf8_all (texts next.others)) in
        omega (arith, long, length-append walked.front (encode_utf8_all next.first.text), walked.passed, len-is)

    -- the bytes of the unit end where a character does
    pub unit-good : (end : List ℕ) (end_style : Attributes) → StandsAt line (walked.at + kept) end end_style → IsGoodBound (strip (pieces end)) (unit.end - unit.start)
    unit-good end end_style stands = stands-good line end end_style (unit.end - unit.start) (walked.at + kept) stands (λ _. boundary-more)

    room-is : takes_unit width used next.first ≡ has_room_for width used unit.cost
    room-is = ap (has_room_for width used) (sym next.cost)

    goes-on : out ++ left_bytes (line_part line) replacement_bytes width walked.at (walked.at + kept) used (next.first ∷ next.others) ≡ all
    goes-on = ap (λ us. out ++ left_bytes (line_part line) replacement_bytes width walked.at (walked.at + kept) used us) (sym next.left_are) ∙ walked.goes_on

    -- each unit fits on an empty line
    start-room : 0 < width → takes_unit width 0 next.first ≡ true
    start-room some = by (nat_le next.first.cost width) refl
      where
        by : (narrow : Bool) → nat_le next.first.cost width ≡ narrow → cond (nat_le next.first.cost width) (nat_le (0 + next.first.cost) width) (nat_lt 0 width) ≡ true
        by true e = ap (λ t. cond t (nat_le (0 + next.first.cost) width) (nat_lt 0 width)) e ∙ grind (arith, nat_tests)
        by false e = ap (λ t. cond t (nat_le (0 + next.first.cost) width) (nat_lt 0 width)) e ∙ grind (arith, nat_tests)

    abbrev behind : ℕ → ℕ → ℕ → List ℕ
    behind c d n = left_bytes (line_part line) replacement_bytes width c d n next.others

    -- a line on which the unit does not fit ends
    pub line-ends : 0 < width → has_room_for width used unit.cost ≡ false
        → (end : List ℕ) (end_style : Attributes) → StandsAt line (walked.at + kept) end end_style → (written : List ℕ) → written ≡ (out ++ line_part line walked.at (walked.at + kept)) ++ line_feed ∷ []
        → Walked line width all written end end_style 0 0 units
    line-ends some full end end_style stands written is =
        let none : walked.at + kept + 0 ≡ walked.at + kept = omega arith in
        let part = line_part line walked.at (walked.at + kept) in
        let others_put = put (line_part line) replacement_bytes width behind (walked.at + kept) (walked.at + kept) 0 next.first in
        record {
          at = walked.at + kept;
          left = walked.left;
          front = walked.front;
          stands = stands;
          units_are = walked.units_are ∙ ap (λ n. placed_units n walked.left) (sym none);
          fits = omega arith;
          goes_on =
              ap (λ us. written ++ left_bytes (line_part line) replacement_bytes width (walked.at + kept) (walked.at + kept + 0) 0 us) next.left_are
              ∙ ap (λ n. written ++ left_bytes (line_part line) replacement_bytes width (walked.at + kept) n 0 (next.first ∷ next.others)) none
              ∙ ap (λ t. written ++ cond t others_put (line_part line (walked.at + kept) (walked.at + kept) ++ line_feed ∷ others_put)) (start-room some)
              ∙ ap (λ bytes. bytes ++ others_put) is
              ∙ append_assoc (out ++ part) (line_feed ∷ []) others_put
              ∙ append_assoc out part (line_feed ∷ others_put)
              ∙ ap (λ t. out ++ cond t (put (line_part line) replacement_bytes width behind walked.at (walked.at + kept) used next.first) (part ++ line_feed ∷ others_put)) (sym (room-is ∙ full))
              ∙ goes-on;
          parted = walked.parted;
          passed = none ∙ walked.passed;
          good = walked.good;
          some = walked.some;
        }

    put-here : has_room_for width used unit.cost ≡ true
        → out ++ put (line_part line) replacement_bytes width behind walked.at (walked.at + kept) used next.first ≡ all
    put-here room =
        let part = line_part line walked.at (walked.at + kept) in
        let others_put = put (line_part line) replacement_bytes width behind (walked.at + kept) (walked.at + kept) 0 next.first in
        ap (λ t. out ++ cond t (put (line_part line) replacement_bytes width behind walked.at (walked.at + kept) used next.first) (part ++ line_feed ∷ others_put)) (sym (room-is ∙ room))
        ∙ goes-on

    front-len : walked.at + kept + (unit.end - unit.start) ≡ length (walked.front ++ encode_utf8_all next.first.text)
    front-len = omega (arith, length-append walked.front (encode_utf8_all next.first.text), walked.passed, len-is)

    -- a unit that fits is kept
    pub unit-kept : has_room_for width used unit.cost ≡ true → unit.cost ≤ width
        → Walked line width all out rest style (kept + (unit.end - unit.start)) (used + unit.cost) others
    unit-kept room narrow =
        let here = walked.at + kept in
        let test : nat_le unit.cost width ≡ true = grind (arith, nat_tests) in
        let fits : nat_le (used + unit.cost) width ≡ true = ap (λ t. cond t (nat_le (used + unit.cost) width) (nat_lt used width)) (sym test) ∙ room in
        let place : walked.at + (kept + (unit.end - unit.start)) ≡ here + unit_len next.first = omega (arith, len-is) in
        let place-bytes : walked.at + (kept + (unit.end - unit.start)) ≡ here + (unit.end - unit.start) = omega arith in
        let is-narrow : nat_le next.first.cost width ≡ true = ap (λ n. nat_le n width) (sym next.cost) ∙ test in
        record {
          at = walked.at;
          left = next.others;
          front = walked.front ++ encode_utf8_all next.first.text;
          stands = walked.stands;
          units_are = next.units_are ∙ ap (λ n. placed_units n next.others) (sym place);
          fits = grind (arith, nat_tests);
          goes_on =
              ap (λ n. out ++ behind walked.at n (used + unit.cost)) place
              ∙ ap (λ n. out ++ behind walked.at (here + unit_len next.first) (used + n)) next.cost
              ∙ ap (λ t. out ++ cond t (behind walked.at (here + unit_len next.first) (used + next.first.cost))
              (line_part line walked.at here ++ (repeat (width - used) replacement_bytes ++ behind (here + unit_len next.first) (here + unit_len next.first) width))) (sym is-narrow)
              ∙ put-here room;
          parted = front-more;
          passed = place-bytes ∙ front-len;
          good = good-more;
          some = some-left.1;
        }

    -- one that costs more than the width is marked
    pub unit-marked : has_room_for width used unit.cost ≡ true → width < unit.cost
        → (end : List ℕ) (end_style : Attributes) → StandsAt line (walked.at + kept + (unit.end - unit.start)) end end_style
        → (written : List ℕ) → written ≡ (out ++ line_part line walked.at (walked.at + kept)) ++ repeat (width - used) replacement_bytes
        → Walked line width all written end end_style 0 width others
    unit-marked room wide end end_style stands written is =
        let here = walked.at + kept in
        let after = here + (unit.end - unit.start) in
        let part = line_part line walked.at here in
        let marks = repeat (width - used) replacement_bytes in
        let place : after ≡ here + unit_len next.first = omega (arith, len-is) in
        let none : after + 0 ≡ after = omega arith in
        let is-wide : nat_le next.first.cost width ≡ false = ap (λ n. nat_le n width) (sym next.cost) ∙ grind (arith, nat_tests) in
        record {
          at = after;
          left = next.others;
          front = walked.front ++ encode_utf8_all next.first.text;
          stands = stands;
          units_are = next.units_are ∙ ap (λ n. placed_units n next.others) (sym (none ∙ place));
          fits = omega arith;
          goes_on =
              ap (λ n. written ++ behind after n width) none
              ∙ ap (λ n. written ++ behind n n width) place
              ∙ ap (λ bytes. bytes ++ behind (here + unit_len next.first) (here + unit_len next.first) width) is
              ∙ append_assoc (out ++ part) marks (behind (here + unit_len next.first) (here + unit_len next.first) width)
              ∙ append_assoc out part (marks ++ behind (here + unit_len next.first) (here + unit_len next.first) width)
              ∙ ap (λ t. out ++ cond t (behind walked.at (here + unit_len next.first) (used + next.first.cost)) (part ++ (marks ++ behind (here + unit_len next.first) (here + unit_len next.first) width))) (sym is-wide)
              ∙ put-here room;
          parted = front-more;
          passed = none ∙ front-len;
          good = good-more;
          some = some-left.1;
        }

-- ---- a line on which the unit that comes next fits

pub room-start : (width cost : ℕ) → 0 < width → has_room_for width 0 cost ≡ true
room-start width cost some = by (nat_le cost width) refl
  where
    by : (narrow : Bool) → nat_le cost width ≡ narrow → cond (nat_le cost width) (nat_le (0 + cost) width) (nat_lt 0 width) ≡ true
    by true e = ap (λ t. cond t (nat_le (0 + cost) width) (nat_lt 0 width)) e ∙ grind (arith, nat_tests)
    by false e = ap (λ t. cond t (nat_le (0 + cost) width) (nat_lt 0 width)) e ∙ grind (arith, nat_tests)

pub record Roomy (line : List Piece) (width : ℕ) (all out : List ℕ) (run : Run) (units : List Unit) (cost : ℕ) : Type 0 where
  pub walked : Walked line width all out run.place.rest.now run.place.style run.kept run.used units
  pub has_room : has_room_for width run.used cost ≡ true

-- it was made to fit
pub Roomy-made : (line : List Piece) (width : ℕ) (all out : List ℕ) (before after : Run) (units : List Unit) → Walked line width all out before.place.rest.now before.place.style before.kept before.used units
    → (unit : Unit) (others : List Unit) → units ≡ unit ∷ others → 0 < width → 0 < length (strip line) → (new : List ℕ) → MakesRoom width unit.cost before after out new → Roomy line width all new after units unit.cost
Roomy-made line width all out before after units walked unit others step some shown new made = by (has_room_for width before.used unit.cost) refl
  where
    by : (answer : Bool) → has_room_for width before.used unit.cost ≡ answer → Roomy line width all new after units unit.cost
    by true has =
        let same : Roomy line width all out before units unit.cost = record { walked = walked; has_room = has } in
        subst (λ bytes. Roomy line width all bytes after units unit.cost) (sym (made.silent has)) (subst (λ run. Roomy line width all out run units unit.cost) (sym (made.stays has)) same)
    by false full =
        let ended = line-ends line width all out before.place.rest.now before.place.style before.kept before.used units walked unit others step some full after.place.rest.now after.place.style
        (made.stands full line walked.at walked.stands) new (made.pushes full line walked.at walked.stands shown) in
        record {
          walked = subst (λ n. Walked line width all new after.place.rest.now after.place.style n after.used units) (sym (made.kept full))
              (subst (λ n. Walked line width all new after.place.rest.now after.place.style 0 n units) (sym (made.used full)) ended);
          has_room = ap (λ n. has_room_for width n unit.cost) (made.used full) ∙ room-start width unit.cost some;
        }
