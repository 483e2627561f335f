-- Closed lines, joined by an ASCII character, are the parts of a split at it.
use Rattle.std.proofs.Common.{◌≡◌, ℕ, ◌+◌, ◌-◌, ◌<◌, ◌≤◌, ◌==◌, nat_lt, Bool, true, false, ◌&&◌, ◌||◌, All, List, [], ◌∷◌, ◌++◌, length, get_or, map, drop, refl, ap, sym, subst, ◌∙◌, arith, append-nil, length-append, eq-eqb}
use Rattle.std.specs.List.{AllByRecursion, concat, list_all, list_any, join_with_byte}
use Rattle.std.proofs.lemmas.Bool.Decides.{nat_tests}
use Rattle.std.proofs.lemmas.List.{length-drop, get_or-drop, get_or_append_left}
use Rattle.std.proofs.lemmas.List.Elements.{All-from_recursion, recursion_from_All, All-weaker, All-get_or}
use Rattle.std.proofs.lemmas.List.Sums.{fold-append}
use Rattle.ansi_scan.specs.declared.items.Kind.TheVariants.{Text}
use Rattle.ansi_scan.specs.Sequences.{Piece, joined, is_not_escape, ArePiecesOf}
use Rattle.ansi_scan.specs.Joining.{put_before, put_all_before}
use Rattle.ansi_scan.specs.Pieces.{pieces}
use Rattle.ansi_scan.specs.Attributes.{plain_attributes}
use Rattle.ansi_scan.specs.StartsAndEnds.{start_bytes, end_bytes}
use Rattle.ansi_scan.proofs.Existence.{ArePiecesOf-pieces}
use Rattle.ansi_scan.proofs.Uniqueness.{pieces-ArePiecesOf}
use Rattle.ansi_scan.proofs.Boundaries.{get_or-behind}
use Rattle.ansi_scan.proofs.Joins.{ArePiecesOf-append}
use Rattle.ansi_scan.proofs.Effects.{start_bytes-sequences, end_bytes-sequences, start_sequences-plain, end_sequences-plain}
use Rattle.ansi_str_search.specs.Text.StyledText.{text_of, strip, style_after, style_after_all, IsClosed}
use Rattle.ansi_str_search.proofs.TextLemmas.LastSequence.{strip-append}
use Rattle.ansi_str_search.specs.Parts.{from_place, before_place, through_place, split_part, dressed}
use Rattle.ansi_str_search.specs.Matches.{Occurs, IsFirstMatch, AreMatchesFrom, AreMatches, bounds_between, split_bounds, styled_parts}
use Rattle.ansi_str_search.specs.Lines.{IsClosedText, IsClosedLine}
use Rattle.ansi_str_search.proofs.Styles.{split_part-slice}
use Rattle.ansi_str_search.proofs.PiecesAtPlaces.{from-past, before-past, through-inside, through-past, from-none, before-none, strip-from}
use Rattle.ansi_str_search.proofs.PlaceSums.{from-from, style-before_sum, through-all}
use Rattle.ansi_str_search.proofs.Chars.{Without}
use Rattle.ansi_str_search.proofs.Utf8.{Occurs-fits}
use Rattle.ansi_str_search.proofs.Cuts.{Occurs-ascii}
use Rattle.ansi_str_search.proofs.Merges.{AreReadAlike, alike-same, alike-also, alike-behind, alike-all_behind, alike-put_before, alike-put_all_before, split_part-alike}

-- ---- closed texts

pub IsClosed-pieces : (text : List ℕ) → IsClosedText text → IsClosed (pieces text)
IsClosed-pieces text closed = subst IsClosed (sym (pieces-ArePiecesOf text closed.pieces closed.of_text)) closed.closed

-- a closed text in whose strip this character does not occur
abbrev pub IsPart : ℕ → List ℕ → Type 0
IsPart c part = IsClosed (pieces part) × Without c (strip (pieces part))

-- ---- the pieces of parts joined by a character

abbrev sole : ℕ → Piece
sole c = record { kind = Text; bytes = c ∷ [] }

abbrev all_pieces : ℕ → List (List ℕ) → List Piece
all_pieces c [] = []
all_pieces c (part ∷ []) = pieces part
all_pieces c (part ∷ next ∷ others) = pieces part ++ sole c ∷ all_pieces c (next ∷ others)

ArePiecesOf-sole : (c : ℕ) → is_not_escape c ≡ true → ArePiecesOf (c ∷ []) (sole c ∷ [])
ArePiecesOf-sole c plain =
    let some : 0 < length (c ∷ []) = omega arith in
    let each : list_all is_not_escape (c ∷ []) ≡ true = ap (λ t. t && true) plain in
    record { joins = refl; stand = (record { some = some; plain = each; ends = tt }, tt) }

ArePiecesOf-next : (c : ℕ) (part rest : List ℕ) → is_not_escape c ≡ true → IsClosed (pieces part) → ArePiecesOf (part ++ c ∷ rest) (put_all_before (pieces part) (put_before (sole c) (pieces rest)))
ArePiecesOf-next c part rest plain closed =
    ArePiecesOf-append part (c ∷ rest) (pieces part) (put_before (sole c) (pieces rest)) (ArePiecesOf-pieces part) closed.none_broken
    (ArePiecesOf-append (c ∷ []) rest (sole c ∷ []) (pieces rest) (ArePiecesOf-sole c plain) ((λ same. cc same), tt) (ArePiecesOf-pieces rest))

-- but for neighbouring texts, they are the pieces of the joined text
pieces-alike : (c : ℕ) (part : List ℕ) (others : List (List ℕ)) → is_not_escape c ≡ true → AllByRecursion (IsPart c) (part ∷ others)
    → AreReadAlike (pieces (join_with_byte c (part ∷ others))) (all_pieces c (part ∷ others))
pieces-alike c part [] plain each = alike-same (pieces part)
pieces-alike c part (next ∷ others) plain each =
    let rest = join_with_byte c (next ∷ others) in
    let found : pieces (part ++ c ∷ rest) ≡ put_all_before (pieces part) (put_before (sole c) (pieces rest)) =
    pieces-ArePiecesOf (part ++ c ∷ rest) (put_all_before (pieces part) (put_before (sole c) (pieces rest))) (ArePiecesOf-next c part rest plain each.0.0) in
    let behind : AreReadAlike (put_before (sole c) (pieces rest)) (sole c ∷ all_pieces c (next ∷ others)) =
    alike-also (put_before (sole c) (pieces rest)) (sole c ∷ pieces rest) (sole c ∷ all_pieces c (next ∷ others)) (alike-put_before (sole c) (pieces rest))
    (alike-behind (sole c) (pieces rest) (all_pieces c (next ∷ others)) (pieces-alike c next others plain each.1)) in
    subst (λ ps. AreReadAlike ps (all_pieces c (part ∷ next ∷ others))) (sym found)
    (alike-also (put_all_before (pieces part) (put_before (sole c) (pieces rest))) (pieces part ++ put_before (sole c) (pieces rest)) (all_pieces c (part ∷ next ∷ others))
    (alike-put_all_before (pieces part) (put_before (sole c) (pieces rest)))
    (alike-all_behind (pieces part) (put_before (sole c) (pieces rest)) (sole c ∷ all_pieces c (next ∷ others)) behind))

-- ---- pieces with a character after them

through-sole : (c : ℕ) (ps qs : List Piece) → through_place (length (strip ps)) (ps ++ sole c ∷ qs) ≡ ps
through-sole c [] qs = through-inside 0 (sole c) qs (omega arith)
through-sole c (p ∷ ps) qs =
    let size : length (text_of p ++ strip ps) ≡ length (text_of p) + length (strip ps) = length-append (text_of p) (strip ps) in
    let over : length (text_of p) ≤ length (text_of p ++ strip ps) = omega arith in
    let left : length (text_of p ++ strip ps) - length (text_of p) ≡ length (strip ps) = omega arith in
    through-past (length (text_of p ++ strip ps)) p (ps ++ sole c ∷ qs) over ∙ ap (λ n. p ∷ through_place n (ps ++ sole c ∷ qs)) left ∙ ap (λ rest. p ∷ rest) (through-sole c ps qs)

from-sole : (c : ℕ) (ps qs : List Piece) → from_place (length (strip ps) + 1) (ps ++ sole c ∷ qs) ≡ qs
from-sole c [] qs =
    let some : 0 < 1 = omega arith in
    let all : 1 ≤ 1 = omega arith in
    from-past 1 (sole c) qs some all ∙ from-none qs
from-sole c (p ∷ ps) qs =
    let size : length (text_of p ++ strip ps) ≡ length (text_of p) + length (strip ps) = length-append (text_of p) (strip ps) in
    let some : 0 < length (text_of p ++ strip ps) + 1 = omega arith in
    let over : length (text_of p) ≤ length (text_of p ++ strip ps) + 1 = omega arith in
    let left : length (text_of p ++ strip ps) + 1 - length (text_of p) ≡ length (strip ps) + 1 = omega arith in
    from-past (length (text_of p ++ strip ps) + 1) p (ps ++ sole c ∷ qs) some over ∙ ap (λ n. from_place n (ps ++ sole c ∷ qs)) left ∙ from-sole c ps qs

before-sole : (c : ℕ) (ps qs : List Piece) → before_place (length (strip ps) + 1) (ps ++ sole c ∷ qs) ≡ ps ++ sole c ∷ []
before-sole c [] qs =
    let some : 0 < 1 = omega arith in
    let all : 1 ≤ 1 = omega arith in
    before-past 1 (sole c) qs some all ∙ ap (λ rest. sole c ∷ rest) (before-none qs)
before-sole c (p ∷ ps) qs =
    let size : length (text_of p ++ strip ps) ≡ length (text_of p) + length (strip ps) = length-append (text_of p) (strip ps) in
    let some : 0 < length (text_of p ++ strip ps) + 1 = omega arith in
    let over : length (text_of p) ≤ length (text_of p ++ strip ps) + 1 = omega arith in
    let left : length (text_of p ++ strip ps) + 1 - length (text_of p) ≡ length (strip ps) + 1 = omega arith in
    before-past (length (text_of p ++ strip ps) + 1) p (ps ++ sole c ∷ qs) some over ∙ ap (λ n. p ∷ before_place n (ps ++ sole c ∷ qs)) left ∙ ap (λ rest. p ∷ rest) (before-sole c ps qs)

style-sole : (c : ℕ) (ps qs : List Piece) → style_after_all plain_attributes (before_place (length (strip ps) + 1) (ps ++ sole c ∷ qs)) ≡ style_after_all plain_attributes ps
style-sole c ps qs = ap (style_after_all plain_attributes) (before-sole c ps qs) ∙ fold-append style_after plain_attributes ps (sole c ∷ [])

-- ---- where the character matches

Occurs-reads : (c : ℕ) (text : List ℕ) (at : ℕ) → Occurs (c ∷ []) text at → get_or text at 0 ≡ c
Occurs-reads c text at occurs =
    let same : at ≡ at + 0 = omega arith in
    ap (λ n. get_or text n 0) same ∙ sym (get_or-drop at text 0 0) ∙ ap (λ bytes. get_or bytes 0 0) occurs.stands

-- not among bytes that are others
matches-behind_at : (c : ℕ) (text front behind : List ℕ) (from at : ℕ) (early : Bool) → nat_lt at (from + length front) ≡ early → from ≤ at → Without c front → drop from text ≡ front ++ behind
    → Occurs (c ∷ []) text at → from + length front ≤ at
matches-behind_at c text front behind from at false e ordered without left occurs = grind (arith, nat_tests)
matches-behind_at c text front behind from at true e ordered without left occurs =
    let i = at - from in
    let before : at < from + length front = grind (arith, nat_tests) in
    let there : i < length front = omega arith in
    let sum : from + i ≡ at = omega arith in
    let read : get_or front i 0 ≡ c =
    sym (get_or_append_left front behind 0 i there) ∙ ap (λ bytes. get_or bytes i 0) (sym left) ∙ get_or-drop from text i 0 ∙ ap (λ n. get_or text n 0) sum ∙ Occurs-reads c text at occurs in
    let other : (get_or front i 0 == c) ≡ false = All-get_or (λ x. (x == c) ≡ false) front i 0 there (All-from_recursion (λ x. (x == c) ≡ false) front without) in
    absurd (clash (eq-eqb (get_or front i 0) c read) other)
  where
    clash : {t : Bool} → t ≡ true → t ≡ false → ⊥
    clash e f = let both : true ≡ false = sym e ∙ f in cc both

matches-behind : (c : ℕ) (text front behind : List ℕ) (from at : ℕ) → from ≤ at → Without c front → drop from text ≡ front ++ behind → Occurs (c ∷ []) text at → from + length front ≤ at
matches-behind c text front behind from at ordered without left occurs = matches-behind_at c text front behind from at (nat_lt at (from + length front)) refl ordered without left occurs

-- ---- the parts of a split

dressed-closed : (part : List ℕ) → IsClosed (pieces part) → dressed plain_attributes (pieces part) ≡ part
dressed-closed part closed =
    let start : start_bytes plain_attributes ≡ [] = start_bytes-sequences plain_attributes ∙ ap concat start_sequences-plain in
    let end : end_bytes plain_attributes ≡ [] = end_bytes-sequences plain_attributes ∙ ap concat end_sequences-plain in
    ap (λ bytes. bytes ++ (joined (pieces part) ++ end_bytes (style_after_all plain_attributes (pieces part)))) start
    ∙ ap (λ style. joined (pieces part) ++ end_bytes style) closed.plain
    ∙ ap (λ bytes. joined (pieces part) ++ bytes) end ∙ append-nil (joined (pieces part)) ∙ (ArePiecesOf-pieces part).joins

module _ (c : ℕ) (low : c < 128) (ps : List Piece) where
  -- from this place on, the pieces are those of these parts, and no style is open before it
  record AreLeft (from : ℕ) (parts : List (List ℕ)) : Type 0 where
    fits : from ≤ length (strip ps)
    pieces_left : from_place from ps ≡ all_pieces c parts
    known : style_after_all plain_attributes (before_place from ps) ≡ plain_attributes

  abbrev parts_between : ℕ → List ℕ → List (List ℕ)
  parts_between from matches = map (λ bound. split_part bound.0 bound.1 ps) (bounds_between 1 from (length (strip ps)) matches)

  strip_left : (from : ℕ) (parts : List (List ℕ)) → AreLeft from parts → drop from (strip ps) ≡ strip (all_pieces c parts)
  strip_left from parts left = sym (strip-from from ps) ∙ ap strip left.pieces_left

  length_left : (from : ℕ) (parts : List (List ℕ)) → AreLeft from parts → length (strip ps) ≡ from + length (strip (all_pieces c parts))
  length_left from parts left =
      let fits = left.fits in
      let size : length (strip ps) - from ≡ length (strip (all_pieces c parts)) = sym (length-drop from (strip ps)) ∙ ap length (strip_left from parts left) in
      omega arith

  -- the first part, which ends at this place
  first_part : (from at : ℕ) (part : List ℕ) → from ≤ at → IsClosed (pieces part) → style_after_all plain_attributes (before_place from ps) ≡ plain_attributes
      → through_place (at - from) (from_place from ps) ≡ pieces part → split_part from at ps ≡ part
  first_part from at part ordered closed known slice =
      split_part-slice from at ps ordered ∙ ap (λ style. dressed style (through_place (at - from) (from_place from ps))) known
      ∙ ap (dressed plain_attributes) slice ∙ dressed-closed part closed

  last_part : (from : ℕ) (part : List ℕ) (matches : List ℕ) → IsPart c part → AreLeft from (part ∷ []) → AreMatchesFrom (c ∷ []) (strip ps) from matches → parts_between from matches ≡ part ∷ []
  last_part from part [] is_part left are =
      let size = length_left from (part ∷ []) left in
      let all : length (strip (pieces part)) ≤ length (strip ps) - from = omega arith in
      ap (λ first. first ∷ [])
      (first_part from (length (strip ps)) part left.fits is_part.0 left.known
      (ap (through_place (length (strip ps) - from)) left.pieces_left ∙ through-all (length (strip ps) - from) (pieces part) all))
  last_part from part (at ∷ others) is_part left are =
      let size = length_left from (part ∷ []) left in
      let end : at + 1 ≤ length (strip ps) = Occurs-fits (c ∷ []) (strip ps) at are.0.occurs in
      let late : from + length (strip (pieces part)) ≤ at =
      matches-behind c (strip ps) (strip (pieces part)) [] from at are.0.not_before is_part.1 (strip_left from (part ∷ []) left ∙ sym (append-nil (strip (pieces part)))) are.0.occurs in
      absurd (omega arith)

  -- a part with others after it
  module _ (from : ℕ) (part next : List ℕ) (others : List (List ℕ)) (is_part : IsPart c part) (left : AreLeft from (part ∷ next ∷ others)) where
    abbrev front : List ℕ
    front = strip (pieces part)

    abbrev behind : List ℕ
    behind = strip (all_pieces c (next ∷ others))

    stands_left : drop from (strip ps) ≡ front ++ c ∷ behind
    stands_left = strip_left from (part ∷ next ∷ others) left ∙ strip-append (pieces part) (sole c ∷ all_pieces c (next ∷ others))

    within_text : from + length front < length (strip ps)
    within_text =
        let whole = length_left from (part ∷ next ∷ others) left in
        let size : length (strip (all_pieces c (part ∷ next ∷ others))) ≡ length front + length (c ∷ behind) =
        ap length (strip-append (pieces part) (sole c ∷ all_pieces c (next ∷ others))) ∙ length-append front (c ∷ behind) in
        omega arith

    -- the character after the part matches
    match_there : Occurs (c ∷ []) (strip ps) (from + length front)
    match_there =
        let read : get_or (strip ps) (from + length front) 0 ≡ c =
        sym (get_or-drop from (strip ps) (length front) 0) ∙ ap (λ bytes. get_or bytes (length front) 0) stands_left ∙ get_or-behind front c behind in
        Occurs-ascii c (strip ps) (from + length front) low within_text read

    -- and is the first that does
    matches_there : (at : ℕ) → IsFirstMatch (c ∷ []) (strip ps) from at → at ≡ from + length front
    matches_there at first =
        let late : from + length front ≤ at = matches-behind c (strip ps) front (c ∷ behind) from at first.not_before is_part.1 stands_left first.occurs in
        let begins : from ≤ from + length front = omega arith in
        not_early (nat_lt (from + length front) at) refl late (λ early. first.first (from + length front) begins early match_there)
      where
        not_early : (early : Bool) → nat_lt (from + length front) at ≡ early → from + length front ≤ at → (from + length front < at → ⊥) → at ≡ from + length front
        not_early true e late never = let before : from + length front < at = grind (arith, nat_tests) in absurd (never before)
        not_early false e late never = grind (arith, nat_tests)

    left_behind : AreLeft (from + length front + 1) (next ∷ others)
    left_behind =
        let sum : from + (length front + 1) ≡ from + length front + 1 = omega arith in
        let within = within_text in
        record {
          fits = omega arith;
          pieces_left = ap (λ n. from_place n ps) (sym sum) ∙ from-from from (length front + 1) ps ∙ ap (from_place (length front + 1)) left.pieces_left
              ∙ from-sole c (pieces part) (all_pieces c (next ∷ others));
          known = ap (λ n. style_after_all plain_attributes (before_place n ps)) (sym sum) ∙ style-before_sum from (length front + 1) plain_attributes ps
              ∙ ap (λ style. style_after_all style (before_place (length front + 1) (from_place from ps))) left.known
              ∙ ap (λ qs. style_after_all plain_attributes (before_place (length front + 1) qs)) left.pieces_left
              ∙ style-sole c (pieces part) (all_pieces c (next ∷ others)) ∙ is_part.0.plain;
        }

    part_here : split_part from (from + length front) ps ≡ part
    part_here =
        let ordered : from ≤ from + length front = omega arith in
        let size : from + length front - from ≡ length front = omega arith in
        first_part from (from + length front) part ordered is_part.0 left.known
        (ap (λ n. through_place n (from_place from ps)) size ∙ ap (through_place (length front)) left.pieces_left ∙ through-sole c (pieces part) (all_pieces c (next ∷ others)))

  parts-from : (from : ℕ) (part : List ℕ) (others : List (List ℕ)) (matches : List ℕ) → AllByRecursion (IsPart c) (part ∷ others) → AreLeft from (part ∷ others)
      → AreMatchesFrom (c ∷ []) (strip ps) from matches → parts_between from matches ≡ part ∷ others
  parts-from from part [] matches each left are = last_part from part matches each.0 left are
  parts-from from part (next ∷ others) [] each left are =
      let begins : from ≤ from + length (strip (pieces part)) = omega arith in
      absurd (are (from + length (strip (pieces part))) begins (match_there from part next others each.0 left))
  parts-from from part (next ∷ others) (at ∷ matches) each left are =
      let there : at ≡ from + length (strip (pieces part)) = matches_there from part next others each.0 left at are.0 in
      let left_there : AreLeft (at + 1) (next ∷ others) = subst (λ n. AreLeft (n + 1) (next ∷ others)) (sym there) (left_behind from part next others each.0 left) in
      ap (λ n. split_part from n ps ∷ parts_between (at + 1) matches) there
      ∙ ap (λ first. first ∷ parts_between (at + 1) matches) (part_here from part next others each.0 left)
      ∙ ap (λ rest. part ∷ rest) (parts-from (at + 1) next others matches each.1 left_there are.1)

-- closed texts without this character, joined by it, are the parts of a split at it
pub split-joined : (c : ℕ) (part : List ℕ) (others : List (List ℕ)) (ps : List Piece) (matches : List ℕ) → c < 128 → is_not_escape c ≡ true → AllByRecursion (IsPart c) (part ∷ others)
    → ArePiecesOf (join_with_byte c (part ∷ others)) ps → AreMatches (c ∷ []) (strip ps) matches → styled_parts ps (split_bounds (c ∷ []) (strip ps) matches) ≡ part ∷ others
split-joined c part others ps matches low plain each of_text are =
    let text = join_with_byte c (part ∷ others) in
    let found = all_pieces c (part ∷ others) in
    let alike : AreReadAlike ps found = subst (λ qs. AreReadAlike qs found) (pieces-ArePiecesOf text ps of_text) (pieces-alike c part others plain each) in
    let start : 0 ≤ length (strip found) = omega arith in
    let left : AreLeft c low found 0 (part ∷ others) = record { fits = start; pieces_left = from-none found; known = ap (style_after_all plain_attributes) (before-none found) } in
    (λ n. map (λ bound. split_part-alike ps found bound.0 bound.1 alike n) (split_bounds (c ∷ []) (strip ps) matches))
    ∙ ap (λ bytes. styled_parts found (split_bounds (c ∷ []) bytes matches)) alike.strip_same
    ∙ parts-from c low found 0 part others matches each left (subst (λ bytes. AreMatches (c ∷ []) bytes matches) alike.strip_same are)

-- ---- lines

or_false : (a b : Bool) → (a || b) ≡ false → (a ≡ false) × (b ≡ false)
or_false true b h = cc h
or_false false b h = (refl, h)

Without-any : (c : ℕ) (xs : List ℕ) → list_any (λ x. x == c) xs ≡ false → Without c xs
Without-any c [] h = tt
Without-any c (x ∷ xs) h = let parts = or_false (x == c) (list_any (λ x. x == c) xs) h in (parts.0, Without-any c xs parts.1)

IsPart-line : (line : List ℕ) → IsClosedLine line → IsPart 0x0a line
IsPart-line line closed =
    let same : closed.pieces ≡ pieces line = sym (pieces-ArePiecesOf line closed.pieces closed.of_line) in
    (subst IsClosed same closed.closed, subst (λ ps. Without 0x0a (strip ps)) same (Without-any 0x0a (strip closed.pieces) closed.one_line))

-- closed lines, joined by line feeds, are the parts of a split at the line feed
pub split-lines : (lines : List (List ℕ)) (ps : List Piece) (matches : List ℕ) → 0 < length lines → All IsClosedLine lines
    → ArePiecesOf (join_with_byte 0x0a lines) ps → AreMatches (0x0a ∷ []) (strip ps) matches → styled_parts ps (split_bounds (0x0a ∷ []) (strip ps) matches) ≡ lines
split-lines [] ps matches some closed of_text are = absurd (omega arith)
split-lines (line ∷ lines) ps matches some closed of_text are =
    let low : 0x0a < 128 = omega arith in
    split-joined 0x0a line lines ps matches low refl
    (recursion_from_All (IsPart 0x0a) (line ∷ lines) (All-weaker IsClosedLine (IsPart 0x0a) IsPart-line (line ∷ lines) closed)) of_text are
