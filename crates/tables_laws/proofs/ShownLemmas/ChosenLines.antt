-- The chosen lines of a table, one after the other.
use Rattle.std.proofs.Common.{◌≡◌, ◌<◌, ℕ, Bool, true, false, cond, List, [], ◌∷◌, ◌++◌, length, map, refl, ap, sym, subst, ◌∙◌, arith, lit<, append_assoc}
use Rattle.std.specs.Prelude.{flat_map}
use Rattle.std.specs.List.{AllByRecursion, filter, join_with_byte, range_with_len}
use Rattle.std.proofs.lemmas.List.Elements.{All-from_recursion}
use Rattle.std.proofs.lemmas.Str.{encode_ascii}
use Rattle.ansi_scan.specs.Pieces.{pieces}
use Rattle.ansi_scan.proofs.Existence.{ArePiecesOf-pieces}
use Rattle.ansi_str.specs.Lines.{IsClosedLine}
use Rattle.grid_records_measure.specs.TextLines.{line_feed, text_lines}
use Rattle.grid_records_measure.proofs.LinesAndBlocks.{lines-joined}
use Rattle.grid_records_measure.proofs.TextLines.{text_lines-are}
use Rattle.papergrid.specs.Chosen.{ended_where, kind_of_line}
use Rattle.papergrid.specs.LineKind.{LineKind}
use Rattle.papergrid_picture.specs.Colors.ClosingColors.{AreClosing}
use Rattle.papergrid_picture.specs.Frame.{line_kind}
use Rattle.papergrid_picture.specs.Shown.{AreWholeTexts, in_plain}
use Rattle.papergrid_picture.proofs.Related.{All-append}
use Rattle.papergrid_picture.proofs.Shown.{BeginsNoSequence-feed, ShowsHere, ShowsHere-append, ShowsHere-character, ShowsHere-nothing}
use Rattle.tabled.specs.Writing.{chosen_lines}
use Rattle.tabled_steps.specs.States.{State}
use Rattle.tabled_list.specs.Stripping.Printing.{drawn_frame}
use Rattle.tabled_list.specs.Stripping.Totals.{drawn_height, drawn_line}
use Rattle.tables_laws.specs.Shown.ClosingLooks.{IsClosingLook}
use Rattle.tables_laws.specs.Shown.ShownTables.{chosen_numbers, chosen_picture, shown_line}
use Rattle.tables_laws.proofs.ShownLemmas.LineEnds.{FeedIsPlain, PlainHere, feeds-plain, line-closed, picture_line-feeds, plain-shown}
use Rattle.tables_laws.proofs.ShownLemmas.Pictures.{line-here}

-- ---- a line feed

pub feed-here : ShowsHere (line_feed ∷ []) (in_plain line_feed ∷ [])
feed-here = subst (λ (bytes : List ℕ). ShowsHere bytes (in_plain line_feed ∷ [])) (encode_ascii line_feed (lit< tt)) (ShowsHere-character line_feed BeginsNoSequence-feed)

-- ---- lines that end each by a line feed

abbrev pub ended : (ℕ → List ℕ) → ℕ → List ℕ
ended line y = line y ++ line_feed ∷ []

pub filtered : (line : ℕ → List ℕ) (p : ℕ → Bool) (ys : List ℕ) → flat_map (λ y. ended_where (p y) (line y)) ys ≡ flat_map (ended line) (filter p ys)
filtered line p [] = refl
filtered line p (y ∷ ys) = by (p y) (filtered line p ys)
  where
    by : (b : Bool) → flat_map (λ y. ended_where (p y) (line y)) ys ≡ flat_map (ended line) (filter p ys)
        → ended_where b (line y) ++ flat_map (λ y. ended_where (p y) (line y)) ys ≡ flat_map (ended line) (cond b (y ∷ filter p ys) (filter p ys))
    by true rest = ap (λ bytes. ended line y ++ bytes) rest
    by false rest = rest

join-cons : (x : List ℕ) (ls : List (List ℕ)) → join_with_byte line_feed (x ∷ (ls ++ [] ∷ [])) ≡ x ++ (line_feed ∷ join_with_byte line_feed (ls ++ [] ∷ []))
join-cons x [] = refl
join-cons x (l ∷ ls) = refl

pub ended-joined : (line : ℕ → List ℕ) (ys : List ℕ) → flat_map (ended line) ys ≡ join_with_byte line_feed (map line ys ++ [] ∷ [])
ended-joined line [] = refl
ended-joined line (y ∷ ys) =
    append_assoc (line y) (line_feed ∷ []) (flat_map (ended line) ys)
    ∙ ap (λ bytes. line y ++ (line_feed ∷ bytes)) (ended-joined line ys)
    ∙ sym (join-cons (line y) (map line ys))

closed-nothing : IsClosedLine []
closed-nothing = record { pieces = []; of_line = record { joins = refl; stand = tt }; closed = record { none_broken = tt; plain = refl }; one_line = refl }

module _ (s : State) (chooses : LineKind → Bool) where
  pub chosen-ended : chosen_lines chooses s ≡ flat_map (ended (drawn_line s)) (chosen_numbers s chooses)
  chosen-ended = filtered (drawn_line s) (λ y. chooses (kind_of_line (line_kind (drawn_frame s).rows y))) (range_with_len 0 (drawn_height s))

  module _ (look : IsClosingLook s.look) (texts : AreWholeTexts s.rows) (colors : AreClosing s.colors) where
    ended-here : (ys : List ℕ) → ShowsHere (flat_map (ended (drawn_line s)) ys) (flat_map (λ y. shown_line s y ++ in_plain line_feed ∷ []) ys)
    ended-here [] = ShowsHere-nothing
    ended-here (y ∷ ys) =
        ShowsHere-append (ended (drawn_line s) y) (flat_map (ended (drawn_line s)) ys) (shown_line s y ++ in_plain line_feed ∷ []) (flat_map (λ y. shown_line s y ++ in_plain line_feed ∷ []) ys)
        (ShowsHere-append (drawn_line s y) (line_feed ∷ []) (shown_line s y) (in_plain line_feed ∷ []) (line-here s look texts colors y) feed-here)
        (ended-here ys)

    pub chosen-here : ShowsHere (chosen_lines chooses s) (chosen_picture s chooses)
    chosen-here = subst (λ (bytes : List ℕ). ShowsHere bytes (chosen_picture s chooses)) (sym chosen-ended) (ended-here (chosen_numbers s chooses))

    ended-feeds : (ys : List ℕ) → AllByRecursion FeedIsPlain (flat_map (λ y. shown_line s y ++ in_plain line_feed ∷ []) ys)
    ended-feeds [] = tt
    ended-feeds (y ∷ ys) =
        All-append FeedIsPlain (shown_line s y ++ in_plain line_feed ∷ []) (flat_map (λ y. shown_line s y ++ in_plain line_feed ∷ []) ys)
        (All-append FeedIsPlain (shown_line s y) (in_plain line_feed ∷ []) (feeds-plain (shown_line s y) (picture_line-feeds s look texts colors y)) ((λ is. refl), tt))
        (ended-feeds ys)

    pub chosen-plain : PlainHere (chosen_lines chooses s)
    chosen-plain = plain-shown (chosen_lines chooses s) (chosen_picture s chooses) chosen-here (ended-feeds (chosen_numbers s chooses))

    each-closed : (ys : List ℕ) → AllByRecursion IsClosedLine (map (drawn_line s) ys ++ [] ∷ [])
    each-closed [] = (closed-nothing, tt)
    each-closed (y ∷ ys) = (line-closed s look texts colors y, each-closed ys)

    some-line : (ls : List (List ℕ)) → 0 < length (ls ++ [] ∷ [])
    some-line [] = omega arith
    some-line (l ∷ ls) = omega arith

    -- its lines are the chosen ones, and an empty one after the last line feed
    pub text_lines-chosen : text_lines (chosen_lines chooses s) ≡ map (drawn_line s) (chosen_numbers s chooses) ++ [] ∷ []
    text_lines-chosen =
        let ys = chosen_numbers s chooses in
        let lines = map (drawn_line s) ys ++ [] ∷ [] in
        let joined = join_with_byte line_feed lines in
        ap text_lines (chosen-ended ∙ ended-joined (drawn_line s) ys)
        ∙ lines-joined lines (text_lines joined) (pieces joined) (some-line (map (drawn_line s) ys)) (All-from_recursion IsClosedLine lines (each-closed ys)) (ArePiecesOf-pieces joined) (text_lines-are joined)
