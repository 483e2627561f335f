-- The chosen lines of a table, without their sequences, are those of the table of the stripped texts.
use Rattle.std.proofs.Common.{◌≡◌, ◌<◌, ℕ, Bool, true, false, cond, inl, inr, List, [], ◌∷◌, map, refl, ap, sym, subst, ◌∙◌, arith, lit<}
use Rattle.std.specs.Prelude.{flat_map}
use Rattle.std.specs.List.{filter, range_with_len}
use Rattle.std.proofs.lemmas.Bool.{cases_lt}
use Rattle.std.proofs.lemmas.Str.{encode_ascii}
use Rattle.grid_records_measure.specs.TextLines.{line_feed, text_lines}
use Rattle.papergrid.specs.Chosen.{kind_of_line}
use Rattle.papergrid.specs.LineKind.{LineKind}
use Rattle.papergrid_picture.specs.Colors.ClosingColors.{AreClosing}
use Rattle.papergrid_picture.proofs.ColorsLemmas.Stripped.{closing-show_nothing}
use Rattle.papergrid_picture.specs.Frame.{Frame, line_count, line_kind}
use Rattle.papergrid_picture.specs.Shown.{AreWholeTexts, IsBare, IsWholeText}
use Rattle.papergrid_picture.proofs.Shown.{BeginsNoSequence-feed, ShowsHere-nothing}
use Rattle.papergrid_picture.proofs.Stripped.{Leaves, Leaves-append, Leaves-character, stripped}
use Rattle.tabled.specs.Writing.{chosen_lines}
use Rattle.tabled_size_wrap.proofs.CellsLemmas.CellStripping.{texts-whole}
use Rattle.tabled_steps.specs.States.{State}
use Rattle.tabled_list.specs.Stripping.Printing.{drawn_frame, printed}
use Rattle.tabled_list.specs.Stripping.Stripping.{stripped_state, uncolored_state}
use Rattle.tabled_list.specs.Stripping.Totals.{drawn_height, drawn_line}
use Rattle.tabled_list.proofs.StrippingLemmas.StrippedTables.{frame-stripped, printed-stripped}
use Rattle.tabled_list.proofs.StrippingLemmas.StrippedTexts.{lines-stripped}
use Rattle.ansi_str_search.specs.Text.StyledText.{strip}
use Rattle.papergrid_picture.proofs.Shown.{pieces-nothing}
use Rattle.tables_laws.specs.Shown.ClosingLooks.{IsClosingLook}
use Rattle.tables_laws.specs.Shown.ShownTables.{chosen_numbers}
use Rattle.tables_laws.proofs.ShownLemmas.ChosenLines.{chosen-ended, ended}
use Rattle.tables_laws.proofs.ShownLemmas.LineEnds.{text_lines-drawn}
use Rattle.tables_laws.proofs.ShownLemmas.Pictures.{line-here, text-here}

nothing-leaves : Leaves [] []
nothing-leaves = record { whole = ShowsHere-nothing.closed.none_broken; left = ap strip pieces-nothing }

feed-leaves : Leaves (line_feed ∷ []) (line_feed ∷ [])
feed-leaves = subst (λ (bytes : List ℕ). Leaves bytes bytes) (encode_ascii line_feed (lit< tt)) (Leaves-character line_feed BeginsNoSequence-feed)

-- of what is the same for all, some is
filtered-same : {A : Type 0} (f g : A → List ℕ) (p : A → Bool) (xs : List A) → map f xs ≡ map g xs → map f (filter p xs) ≡ map g (filter p xs)
filtered-same f g p [] same = refl
filtered-same f g p (x ∷ xs) same =
    let first : f x ≡ g x = cc same in
    let others : map f xs ≡ map g xs = cc same in
    by (p x) first (filtered-same f g p xs others)
  where
    by : (b : Bool) → f x ≡ g x → map f (filter p xs) ≡ map g (filter p xs) → map f (cond b (x ∷ filter p xs) (filter p xs)) ≡ map g (cond b (x ∷ filter p xs) (filter p xs))
    by true first others = ap (λ y. y ∷ map f (filter p xs)) first ∙ ap (λ ys. g x ∷ ys) others
    by false first others = others

module _ (s : State) (look : IsClosingLook s.look) (bare : IsBare s.look) (texts : AreWholeTexts s.rows) (colors : AreClosing s.colors) where
  -- the table of the stripped texts, without the colours of its cells
  abbrev other : State
  other = uncolored_state (stripped_state s)

  same-frame : drawn_frame other ≡ drawn_frame s
  same-frame = frame-stripped s

  same-height : drawn_height other ≡ drawn_height s
  same-height = ap line_count same-frame

  abbrev stripped_line : ℕ → List ℕ
  stripped_line y = stripped (drawn_line s y)

  mapped : (ys : List ℕ) → map stripped (map (drawn_line s) ys) ≡ map stripped_line ys
  mapped [] = refl
  mapped (y ∷ ys) = ap (λ lines. stripped (drawn_line s y) ∷ lines) (mapped ys)

  some-lines : 0 < drawn_height s → map stripped_line (range_with_len 0 (drawn_height s)) ≡ map (drawn_line other) (range_with_len 0 (drawn_height s))
  some-lines some =
      let shown = text-here s look texts colors in
      let whole : IsWholeText (printed s) = record { utf8 = shown.utf8; whole = shown.closed.none_broken } in
      let bare_texts : AreWholeTexts other.rows = texts-whole s.rows texts in
      sym (mapped (range_with_len 0 (drawn_height s)))
      ∙ ap (map stripped) (sym (text_lines-drawn s look texts colors some))
      ∙ sym (lines-stripped (printed s) whole)
      ∙ ap text_lines (printed-stripped s bare texts (closing-show_nothing s.colors colors))
      ∙ text_lines-drawn other look bare_texts (λ cell. tt) (subst (λ n. 0 < n) (sym same-height) some)
      ∙ ap (λ n. map (drawn_line other) (range_with_len 0 n)) same-height

  all-lines : map stripped_line (range_with_len 0 (drawn_height s)) ≡ map (drawn_line other) (range_with_len 0 (drawn_height s))
  all-lines = elim (cases_lt 0 (drawn_height s)) [
    | inl some ↦ some-lines some
    | inr none ↦
        let zero_high : 0 ≡ drawn_height s = omega (arith, none) in
        subst (λ n. map stripped_line (range_with_len 0 n) ≡ map (drawn_line other) (range_with_len 0 n)) zero_high refl
  ]

  ended-leaves : (ys : List ℕ) → map stripped_line ys ≡ map (drawn_line other) ys → Leaves (flat_map (ended (drawn_line s)) ys) (flat_map (ended (drawn_line other)) ys)
  ended-leaves [] same = nothing-leaves
  ended-leaves (y ∷ ys) same =
      let first : stripped_line y ≡ drawn_line other y = cc same in
      let others : map stripped_line ys ≡ map (drawn_line other) ys = cc same in
      Leaves-append (ended (drawn_line s) y) (flat_map (ended (drawn_line s)) ys) (ended (drawn_line other) y) (flat_map (ended (drawn_line other)) ys)
      (Leaves-append (drawn_line s y) (line_feed ∷ []) (drawn_line other y) (line_feed ∷ []) (record { whole = (line-here s look texts colors y).closed.none_broken; left = first }) feed-leaves)
      (ended-leaves ys others)

  module _ (chooses : LineKind → Bool) where
    abbrev numbers_of : Frame → List ℕ
    numbers_of frame = filter (λ y. chooses (kind_of_line (line_kind frame.rows y))) (range_with_len 0 (line_count frame))

    same-numbers : chosen_numbers other chooses ≡ chosen_numbers s chooses
    same-numbers = ap numbers_of same-frame

    pub chosen-leaves : Leaves (chosen_lines chooses s) (chosen_lines chooses other)
    chosen-leaves =
        let ys = chosen_numbers s chooses in
        let same = filtered-same stripped_line (drawn_line other) (λ y. chooses (kind_of_line (line_kind (drawn_frame s).rows y))) (range_with_len 0 (drawn_height s)) all-lines in
        let theirs : chosen_lines chooses other ≡ flat_map (ended (drawn_line other)) ys = chosen-ended other chooses ∙ ap (flat_map (ended (drawn_line other))) same-numbers in
        subst (λ (bytes : List ℕ). Leaves bytes (chosen_lines chooses other)) (sym (chosen-ended s chooses))
        (subst (Leaves (flat_map (ended (drawn_line s)) ys)) (sym theirs) (ended-leaves ys same))
