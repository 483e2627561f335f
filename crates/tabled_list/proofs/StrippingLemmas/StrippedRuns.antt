-- What a list of settings makes of a table, with the sequences of its texts and without.
use Rattle.std.proofs.Common.{◌≡◌, ◌+◌, ℕ, suc, Bool, true, false, List, [], ◌∷◌, map, get_or, refl, ap, sym, subst, ◌∙◌, arith, if◌then◌else◌}
use Rattle.std.specs.Prelude.{string_bytes}
use Rattle.grid_config_values.proofs.SpansLemmas.Order.{same_itself, same_position}
use Rattle.grid_config_values.specs.Order.{same_place}
use Rattle.grid_config_values.specs.declared.fault.Fault.{Fault}
use Rattle.grid_config_values.specs.declared.position.Position.{Position}
use Rattle.grid_records_estimate.specs.Sizing.{position_at}
use Rattle.grid_records_traits.specs.Rows.{text_at}
use Rattle.papergrid_picture.specs.Shown.{AreWholeTexts, stripped_texts}
use Rattle.papergrid_picture.proofs.Stripped.{stripped}
use Rattle.tabled_height.specs.Lines.{limited, raised}
use Rattle.tabled_list.specs.Lists.{LeadsThrough, RefusedAt}
use Rattle.tabled_list.specs.Settings.{cutting_by}
use Rattle.tabled_list.specs.declared.setting.Setting.{Setting}
use Rattle.tabled_list.specs.declared.setting.Setting.TheVariants.{Wrap, CellWrap, Truncate, CellTruncate, MinWidth, CellMinWidth, Justify, WidthList, HeightList, HeightIncrease, HeightLimit, CellHeightIncrease, CellHeightLimit, ColumnSpan, RowSpan, AlignHorizontal, AlignVertical, LineAlignment, TrimHorizontal, TrimVertical, Justification, Padding, Margin, Borders, Color as Colored}
use Rattle.tabled_steps.specs.States.{State}
use Rattle.tabled_width.specs.WrappedOrCut.{wrapping_each, justifying, wrapping_wider}
use Rattle.tabled_width.specs.Cutting.{truncating}
use Rattle.tabled_width.specs.Filling.{filling}
use Rattle.tabled_list.proofs.StrippingLemmas.TextsByPlace.{row_by, rows_from, state_by, stripped_but}
use Rattle.tabled_list.specs.Stripping.Stripping.{PutInNoEscape, PutsInNoEscape, stripped_state}
use Rattle.tabled_list.proofs.StrippingLemmas.MappedRows.{text-same}
use Rattle.tabled_list.proofs.StrippingLemmas.OneOutcome.{one-run}
use Rattle.tabled_list.proofs.StrippingLemmas.PassingSettings.{AllPass, TextsPass, refused-pass, runs-pass}
use Rattle.tabled_list.proofs.StrippingLemmas.StrippedTexts.{blind-stripped, commutes-stripped, filling-passes, justifying-passes, limited-passes, raised-passes, truncating-passes, wrapping-passes, wrapping_each-passes}

module _ (keep : Position → Bool) where
  abbrev f : Position → List ℕ → List ℕ
  f = stripped_but keep

  no_escape-passes : (setting : Setting) → PutsInNoEscape setting → TextsPass f (blind-stripped keep) setting
  no_escape-passes (Wrap width keep_words priority) no_escape = λ n. commutes-stripped keep (λ p. wrapping_each keep_words n) (λ p. wrapping_each-passes keep_words n)
  no_escape-passes (CellWrap at width keep_words) no_escape = λ n. commutes-stripped keep (λ p. wrapping_wider keep_words n) (λ p. wrapping-passes keep_words n)
  no_escape-passes (Truncate width suffix limit multiline try_color priority) no_escape =
      let cutting = cutting_by (string_bytes suffix) limit multiline try_color in
      λ n. commutes-stripped keep (λ p. truncating cutting n) (λ p. truncating-passes cutting no_escape.0 no_escape.1 n)
  no_escape-passes (CellTruncate at width suffix limit multiline try_color) no_escape =
      let cutting = cutting_by (string_bytes suffix) limit multiline try_color in
      λ n. commutes-stripped keep (λ p. truncating cutting n) (λ p. truncating-passes cutting no_escape.0 no_escape.1 n)
  no_escape-passes (MinWidth width priority) no_escape = tt
  no_escape-passes (CellMinWidth at width fill) no_escape = λ n. commutes-stripped keep (λ p. filling fill n) (λ p. filling-passes fill no_escape n)
  no_escape-passes (Justify width) no_escape = λ n. commutes-stripped keep (λ p. justifying n) (λ p. justifying-passes n)
  no_escape-passes (WidthList widths) no_escape = tt
  no_escape-passes (HeightList heights) no_escape = tt
  no_escape-passes (HeightIncrease height priority) no_escape = tt
  no_escape-passes (HeightLimit height priority) no_escape = λ n. commutes-stripped keep (limited n) (limited-passes n)
  no_escape-passes (CellHeightIncrease at height) no_escape = λ n. commutes-stripped keep (raised n) (raised-passes n)
  no_escape-passes (CellHeightLimit at height) no_escape = λ n. commutes-stripped keep (limited n) (limited-passes n)
  no_escape-passes (ColumnSpan place n) no_escape = tt
  no_escape-passes (RowSpan place n) no_escape = tt
  no_escape-passes (AlignHorizontal at value) no_escape = tt
  no_escape-passes (AlignVertical at value) no_escape = tt
  no_escape-passes (LineAlignment at on) no_escape = tt
  no_escape-passes (TrimHorizontal at on) no_escape = tt
  no_escape-passes (TrimVertical at on) no_escape = tt
  no_escape-passes (Justification at fill) no_escape = tt
  no_escape-passes (Padding at value) no_escape = tt
  no_escape-passes (Margin value) no_escape = tt
  no_escape-passes (Borders value) no_escape = tt
  no_escape-passes (Colored at color) no_escape = tt

  all-pass : (settings : List Setting) → PutInNoEscape settings → AllPass f (blind-stripped keep) settings
  all-pass [] all = tt
  all-pass (setting ∷ settings) all = (no_escape-passes setting all.0, all-pass settings all.1)

-- ---- no place is kept

abbrev pub nowhere : Position → Bool
nowhere p = false

row-stripped : (r c : ℕ) (row : List (List ℕ)) → row_by (stripped_but nowhere) r c row ≡ map stripped row
row-stripped r c [] = refl
row-stripped r c (text ∷ row) = ap (λ (rest : List (List ℕ)). stripped text ∷ rest) (row-stripped r (c + 1) row)

pub rows-stripped : (r : ℕ) (rows : List (List (List ℕ))) → rows_from (stripped_but nowhere) r rows ≡ stripped_texts rows
rows-stripped r [] = refl
rows-stripped r (row ∷ rows) =
    ap (λ (first : List (List ℕ)). first ∷ rows_from (stripped_but nowhere) (r + 1) rows) (row-stripped r 0 row) ∙ ap (λ (rest : List (List (List ℕ))). map stripped row ∷ rest) (rows-stripped (r + 1) rows)

pub state-stripped : (s : State) → state_by (stripped_but nowhere) s ≡ stripped_state s
state-stripped s = ap (λ (rows : List (List (List ℕ))). record s { rows = rows }) (rows-stripped 0 s.rows)

pub runs-stripped : (settings : List Setting) (s last : State) → PutInNoEscape settings → AreWholeTexts s.rows → LeadsThrough settings s last → LeadsThrough settings (stripped_state s) (stripped_state last) × AreWholeTexts last.rows
runs-stripped settings s last no_escape whole is =
    let passed = runs-pass (stripped_but nowhere) (blind-stripped nowhere) settings (all-pass nowhere settings no_escape) s last whole is in
    (subst (λ (last : State). LeadsThrough settings (stripped_state s) last) (state-stripped last) (subst (λ (s : State). LeadsThrough settings s (state_by (stripped_but nowhere) last)) (state-stripped s) passed.0), passed.1)

pub refused-stripped : (settings : List Setting) (old new : State) (index : ℕ) (fault : Fault) → PutInNoEscape settings → AreWholeTexts old.rows → RefusedAt settings old new index fault
    → RefusedAt settings (stripped_state old) (stripped_state new) index fault
refused-stripped settings old new index fault no_escape whole is =
    subst (λ (new : State). RefusedAt settings (stripped_state old) new index fault) (state-stripped new)
    (subst (λ (old : State). RefusedAt settings old (state_by (stripped_but nowhere) new) index fault) (state-stripped old)
    (refused-pass (stripped_but nowhere) (blind-stripped nowhere) settings (all-pass nowhere settings no_escape) old new index fault whole is))

-- ---- one place is kept

module _ (p : Position) where
  abbrev g : Position → List ℕ → List ℕ
  g = stripped_but (same_place p)

  one-text : (r c : ℕ) (x y : List ℕ) → stripped x ≡ stripped y → (p.row ≡ r → p.col ≡ c → x ≡ y) → g (position_at r c) x ≡ g (position_at r c) y
  one-text r c x y bare same = by (same_place p (position_at r c)) refl
    where
      by : (b : Bool) → same_place p (position_at r c) ≡ b → (if b then x else stripped x) ≡ (if b then y else stripped y)
      by true e =
          let there = same_position p (position_at r c) e in
          same (ap (λ (q : Position). q.row) there) (ap (λ (q : Position). q.col) there)
      by false e = bare

  one-row : (r c : ℕ) (xs ys : List (List ℕ)) → map stripped xs ≡ map stripped ys → (p.row ≡ r → (k : ℕ) → p.col ≡ c + k → get_or xs k [] ≡ get_or ys k []) → row_by g r c xs ≡ row_by g r c ys
  one-row r c [] [] bare same = refl
  one-row r c [] (y ∷ ys) bare same = absurd (cc bare)
  one-row r c (x ∷ xs) [] bare same = absurd (cc bare)
  one-row r c (x ∷ xs) (y ∷ ys) bare same =
      let first : stripped x ≡ stripped y = cc bare in
      let others : map stripped xs ≡ map stripped ys = cc bare in
      ap (λ (t : List ℕ). t ∷ row_by g r (c + 1) xs) (one-text r c x y first (λ down over. same down 0 (let e : p.col ≡ c + 0 = omega (arith, over) in e)))
      ∙ ap (λ (rest : List (List ℕ)). g (position_at r c) y ∷ rest) (one-row r (c + 1) xs ys others (λ down k over. same down (suc k) (let e : p.col ≡ c + suc k = omega (arith, over) in e)))

  all-rows : (r : ℕ) (a b : List (List (List ℕ))) → stripped_texts a ≡ stripped_texts b → ((i : ℕ) → p.row ≡ r + i → get_or (get_or a i []) p.col [] ≡ get_or (get_or b i []) p.col []) → rows_from g r a ≡ rows_from g r b
  all-rows r [] [] bare same = refl
  all-rows r [] (y ∷ ys) bare same = absurd (cc bare)
  all-rows r (x ∷ xs) [] bare same = absurd (cc bare)
  all-rows r (x ∷ xs) (y ∷ ys) bare same =
      let first : map stripped x ≡ map stripped y = cc bare in
      let others : stripped_texts xs ≡ stripped_texts ys = cc bare in
      ap (λ (row : List (List ℕ)). row ∷ rows_from g (r + 1) xs)
      (one-row r 0 x y first (λ down k over. let at : p.row ≡ r + 0 = omega (arith, down) in let column : p.col ≡ k = omega (arith, over) in subst (λ (n : ℕ). get_or x n [] ≡ get_or y n []) column (same 0 at)))
      ∙ ap (λ (rest : List (List (List ℕ))). row_by g r 0 y ∷ rest) (all-rows (r + 1) xs ys others (λ i down. same (suc i) (let e : p.row ≡ r + suc i = omega (arith, down) in e)))

  kept-here : same_place p p ≡ true
  kept-here = same_itself p

  module _ (settings : List Setting) (no_escape : PutInNoEscape settings) (a b m n : State) (whole_a : AreWholeTexts a.rows) (whole_b : AreWholeTexts b.rows) (alike : stripped_state a ≡ stripped_state b) (to_m : LeadsThrough settings a m) (to_n : LeadsThrough settings b n) where
    same-start : text_at a.rows p ≡ text_at b.rows p → state_by g a ≡ state_by g b
    same-start same =
        let rows : rows_from g 0 a.rows ≡ rows_from g 0 b.rows =
        all-rows 0 a.rows b.rows (ap (λ (s : State). s.rows) alike)
        (λ i down. let e : p.row ≡ i = omega (arith, down) in subst (λ (i : ℕ). get_or (get_or a.rows i []) p.col [] ≡ get_or (get_or b.rows i []) p.col []) e same) in
        ap (λ (rows : List (List (List ℕ))). record (stripped_state a) { rows = rows }) rows ∙ ap (λ (s : State). record s { rows = rows_from g 0 b.rows }) alike

    -- a text that both tables have at this place stays the same in both
    pub same-end : text_at a.rows p ≡ text_at b.rows p → text_at m.rows p ≡ text_at n.rows p
    same-end same =
        let of_a = runs-pass g (blind-stripped (same_place p)) settings (all-pass (same_place p) settings no_escape) a m whole_a to_m in
        let of_b = runs-pass g (blind-stripped (same_place p)) settings (all-pass (same_place p) settings no_escape) b n whole_b to_n in
        let ends : state_by g m ≡ state_by g n = one-run settings (state_by g b) (state_by g m) (state_by g n) (subst (λ (s : State). LeadsThrough settings s (state_by g m)) (same-start same) of_a.0) of_b.0 in
        sym (shown m.rows) ∙ ap (λ (s : State). text_at s.rows p) ends ∙ shown n.rows
      where
        shown : (rows : List (List (List ℕ))) → text_at (rows_from g 0 rows) p ≡ text_at rows p
        shown rows =
            text-same g (blind-stripped (same_place p)).none rows p ∙ ap (λ (b : Bool). if b then text_at rows p else stripped (text_at rows p)) kept-here

-- two tables whose stripped rows agree are led to such
pub alike-end : (settings : List Setting) → PutInNoEscape settings → (a b m n : State) → AreWholeTexts a.rows → AreWholeTexts b.rows → stripped_state a ≡ stripped_state b → LeadsThrough settings a m → LeadsThrough settings b n → stripped_state m ≡ stripped_state n
alike-end settings no_escape a b m n whole_a whole_b alike to_m to_n =
    one-run settings (stripped_state b) (stripped_state m) (stripped_state n)
    (subst (λ (s : State). LeadsThrough settings s (stripped_state m)) alike (runs-stripped settings a m no_escape whole_a to_m).0) (runs-stripped settings b n no_escape whole_b to_n).0
