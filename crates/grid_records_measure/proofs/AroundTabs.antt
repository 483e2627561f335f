-- Texts around their tabs.
use Rattle.std.proofs.Common.{◌≡◌, ◌<◌, ◌==◌, ℕ, zero, suc, ◌+◌, ◌||◌, not, Bool, true, false, cond, List, [], ◌∷◌, ◌++◌, length, take, drop, replicate, flat_map, refl, ap, sym, ◌∙◌, arith}
use Rattle.std.specs.List.{repeat, position_or_len, before_first, after_first}
use Rattle.std.proofs.lemmas.List.Folds.{list_any-append}
use Rattle.ansi_scan.specs.Sequences.{Piece, joined}
use Rattle.ansi_scan.specs.Joining.{is_text_kind}
use Rattle.ansi_str.specs.StyledText.{text_of, strip}
use Rattle.ansi_str_search.proofs.Parts.{text_of-text}
use Rattle.grid_records_measure.specs.Tabs.{tab, has_tab, put_for_tabs, piece_with}

abbrev pub is_tab : ℕ → Bool
is_tab byte = byte == tab

-- up to the first tab
around-step : (put : List ℕ) (b : ℕ) (bs : List ℕ) (here : Bool)
    → (position_or_len is_tab bs < length bs → put_for_tabs put bs ≡ before_first is_tab bs ++ (put ++ put_for_tabs put (after_first is_tab bs)))
    → cond (not here) (1 + position_or_len is_tab bs) 0 < suc (length bs)
    → cond here put (b ∷ []) ++ put_for_tabs put bs
    ≡ take (cond (not here) (1 + position_or_len is_tab bs) 0) (b ∷ bs) ++ (put ++ put_for_tabs put (drop (cond (not here) (1 + position_or_len is_tab bs) 0 + 1) (b ∷ bs)))
around-step put b bs true rest some = refl
around-step put b bs false rest some =
    let n = position_or_len is_tab bs in
    let one : 1 + n ≡ suc n = omega arith in
    let two : 1 + n + 1 ≡ suc (n + 1) = omega arith in
    ap (λ bytes. b ∷ bytes) (rest (omega (arith, some)))
    ∙ ap (λ k. take k (b ∷ bs) ++ (put ++ put_for_tabs put (after_first is_tab bs))) (sym one)
    ∙ ap (λ k. take (1 + n) (b ∷ bs) ++ (put ++ put_for_tabs put (drop k (b ∷ bs)))) (sym two)

pub around-tab : (put bs : List ℕ) → position_or_len is_tab bs < length bs → put_for_tabs put bs ≡ before_first is_tab bs ++ (put ++ put_for_tabs put (after_first is_tab bs))
around-tab put [] some = absurd (omega (arith, some))
around-tab put (b ∷ bs) some = around-step put b bs (is_tab b) (around-tab put bs) some

none-step : (put : List ℕ) (b : ℕ) (bs : List ℕ) (here : Bool) → (position_or_len is_tab bs ≡ length bs → put_for_tabs put bs ≡ bs)
    → cond (not here) (1 + position_or_len is_tab bs) 0 ≡ suc (length bs) → cond here put (b ∷ []) ++ put_for_tabs put bs ≡ b ∷ bs
none-step put b bs true rest none = absurd (omega (arith, none))
none-step put b bs false rest none = ap (λ bytes. b ∷ bytes) (rest (omega (arith, none)))

pub no-tab : (put bs : List ℕ) → position_or_len is_tab bs ≡ length bs → put_for_tabs put bs ≡ bs
no-tab put [] none = refl
no-tab put (b ∷ bs) none = none-step put b bs (is_tab b) (no-tab put bs) none

pub repeat-one : (n x : ℕ) → repeat n (x ∷ []) ≡ replicate n x
repeat-one zero x = refl
repeat-one (suc n) x = ap (λ xs. x ∷ xs) (repeat-one n x)

-- ---- a text that shows no tab

without-step : (put : List ℕ) (b : ℕ) (bs : List ℕ) (here : Bool) → (has_tab bs ≡ false → put_for_tabs put bs ≡ bs)
    → here || has_tab bs ≡ false → cond here put (b ∷ []) ++ put_for_tabs put bs ≡ b ∷ bs
without-step put b bs true rest none = absurd (cc none)
without-step put b bs false rest none = ap (λ bytes. b ∷ bytes) (rest none)

put-without_tab : (put bs : List ℕ) → has_tab bs ≡ false → put_for_tabs put bs ≡ bs
put-without_tab put [] none = refl
put-without_tab put (b ∷ bs) none = without-step put b bs (is_tab b) (put-without_tab put bs) none

or-parts : (a b : Bool) → a || b ≡ false → (a ≡ false) × (b ≡ false)
or-parts true b none = absurd (cc none)
or-parts false b none = (refl, none)

piece-without_tab : (put : List ℕ) (p : Piece) (is_text : Bool) → is_text_kind p.kind ≡ is_text → has_tab (text_of p) ≡ false → piece_with put p ≡ p.bytes
piece-without_tab put p true text none =
    ap (λ b. cond b (put_for_tabs put p.bytes) p.bytes) text ∙ put-without_tab put p.bytes (ap has_tab (sym (text_of-text p text)) ∙ none)
piece-without_tab put p false text none = ap (λ b. cond b (put_for_tabs put p.bytes) p.bytes) text

pub pieces-without_tab : (put : List ℕ) (ps : List Piece) → has_tab (strip ps) ≡ false → flat_map (piece_with put) ps ≡ joined ps
pieces-without_tab put [] none = refl
pieces-without_tab put (p ∷ ps) none =
    let parts = or-parts (has_tab (text_of p)) (has_tab (strip ps)) (sym (list_any-append is_tab (text_of p) (strip ps)) ∙ none) in
    ap (λ bytes. bytes ++ flat_map (piece_with put) ps) (piece-without_tab put p (is_text_kind p.kind) refl parts.0)
    ∙ ap (λ bytes. p.bytes ++ bytes) (pieces-without_tab put ps parts.1)
