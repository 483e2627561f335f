-- A step of a split: the part before the next match, and what is left after it.
use Rattle.std.proofs.Common.{suc, not, ◌≡◌, ℕ, ◌+◌, ◌-◌, ◌<◌, ◌≤◌, ◌==◌, ◌||◌, Bool, true, false, List, [], ◌∷◌, ◌++◌, length, take, drop, refl, ap, sym, subst, ◌∙◌, arith, append_assoc, length-append, Option, None, Some, if◌then◌else◌}
use Rattle.std.specs.Prelude.{unwrap_or, is_some}
use Rattle.std.specs.Option.{option_map}
use Rattle.std.specs.Str.{IsCharBoundary}
use Rattle.std.proofs.Math.Seq.{take-append_seam}
use Rattle.std.proofs.lemmas.List.Folds.{list_any-append}
use Rattle.ansi_scan.specs.Sequences.{Piece, escape, is_not_escape, joined, EachStands}
use Rattle.ansi_scan.specs.Joining.{is_text_kind}
use Rattle.ansi_scan.specs.Pieces.{pieces, text_len}
use Rattle.ansi_scan.specs.Attributes.{Attributes, plain_attributes}
use Rattle.ansi_scan.specs.StartsAndEnds.{start_bytes, end_bytes}
use Rattle.ansi_scan.proofs.Existence.{ArePiecesOf-pieces}
use Rattle.ansi_scan.proofs.Uniqueness.{Stands-some}
use Rattle.ansi_scan.proofs.Runs.{prefix_len-pass}
use Rattle.ansi_str_search.specs.Text.StyledText.{has_escape, text_of, strip, style_after_all}
use Rattle.ansi_str_search.specs.Parts.{from_place, before_place, through_place, dressed}
use Rattle.ansi_str_search.specs.PartsLeft.{first_match, passed_over, parts_left}
use Rattle.ansi_str_search.specs.Walking.{from_text, begins_with_escape}
use Rattle.ansi_str_search.proofs.Parts.{text_of-text, text_of-sequence}
use Rattle.ansi_str_search.proofs.PiecesAtPlaces.{joined-places, through-inside, through-past, strip-from}
use Rattle.ansi_str_search.proofs.PlaceSums.{from-from, style-before_sum, through-all, through-split, style-through_split}
use Rattle.ansi_str_search.proofs.FirstMatch.{parts_left-found, first_match-begins, first_match-within}
use Rattle.ansi_str_search.proofs.Walks.{style-plain, at_text, IsCharBoundary-drop}

-- ---- the sequences that come first

first_parted : (p : Piece) (ps : List Piece) (is_text : Bool) → is_text_kind p.kind ≡ is_text → 0 < length p.bytes → (joined ps ≡ joined (through_place 0 ps) ++ joined (from_text ps))
    → joined (p ∷ ps) ≡ joined (through_place 0 (p ∷ ps)) ++ joined (from_text (p ∷ ps))
first_parted p ps true e some others =
    let len : length (text_of p) ≡ length p.bytes = ap length (text_of-text p e) in
    let inside_first : 0 < length (text_of p) = omega (arith, len, some) in
    ap (λ found. joined found ++ (p.bytes ++ joined ps)) (sym (through-inside 0 p ps inside_first))
    ∙ ap (λ t. joined (through_place 0 (p ∷ ps)) ++ joined (if t then p ∷ ps else from_text ps)) (sym e)
first_parted p ps false e some others =
    let len : length (text_of p) ≡ 0 = ap length (text_of-sequence p e) in
    let over : length (text_of p) ≤ 0 = omega (arith, len) in
    let same : 0 - length (text_of p) ≡ 0 = omega (arith, len) in
    ap (λ bytes. p.bytes ++ bytes) others ∙ sym (append_assoc p.bytes (joined (through_place 0 ps)) (joined (from_text ps)))
    ∙ ap (λ m. joined (p ∷ through_place m ps) ++ joined (from_text ps)) (sym same)
    ∙ ap (λ found. joined found ++ joined (from_text ps)) (sym (through-past 0 p ps over))
    ∙ ap (λ t. joined (through_place 0 (p ∷ ps)) ++ joined (if t then p ∷ ps else from_text ps)) (sym e)

sequences_parted : (ps : List Piece) → EachStands ps → joined ps ≡ joined (through_place 0 ps) ++ joined (from_text ps)
sequences_parted [] each = refl
sequences_parted (p ∷ ps) each = first_parted p ps (is_text_kind p.kind) refl (Stands-some p.kind p.bytes ps each.0) (sequences_parted ps each.1)

-- ---- the slice between two places

module _ (rest : List ℕ) (style : Attributes) (n : ℕ) (cut : List ℕ) (cut_style : Attributes)
    (there : pieces cut ≡ from_place n (pieces rest)) (known : cut_style ≡ style_after_all style (before_place n (pieces rest))) where
  cut-bytes : joined (from_place n (pieces rest)) ≡ cut
  cut-bytes = ap joined (sym there) ∙ (ArePiecesOf-pieces cut).joins

  pub rest_cut : rest ≡ joined (before_place n (pieces rest)) ++ cut
  rest_cut = sym (ArePiecesOf-pieces rest).joins ∙ joined-places n (pieces rest) ∙ ap (λ bytes. joined (before_place n (pieces rest)) ++ bytes) cut-bytes

  module _ (end : List ℕ) (end_style : Attributes) (beyond : pieces end ≡ from_text (pieces cut)) (opened : end_style ≡ style_after_all cut_style (through_place 0 (pieces cut))) where
    abbrev slice : List Piece
    slice = through_place n (pieces rest)

    slice-bytes : joined slice ≡ joined (before_place n (pieces rest)) ++ joined (through_place 0 (pieces cut))
    slice-bytes = through-split n (pieces rest) ∙ ap (λ ps. joined (before_place n (pieces rest)) ++ joined (through_place 0 ps)) (sym there)

    end-bytes : cut ≡ joined (through_place 0 (pieces cut)) ++ end
    end-bytes =
        sym (ArePiecesOf-pieces cut).joins ∙ sequences_parted (pieces cut) (ArePiecesOf-pieces cut).stand
        ∙ ap (λ bytes. joined (through_place 0 (pieces cut)) ++ bytes) (ap joined (sym beyond) ∙ (ArePiecesOf-pieces end).joins)

    pub rest_slice : rest ≡ joined slice ++ end
    rest_slice =
        rest_cut ∙ ap (λ bytes. joined (before_place n (pieces rest)) ++ bytes) end-bytes
        ∙ sym (append_assoc (joined (before_place n (pieces rest))) (joined (through_place 0 (pieces cut))) end)
        ∙ ap (λ bytes. bytes ++ end) (sym slice-bytes)

    slice-taken : take (length rest - length end) rest ≡ joined slice
    slice-taken =
        let len : length rest ≡ length (joined slice ++ end) = ap length rest_slice in
        let size : length rest - length end ≡ length (joined slice) = omega (arith, len, length-append (joined slice) end) in
        ap (λ k. take k rest) size ∙ ap (take (length (joined slice))) rest_slice ∙ take-append_seam (joined slice) end

    pub slice-style : end_style ≡ style_after_all style slice
    slice-style =
        opened ∙ ap (λ s. style_after_all s (through_place 0 (pieces cut))) known
        ∙ ap (λ ps. style_after_all (style_after_all style (before_place n (pieces rest))) (through_place 0 ps)) there
        ∙ sym (style-through_split n style (pieces rest))

    pub slice_part : start_bytes style ++ (take (length rest - length end) rest ++ end_bytes end_style) ≡ dressed style slice
    slice_part = ap (λ bytes. start_bytes style ++ (bytes ++ end_bytes end_style)) slice-taken ∙ ap (λ s. start_bytes style ++ (joined slice ++ end_bytes s)) slice-style

  -- and what comes after a match of so many bytes
  module _ (size : ℕ) (next : List ℕ) (next_style : Attributes) (next_there : pieces next ≡ from_place size (pieces cut)) (next_known : next_style ≡ style_after_all cut_style (before_place size (pieces cut))) where
    pub next_pieces : pieces next ≡ from_place (n + size) (pieces rest)
    next_pieces = next_there ∙ ap (from_place size) there ∙ sym (from-from n size (pieces rest))

    pub next_open : next_style ≡ style_after_all style (before_place (n + size) (pieces rest))
    next_open =
        next_known ∙ ap (λ s. style_after_all s (before_place size (pieces cut))) known
        ∙ ap (λ ps. style_after_all (style_after_all style (before_place n (pieces rest))) (before_place size ps)) there
        ∙ sym (style-before_sum n size style (pieces rest))

-- ---- a text without ESC

no_escape-tests : (b : ℕ) (bs : List ℕ) (is_escape : Bool) → (b == escape) ≡ is_escape → (is_escape || has_escape bs) ≡ false → (has_escape bs ≡ false → text_len bs ≡ length bs) → text_len (b ∷ bs) ≡ length (b ∷ bs)
no_escape-tests b bs true e gone others = cc gone
no_escape-tests b bs false e gone others = prefix_len-pass is_not_escape b bs (ap not e) ∙ ap suc (others gone)

no_escape-plain : (t : List ℕ) → has_escape t ≡ false → text_len t ≡ length t
no_escape-plain [] gone = refl
no_escape-plain (b ∷ bs) gone = no_escape-tests b bs (b == escape) refl gone (no_escape-plain bs)

or_false : (a b : Bool) → (a || b) ≡ false → b ≡ false
or_false true b h = cc h
or_false false b h = h

-- what comes after has none either
pub no_escape-behind : (t front behind : List ℕ) → t ≡ front ++ behind → has_escape t ≡ false → has_escape behind ≡ false
no_escape-behind t front behind same gone = or_false (has_escape front) (has_escape behind) (sym (list_any-append (λ b. b == escape) front behind) ∙ ap has_escape (sym same) ∙ gone)

first-plain : (t : List ℕ) → has_escape t ≡ false → begins_with_escape t ≡ false
first-plain [] gone = refl
first-plain (b ∷ bs) gone = by (b == escape) refl gone
  where
    by : (is_escape : Bool) → (b == escape) ≡ is_escape → (is_escape || has_escape bs) ≡ false → (b == escape) ≡ false
    by true e h = cc h
    by false e h = e

-- the text shows no more bytes than it has
text_of-fits : (p : Piece) (is_text : Bool) → is_text_kind p.kind ≡ is_text → length (text_of p) ≤ length p.bytes
text_of-fits p true e = let len : length (text_of p) ≡ length p.bytes = ap length (text_of-text p e) in omega (arith, len)
text_of-fits p false e = let len : length (text_of p) ≡ 0 = ap length (text_of-sequence p e) in omega (arith, len)

strip-fits_joined : (ps : List Piece) → length (strip ps) ≤ length (joined ps)
strip-fits_joined [] = omega arith
strip-fits_joined (p ∷ ps) =
    let here = text_of-fits p (is_text_kind p.kind) refl in
    let others = strip-fits_joined ps in
    omega (arith, here, others, length-append (text_of p) (strip ps), length-append p.bytes (joined ps))

pub strip-fits : (t : List ℕ) → length (strip (pieces t)) ≤ length t
strip-fits t = let len : length (joined (pieces t)) ≡ length t = ap length (ArePiecesOf-pieces t).joins in let fits = strip-fits_joined (pieces t) in omega (arith, len, fits)

-- no style is set, up to any place
style-no_escape : (t : List ℕ) (n : ℕ) (style : Attributes) → has_escape t ≡ false → n ≤ length t → style_after_all style (before_place n (pieces t)) ≡ style
style-no_escape t n style gone fits = let all = no_escape-plain t gone in let within : n ≤ text_len t = omega (arith, all, fits) in style-plain t n within style

module _ (rest : List ℕ) (style : Attributes) (n : ℕ) (cut : List ℕ) (cut_style : Attributes)
    (there : pieces cut ≡ from_place n (pieces rest)) (known : cut_style ≡ style_after_all style (before_place n (pieces rest))) (gone : has_escape rest ≡ false) where
  pub no_escape-cut : has_escape cut ≡ false
  no_escape-cut = no_escape-behind rest (joined (before_place n (pieces rest))) cut (rest_cut rest style n cut cut_style there known) gone

  pub plain-end : (end_style : Attributes) → end_style ≡ style_after_all cut_style (through_place 0 (pieces cut)) → style ≡ plain_attributes → n ≤ length rest → end_style ≡ plain_attributes
  plain-end end_style opened plain fits = opened ∙ (at_text cut cut_style (first-plain cut no_escape-cut)).1 ∙ known ∙ style-no_escape rest n style gone fits ∙ plain

-- ---- a step

-- where the next match is, the text can be cut
pub match-cut : (pattern : List ℕ) (from : ℕ) (text : List ℕ) (found : Option ℕ) (all n : ℕ) → found ≡ first_match pattern from text → n ≡ unwrap_or found all → length text ≤ all → n < length text → IsCharBoundary text n
match-cut pattern from text None all n same is_all fits less = absurd (omega (arith, is_all, fits, less))
match-cut pattern from text (Some at) all n same is_at fits less = subst (IsCharBoundary text) (sym is_at) (first_match-begins pattern from text at (sym same))

module _ (pattern : List ℕ) (begun : Bool) (rest : List ℕ) (style : Attributes) where
  -- where no match is left, the part is all
  pub last-part : (n : ℕ) → None ≡ first_match pattern (passed_over begun pattern) (strip (pieces rest)) → length rest ≤ n
      → parts_left pattern begun style (pieces rest) ≡ dressed style (through_place n (pieces rest)) ∷ []
  last-part n same fits =
      let size = strip-fits rest in
      let over : length (strip (pieces rest)) ≤ n = omega (arith, size, fits) in
      parts_left-found pattern begun style (pieces rest) None (sym same) ∙ ap (λ ps. dressed style ps ∷ []) (sym (through-all n (pieces rest) over))

  -- the part before the next match, and those after it
  pub next-part : (n : ℕ) (next : List ℕ) (next_style : Attributes) → Some n ≡ first_match pattern (passed_over begun pattern) (strip (pieces rest))
      → pieces next ≡ from_place (n + length pattern) (pieces rest) → next_style ≡ style_after_all style (before_place (n + length pattern) (pieces rest))
      → parts_left pattern begun style (pieces rest) ≡ dressed style (through_place n (pieces rest)) ∷ parts_left pattern true next_style (pieces next)
  next-part n next next_style same there known =
      parts_left-found pattern begun style (pieces rest) (Some n) (sym same)
      ∙ ap (λ s. dressed style (through_place n (pieces rest)) ∷ parts_left pattern true s (from_place (n + length pattern) (pieces rest))) (sym known)
      ∙ ap (λ ps. dressed style (through_place n (pieces rest)) ∷ parts_left pattern true next_style ps) (sym there)

-- so many bytes fit, all or those before a match
pub match-fits : (pattern : List ℕ) (from : ℕ) (text : List ℕ) (found : Option ℕ) (all n : ℕ) → found ≡ first_match pattern from text → n ≡ unwrap_or found all → length text ≤ all → n ≤ all
match-fits pattern from text None all n same is_all fits = omega (arith, is_all)
match-fits pattern from text (Some at) all n same is_at fits = let h = first_match-within pattern from text at (sym same) in omega (arith, is_at, h, fits)

pub ends-fits : (text : List ℕ) (n : ℕ) → IsCharBoundary text n → n ≤ length text
ends-fits text n at = at.0

-- what a pattern's match leaves of a text that shows so many bytes
pub pattern-cut : (text : List ℕ) (n size : ℕ) → IsCharBoundary (strip (pieces text)) (n + size) → (cut : List ℕ) → pieces cut ≡ from_place n (pieces text) → IsCharBoundary (strip (pieces cut)) size
pattern-cut text n size at cut there = subst (λ bytes. IsCharBoundary bytes size) (sym (ap strip there ∙ strip-from n (pieces text))) (IsCharBoundary-drop (strip (pieces text)) n size at)

-- what is shown after some bytes
pub shown-behind : (k : ℕ) (all : List ℕ) (held : Option (List ℕ)) → ((bytes : List ℕ) → held ≡ Some bytes → bytes ≡ all) → (bytes : List ℕ) → option_map (drop k) held ≡ Some bytes → bytes ≡ drop k all
shown-behind k all None same bytes e = let both : false ≡ true = ap is_some e in cc both
shown-behind k all (Some found) same bytes e = ap (λ o. unwrap_or o []) (sym e) ∙ ap (drop k) (same found refl)

-- what is left after a match: its place, and what it shows
module _ (rest : List ℕ) (style : Attributes) (n : ℕ) (next : List ℕ) (next_style : Attributes)
    (there : pieces next ≡ from_place n (pieces rest)) (known : next_style ≡ style_after_all style (before_place n (pieces rest))) where
  pub left-no_escape : has_escape rest ≡ false → has_escape next ≡ false
  left-no_escape gone = no_escape-cut rest style n next next_style there known gone

  pub left-plain : has_escape rest ≡ false → style ≡ plain_attributes → n ≤ length (strip (pieces rest)) → next_style ≡ plain_attributes
  left-plain gone plain fits = let shown = strip-fits rest in let within : n ≤ length rest = omega (arith, shown, fits) in known ∙ style-no_escape rest n style gone within ∙ plain

  pub left-shown : strip (pieces next) ≡ drop n (strip (pieces rest))
  left-shown = ap strip there ∙ strip-from n (pieces rest)
