-- Steps of a cut: what is kept of the text before it, and where a text can be cut.
use Rattle.std.proofs.Common.{◌≡◌, ◌↔◌, ℕ, ◌+◌, ◌-◌, ◌<◌, ◌≤◌, ◌==◌, ◌||◌, Bool, true, false, List, [], ◌∷◌, ◌++◌, length, take, drop, refl, ap, sym, subst, ◌∙◌, arith, append-nil, length-append, Option, None, Some}
use Rattle.std.specs.Prelude.{unwrap_or}
use Rattle.std.specs.Str.{IsUtf8, IsCharBoundary}
use Rattle.std.proofs.Math.Seq.{take-append_seam}
use Rattle.std.proofs.lemmas.List.{length-drop}
use Rattle.std.proofs.lemmas.List.Folds.{list_any-append}
use Rattle.std.proofs.lemmas.Str.{IsCharBoundary-start, IsCharBoundary-from_rest}
use Rattle.ansi_scan.specs.Sequences.{Piece, escape, is_not_escape, joined, Stands, EachStands, ArePiecesOf}
use Rattle.ansi_scan.specs.Joining.{is_text_kind}
use Rattle.ansi_scan.specs.Pieces.{pieces, text_len}
use Rattle.ansi_scan.specs.Attributes.{Attributes, plain_attributes}
use Rattle.ansi_scan.specs.StartsAndEnds.{end_bytes}
use Rattle.ansi_scan.proofs.Existence.{ArePiecesOf-pieces}
use Rattle.ansi_scan.proofs.Uniqueness.{ArePiecesOf-unique, begins_with_escape}
use Rattle.std.specs.List.{prefix_len}
use Rattle.ansi_str.specs.StyledText.{has_escape, text_of, strip, style_after_all}
use Rattle.ansi_str.specs.Parts.{from_place, before_place, through_place, IsGoodBound}
use Rattle.ansi_str.specs.Walking.{sequences}
use Rattle.ansi_str.specs.Cuts.{AreGoodBounds, cut_part}
use Rattle.ansi_str.specs.CutEnds.{AreCutEnds}
use Rattle.ansi_str_search.proofs.Parts.{text_of-text, text_of-sequence, style_by-text}
use Rattle.ansi_str_search.proofs.Styles.{front_of-style}
use Rattle.ansi_str_search.proofs.PiecesAtPlaces.{none, inside, past, reach, has_text, before-none, before-inside, before-past, through-inside, through-past, strip-from, joined-places}
use Rattle.ansi_str_search.proofs.Dressed.{short, long, cut}
use Rattle.ansi_str_search.proofs.PlainParts.{end_bytes-plain}
use Rattle.ansi_str_search.proofs.Walks.{run_boundary, run_within, run_of, from-plain, IsCharBoundary-drop, strip-sequence}
use Rattle.ansi_str_search.proofs.Rests.{strip-fits}
use Rattle.ansi_str_search.proofs.Searches.{of_pieces}
use Rattle.ansi_str_search.proofs.Utf8.{EachUtf8-pieces, IsUtf8-strip}
use Rattle.ansi_str.proofs.CutParts.{sequences-text, sequences-sequence, cut_part-slice, cut_part-ends, style-cut}

-- ---- the sequences before a place

pub sequences-past_text : (n : ℕ) (p : Piece) (ps : List Piece) → 0 < n → is_text_kind p.kind ≡ true → sequences (before_place n (p ∷ ps)) ≡ sequences (before_place (n - length p.bytes) ps)
sequences-past_text n p ps some text = elim (reach n p) [
  | none e ↦ absurd (omega (arith, e, some))
  | inside more h ↦
      let over : 0 ≡ n - length p.bytes = omega (arith, h, ap length (text_of-text p text)) in
      ap sequences (before-inside n p ps more h) ∙ sequences-text (record { kind = p.kind; bytes = take n p.bytes }) [] text
      ∙ ap sequences (sym (before-none ps)) ∙ ap (λ m. sequences (before_place m ps)) over
  | past more h ↦
      let left : n - length (text_of p) ≡ n - length p.bytes = omega (arith, ap length (text_of-text p text)) in
      ap sequences (before-past n p ps more h) ∙ sequences-text p (before_place (n - length (text_of p)) ps) text ∙ ap (λ m. sequences (before_place m ps)) left
]

pub sequences-past_sequence : (n : ℕ) (p : Piece) (ps : List Piece) → 0 < n → is_text_kind p.kind ≡ false → sequences (before_place n (p ∷ ps)) ≡ p.bytes ++ sequences (before_place n ps)
sequences-past_sequence n p ps some other =
    let long_n : length (text_of p) ≤ n = omega (arith, ap length (text_of-sequence p other)) in
    let left : n - length (text_of p) ≡ n = omega (arith, ap length (text_of-sequence p other)) in
    ap sequences (before-past n p ps some long_n) ∙ sequences-sequence p (before_place (n - length (text_of p)) ps) other ∙ ap (λ m. p.bytes ++ sequences (before_place m ps)) left

-- ---- without ESC

either_false : (a b : Bool) → (a || b) ≡ false → (a ≡ false) × (b ≡ false)
either_false true b h = cc h
either_false false b h = (refl, h)

pub no_escape-parts : (xs ys : List ℕ) → has_escape (xs ++ ys) ≡ false → (has_escape xs ≡ false) × (has_escape ys ≡ false)
no_escape-parts xs ys gone = either_false (has_escape xs) (has_escape ys) (sym (list_any-append (λ b. b == escape) xs ys) ∙ gone)

sequence_escapes : (p : Piece) (ps : List Piece) (text : Bool) → is_text_kind p.kind ≡ text → Stands p.kind p.bytes ps → has_escape p.bytes ≡ false → text ≡ true
sequence_escapes p ps true e stands gone = refl
sequence_escapes p ps false e stands gone =
    let begins = begins_with_escape p.kind p.bytes ps stands (λ same. let both : true ≡ false = ap is_text_kind (sym same) ∙ e in cc both) in
    let both : true ≡ false = ap has_escape (sym begins.1) ∙ gone in
    cc both

-- a piece without ESC is one of text
text-piece : (p : Piece) (ps : List Piece) → Stands p.kind p.bytes ps → has_escape p.bytes ≡ false → is_text_kind p.kind ≡ true
text-piece p ps stands gone = sequence_escapes p ps (is_text_kind p.kind) refl stands gone

-- no sequence is among and before some bytes without ESC
pub sequences-none : (n : ℕ) (ps : List Piece) → EachStands ps → has_escape (joined (before_place n ps)) ≡ false → sequences (before_place n ps) ≡ []
sequences-none n [] each gone = refl
sequences-none n (p ∷ ps) each gone = elim (reach n p) [
  | none e ↦ ap (λ m. sequences (before_place m (p ∷ ps))) e
  | inside some h ↦ ap sequences (before-inside n p ps some h) ∙ sequences-text (record { kind = p.kind; bytes = take n p.bytes }) [] (has_text p n h)
  | past some h ↦
      let rest = before_place (n - length (text_of p)) ps in
      let parts = no_escape-parts p.bytes (joined rest) (ap (λ found. has_escape (joined found)) (sym (before-past n p ps some h)) ∙ gone) in
      ap sequences (before-past n p ps some h) ∙ sequences-text p rest (text-piece p ps each.0 parts.0) ∙ sequences-none (n - length (text_of p)) ps each.1 parts.1
]

-- no style is set through any place
plain-pieces : (n : ℕ) (ps : List Piece) (style : Attributes) → EachStands ps → has_escape (joined ps) ≡ false → style_after_all style (through_place n ps) ≡ style
plain-pieces n [] style each gone = refl
plain-pieces n (p ∷ ps) style each gone =
    let parts = no_escape-parts p.bytes (joined ps) gone in
    let text = text-piece p ps each.0 parts.0 in
    elim (cut n p) [
      | short h ↦ ap (style_after_all style) (through-inside n p ps h) ∙ front_of-style style n p (n == 0) text refl
      | long h ↦
          ap (style_after_all style) (through-past n p ps h)
          ∙ ap (λ s. style_after_all s (through_place (n - length (text_of p)) ps)) (style_by-text style p.kind p.bytes text)
          ∙ plain-pieces (n - length (text_of p)) ps style each.1 parts.1
    ]

pub plain-through : (n : ℕ) (t : List ℕ) (style : Attributes) → has_escape t ≡ false → style_after_all style (through_place n (pieces t)) ≡ style
plain-through n t style gone = plain-pieces n (pieces t) style (ArePiecesOf-pieces t).stand (ap has_escape (ArePiecesOf-pieces t).joins ∙ gone)

-- ---- where a text can be cut

pub good-none : (text : List ℕ) (n : ℕ) → length text ≤ n → IsGoodBound text n
good-none text n over = λ less. absurd (omega (arith, over, less))

-- a bound that is good in the pieces of a text is good in all of its pieces
pub good-in-all : (text : List ℕ) (n : ℕ) → IsGoodBound (strip (pieces text)) n → (ps : List Piece) → ArePiecesOf text ps → IsGoodBound (strip ps) n
good-in-all text n good = of_pieces (λ (ps : List Piece). IsGoodBound (strip ps) n) text good

module _ (bytes : List ℕ) (k n : ℕ) (order : k ≤ n) where
  sum : k + (n - k) ≡ n
  sum = omega arith

  pub good-drop : IsGoodBound bytes n → IsGoodBound (drop k bytes) (n - k)
  good-drop good = λ less.
      let inside_bytes : n < length bytes = omega (arith, less, length-drop k bytes) in
      IsCharBoundary-drop bytes k (n - k) (subst (IsCharBoundary bytes) (sym sum) (good inside_bytes))

  pub good-undrop : IsGoodBound (drop k bytes) (n - k) → IsGoodBound bytes n
  good-undrop good = λ less.
      let left : n - k < length (drop k bytes) = omega (arith, less, length-drop k bytes) in
      let fits : k ≤ length bytes = omega (arith, less) in
      subst (IsCharBoundary bytes) sum (IsCharBoundary-from_rest bytes k (n - k) fits (good left))

pub run-left : (rest : List ℕ) (left k : ℕ) → k ≡ prefix_len is_not_escape (take left rest) → k ≤ left
run-left rest left k is_run = omega (arith, is_run, run_within is_not_escape left rest)

run-within : (rest : List ℕ) (left k : ℕ) → k ≡ prefix_len is_not_escape (take left rest) → k ≤ text_len rest
run-within rest left k is_run = omega (arith, is_run, (run_of is_not_escape left rest).0)

-- a bound is as good here as that one is there
abbrev pub SameBound : List ℕ → ℕ → List ℕ → ℕ → Type 0
SameBound rest left text at = IsGoodBound (strip (pieces rest)) left ↔ IsGoodBound (strip (pieces text)) at

module _ (rest : List ℕ) (left : ℕ) (text : List ℕ) (at : ℕ) (same : SameBound rest left text at) where
  -- over some bytes of text
  module _ (k : ℕ) (is_run : k ≡ prefix_len is_not_escape (take left rest)) where
    pub SameBound-plain : SameBound (drop k rest) (left - k) text at
    SameBound-plain =
        let order = run-left rest left k is_run in
        let stripped : strip (pieces (drop k rest)) ≡ drop k (strip (pieces rest)) = ap strip (sym (from-plain rest k (run-within rest left k is_run))) ∙ strip-from k (pieces rest) in (
          λ good. same.0 (good-undrop (strip (pieces rest)) k left order (subst (λ bytes. IsGoodBound bytes (left - k)) stripped good)),
          λ good. subst (λ bytes. IsGoodBound bytes (left - k)) (sym stripped) (good-drop (strip (pieces rest)) k left order (same.1 good)),
        )

    pub bound-inside : IsGoodBound (strip (pieces text)) at → IsCharBoundary rest k
    bound-inside good = run_boundary rest plain_attributes left rest plain_attributes left (record { found = refl; styled = refl; cut = same.1 good }) k is_run

  -- over a sequence
  pub bound-sequence : (behind : List ℕ) (first : Piece) → pieces rest ≡ first ∷ pieces behind → prefix_len is_not_escape rest ≡ 0 → SameBound behind left text at
  bound-sequence behind first read gone =
      let stripped = strip-sequence rest behind first read gone in
      (λ good. same.0 (subst (λ bytes. IsGoodBound bytes left) (sym stripped) good), λ good. subst (λ bytes. IsGoodBound bytes left) stripped (same.1 good))

  -- at the start, and after all
  pub bound-front : IsUtf8 rest → left ≤ 0 → IsGoodBound (strip (pieces text)) at
  bound-front utf8 over =
      let whole = ArePiecesOf-pieces rest in
      let stripped = IsUtf8-strip (pieces rest) (EachUtf8-pieces (pieces rest) whole.stand (subst IsUtf8 (sym whole.joins) utf8)) in
      let front : 0 ≡ left = omega (arith, over) in
      same.0 (λ _. subst (IsCharBoundary (strip (pieces rest))) front (IsCharBoundary-start (strip (pieces rest)) stripped))

  pub bound-end : length rest ≡ 0 → IsGoodBound (strip (pieces text)) at
  bound-end empty = let over : length (strip (pieces rest)) ≤ left = omega (arith, strip-fits rest, empty) in same.0 (good-none (strip (pieces rest)) left over)

-- ---- the ends of a cut

good-fits : (text : List ℕ) (start : ℕ) (end : Option ℕ) (most n : ℕ) → AreGoodBounds text start end → n ≡ unwrap_or end most → length text ≤ most → start ≤ most → (start ≤ n) × IsGoodBound text n
good-fits text start None most n good same over order = (omega (arith, same, order), good-none text n (omega (arith, same, over)))
good-fits text start (Some end) most n good same over order = (subst (λ m. start ≤ m) (sym same) good.ordered, subst (IsGoodBound text) (sym same) good.end_good)

-- a missing end is past the text
cut_part-end : (ps : List Piece) (start : ℕ) (end : Option ℕ) (most n : ℕ) → n ≡ unwrap_or end most → length (strip ps) ≤ most → cut_part start n ps ≡ cut_part start (unwrap_or end (length (strip ps))) ps
cut_part-end ps start None most n same over =
    let fits : length (strip ps) ≤ length (strip ps) = omega arith in
    cut_part-ends start n (length (strip ps)) ps (omega (arith, same, over)) fits
cut_part-end ps start (Some end) most n same over = ap (λ m. cut_part start m ps) same

-- ---- a cut

-- a slice, by what comes after it
pub slice-bytes : (rest slice end : List ℕ) → rest ≡ slice ++ end → take (length rest - length end) rest ≡ slice
slice-bytes rest slice end same =
    let len : length rest ≡ length (slice ++ end) = ap length same in
    let size : length rest - length end ≡ length slice = omega (arith, len, length-append slice end) in
    ap (λ k. take k rest) size ∙ ap (take (length slice)) same ∙ take-append_seam slice end

module _ (text : List ℕ) (start n : ℕ) (order : start ≤ n) (first : List ℕ) (first_style : Attributes)
    (there : pieces first ≡ from_place start (pieces text)) (known : first_style ≡ style_after_all plain_attributes (before_place start (pieces text)))
    (last : List ℕ) (last_style : Attributes) (sliced : first ≡ joined (through_place (n - start) (pieces first)) ++ last)
    (opened : last_style ≡ style_after_all first_style (through_place (n - start) (pieces first))) where
  end_style : last_style ≡ style_after_all plain_attributes (through_place n (pieces text))
  end_style =
      opened ∙ ap (λ s. style_after_all s (through_place (n - start) (pieces first))) known
      ∙ ap (λ ps. style_after_all (style_after_all plain_attributes (before_place start (pieces text))) (through_place (n - start) ps)) there
      ∙ sym (style-cut start n plain_attributes (pieces text) order)

  cut-bytes : sequences (before_place start (pieces text)) ++ (take (length first - length last) first ++ end_bytes last_style) ≡ cut_part start n (pieces text)
  cut-bytes =
      let before = sequences (before_place start (pieces text)) in
      ap (λ bytes. before ++ (bytes ++ end_bytes last_style)) (slice-bytes first (joined (through_place (n - start) (pieces first))) last sliced ∙ ap (λ ps. joined (through_place (n - start) ps)) there)
      ∙ ap (λ s. before ++ (joined (through_place (n - start) (from_place start (pieces text))) ++ end_bytes s)) end_style
      ∙ sym (cut_part-slice start n (pieces text) order)

  -- without ESC the style at the end is plain
  plain-cut_end : has_escape text ≡ false → last_style ≡ plain_attributes
  plain-cut_end gone = end_style ∙ plain-through n text plain_attributes gone

  parted-first : text ≡ joined (before_place start (pieces text)) ++ first
  parted-first = sym (ArePiecesOf-pieces text).joins ∙ joined-places start (pieces text) ∙ ap (λ rest. joined (before_place start (pieces text)) ++ rest) (ap joined (sym there) ∙ (ArePiecesOf-pieces first).joins)

  before-bytes : take (length text - length first) text ≡ joined (before_place start (pieces text))
  before-bytes = slice-bytes text (joined (before_place start (pieces text))) first parted-first

  -- where no ESC comes before it, and no style is open
  plain-bytes : has_escape (take (length text - length first) text) ≡ false → last_style ≡ plain_attributes → take (length first - length last) first ≡ cut_part start n (pieces text)
  plain-bytes gone plain =
      let slice = take (length first - length last) first in
      let none_before = sequences-none start (pieces text) (ArePiecesOf-pieces text).stand (ap has_escape (sym before-bytes) ∙ gone) in
      sym (append-nil slice) ∙ ap (λ bytes. slice ++ bytes) (sym end_bytes-plain) ∙ ap (λ s. slice ++ end_bytes s) (sym plain)
      ∙ ap (λ bytes. bytes ++ (slice ++ end_bytes last_style)) (sym none_before) ∙ cut-bytes

-- a place from the start of a text
placed-first : (text from : List ℕ) (style : Attributes) (n : ℕ) (first : List ℕ) (first_style : Attributes) → from ≡ text → style ≡ plain_attributes
    → pieces first ≡ from_place n (pieces from) → first_style ≡ style_after_all style (before_place n (pieces from))
    → (pieces first ≡ from_place n (pieces text)) × (first_style ≡ style_after_all plain_attributes (before_place n (pieces text)))
placed-first text from style n first first_style same plain there known = (
  there ∙ ap (λ t. from_place n (pieces t)) same,
  known ∙ ap (λ s. style_after_all s (before_place n (pieces from))) plain ∙ ap (λ t. style_after_all plain_attributes (before_place n (pieces t))) same,
)

pub AreCutEnds-found : (text : List ℕ) (start : ℕ) (end : Option ℕ) (most n : ℕ) → AreGoodBounds (strip (pieces text)) start end → n ≡ unwrap_or end most → length text ≤ most → start ≤ most
    → (from : List ℕ) (style : Attributes) (first : List ℕ) (first_style : Attributes) → from ≡ text → style ≡ plain_attributes
    → pieces first ≡ from_place start (pieces from) → first_style ≡ style_after_all style (before_place start (pieces from))
    → (last : List ℕ) (last_style : Attributes) → first ≡ joined (through_place (n - start) (pieces first)) ++ last
    → last_style ≡ style_after_all first_style (through_place (n - start) (pieces first)) → AreCutEnds text start end first last last_style
AreCutEnds-found text start end most n good same small order from style first first_style is_text is_plain there known last last_style sliced opened =
    let shown = strip-fits text in
    let fits : length (strip (pieces text)) ≤ most = omega (arith, shown, small) in
    let at = placed-first text from style start first first_style is_text is_plain there known in
    let bounds = good-fits (strip (pieces text)) start end most n good same fits order in
    let ended : (ps : List Piece) → ArePiecesOf text ps → cut_part start n (pieces text) ≡ cut_part start (unwrap_or end (length (strip ps))) ps =
    λ ps of_text. cut_part-end (pieces text) start end most n same fits
    ∙ ap (λ qs. cut_part start (unwrap_or end (length (strip qs))) qs) (ArePiecesOf-unique text (pieces text) ps (ArePiecesOf-pieces text) of_text) in
    let parted = parted-first text start n bounds.0 first first_style at.0 at.1 last last_style sliced opened in
    record {
      behind = parted;
      slice = joined (through_place (n - start) (pieces first));
      sliced = sliced;
      none_before = λ gone. ap has_escape (slice-bytes text (joined (before_place start (pieces text))) first parted)
          ∙ (no_escape-parts (joined (before_place start (pieces text))) first (ap has_escape (sym parted) ∙ gone)).0;
      spelled = λ ps of_text. cut-bytes text start n bounds.0 first first_style at.0 at.1 last last_style sliced opened ∙ ended ps of_text;
      plain = plain-cut_end text start n bounds.0 first first_style at.0 at.1 last last_style sliced opened;
      bare = λ gone plain ps of_text. plain-bytes text start n bounds.0 first first_style at.0 at.1 last last_style sliced opened gone plain ∙ ended ps of_text;
    }

-- the bounds of the slice
pub cut-bounds : (text : List ℕ) (start : ℕ) (end : Option ℕ) (most n : ℕ) → AreGoodBounds (strip (pieces text)) start end → n ≡ unwrap_or end most → length text ≤ most → start ≤ most
    → (start ≤ n) × ((first : List ℕ) → pieces first ≡ from_place start (pieces text) → IsGoodBound (strip (pieces first)) (n - start))
cut-bounds text start end most n good same small order =
    let shown = strip-fits text in
    let fits : length (strip (pieces text)) ≤ most = omega (arith, shown, small) in
    let bounds = good-fits (strip (pieces text)) start end most n good same fits order in (
      bounds.0,
      λ first there. subst (λ bytes. IsGoodBound bytes (n - start)) (sym (ap strip there ∙ strip-from start (pieces text))) (good-drop (strip (pieces text)) start n bounds.0 bounds.1),
    )

pub true-unless : (test : Bool) → (test ≡ false → ⊥) → test ≡ true
true-unless true h = refl
true-unless false h = absurd (h refl)
