-- Steps through a text: over some bytes of text, or over a sequence.
use Rattle.std.proofs.Common.{◌≡◌, ◌≢◌, ◌⊎◌, inl, inr, ℕ, zero, suc, ◌+◌, ◌-◌, ◌<◌, ◌≤◌, ◌==◌, nat_lt, Bool, true, false, not, List, [], ◌∷◌, ◌++◌, length, take, drop, refl, ap, sym, subst, ◌∙◌, arith, length-append, eqb-true, if◌then◌else◌}
use Rattle.std.specs.List.{prefix_len}
use Rattle.std.specs.Str.{IsCharBoundary}
use Rattle.std.proofs.Math.ListN.{get_or, get_or-append}
use Rattle.std.proofs.Math.Seq.{drop-append_seam}
use Rattle.std.proofs.lemmas.Bool.Decides.{nat_tests}
use Rattle.std.proofs.lemmas.List.{length-take, length-drop, get_or-drop, take-append-le}
use Rattle.std.proofs.lemmas.Str.{IsCharBoundary-end, IsCharBoundary-before_ascii}
use Rattle.ansi_scan.specs.declared.items.Kind.{Kind}
use Rattle.ansi_scan.specs.declared.items.Kind.TheVariants.{Text, Sgr, Csi, Osc, Esc, Str, Broken}
use Rattle.ansi_scan.specs.Sequences.{Piece, escape, is_not_escape, joined, Stands, EachStands}
use Rattle.ansi_scan.specs.Joining.{is_text_kind}
use Rattle.ansi_scan.specs.Pieces.{pieces, text_len}
use Rattle.ansi_scan.specs.Attributes.{Attributes}
use Rattle.ansi_scan.proofs.Existence.{ArePiecesOf-pieces}
use Rattle.ansi_scan.proofs.Uniqueness.{pieces-joined, text_len-joined, Stands-some}
use Rattle.std.proofs.lemmas.List.Sums.{prefix_len-le-length, prefix_len_stops}
use Rattle.ansi_scan.proofs.Runs.{prefix_len-run, prefix_len-pass, prefix_len-fail}
use Rattle.ansi_str_search.specs.Text.StyledText.{text_of, strip, style_after, style_after_all}
use Rattle.ansi_str_search.specs.Parts.{from_place, before_place, through_place}
use Rattle.ansi_str_search.specs.Walking.{from_text, begins_with_escape, AreFirstAndRest}
use Rattle.ansi_str_search.proofs.Parts.{text_of-text, text_of-sequence, style_by-text}
use Rattle.ansi_str_search.proofs.PiecesAtPlaces.{none, inside, past, reach, strip-from, from-none, before-none, from-inside, from-past, before-past, before-inside, through-inside, through-past, drop-append_inside, EachStands-from}
use Rattle.ansi_str_search.proofs.PlaceSums.{from-from, style-before_sum}

-- ---- a text that begins with text

pub record BeginsWithText (t : List ℕ) : Type 0 where
  pub first : Piece
  pub after : List Piece
  pub is_text : is_text_kind first.kind ≡ true
  pub read : pieces t ≡ first ∷ after
  pub joins : first.bytes ++ joined after ≡ t
  pub len : text_len t ≡ length first.bytes
  pub stand : EachStands (first ∷ after)

text_len-text : (bytes : List ℕ) (after : List Piece) → Stands Text bytes after → EachStands after → text_len (bytes ++ joined after) ≡ length bytes
text_len-text bytes after stands each = prefix_len-run is_not_escape bytes (joined after) stands.plain (text_len-joined after each stands.ends)

other_len : (kind : Kind) (bytes : List ℕ) (after : List Piece) → EachStands (record { kind = kind; bytes = bytes } ∷ after) → kind ≢ Text → text_len (bytes ++ joined after) ≡ 0
other_len kind bytes after each other = text_len-joined (record { kind = kind; bytes = bytes } ∷ after) each other

module _ (t : List ℕ) where
  begins_with : (kind : Kind) (bytes : List ℕ) (after : List Piece) → EachStands (record { kind = kind; bytes = bytes } ∷ after) → bytes ++ joined after ≡ t → pieces t ≡ record { kind = kind; bytes = bytes } ∷ after → 0 < text_len t → BeginsWithText t
  begins_with Text bytes after each joins read some = record {
    first = record { kind = Text; bytes = bytes };
    after = after;
    is_text = refl;
    read = read;
    joins = joins;
    len = ap text_len (sym joins) ∙ text_len-text bytes after each.0 each.1;
    stand = each;
  }
  begins_with Sgr bytes after each joins read some = let void = ap text_len (sym joins) ∙ other_len Sgr bytes after each (λ e. cc e) in absurd (omega (arith, void))
  begins_with Csi bytes after each joins read some = let void = ap text_len (sym joins) ∙ other_len Csi bytes after each (λ e. cc e) in absurd (omega (arith, void))
  begins_with Osc bytes after each joins read some = let void = ap text_len (sym joins) ∙ other_len Osc bytes after each (λ e. cc e) in absurd (omega (arith, void))
  begins_with Esc bytes after each joins read some = let void = ap text_len (sym joins) ∙ other_len Esc bytes after each (λ e. cc e) in absurd (omega (arith, void))
  begins_with Str bytes after each joins read some = let void = ap text_len (sym joins) ∙ other_len Str bytes after each (λ e. cc e) in absurd (omega (arith, void))
  begins_with Broken bytes after each joins read some = let void = ap text_len (sym joins) ∙ other_len Broken bytes after each (λ e. cc e) in absurd (omega (arith, void))

  begins_with-pieces : (ps : List Piece) → EachStands ps → joined ps ≡ t → pieces t ≡ ps → 0 < text_len t → BeginsWithText t
  begins_with-pieces [] each joins read some = let void = ap text_len (sym joins) in absurd (omega (arith, void))
  begins_with-pieces (p ∷ after) each joins read some = begins_with p.kind p.bytes after each joins read some

  pub BeginsWithText-some : 0 < text_len t → BeginsWithText t
  BeginsWithText-some some = let are = ArePiecesOf-pieces t in begins_with-pieces (pieces t) are.stand are.joins refl some

-- ---- some bytes of text are passed

module _ (k : ℕ) (first : Piece) (after : List Piece) (is_text : is_text_kind first.kind ≡ true) (within : k ≤ length first.bytes) where
  same_len : length (text_of first) ≡ length first.bytes
  same_len = ap length (text_of-text first is_text)

  joined-from_text : joined (from_place k (first ∷ after)) ≡ drop k (first.bytes ++ joined after)
  joined-from_text = elim (reach k first) [
    | none e ↦ ap (λ m. joined (from_place m (first ∷ after))) e ∙ ap (λ m. drop m (first.bytes ++ joined after)) (sym e)
    | inside some h ↦ ap joined (from-inside k first after some h) ∙ sym (drop-append_inside first.bytes (joined after) k within)
    | past some h ↦
        let len = same_len in
        let over : k - length (text_of first) ≡ 0 = omega arith in
        let all : length first.bytes ≡ k = omega arith in
        ap joined (from-past k first after some h) ∙ ap (λ m. joined (from_place m after)) over ∙ ap joined (from-none after)
        ∙ sym (drop-append_seam first.bytes (joined after)) ∙ ap (λ m. drop m (first.bytes ++ joined after)) all
  ]

  style-before_text : (style : Attributes) → style_after_all style (before_place k (first ∷ after)) ≡ style
  style-before_text style = elim (reach k first) [
    | none e ↦ ap (λ m. style_after_all style (before_place m (first ∷ after))) e
    | inside some h ↦ ap (style_after_all style) (before-inside k first after some h) ∙ style_by-text style first.kind (take k first.bytes) is_text
    | past some h ↦
        let len = same_len in
        let over : k - length (text_of first) ≡ 0 = omega arith in
        ap (style_after_all style) (before-past k first after some h) ∙ ap (λ m. style_after_all (style_after style first) (before_place m after)) over
        ∙ ap (style_after_all (style_after style first)) (before-none after) ∙ style_by-text style first.kind first.bytes is_text
  ]

module _ (t : List ℕ) (k : ℕ) (within : k ≤ text_len t) where
  joined-behind_zero : k ≡ 0 → joined (from_place k (pieces t)) ≡ drop k t
  joined-behind_zero e = ap (λ m. joined (from_place m (pieces t))) e ∙ ap joined (from-none (pieces t)) ∙ (ArePiecesOf-pieces t).joins ∙ ap (λ m. drop m t) (sym e)

  joined-behind : (is_zero : Bool) → (k == 0) ≡ is_zero → joined (from_place k (pieces t)) ≡ drop k t
  joined-behind true e = joined-behind_zero (eqb-true k 0 e)
  joined-behind false e =
      let some : 0 < text_len t = grind (arith, nat_tests) in
      let begins = BeginsWithText-some t some in
      let fits : k ≤ length begins.first.bytes = omega (arith, begins.len) in
      ap (λ found. joined (from_place k found)) begins.read
      ∙ joined-from_text k begins.first begins.after begins.is_text fits
      ∙ ap (drop k) begins.joins

  -- after some bytes of text are the pieces of the bytes after them
  pub from-plain : from_place k (pieces t) ≡ pieces (drop k t)
  from-plain = sym (pieces-joined (from_place k (pieces t)) (EachStands-from k (pieces t) (ArePiecesOf-pieces t).stand)) ∙ ap pieces (joined-behind (k == 0) refl)

  style-plain_or : (style : Attributes) (is_zero : Bool) → (k == 0) ≡ is_zero → style_after_all style (before_place k (pieces t)) ≡ style
  style-plain_or style true e = ap (λ m. style_after_all style (before_place m (pieces t))) (eqb-true k 0 e) ∙ ap (style_after_all style) (before-none (pieces t))
  style-plain_or style false e =
      let some : 0 < text_len t = grind (arith, nat_tests) in
      let begins = BeginsWithText-some t some in
      let fits : k ≤ length begins.first.bytes = omega (arith, begins.len) in
      ap (λ found. style_after_all style (before_place k found)) begins.read ∙ style-before_text k begins.first begins.after begins.is_text fits style

  -- and they leave the style as it is
  pub style-plain : (style : Attributes) → style_after_all style (before_place k (pieces t)) ≡ style
  style-plain style = style-plain_or style (k == 0) refl

-- ---- where a text that begins with text can be cut

-- the stripped text begins with the same bytes
pub take-strip : (t : List ℕ) (k : ℕ) → k ≤ text_len t → take k (strip (pieces t)) ≡ take k t
take-strip t k within = by (k == 0) refl
  where
    by : (is_zero : Bool) → (k == 0) ≡ is_zero → take k (strip (pieces t)) ≡ take k t
    by true e = let gone = eqb-true k 0 e in ap (λ m. take m (strip (pieces t))) gone ∙ ap (λ m. take m t) (sym gone)
    by false e =
        let some : 0 < text_len t = grind (arith, nat_tests) in
        let begins = BeginsWithText-some t some in
        let fits : k ≤ length begins.first.bytes = omega (arith, begins.len) in
        ap (λ ps. take k (strip ps)) begins.read ∙ ap (λ bytes. take k (bytes ++ strip begins.after)) (text_of-text begins.first begins.is_text)
        ∙ take-append-le k begins.first.bytes (strip begins.after) fits
        ∙ sym (take-append-le k begins.first.bytes (joined begins.after) fits) ∙ ap (take k) begins.joins

pub strip_byte : (t : List ℕ) (k : ℕ) → k < text_len t → (get_or (strip (pieces t)) k 0 ≡ get_or t k 0) × (k < length (strip (pieces t)))
strip_byte t k within =
    let some : 0 < text_len t = omega arith in
    let begins = BeginsWithText-some t some in
    let fits : k < length begins.first.bytes = omega (arith, begins.len) in
    let own : strip (pieces t) ≡ begins.first.bytes ++ strip begins.after = ap strip begins.read ∙ ap (λ bytes. bytes ++ strip begins.after) (text_of-text begins.first begins.is_text) in
    let len : length (strip (pieces t)) ≡ length (begins.first.bytes ++ strip begins.after) = ap length own in (
      ap (λ bytes. get_or bytes k 0) own ∙ get_or-append begins.first.bytes (strip begins.after) 0 k fits
          ∙ sym (get_or-append begins.first.bytes (joined begins.after) 0 k fits) ∙ ap (λ bytes. get_or bytes k 0) begins.joins,
      omega (arith, len, length-append begins.first.bytes (strip begins.after)),
    )

-- ---- a text that begins with a sequence

kind-sequence : (kind : Kind) (bytes : List ℕ) (after : List Piece) → EachStands (record { kind = kind; bytes = bytes } ∷ after) → text_len (bytes ++ joined after) ≡ 0 → is_text_kind kind ≡ false
kind-sequence Text bytes after each gone = let same = text_len-text bytes after each.0 each.1 in absurd (omega (arith, same, gone, each.0.some))
kind-sequence Sgr bytes after each gone = refl
kind-sequence Csi bytes after each gone = refl
kind-sequence Osc bytes after each gone = refl
kind-sequence Esc bytes after each gone = refl
kind-sequence Str bytes after each gone = refl
kind-sequence Broken bytes after each gone = refl

module _ (t rest : List ℕ) (first : Piece) (read : pieces t ≡ first ∷ pieces rest) where
  each : EachStands (first ∷ pieces rest)
  each = subst EachStands read (ArePiecesOf-pieces t).stand

  joins : first.bytes ++ rest ≡ t
  joins = ap (λ bytes. first.bytes ++ bytes) (sym (ArePiecesOf-pieces rest).joins) ∙ ap joined (sym read) ∙ (ArePiecesOf-pieces t).joins

  -- after the first piece there is less
  pub first-shorter : length rest < length t
  first-shorter =
      let len : length (first.bytes ++ rest) ≡ length t = ap length joins in
      omega (arith, len, length-append first.bytes rest, Stands-some first.kind first.bytes (pieces rest) each.0)

  pub first-sequence : text_len t ≡ 0 → is_text_kind first.kind ≡ false
  first-sequence gone = kind-sequence first.kind first.bytes (pieces rest) each (ap text_len (ap (λ bytes. first.bytes ++ bytes) (ArePiecesOf-pieces rest).joins ∙ joins) ∙ gone)

  -- a sequence that begins the text has no part in places after it
  module _ (gone : text_len t ≡ 0) where
    nothing : text_of first ≡ []
    nothing = text_of-sequence first (first-sequence gone)

    pub strip-sequence : strip (pieces t) ≡ strip (pieces rest)
    strip-sequence = ap strip read ∙ ap (λ bytes. bytes ++ strip (pieces rest)) nothing

    pub from-sequence : (n : ℕ) → 0 < n → from_place n (pieces t) ≡ from_place n (pieces rest)
    from-sequence n some =
        let len : length (text_of first) ≡ 0 = ap length nothing in
        let over : length (text_of first) ≤ n = omega arith in
        let same : n - length (text_of first) ≡ n = omega arith in
        ap (from_place n) read ∙ from-past n first (pieces rest) some over ∙ ap (λ m. from_place m (pieces rest)) same

    pub style-sequence : (n : ℕ) (style : Attributes) → 0 < n → style_after_all style (before_place n (pieces t)) ≡ style_after_all (style_after style first) (before_place n (pieces rest))
    style-sequence n style some =
        let len : length (text_of first) ≡ 0 = ap length nothing in
        let over : length (text_of first) ≤ n = omega arith in
        let same : n - length (text_of first) ≡ n = omega arith in
        ap (λ found. style_after_all style (before_place n found)) read ∙ ap (style_after_all style) (before-past n first (pieces rest) some over)
        ∙ ap (λ m. style_after_all (style_after style first) (before_place m (pieces rest))) same

    pub from_text-sequence : from_text (pieces t) ≡ from_text (pieces rest)
    from_text-sequence = ap from_text read ∙ ap (λ test. if test then first ∷ pieces rest else from_text (pieces rest)) (first-sequence gone)

    pub style_through-sequence : (style : Attributes) → style_after_all style (through_place 0 (pieces t)) ≡ style_after_all (style_after style first) (through_place 0 (pieces rest))
    style_through-sequence style =
        let len : length (text_of first) ≡ 0 = ap length nothing in
        let over : length (text_of first) ≤ 0 = omega arith in
        let same : 0 - length (text_of first) ≡ 0 = omega arith in
        ap (λ found. style_after_all style (through_place 0 found)) read ∙ ap (style_after_all style) (through-past 0 first (pieces rest) over)
        ∙ ap (λ m. style_after_all (style_after style first) (through_place m (pieces rest))) same

-- ---- a text that does not begin with a sequence

pub from_text-text : (t : List ℕ) → 0 < text_len t → from_text (pieces t) ≡ pieces t
from_text-text t some =
    let begins = BeginsWithText-some t some in
    ap from_text begins.read ∙ ap (λ test. if test then begins.first ∷ begins.after else from_text begins.after) begins.is_text ∙ sym begins.read

pub style_through-text : (t : List ℕ) (style : Attributes) → 0 < text_len t → style_after_all style (through_place 0 (pieces t)) ≡ style
style_through-text t style some =
    let begins = BeginsWithText-some t some in
    let len : length (text_of begins.first) ≡ length begins.first.bytes = ap length (text_of-text begins.first begins.is_text) in
    let inside_first : 0 < length (text_of begins.first) = omega (arith, begins.len) in
    ap (λ found. style_after_all style (through_place 0 found)) begins.read ∙ ap (style_after_all style) (through-inside 0 begins.first begins.after inside_first)

-- a text without pieces is empty
pub empty-nothing : (t : List ℕ) → pieces t ≡ [] → length t ≡ 0
empty-nothing t gone = ap length (sym (ArePiecesOf-pieces t).joins ∙ ap joined gone)

-- ---- a walk to a place

-- how many of the first m elements pass before one does not
pub run_within : (p : ℕ → Bool) (m : ℕ) (xs : List ℕ) → prefix_len p (take m xs) ≤ m
run_within p m xs = omega (arith, prefix_len-le-length p (take m xs), length-take m xs)

run_tests : (p : ℕ → Bool) (m : ℕ) (xs : List ℕ) (x : ℕ) (passes : Bool) → p x ≡ passes
    → (prefix_len p (take m xs) ≤ prefix_len p xs) × (prefix_len p (take m xs) < m → prefix_len p (take m xs) ≡ prefix_len p xs)
    → (prefix_len p (take (suc m) (x ∷ xs)) ≤ prefix_len p (x ∷ xs)) × (prefix_len p (take (suc m) (x ∷ xs)) < suc m → prefix_len p (take (suc m) (x ∷ xs)) ≡ prefix_len p (x ∷ xs))
run_tests p m xs x true e others =
    let here = prefix_len-pass p x (take m xs) e in
    let all = prefix_len-pass p x xs e in
    (omega (arith, here, all, others.0), λ less. let left : prefix_len p (take m xs) < m = omega (arith, here, less) in here ∙ ap suc (others.1 left) ∙ sym all)
run_tests p m xs x false e others =
    let here = prefix_len-fail p x (take m xs) e in
    let all = prefix_len-fail p x xs e in
    (omega (arith, here, all), λ less. here ∙ sym all)

pub run_of : (p : ℕ → Bool) (m : ℕ) (xs : List ℕ) → (prefix_len p (take m xs) ≤ prefix_len p xs) × (prefix_len p (take m xs) < m → prefix_len p (take m xs) ≡ prefix_len p xs)
run_of p zero xs = (omega arith, λ less. absurd (omega (arith, less)))
run_of p (suc m) [] = (omega arith, λ less. refl)
run_of p (suc m) (x ∷ xs) = run_tests p m xs x (p x) refl (run_of p m xs)

pub empty_text : (t : List ℕ) → length t ≡ 0 → t ≡ []
empty_text [] e = refl
empty_text (b ∷ bs) e = absurd (omega (arith, e))

pub IsCharBoundary-drop : (bs : List ℕ) (k i : ℕ) → IsCharBoundary bs (k + i) → IsCharBoundary (drop k bs) i
IsCharBoundary-drop bs k i at = (
  omega (arith, at.0, length-drop k bs),
  λ some. let inside_bs : k + i < length bs = omega (arith, some, length-drop k bs) in subst (λ b. 128 ≤ b → 192 ≤ b) (sym (get_or-drop k bs i 0)) (at.1 inside_bs),
)

not_plain : (b : ℕ) (is_escape : Bool) → (b == escape) ≡ is_escape → is_not_escape b ≡ false → b < 128
not_plain b true e plain = let same = eqb-true b escape e in omega (arith, same)
not_plain b false e plain = let both : true ≡ false = ap not (sym e) ∙ plain in cc both

-- the byte after all bytes of text is ESC
pub escape_ends : (t : List ℕ) (k : ℕ) → k < length t → k ≡ text_len t → get_or t k 0 < 128
escape_ends t k some all =
    let inside_t : text_len t < length t = omega (arith, some, all) in
    subst (λ m. get_or t m 0 < 128) (sym all) (not_plain (get_or t (text_len t) 0) (get_or t (text_len t) 0 == escape) refl (prefix_len_stops is_not_escape t 0 inside_t))

not_less : (k n : ℕ) → k ≤ n → (k < n → ⊥) → k ≡ n
not_less k n h less = by (nat_lt k n) refl
  where
    by : (test : Bool) → nat_lt k n ≡ test → k ≡ n
    by true e = let below_n : k < n = grind (arith, nat_tests) in absurd (less below_n)
    by false e = let over : n ≤ k = grind (arith, nat_tests) in omega (arith, h, over)

-- so many bytes of text on from here is the place that is so many on from there
pub record SamePlace (rest : List ℕ) (style : Attributes) (left : ℕ) (from : List ℕ) (style_there : Attributes) (n : ℕ) : Type 0 where
  pub found : from_place left (pieces rest) ≡ from_place n (pieces from)
  pub styled : style_after_all style (before_place left (pieces rest)) ≡ style_after_all style_there (before_place n (pieces from))
  pub cut : left < length (strip (pieces rest)) → IsCharBoundary (strip (pieces rest)) left

module _ (rest : List ℕ) (style : Attributes) (left : ℕ) (from : List ℕ) (style_there : Attributes) (n : ℕ) (same : SamePlace rest style left from style_there n) where
  pub SamePlace-none : left ≡ 0 → (pieces rest ≡ from_place n (pieces from)) × (style ≡ style_after_all style_there (before_place n (pieces from)))
  SamePlace-none e = (
    sym (from-none (pieces rest)) ∙ ap (λ m. from_place m (pieces rest)) (sym e) ∙ same.found,
    sym (ap (style_after_all style) (before-none (pieces rest))) ∙ ap (λ m. style_after_all style (before_place m (pieces rest))) (sym e) ∙ same.styled,
  )

  nothing_left : length rest ≡ 0 → pieces rest ≡ []
  nothing_left e = ap pieces (empty_text rest e) ∙ pieces-joined [] tt

  pub SamePlace-end : length rest ≡ 0 → (pieces rest ≡ from_place n (pieces from)) × (style ≡ style_after_all style_there (before_place n (pieces from)))
  SamePlace-end e =
      let gone = nothing_left e in (
        gone ∙ ap (from_place left) (sym gone) ∙ same.found,
        ap (λ ps. style_after_all style (before_place left ps)) (sym gone) ∙ same.styled,
      )

  -- over k bytes of text
  module _ (k : ℕ) (is_run : k ≡ prefix_len is_not_escape (take left rest)) where
    pub run_left : k ≤ left
    run_left = omega (arith, is_run, run_within is_not_escape left rest)

    within : k ≤ text_len rest
    within = omega (arith, is_run, (run_of is_not_escape left rest).0)

    parts : k + (left - k) ≡ left
    parts = let h = run_left in omega (arith, h)

    cut-drop : left - k < length (strip (pieces (drop k rest))) → IsCharBoundary (strip (pieces (drop k rest))) (left - k)
    cut-drop less =
        let stripped : strip (pieces (drop k rest)) ≡ drop k (strip (pieces rest)) = ap strip (sym (from-plain rest k within)) ∙ strip-from k (pieces rest) in
        let len : length (strip (pieces (drop k rest))) ≡ length (drop k (strip (pieces rest))) = ap length stripped in
        let h = run_left in
        let inside_text : left < length (strip (pieces rest)) = omega (arith, len, less, h, length-drop k (strip (pieces rest))) in
        subst (λ bytes. IsCharBoundary bytes (left - k)) (sym stripped)
        (IsCharBoundary-drop (strip (pieces rest)) k (left - k) (subst (IsCharBoundary (strip (pieces rest))) (sym parts) (same.cut inside_text)))

    pub SamePlace-plain : SamePlace (drop k rest) style (left - k) from style_there n
    SamePlace-plain = record {
      found = ap (from_place (left - k)) (sym (from-plain rest k within)) ∙ sym (from-from k (left - k) (pieces rest)) ∙ ap (λ m. from_place m (pieces rest)) parts ∙ same.found;
      styled =
          ap (λ ps. style_after_all style (before_place (left - k) ps)) (sym (from-plain rest k within))
          ∙ ap (λ s. style_after_all s (before_place (left - k) (from_place k (pieces rest)))) (sym (style-plain rest k within style))
          ∙ sym (style-before_sum k (left - k) style (pieces rest))
          ∙ ap (λ m. style_after_all style (before_place m (pieces rest))) parts ∙ same.styled;
      cut = cut-drop;
    }

    short : k < length rest → text_len rest ≤ k → IsCharBoundary rest k
    short some end =
        let all : k ≡ text_len rest = let h = within in omega (arith, h, end) in
        IsCharBoundary-before_ascii rest k some (escape_ends rest k some all)

    long : k < text_len rest → IsCharBoundary rest k
    long some =
        let h = run_left in
        let whole : k ≡ left = not_less k left h (λ less. let all = (run_of is_not_escape left rest).1 (subst (λ m. m < left) is_run less) in omega (arith, all, is_run, some)) in
        let byte = strip_byte rest k some in
        let inside_strip : left < length (strip (pieces rest)) = omega (arith, whole, byte.1) in
        let at = subst (IsCharBoundary (strip (pieces rest))) (sym whole) (same.cut inside_strip) in
        let fits = prefix_len-le-length is_not_escape rest in
        (omega (arith, fits, some), λ _. subst (λ b. 128 ≤ b → 192 ≤ b) byte.0 (at.1 byte.1))

    run_boundary-or : (is_short is_long : Bool) → nat_lt k (length rest) ≡ is_short → nat_lt k (text_len rest) ≡ is_long → IsCharBoundary rest k
    run_boundary-or false is_long e f =
        let over : length rest ≤ k = grind (arith, nat_tests) in
        let fits = prefix_len-le-length is_not_escape rest in
        let h = within in
        let end : length rest ≡ k = omega (arith, over, fits, h) in
        subst (IsCharBoundary rest) end (IsCharBoundary-end rest)
    run_boundary-or true false e f = let some : k < length rest = grind (arith, nat_tests) in let end : text_len rest ≤ k = grind (arith, nat_tests) in short some end
    run_boundary-or true true e f = let some : k < text_len rest = grind (arith, nat_tests) in long some

    -- where the text can be cut
    pub run_boundary : IsCharBoundary rest k
    run_boundary = run_boundary-or (nat_lt k (length rest)) (nat_lt k (text_len rest)) refl refl

  -- over a sequence
  module _ (after : Attributes) (behind : List ℕ) (parted : AreFirstAndRest style (pieces rest) after (pieces behind)) (gone : text_len rest ≡ 0) where
    pub SamePlace-sequence : 0 < left → SamePlace behind after left from style_there n
    SamePlace-sequence some =
        let stripped = strip-sequence rest behind parted.first parted.parted gone in
        record {
          found = sym (from-sequence rest behind parted.first parted.parted gone left some) ∙ same.found;
          styled =
              ap (λ s. style_after_all s (before_place left (pieces behind))) parted.styled
              ∙ sym (style-sequence rest behind parted.first parted.parted gone left style some) ∙ same.styled;
          cut = subst (λ bytes. left < length bytes → IsCharBoundary bytes left) stripped same.cut;
        }

-- where no text comes before the first ESC, the text has none there
pub run_none : (rest : List ℕ) (left k : ℕ) → k ≡ prefix_len is_not_escape (take left rest) → k ≤ 0 → 0 < left → text_len rest ≡ 0
run_none rest left k is_run low some =
    let less : prefix_len is_not_escape (take left rest) < left = omega (arith, is_run, low, some) in
    let all = (run_of is_not_escape left rest).1 less in
    omega (arith, is_run, low, all)

-- a text that begins with ESC begins with a sequence, and has some bytes
pub escape_first : (t : List ℕ) → begins_with_escape t ≡ true → (text_len t ≡ 0) × (0 < length t)
escape_first [] e = cc e
escape_first (b ∷ bs) e = (prefix_len-fail is_not_escape b bs (ap not e), omega arith)

-- another one begins with text, or is empty
pub other_first : (t : List ℕ) → begins_with_escape t ≡ false → (length t ≡ 0) ⊎ (0 < text_len t)
other_first [] e = inl refl
other_first (b ∷ bs) e = let pass = prefix_len-pass is_not_escape b bs (ap not e) in inr (omega (arith, pass))

-- what is looked for after the sequences is here
pub at_text : (t : List ℕ) (style : Attributes) → begins_with_escape t ≡ false → (from_text (pieces t) ≡ pieces t) × (style_after_all style (through_place 0 (pieces t)) ≡ style)
at_text t style e = elim (other_first t e) [
  | inl h ↦ let gone = ap pieces (empty_text t h) ∙ pieces-joined [] tt in (ap from_text gone ∙ sym gone, ap (λ ps. style_after_all style (through_place 0 ps)) gone)
  | inr h ↦ (from_text-text t h, style_through-text t style h)
]
