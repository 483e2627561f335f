-- Searches in what a text shows, over steps through the text.
use Rattle.std.proofs.Common.{◌≡◌, ℕ, zero, suc, ◌+◌, ◌-◌, ◌<◌, ◌≤◌, ◌==◌, ◌&&◌, Bool, true, false, not, Option, None, Some, IsTrue, List, [], ◌∷◌, ◌++◌, length, take, drop, refl, ap, sym, subst, ◌∙◌, arith, length-append, eqb-true}
use Rattle.std.specs.Prelude.{Result, Ok, Err, IfErr, is_some, if◌then◌else◌}
use Rattle.std.specs.List.{prefix_len}
use Rattle.std.specs.Str.{IsUtf8, IsCharBoundary}
use Rattle.std.proofs.Math.ListN.{get_or}
use Rattle.std.proofs.lemmas.Bool.{and_parts}
use Rattle.std.proofs.lemmas.Bool.Decides.{nat_tests}
use Rattle.std.proofs.lemmas.List.{length-take, take-append-drop}
use Rattle.std.proofs.lemmas.List.Sums.{prefix_len-le-length}
use Rattle.std.proofs.lemmas.Str.{IsCharBoundary-start, IsCharBoundary-before_ascii, IsCharBoundary-from_rest}
use Rattle.ansi_scan.specs.Sequences.{Piece, ArePiecesOf, escape, is_not_escape}
use Rattle.ansi_scan.specs.Pieces.{pieces, text_len}
use Rattle.ansi_scan.specs.Attributes.{plain_attributes}
use Rattle.ansi_scan.proofs.Uniqueness.{pieces-joined, pieces-ArePiecesOf}
use Rattle.ansi_scan.proofs.Runs.{prefix_len-pass, prefix_len-drop_run}
use Rattle.ansi_str_search.specs.Text.StyledText.{text_of, strip}
use Rattle.ansi_str_search.specs.Parts.{from_place}
use Rattle.ansi_str_search.specs.PartsLeft.{begins_with}
use Rattle.ansi_str_search.specs.Searches.{BeginsWith, IsFoundWhere}
use Rattle.ansi_str_search.specs.Walking.{IsBehindFirst, begins_with_escape, shared_len}
use Rattle.ansi_str_search.proofs.PiecesAtPlaces.{strip-from, from-none}
use Rattle.ansi_str_search.proofs.PlaceSums.{from-from}
use Rattle.ansi_str_search.proofs.Walks.{from-plain, take-strip, strip-sequence, from-sequence, IsCharBoundary-drop, run_boundary, run_within, run_of, empty_text, escape_first}
use Rattle.ansi_str_search.proofs.FirstMatch.{begins_with-sound, begins_with-append}
use Rattle.ansi_str_search.proofs.Finds.{IsUtf8-shown}

-- ---- bytes of text

-- what a text shows is its bytes of text, and what the others show
pub strip-parted : (t : List ℕ) (k : ℕ) → k ≤ text_len t → strip (pieces t) ≡ take k t ++ strip (pieces (drop k t))
strip-parted t k within =
    sym (take-append-drop k (strip (pieces t)))
    ∙ ap (λ front. front ++ drop k (strip (pieces t))) (take-strip t k within)
    ∙ ap (λ bytes. take k t ++ bytes) (sym (strip-from k (pieces t)) ∙ ap strip (from-plain t k within))

pub strip-byte : (b : ℕ) (bs : List ℕ) → is_not_escape b ≡ true → strip (pieces (b ∷ bs)) ≡ b ∷ strip (pieces bs)
strip-byte b bs plain = strip-parted (b ∷ bs) 1 (omega (arith, prefix_len-pass is_not_escape b bs plain))

pub strip-nothing : (t : List ℕ) → length t ≡ 0 → strip (pieces t) ≡ []
strip-nothing t gone = ap (λ bytes. strip (pieces bytes)) (empty_text t gone) ∙ ap strip (pieces-joined [] tt)

-- ---- how many bytes a text shows

pub shown-step : (rest behind : List ℕ) (first : Piece) (shown all : ℕ) → pieces rest ≡ first ∷ pieces behind → shown + length (strip (pieces rest)) ≡ all
    → shown + length (text_of first) + length (strip (pieces behind)) ≡ all
shown-step rest behind first shown all parted sum =
    let len : length (strip (pieces rest)) ≡ length (text_of first ++ strip (pieces behind)) = ap (λ ps. length (strip ps)) parted in
    omega (arith, len, sum, length-append (text_of first) (strip (pieces behind)))

-- ---- a walk to a place that may be none

-- so many bytes on from here is the place that is so many on from there, and both or none are where a character begins
pub record IsSamePlace (rest : List ℕ) (left : ℕ) (text : List ℕ) (n : ℕ) : Type 0 where
  pub found : from_place left (pieces rest) ≡ from_place n (pieces text)
  pub here : IsCharBoundary (strip (pieces text)) n → IsCharBoundary (strip (pieces rest)) left
  pub there : IsCharBoundary (strip (pieces rest)) left → IsCharBoundary (strip (pieces text)) n

pub IsSamePlace-start : (text : List ℕ) (n : ℕ) → IsSamePlace text n text n
IsSamePlace-start text n = record { found = refl; here = λ at. at; there = λ at. at }

module _ (rest : List ℕ) (left : ℕ) (text : List ℕ) (n : ℕ) (same : IsSamePlace rest left text n) where
  pub place-found : left ≡ 0 → IsUtf8 rest → IsCharBoundary (strip (pieces text)) n × (pieces rest ≡ from_place n (pieces text))
  place-found e utf8 = (
    same.there (subst (IsCharBoundary (strip (pieces rest))) (sym e) (IsCharBoundary-start (strip (pieces rest)) (IsUtf8-shown rest utf8))),
    sym (from-none (pieces rest)) ∙ ap (λ m. from_place m (pieces rest)) (sym e) ∙ same.found,
  )

  -- after the end no character begins
  pub place-past : length rest ≡ 0 → 0 < left → ¬ (IsCharBoundary (strip (pieces text)) n)
  place-past gone some at =
      let len : length (strip (pieces rest)) ≡ 0 = ap length (strip-nothing rest gone) in
      absurd (omega (arith, len, some, (same.here at).0))

  pub IsSamePlace-sequence : (behind : List ℕ) → IsBehindFirst (pieces rest) (pieces behind) → text_len rest ≡ 0 → 0 < left → IsSamePlace behind left text n
  IsSamePlace-sequence behind first gone some =
      let shown = strip-sequence rest behind first.first first.parted gone in
      record {
        found = sym (from-sequence rest behind first.first first.parted gone left some) ∙ same.found;
        here = λ at. subst (λ bytes. IsCharBoundary bytes left) shown (same.here at);
        there = λ at. same.there (subst (λ bytes. IsCharBoundary bytes left) (sym shown) at);
      }

  module _ (k : ℕ) (is_run : k ≡ prefix_len is_not_escape (take left rest)) where
    pub run-low : k ≤ left
    run-low = omega (arith, is_run, run_within is_not_escape left rest)

    within : k ≤ text_len rest
    within = omega (arith, is_run, (run_of is_not_escape left rest).0)

    sum : k + (left - k) ≡ left
    sum = let h = run-low in omega (arith, h)

    fits : k ≤ length (strip (pieces rest))
    fits =
        let h = within in
        let len : length (take k (strip (pieces rest))) ≡ length (take k rest) = ap length (take-strip rest k h) in
        omega (arith, h, len, prefix_len-le-length is_not_escape rest, length-take k (strip (pieces rest)), length-take k rest)

    shown : strip (pieces (drop k rest)) ≡ drop k (strip (pieces rest))
    shown = ap strip (sym (from-plain rest k within)) ∙ strip-from k (pieces rest)

    -- where a character begins at the place, the text can be cut after the bytes of text
    pub place-cut : IsCharBoundary (strip (pieces text)) n → IsCharBoundary rest k
    place-cut at = run_boundary rest plain_attributes left rest plain_attributes left (record { found = refl; styled = refl; cut = λ _. same.here at }) k is_run

    pub IsSamePlace-plain : IsSamePlace (drop k rest) (left - k) text n
    IsSamePlace-plain = record {
      found = ap (from_place (left - k)) (sym (from-plain rest k within)) ∙ sym (from-from k (left - k) (pieces rest)) ∙ ap (λ m. from_place m (pieces rest)) sum ∙ same.found;
      here = λ at. subst (λ bytes. IsCharBoundary bytes (left - k)) (sym shown)
          (IsCharBoundary-drop (strip (pieces rest)) k (left - k) (subst (IsCharBoundary (strip (pieces rest))) (sym sum) (same.here at)));
      there = λ at. same.there (subst (IsCharBoundary (strip (pieces rest))) sum
          (IsCharBoundary-from_rest (strip (pieces rest)) k (left - k) fits (subst (λ bytes. IsCharBoundary bytes (left - k)) shown at)));
    }

    -- where more is left, a sequence comes after them
    pub run-ends : 0 < left - k → text_len (drop k rest) ≡ 0
    run-ends some =
        let less : prefix_len is_not_escape (take left rest) < left = omega (arith, is_run, some) in
        let all : k ≡ text_len rest = omega (arith, is_run, (run_of is_not_escape left rest).1 less) in
        ap (λ m. text_len (drop m rest)) all ∙ prefix_len-drop_run is_not_escape rest

-- ---- the pattern at the start

byte_tests : (a b : ℕ) → (is_not_escape b && b == a) ≡ true → (is_not_escape b ≡ true) × (b ≡ a)
byte_tests a b e = let parts = and_parts (is_not_escape b) (b == a) e in (parts.0, eqb-true b a parts.1)

same_first : (a b : ℕ) (others bs : List ℕ) → b ≡ a → begins_with (a ∷ others) (b ∷ bs) ≡ begins_with others bs
same_first a b others bs e = let test : (a == b) ≡ true = grind (arith, nat_tests) in ap (λ t. t && begins_with others bs) test

abbrev Left : ℕ → List ℕ → List ℕ → Bool
Left n p t = begins_with (drop n p) (strip (pieces (drop n t)))

abbrev counted : Bool → ℕ → ℕ
counted test n = if test then suc n else 0

left_step : (a b : ℕ) (others bs : List ℕ) (test : Bool) → (is_not_escape b && b == a) ≡ test → Left (shared_len others bs) others bs ≡ begins_with others (strip (pieces bs))
    → Left (counted test (shared_len others bs)) (a ∷ others) (b ∷ bs) ≡ begins_with (a ∷ others) (strip (pieces (b ∷ bs)))
left_step a b others bs true e behind =
    let parts = byte_tests a b e in
    behind ∙ sym (same_first a b others (strip (pieces bs)) parts.1) ∙ ap (begins_with (a ∷ others)) (sym (strip-byte b bs parts.0))
left_step a b others bs false e behind = refl

pub shared-left : (p t : List ℕ) → Left (shared_len p t) p t ≡ begins_with p (strip (pieces t))
shared-left [] t = refl
shared-left (a ∷ others) [] = refl
shared-left (a ∷ others) (b ∷ bs) = left_step a b others bs (is_not_escape b && b == a) refl (shared-left others bs)

abbrev Behind : ℕ → List ℕ → List ℕ → ℕ
Behind n p t = shared_len (drop n p) (drop n t)

behind_step : (a b : ℕ) (others bs : List ℕ) (test : Bool) → (is_not_escape b && b == a) ≡ test → Behind (shared_len others bs) others bs ≡ 0
    → Behind (counted test (shared_len others bs)) (a ∷ others) (b ∷ bs) ≡ 0
behind_step a b others bs true e behind = behind
behind_step a b others bs false e behind = ap (λ t. counted t (shared_len others bs)) e

-- after the shared bytes there are none
pub shared-behind : (p t : List ℕ) → Behind (shared_len p t) p t ≡ 0
shared-behind [] t = refl
shared-behind (a ∷ others) [] = refl
shared-behind (a ∷ others) (b ∷ bs) = behind_step a b others bs (is_not_escape b && b == a) refl (shared-behind others bs)

-- text that shares no byte with the pattern does not begin with it
pub shared-none : (p t : List ℕ) → 0 < length p → shared_len p t ≡ 0 → begins_with_escape t ≡ false → begins_with p (strip (pieces t)) ≡ false
shared-none [] t some none text = absurd (omega (arith, some))
shared-none (a ∷ others) [] some none text = ap (begins_with (a ∷ others)) (strip-nothing [] refl)
shared-none (a ∷ others) (b ∷ bs) some none text = by (b == a) refl
  where
    plain : is_not_escape b ≡ true
    plain = ap not text

    by : (test : Bool) → (b == a) ≡ test → begins_with (a ∷ others) (strip (pieces (b ∷ bs))) ≡ false
    by true e =
        let one : shared_len (a ∷ others) (b ∷ bs) ≡ suc (shared_len others bs) =
        ap (λ t. if t && b == a then suc (shared_len others bs) else 0) plain ∙ ap (λ t. if t then suc (shared_len others bs) else 0) e in
        absurd (omega (arith, one, none))
    by false e =
        let other : (a == b) ≡ false = grind (arith, nat_tests) in
        ap (begins_with (a ∷ others)) (strip-byte b bs plain) ∙ ap (λ t. t && begins_with others (strip (pieces bs))) other

pub escape-at : (t : List ℕ) (k : ℕ) → begins_with_escape (drop k t) ≡ true → (k < length t) × (get_or t k 0 ≡ escape)
escape-at [] zero e = cc e
escape-at [] (suc k) e = cc e
escape-at (b ∷ bs) zero e = (omega arith, eqb-true b escape e)
escape-at (b ∷ bs) (suc k) e = let behind = escape-at bs k e in (omega (arith, behind.0), behind.1)

-- a text can be cut before ESC
pub escape-cut : (t : List ℕ) (k : ℕ) → begins_with_escape (drop k t) ≡ true → IsCharBoundary t k
escape-cut t k e = let at = escape-at t k e in IsCharBoundary-before_ascii t k at.0 (omega (arith, at.1))

pub begins_with-none_left : (p text : List ℕ) → length p ≡ 0 → begins_with p text ≡ true
begins_with-none_left [] text e = refl
begins_with-none_left (a ∷ others) text e = absurd (omega (arith, e))

-- a step of the comparison: over k bytes that are the same
module _ (p t : List ℕ) (k : ℕ) (is_shared : k ≡ shared_len p t) (left : List ℕ) (is_left : left ≡ drop k p) where
  pub shared-step : begins_with left (strip (pieces (drop k t))) ≡ begins_with p (strip (pieces t))
  shared-step = ap (λ bytes. begins_with bytes (strip (pieces (drop k t)))) is_left ∙ ap (λ n. Left n p t) is_shared ∙ shared-left p t

  pub shared-fails : 0 < length left → begins_with_escape (drop k t) ≡ false → begins_with p (strip (pieces t)) ≡ false
  shared-fails some plain =
      let none : shared_len left (drop k t) ≡ 0 = ap (λ bytes. shared_len bytes (drop k t)) is_left ∙ ap (λ n. Behind n p t) is_shared ∙ shared-behind p t in
      sym shared-step ∙ shared-none left (drop k t) some none plain

  pub shared-all : length left ≡ 0 → begins_with p (strip (pieces t)) ≡ true
  shared-all gone = sym shared-step ∙ begins_with-none_left left (strip (pieces (drop k t))) gone

  pub shared-sequence : (behind : List ℕ) → IsBehindFirst (pieces (drop k t)) (pieces behind) → begins_with_escape (drop k t) ≡ true
      → begins_with left (strip (pieces behind)) ≡ begins_with p (strip (pieces t))
  shared-sequence behind first escaped =
      ap (begins_with left) (sym (strip-sequence (drop k t) behind first.first first.parted (escape_first (drop k t) escaped).0)) ∙ shared-step

-- ---- answers for the pieces of a text

-- the pieces of a text are those of the function
pub of_pieces : (P : List Piece → Type 0) (text : List ℕ) → P (pieces text) → (ps : List Piece) → ArePiecesOf text ps → P ps
of_pieces P text h ps of_text = subst P (pieces-ArePiecesOf text ps of_text) h

-- what is refused only where P holds
pub refused_where : {T E P : Type 0} → P → (r : Result T E) → IfErr r (λ _. P)
refused_where h (Ok x) = tt
refused_where h (Err e) = h

-- what is found exactly where P holds
pub found_where : {A : Type 0} (P : Type 0) (Q : A → Type 0) (r : Option A) (found : Bool) → IsFoundWhere P Q r → found ≡ is_some r → (IsTrue found → P) × (P → IsTrue found)
found_where P Q None found lacks e = (λ t. let both : true ≡ false = sym t ∙ e in cc both, λ h. absurd (lacks h))
found_where P Q (Some x) found has e = (λ t. has.0, λ h. e)

pub begins_where : (p text : List ℕ) (found : Bool) → found ≡ begins_with p text → (IsTrue found → BeginsWith p text) × (BeginsWith p text → IsTrue found)
begins_where p text found e = (
  λ t. begins_with-sound p text (sym e ∙ t),
  λ h. e ∙ ap (begins_with p) h.1 ∙ begins_with-append p h.0,
)

-- two tests of one thing agree
pub found_as_tested : {A : Type 0} (P : Type 0) (Q : A → Type 0) (r : Option A) (test : Bool) → (IsTrue test → P) × (P → IsTrue test) → IsFoundWhere P Q r → is_some r ≡ test
found_as_tested P Q None true says lacks = absurd (lacks (says.0 refl))
found_as_tested P Q None false says lacks = refl
found_as_tested P Q (Some x) test says has = sym (says.1 has.0)
