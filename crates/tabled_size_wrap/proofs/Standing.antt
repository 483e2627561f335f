-- From a place of a line to one after it.
use Rattle.std.proofs.Common.{◌≡◌, ◌≤◌, ◌<◌, ℕ, zero, suc, ◌+◌, ◌-◌, ◌==◌, ◌&&◌, Bool, true, false, cond, nat_lt, List, [], length, drop, refl, ap, sym, subst, ◌∙◌, arith}
use Rattle.std.proofs.lemmas.Bool.Decides.{nat_tests}
use Rattle.std.specs.Prelude.{OnOk, Result, Ok, Err}
use Rattle.ansi_scan.specs.Sequences.{Piece}
use Rattle.ansi_scan.specs.Pieces.{pieces}
use Rattle.ansi_scan.specs.Attributes.{Attributes, plain_attributes}
use Rattle.ansi_scan.proofs.Existence.{ArePiecesOf-pieces}
use Rattle.ansi_str.specs.StyledText.{strip, style_after_all}
use Rattle.ansi_str.specs.Parts.{dressed, from_place, through_place, IsGoodBound}
use Rattle.ansi_str.specs.Walking.{from_text}
use Rattle.ansi_str.specs.Cuts.{cut_part, later_part}
use Rattle.ansi_str_search.proofs.PiecesAtPlaces.{strip-from}
use Rattle.ansi_str.proofs.CutParts.{first_part-slice, later_part-slice}
use Rattle.ansi_str.proofs.CutSteps.{good-drop}
use Rattle.ansi_str.proofs.SplitSteps.{rest-between, style-between, strip-from_text}
use Rattle.tabled_size_wrap.specs.Wrapping.{line_part}
use Rattle.tabled_size_wrap.specs.Standing.{behind_wrap, style_at_wrap, StandsAt}

pub stands-start : (text rest : List ℕ) (style : Attributes) → rest ≡ text → style ≡ plain_attributes → StandsAt (pieces text) 0 rest style
stands-start text rest style same plain = record { stand = (ArePiecesOf-pieces text).stand; behind = ap pieces same; known = plain }

behind-some : (n : ℕ) (ps : List Piece) → 0 < n → behind_wrap n ps ≡ from_text (from_place n ps)
behind-some zero ps some = absurd (omega (arith, some))
behind-some (suc n) ps some = refl

style-some : (n : ℕ) (ps : List Piece) → 0 < n → style_at_wrap n ps ≡ style_after_all plain_attributes (through_place n ps)
style-some zero ps some = absurd (omega (arith, some))
style-some (suc n) ps some = refl

strip-behind : (at : ℕ) (line : List Piece) → strip (behind_wrap at line) ≡ drop at (strip line)
strip-behind zero line = refl
strip-behind (suc n) line = strip-from_text (from_place (suc n) line) ∙ strip-from (suc n) line

pub by-part : (a b : ℕ) (ps : List Piece) (same first some : Bool) → (a == b) ≡ same → (a == 0) ≡ first
    → line_part ps a b ≡ cond (same && nat_lt 0 (length (strip ps))) [] (cond first (cut_part 0 b ps) (later_part a b ps))
by-part a b ps same first some e f =
    ap (λ t. cond (t && nat_lt 0 (length (strip ps))) [] (cond (a == 0) (cut_part 0 b ps) (later_part a b ps))) e
    ∙ ap (λ t. cond (same && nat_lt 0 (length (strip ps))) [] (cond t (cut_part 0 b ps) (later_part a b ps))) f

pub part-none : (a : ℕ) (ps : List Piece) → 0 < length (strip ps) → line_part ps a (a + 0) ≡ []
part-none a ps some =
    let same : (a == a + 0) && nat_lt 0 (length (strip ps)) ≡ true = grind (arith, nat_tests) in
    ap (λ t. cond t [] (cond (a == 0) (cut_part 0 (a + 0) ps) (later_part a (a + 0) ps))) same

pub part-nothing : (text rest : List ℕ) (style : Attributes) → strip (pieces text) ≡ [] → rest ≡ text → style ≡ plain_attributes → dressed style (through_place 0 (pieces rest)) ≡ line_part (pieces text) 0 0
part-nothing text rest style none same plain =
    ap (λ s. dressed s (through_place 0 (pieces rest))) plain ∙ ap (λ t. dressed plain_attributes (through_place 0 (pieces t))) same
    ∙ sym (first_part-slice 0 (pieces text))
    ∙ sym (ap (λ bytes. cond (nat_lt 0 (length bytes)) [] (cut_part 0 0 (pieces text))) none)

module _ (line : List Piece) (rest : List ℕ) (style : Attributes) (len : ℕ) where
  pub stands-part : (at : ℕ) → StandsAt line at rest style → 0 < len → dressed style (through_place len (pieces rest)) ≡ line_part line at (at + len)
  stands-part zero stands some =
      let other : (0 == 0 + len) ≡ false = grind (arith, nat_tests) in
      let same : len ≡ 0 + len = omega arith in
      ap (λ s. dressed s (through_place len (pieces rest))) stands.known ∙ ap (λ ps. dressed plain_attributes (through_place len ps)) stands.behind
      ∙ ap (λ n. dressed plain_attributes (through_place n line)) same
      ∙ sym (first_part-slice (0 + len) line)
      ∙ sym (by-part 0 (0 + len) line false true true other refl)
  stands-part (suc n) stands some =
      let other : (suc n == suc n + len) ≡ false = grind (arith, nat_tests) in
      let later : (suc n == 0) ≡ false = grind (arith, nat_tests) in
      let order : suc n ≤ suc n + len = omega arith in
      let same : len ≡ suc n + len - suc n = omega arith in
      ap (λ s. dressed s (through_place len (pieces rest))) stands.known
      ∙ ap (λ ps. dressed (style_at_wrap (suc n) line) (through_place len ps)) stands.behind
      ∙ ap (λ k. dressed (style_at_wrap (suc n) line) (through_place k (behind_wrap (suc n) line))) same
      ∙ sym (later_part-slice (suc n) (suc n + len) line order stands.stand)
      ∙ sym (by-part (suc n) (suc n + len) line false false true other later)

  module _ (end : List ℕ) (end_style : Attributes) (there : pieces end ≡ from_text (from_place len (pieces rest))) (opened : end_style ≡ style_after_all style (through_place len (pieces rest))) where
    pub stands-next : (at : ℕ) → StandsAt line at rest style → 0 < len → StandsAt line (at + len) end end_style
    stands-next zero stands some =
        let more : 0 < 0 + len = omega arith in
        let same : len ≡ 0 + len = omega arith in
        record {
          stand = stands.stand;
          behind = there ∙ ap (λ ps. from_text (from_place len ps)) stands.behind ∙ ap (λ n. from_text (from_place n line)) same ∙ sym (behind-some (0 + len) line more);
          known =
              opened ∙ ap (λ s. style_after_all s (through_place len (pieces rest))) stands.known
              ∙ ap (λ ps. style_after_all plain_attributes (through_place len ps)) stands.behind ∙ ap (λ n. style_after_all plain_attributes (through_place n line)) same
              ∙ sym (style-some (0 + len) line more);
        }
    stands-next (suc n) stands some =
        let b = suc n + len in
        let more : 0 < suc n + len = omega arith in
        let order : suc n ≤ suc n + len = omega arith in
        let same : len ≡ suc n + len - suc n = omega arith in
        record {
          stand = stands.stand;
          behind =
              there ∙ ap (λ ps. from_text (from_place len ps)) stands.behind ∙ ap (λ k. from_text (from_place k (behind_wrap (suc n) line))) same
              ∙ rest-between (suc n) b line order stands.stand ∙ sym (behind-some b line more);
          known =
              opened ∙ ap (λ s. style_after_all s (through_place len (pieces rest))) stands.known
              ∙ ap (λ ps. style_after_all (style_at_wrap (suc n) line) (through_place len ps)) stands.behind
              ∙ ap (λ k. style_after_all (style_at_wrap (suc n) line) (through_place k (behind_wrap (suc n) line))) same
              ∙ style-between (suc n) b line order stands.stand plain_attributes
              ∙ sym (style-some b line more);
        }

  pub stands-good : (at : ℕ) → StandsAt line at rest style → IsGoodBound (strip line) (at + len) → IsGoodBound (strip (pieces rest)) len
  stands-good at stands good =
      let order : at ≤ at + len = omega arith in
      let same : at + len - at ≡ len = omega arith in
      let here = good-drop (strip line) at (at + len) order good in
      subst (λ bytes. IsGoodBound bytes len) (sym (ap strip stands.behind ∙ strip-behind at line)) (subst (IsGoodBound (drop at (strip line))) same here)

-- ---- two answers at once

pub on_ok_both : {T E P Q R : Type 0} (r : Result T E) → (P → Q → R) → OnOk r P → OnOk r Q → OnOk r R
on_ok_both (Ok x) f p q = f p q
on_ok_both (Err e) f p q = tt
