-- The next bytes of a text, where no sequence is among them or right after them.
use Rattle.std.proofs.Common.{◌≡◌, ◌∙◌, ◌≤◌, ◌-◌, ◌==◌, not, ℕ, suc, Bool, true, false, List, [], ◌∷◌, ap, arith, drop, length, length-drop, refl, sym, take}
use Rattle.std.specs.List.{prefix_len}
use Rattle.std.specs.Str.{IsCharBoundary}
use Rattle.std.proofs.lemmas.Bool.{or_parts}
use Rattle.ansi_scan.specs.Attributes.{Attributes, plain_attributes}
use Rattle.ansi_scan.specs.Pieces.{pieces}
use Rattle.ansi_scan.specs.Sequences.{escape, is_not_escape}
use Rattle.ansi_scan.proofs.Runs.{prefix_len-pass}
use Rattle.ansi_str.specs.Parts.{IsGoodBound, before_place, dressed, from_place, through_place}
use Rattle.ansi_str.specs.StyledText.{has_escape, strip, style_after_all}
use Rattle.ansi_str.specs.Walking.{begins_with_escape, from_text}
use Rattle.ansi_str_search.proofs.PlainParts.{plain_part}
use Rattle.ansi_str_search.proofs.Rests.{slice-style, slice_part}
use Rattle.ansi_str_search.proofs.Walks.{SamePlace, SamePlace-none, SamePlace-plain, at_text, run_boundary}

-- bytes without ESC are all passed
pub run-whole : (bytes : List ℕ) → has_escape bytes ≡ false → prefix_len is_not_escape bytes ≡ length bytes
run-whole [] none = refl
run-whole (b ∷ bs) none =
    let parts = or_parts (b == escape) (has_escape bs) none in
    prefix_len-pass is_not_escape b bs (ap not parts.0) ∙ ap suc (run-whole bs parts.1)

pub not-true : (b : Bool) → not b ≡ true → b ≡ false
not-true true is = let both : false ≡ true = is in cc both
not-true false is = refl

module _ (rest : List ℕ) (style : Attributes) (len : ℕ) (good : IsGoodBound (strip (pieces rest)) len) (is_run : len ≡ prefix_len is_not_escape (take len rest)) where
  same : SamePlace rest style len rest style len
  same = record { found = refl; styled = refl; cut = good }

  pub slice-boundary : IsCharBoundary rest len
  slice-boundary = run_boundary rest style len rest style len same len is_run

  over : SamePlace (drop len rest) style (len - len) rest style len
  over = SamePlace-plain rest style len rest style len same len is_run

  there : (pieces (drop len rest) ≡ from_place len (pieces rest)) × (style ≡ style_after_all style (before_place len (pieces rest)))
  there = SamePlace-none (drop len rest) style (len - len) rest style len over (omega arith)

  module _ (behind : begins_with_escape (drop len rest) ≡ false) where
    here : (from_text (pieces (drop len rest)) ≡ pieces (drop len rest)) × (style_after_all style (through_place 0 (pieces (drop len rest))) ≡ style)
    here = at_text (drop len rest) style behind

    pub slice-rest : pieces (drop len rest) ≡ from_text (from_place len (pieces rest))
    slice-rest = sym here.0 ∙ ap from_text there.0

    pub slice-known : style ≡ style_after_all style (through_place len (pieces rest))
    slice-known = slice-style rest style len (drop len rest) style there.0 there.1 (drop len rest) style (sym here.0) (sym here.1)

    pub slice-bytes : style ≡ plain_attributes → len ≤ length rest → take len rest ≡ dressed style (through_place len (pieces rest))
    slice-bytes plain fits =
        let left : length rest - length (drop len rest) ≡ len = omega (arith, length-drop len rest, fits) in
        ap (λ k. take k rest) (sym left)
        ∙ sym (plain_part style style (take (length rest - length (drop len rest)) rest) plain plain)
        ∙ slice_part rest style len (drop len rest) style there.0 there.1 (drop len rest) style (sym here.0) (sym here.1)
