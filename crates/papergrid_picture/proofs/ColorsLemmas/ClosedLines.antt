-- A suffix that clears a style clears it too after a line that is closed by itself.
use Rattle.std.proofs.Common.{◌≡◌, Bool, true, false, List, [], ◌∷◌, refl, ap, sym, ◌∙◌}
use Rattle.std.specs.Prelude.{IsTrue}
use Rattle.std.specs.List.{AllByRecursion, list_any}
use Rattle.ansi_scan.specs.Attributes.{Attributes, plain_attributes}
use Rattle.ansi_scan.specs.Sequences.{Piece}
use Rattle.ansi_str_search.specs.Text.StyledText.{style_after_all}
use Rattle.grid_config.specs.Ansi.Clearing.{Attribute, all_attributes, codes_of, is_clearing}
use Rattle.grid_config.specs.Ansi.Closing.{Clears}
use Rattle.grid_config.proofs.ColorsLemmas.Clearing.{IsAttribute, clears_each, each_attribute, nothing_set}

both_hold : {X : Type 0} (P Q R : X → Type 0) → ((x : X) → P x → Q x → R x) → (xs : List X) → AllByRecursion P xs → AllByRecursion Q xs → AllByRecursion R xs
both_hold P Q R each [] p q = tt
both_hold P Q R each (x ∷ xs) p q = (each x p.0 q.0, both_hold P Q R each xs p.1 q.1)

module _ (style : Attributes) (line suffix : List Piece) (closed : style_after_all plain_attributes line ≡ plain_attributes) (clears : Clears style suffix) where
  -- an attribute that the style sets has a code of the suffix that clears it, whatever the line does; one that it does
  -- not set is after the line what it is after the line read from plain
  unset : (attribute : Attribute) → IsAttribute attribute → (IsTrue (attribute.0 style) → IsTrue (list_any (is_clearing attribute.1) (codes_of suffix)))
      → attribute.0 (style_after_all (style_after_all style line) suffix) ≡ false
  unset attribute is cleared = either (attribute.0 style) refl
    where
      plain : attribute.0 (style_after_all plain_attributes suffix) ≡ false
      plain = ap attribute.0 clears.from_plain ∙ is.plain

      either : (set : Bool) → attribute.0 style ≡ set → attribute.0 (style_after_all (style_after_all style line) suffix) ≡ false
      either true e = (is.follows suffix).cleared (cleared e) (style_after_all style line) plain_attributes ∙ plain
      either false e =
          (is.follows suffix).same (style_after_all style line) plain_attributes
          ((is.follows line).same style plain_attributes (e ∙ sym is.plain) ∙ ap attribute.0 closed) ∙ plain

  pub closed-behind : style_after_all (style_after_all style line) suffix ≡ plain_attributes
  closed-behind =
      nothing_set (style_after_all (style_after_all style line) suffix)
      (both_hold IsAttribute (λ attribute. IsTrue (attribute.0 style) → IsTrue (list_any (is_clearing attribute.1) (codes_of suffix))) (λ attribute. attribute.0 (style_after_all (style_after_all style line) suffix) ≡ false)
      unset all_attributes each_attribute (clears_each style suffix clears.from_plain clears.from_style))
