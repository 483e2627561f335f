use Rattle.std.proofs.Common.{◌≡◌, ◌&&◌, ℕ, Bool, true, refl, ap, ◌∙◌, sym}
use Rattle.std.proofs.lemmas.Bool.{and_parts}
use Rattle.std.specs.Cmp.{unsigned_Decides}
use Rattle.std.specs.Cmp.Lexicographic.{pointwise_decides}
use Rattle.grid_config_values.proofs.Equality.{switch_passes as switch-itself, switch_same as same-switch}
use Rattle.tabled_size.specs.contracts.dimension.suffix.SuffixLimitPartialEq.TheImpl.{ghosts as limits}
use Rattle.tabled_size.specs.declared.dimension.suffix.SuffixLimit.{SuffixLimit}
use Rattle.tabled_size.specs.declared.dimension.suffix.SuffixLimit.TheVariants.{Cut, Ignore, Replace}
use Rattle.tabled_width.specs.Options.{Truncation}
use Rattle.tabled_width.proofs.laws.options_are_compared_whole.Goals as goal

same-limit : (a b : SuffixLimit) → limits.eq a b ≡ true → a ≡ b
same-limit Cut Cut e = refl
same-limit Cut Ignore e = cc
same-limit Cut (Replace d) e = cc
same-limit Ignore Cut e = cc
same-limit Ignore Ignore e = refl
same-limit Ignore (Replace d) e = cc
same-limit (Replace c) Cut e = cc
same-limit (Replace c) Ignore e = cc
same-limit (Replace c) (Replace d) e = ap Replace ((unsigned_Decides c d).0 e)

limit-itself : (a : SuffixLimit) → limits.eq a a ≡ true
limit-itself Cut = refl
limit-itself Ignore = refl
limit-itself (Replace c) = (unsigned_Decides c c).1 refl

both : (s t : Bool) → s ≡ true → t ≡ true → (s && t) ≡ true
both s t p q = ap (λ b. b && t) p ∙ q

pub returns-clause-cutting : goal.returns-clause-cutting
returns-clause-cutting c = λ a b. (
  (λ e.
      let widths = and_parts _ _ e in
      let texts = and_parts _ _ widths.1 in
      let limits = and_parts _ _ texts.1 in
      let lines = and_parts _ _ limits.1 in
      let colors = and_parts _ _ lines.1 in
      λ i. record {
        width = (unsigned_Decides a.width b.width).0 widths.0 i;
        cutting = record {
          suffix = (pointwise_decides unsigned_Decides a.suffix.now b.suffix.now).0 texts.0 i;
          limit = same-limit a.limit b.limit limits.0 i;
          multiline = same-switch a.multiline b.multiline lines.0 i;
          try_color = same-switch a.try_color b.try_color colors.0 i;
        };
        priority = (unsigned_Decides a.priority b.priority).0 colors.1 i;
      }),
  (λ e.
      both _ _ ((unsigned_Decides a.width b.width).1 (ap (λ (it : Truncation ℕ ℕ). it.width) e))
      (both _ _ ((pointwise_decides unsigned_Decides a.suffix.now b.suffix.now).1 (ap (λ (it : Truncation ℕ ℕ). it.cutting.suffix) e))
      (both _ _ (ap (limits.eq a.limit) (sym (ap (λ (it : Truncation ℕ ℕ). it.cutting.limit) e)) ∙ limit-itself a.limit)
      (both _ _ (switch-itself a.multiline b.multiline (ap (λ (it : Truncation ℕ ℕ). it.cutting.multiline) e))
      (both _ _ (switch-itself a.try_color b.try_color (ap (λ (it : Truncation ℕ ℕ). it.cutting.try_color) e))
      ((unsigned_Decides a.priority b.priority).1 (ap (λ (it : Truncation ℕ ℕ). it.priority) e))))))),
)
