use Rattle.std.proofs.Common.{◌≡◌, Option, Some, refl, ap, ◌∙◌}
use Rattle.std.specs.Cmp.Lexicographic.{slice_cmp}
use Rattle.std.specs.declared.cmp.Ordering.{Ordering}
use Rattle.std.specs.declared.cmp.Ordering.TheVariants.{Less, Equal, Greater}
use Rattle.std.specs.Ordering.{bool_cmp, nat_cmp, ordering_then, partial_ordering_then}
use Rattle.tabled_size.specs.contracts.dimension.suffix.SuffixLimitOrd.TheImpl.{ghosts as limits}
use Rattle.tabled_size.specs.contracts.dimension.suffix.SuffixLimitPartialOrd.TheImpl.{ghosts as partial_limits}
use Rattle.tabled_size.specs.declared.dimension.suffix.SuffixLimit.{SuffixLimit}
use Rattle.tabled_size.specs.declared.dimension.suffix.SuffixLimit.TheVariants.{Cut, Ignore, Replace}
use Rattle.tabled_width.proofs.laws.options_are_ordered_by_their_parts.Goals as goal

-- one answer and then another, where both are there
one_then : (first : Ordering) (others : Option Ordering) (second : Ordering) → others ≡ Some second → partial_ordering_then (Some first) others ≡ Some (ordering_then first second)
one_then Less others second is = refl
one_then Equal others second is = is
one_then Greater others second is = refl

same-limits : (a b : SuffixLimit) → partial_limits.partial_cmp a b ≡ Some (limits.cmp a b)
same-limits Cut Cut = refl
same-limits Cut Ignore = refl
same-limits Cut (Replace d) = refl
same-limits Ignore Cut = refl
same-limits Ignore Ignore = refl
same-limits Ignore (Replace d) = refl
same-limits (Replace c) Cut = refl
same-limits (Replace c) Ignore = refl
same-limits (Replace c) (Replace d) = refl

pub returns-clause-cutting_partly : goal.returns-clause-cutting_partly
returns-clause-cutting_partly c = λ a b.
    let last = Some (nat_cmp a.priority b.priority) in
    let colors = partial_ordering_then (Some (bool_cmp a.try_color b.try_color)) last in
    let lines = partial_ordering_then (Some (bool_cmp a.multiline b.multiline)) colors in
    one_then (nat_cmp a.width b.width) _ _
    (one_then (slice_cmp nat_cmp a.suffix.now b.suffix.now) _ _
    (ap (λ (first : Option Ordering). partial_ordering_then first lines) (same-limits a.limit b.limit)
    ∙ one_then (limits.cmp a.limit b.limit) lines _
    (one_then (bool_cmp a.multiline b.multiline) colors _
    (one_then (bool_cmp a.try_color b.try_color) last _ refl))))
