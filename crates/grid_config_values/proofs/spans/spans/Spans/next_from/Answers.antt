use Rattle.std.proofs.Common.{◌≡◌, ◌∙◌, List, [], Some, map, slice_index_or, subst, sym, arith}
use Rattle.std.specs.List.{All}
use Rattle.std.specs.List.Sorted.{IsStrictlySortedBy}
use Rattle.std.specs.Map.{lookup}
use Rattle.grid_config_values.specs.declared.position.Position.{Position}
use Rattle.grid_config_values.specs.Order.{position_cmp, same_place}
use Rattle.grid_config_values.specs.declared.spans.extent.Extent.{Extent}
use Rattle.grid_config_values.specs.Spans.Search.{begins_from}
use Rattle.grid_config_values.specs.Spans.Spans.{ArePositive, extent_at}
use Rattle.grid_config_values.proofs.SpansLemmas.Extents.{lookup_place}
use Rattle.grid_config_values.proofs.SpansLemmas.Owners.{found_in_head, found_in_none, same_range}
use Rattle.grid_config_values.proofs.spans.spans.Spans.next_from.Goals as goal

pub returns-in-Some-clause-found : goal.returns-in-Some-clause-found
returns-in-Some-clause-found c =
    rw (← c.self.view_is) (sym (found_in_head _ (begins_from c.args.from) (same_range c.args.from) c.self.inside.extents.entries _ _ (sym (c.range.ensures.between tt) ∙ c.in-Some.ensures.steps)))

pub returns-in-Some-clause-kept : goal.returns-in-Some-clause-kept
returns-in-Some-clause-kept c =
    let spans = c.self.inside.extents.entries in
    let found = (c.range.ensures.in_range tt).0 in
    let Kept : List (Position × Extent) → Type 0 = λ r. All (λ span. lookup (same_place span.0) spans ≡ Some span.1) r in
    let all : Kept c.range.result = λ k d lt. sym (lookup_place spans (slice_index_or c.range.result k d).0) ∙ (found k d lt).1 in
    rw (← c.self.view_is) (subst Kept c.in-Some.ensures.steps all 0 (c.in-Some.anchor.now, c.in-Some.extent.now) (omega arith))

pub returns-in-None-clause-found : goal.returns-in-None-clause-found
returns-in-None-clause-found c =
    rw (← c.self.view_is) (sym (found_in_none _ (begins_from c.args.from) (same_range c.args.from) c.self.inside.extents.entries (sym (c.range.ensures.between tt) ∙ c.in-None.ensures.steps.0)))

nothing-sorted : IsStrictlySortedBy position_cmp []
unfolding IsStrictlySortedBy
nothing-sorted = tt

pub returns-then-is_empty-clause-ordered : goal.returns-then-is_empty-clause-ordered
returns-then-is_empty-clause-ordered c =
    subst (λ (spans : List (Position × Extent)). IsStrictlySortedBy position_cmp (map (λ span. span.0) spans)) (sym (c.is_empty.ensures.empty.0 c.if-is_empty.true)) nothing-sorted

nothing-positive : ArePositive []
unfolding extent_at
nothing-positive place = (omega arith, omega arith)

pub returns-then-is_empty-clause-positive : goal.returns-then-is_empty-clause-positive
returns-then-is_empty-clause-positive c =
    subst (λ (spans : List (Position × Extent)). ArePositive spans) (sym (c.is_empty.ensures.empty.0 c.if-is_empty.true)) nothing-positive
