use Rattle.std.proofs.Common.{◌≡◌, [], ◌∷◌, refl, slice_index_or, sym, ◌∙◌, arith}
use Rattle.std.proofs.lemmas.List.Elements.{All-cons, All-head, All-nil, All-rest, All-same}
use Rattle.std.specs.List.{All}
use Rattle.grid_config_values.specs.declared.position.Position.{Position}
use Rattle.grid_config_values.specs.declared.spans.extent.Extent.{Extent}
use Rattle.grid_config_values.specs.Spans.Clear.{Has, IsClear, NoneIsSingle}
use Rattle.grid_config_values.specs.Spans.Spans.{ArePositive}
use Rattle.grid_config_values.proofs.SpansLemmas.Extents.{lookup_place, none_single_if_bounded, positive_if_bounded}
use Rattle.grid_config_values.proofs.SpansLemmas.Good.{good_from_clear}
use Rattle.grid_config_values.proofs.SpansLemmas.Visible.{all_at}
use Rattle.grid_config_values.proofs.spans.spans.Spans.spans_are_good.Goals as goal

pub loop-anchor-init : goal.loop-anchor-init
loop-anchor-init c =
    let spans = c.self.inside.extents.entries in
    let is : c.into_iter-anchor-iterator.result ≡ spans = grind (arith, c.into_iter-anchor-iterator.ensures.into_iter_gives, c.iter-anchor-items.ensures.rest) in
    let kept : All (Has spans) spans = λ k d lt. sym (lookup_place spans (slice_index_or spans k d).0) ∙ c.iter-anchor-items.ensures.found k d lt in
    rw (is, ← c.self.view_is) (kept, λ all span has. all_at (IsClear spans c.args.rows c.args.columns) spans span all has)

pub is_clear-requires : goal.is_clear-requires
is_clear-requires c =
    let positive : ArePositive c.args.self.now = rw (← c.self.view_is) (positive_if_bounded c.self.inside c.self.invariant) in
    let several : NoneIsSingle c.args.self.now = rw (← c.self.view_is) (none_single_if_bounded c.self.inside c.self.invariant) in
    let left = All-same (Has c.args.self.now) ((c.in-Some.anchor.now, c.in-Some.extent.now) ∷ c.next.new.self) c.loop-anchor.anchor-iterator (sym c.in-Some.ensures.steps) c.loop-anchor.invariant.0 in
    record { one = All-head (Has c.args.self.now) (c.in-Some.anchor.now, c.in-Some.extent.now) c.next.new.self left; positive = positive; several = several }

pub loop-anchor-preserved : goal.loop-anchor-preserved
loop-anchor-preserved c =
    let span : Position × Extent = (c.in-Some.anchor.now, c.in-Some.extent.now) in
    let clear = IsClear c.args.self.now c.args.rows c.args.columns in (
      All-rest (Has c.args.self.now) span c.next.new.self c.loop-anchor.anchor-iterator c.in-Some.ensures.steps c.loop-anchor.invariant.0,
      λ all. c.loop-anchor.invariant.1 (All-same clear c.loop-anchor.anchor-iterator (span ∷ c.next.new.self) c.in-Some.ensures.steps (All-cons clear span c.next.new.self (c.is_clear.ensures.clear c.if-not-is_clear.false) all)),
    )

pub returns-clause-good : goal.returns-clause-good
returns-clause-good c =
    let positive : ArePositive c.args.self.now = rw (← c.self.view_is) (positive_if_bounded c.self.inside c.self.invariant) in
    let several : NoneIsSingle c.args.self.now = rw (← c.self.view_is) (none_single_if_bounded c.self.inside c.self.invariant) in
    let clear = IsClear c.args.self.now c.args.rows c.args.columns in
    let all = c.loop-anchor.invariant.1 (All-same clear c.loop-anchor.anchor-iterator [] c.in-None.ensures.steps.0 (All-nil clear)) in
    (λ _. good_from_clear c.args.self.now positive several c.args.rows c.args.columns all, λ _. refl)
