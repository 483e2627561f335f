use Rattle.std.proofs.Common.{◌≡◌, ◌+◌, ◌⊎◌, ℕ, List, Option, inl, inr, ap, subst, sym, ◌∙◌}
use Rattle.std.proofs.lemmas.Result.{err_from_is_err_and}
use Rattle.grid_config_values.specs.declared.fault.Fault.{Fault}
use Rattle.grid_config_values.specs.declared.fault.Fault.TheVariants.{Memory, Range as PassesMax}
use Rattle.grid_records_traits.specs.Sources.{texts_of_rows}
use Rattle.tabled_compact.specs.Tables.{first_or_all}
use Rattle.tabled_compact.specs.Iter.Content.{heights_or, widths_or}
use Rattle.tabled_compact.specs.Iter.Padded.{PassesRange}
use Rattle.tabled_size.specs.Dimension.Sizes.{GivenSizes, given_size}
use Rattle.tabled_compact.proofs.IterLemmas.Shapes.{kept-map}
use Rattle.tabled_compact.proofs.iter.sizes.inner_and_outer_of.Goals as goal

-- the heights of the texts that are kept
kept_heights : (height width : Option ℕ) (columns : ℕ) (kept : Option ℕ) (all few : List (List (List ℕ))) (heights : GivenSizes) →
    heights ≡ heights_or height width columns few → few ≡ first_or_all kept all → heights ≡ heights_or height width columns (first_or_all kept all)
kept_heights height width columns kept all few heights is same = is ∙ ap (heights_or height width columns) same

-- a refusal by sizes that have other names
wide_refused : (fault : Fault) (more other : ℕ) (found widths heights : GivenSizes) → found ≡ widths → (fault ≡ Memory) ⊎ ((fault ≡ PassesMax) × PassesRange more found) →
    (fault ≡ Memory) ⊎ ((fault ≡ PassesMax) × (PassesRange more widths ⊎ PassesRange other heights))
wide_refused fault more other found widths heights same (inl memory) = inl memory
wide_refused fault more other found widths heights same (inr range) = inr (range.0, inl (subst (PassesRange more) same range.1))

high_refused : (fault : Fault) (more other : ℕ) (found widths heights : GivenSizes) → found ≡ heights → (fault ≡ Memory) ⊎ ((fault ≡ PassesMax) × PassesRange other found) →
    (fault ≡ Memory) ⊎ ((fault ≡ PassesMax) × (PassesRange more widths ⊎ PassesRange other heights))
high_refused fault more other found widths heights same (inl memory) = inl memory
high_refused fault more other found widths heights same (inr range) = inr (range.0, inr (subst (PassesRange other) same range.1))

pub returns-in_err-wide-clause-refused : goal.returns-in_err-wide-clause-refused
returns-in_err-wide-clause-refused g c =
    let texts = texts_of_rows g.C.Cell.text c.args.sniffed.now in
    let p = err_from_is_err_and c.from_residual-in_err-wide.result c.from_residual-in_err-wide.ensures.1 in
    rw (p.1, p.2)
    (wide_refused c.in_err-wide.field-0.0 (c.args.padding.left.size + c.args.padding.right.size) (c.args.padding.top.size + c.args.padding.bottom.size) _
    (widths_or c.args.shape.width c.args.columns texts) (heights_or c.args.shape.height c.args.shape.width c.args.columns (first_or_all c.args.shape.kept texts)) c.in_ok-widths.ensures c.in_err-wide.ensures.refused)

pub returns-in_err-high-clause-refused : goal.returns-in_err-high-clause-refused
returns-in_err-high-clause-refused g c =
    let texts = texts_of_rows g.C.Cell.text c.args.sniffed.now in
    let p = err_from_is_err_and c.from_residual-in_err-high.result c.from_residual-in_err-high.ensures.1 in
    rw (p.1, p.2)
    (high_refused c.in_err-high.field-0.0 (c.args.padding.left.size + c.args.padding.right.size) (c.args.padding.top.size + c.args.padding.bottom.size) _
    (widths_or c.args.shape.width c.args.columns texts) (heights_or c.args.shape.height c.args.shape.width c.args.columns (first_or_all c.args.shape.kept texts))
    (kept_heights c.args.shape.height c.args.shape.width c.args.columns c.args.shape.kept texts _ _ c.in_ok-heights.ensures
    (ap (texts_of_rows g.C.Cell.text) c.first_or_all-kept.ensures ∙ sym (kept-map _ c.args.shape.kept c.args.sniffed.now)))
    c.in_err-high.ensures.refused)

pub returns-clause-high : goal.returns-clause-high
returns-clause-high g c =
    let texts = texts_of_rows g.C.Cell.text c.args.sniffed.now in
    let more : ℕ = c.args.padding.top.size + c.args.padding.bottom.size in
    λ k. ap (λ (pair : GivenSizes × GivenSizes). given_size pair.1 k) c.new-2.ensures ∙ c.in_ok-high.ensures.sums k
    ∙ ap (λ (sizes : GivenSizes). given_size sizes k + more)
    (kept_heights c.args.shape.height c.args.shape.width c.args.columns c.args.shape.kept texts _ _ c.in_ok-heights.ensures
    (ap (texts_of_rows g.C.Cell.text) c.first_or_all-kept.ensures ∙ sym (kept-map _ c.args.shape.kept c.args.sniffed.now)))
