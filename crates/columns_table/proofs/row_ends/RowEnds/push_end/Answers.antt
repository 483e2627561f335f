use Rattle.std.proofs.Common.{◌≡◌, ◌<◌, ℕ, ◌+◌, List, [], ◌∷◌, ◌++◌, get_or, length, max, slice_set, sum, ap, sym, subst, ◌∙◌, arith, length-append}
use Rattle.std.proofs.lemmas.Grind.{get_or_default_zero}
use Rattle.std.proofs.lemmas.List.{length-map, map_push}
use Rattle.columns_table.specs.Columns.{AreWidest, end_widths}
use Rattle.columns_table.specs.declared.ends.CellEnd.{CellEnd}
use Rattle.columns_table.proofs.Widest.{AreWidest-more, AreWidest-wider, begun-within, set-same}
use Rattle.columns_table.proofs.row_ends.RowEnds.push_end.Goals as goal
use Rattle.columns_table.proofs.row_ends.RowEnds.push_end.Goals.{Joined-column-len, then-column-len+in_ok-push, else-column-len}

-- there is a column for the cell, and nothing else has changed
record Opened (old_ends now_ends : List CellEnd) (old_counts now_counts : List ℕ) (begun now_begun : ℕ) (now_widest : List ℕ) : Type 0 where
  ends : now_ends ≡ old_ends
  counts : now_counts ≡ old_counts
  row : now_begun ≡ begun
  widest : AreWidest now_widest (old_counts ++ begun ∷ []) (end_widths old_ends)
  inside : begun < length now_widest

opened : (c : Joined-column-len) → Opened c.self.inside.ends c.if-column-len.self-inside.ends c.self.inside.counts.items c.if-column-len.self-inside.counts.items c.self.inside.begun c.if-column-len.self-inside.begun c.if-column-len.self-inside.widest.items
opened c =
    let old = c.self.inside in
    let counts : List ℕ = old.counts.items ++ old.begun ∷ [] in
    let within = begun-within old.widest.items old.counts.items (end_widths old.ends) old.begun c.self.invariant.1 in
    elim c.if-column-len.branch [
      | then-column-len+in_ok-push w ↦
          let widest : c.if-column-len.self-inside.widest.items ≡ old.widest.items ++ 0 ∷ [] = ap (λ inside. inside.widest.items) w.self-inside-is ∙ w.in_ok-push.ensures.items in
          record {
            ends = ap (λ inside. inside.ends) w.self-inside-is;
            counts = ap (λ inside. inside.counts.items) w.self-inside-is;
            row = ap (λ inside. inside.begun) w.self-inside-is;
            widest = subst (λ (found : List ℕ). AreWidest found counts (end_widths old.ends)) (sym widest) (AreWidest-wider old.widest.items counts (end_widths old.ends) c.self.invariant.1);
            inside = omega (arith, within, ap (λ (found : List ℕ). length found) widest, length-append old.widest.items (0 ∷ []));
          }
      | else-column-len w ↦
          let widest : c.if-column-len.self-inside.widest.items ≡ old.widest.items = ap (λ inside. inside.widest.items) w.self-inside-is in
          record {
            ends = ap (λ inside. inside.ends) w.self-inside-is;
            counts = ap (λ inside. inside.counts.items) w.self-inside-is;
            row = ap (λ inside. inside.begun) w.self-inside-is;
            widest = subst (λ (found : List ℕ). AreWidest found counts (end_widths old.ends)) (sym widest) c.self.invariant.1;
            inside = omega (arith, within, w.if-column-len.false, c.len.ensures, old.widest.ok.0, ap (λ (found : List ℕ). length found) widest);
          }
    ]

pub index_mut-widest-requires : goal.index_mut-widest-requires
index_mut-widest-requires c = omega (arith, (opened (goal.at.index_mut-widest-requires c).Joined-column-len).inside, c.if-column-len.self-inside.widest.ok.0)

pub invariant_of-self-in_err-push_end : goal.invariant_of-self-in_err-push_end
invariant_of-self-in_err-push_end c =
    let known = opened (goal.at.invariant_of-self-in_err-push_end c).Joined-column-len in
    let old = c.self.inside in
    let now = c.if-column-len.self-inside in
    let same : c.push_end.new.self ≡ old.ends = c.in_err-push_end.ensures.err ∙ known.ends in
    let counts : List ℕ = old.counts.items ++ old.begun ∷ [] in
    let kept : slice_set now.widest.items old.begun c.index_mut-widest.result.now ≡ now.widest.items =
    set-same now.widest.items old.begun _ known.inside (c.index_mut-widest.ensures.value ∙ get_or_default_zero now.widest.items old.begun _ known.inside) in (
      omega (arith, c.self.invariant.0, known.row, ap sum known.counts, ap (λ (ends : List CellEnd). length ends) same),
      subst (λ (found : List ℕ). AreWidest found (now.counts.items ++ now.begun ∷ []) (end_widths c.push_end.new.self)) (sym kept)
          (subst (λ (found : List ℕ). AreWidest now.widest.items (found ++ now.begun ∷ []) (end_widths c.push_end.new.self)) (sym known.counts)
          (subst (λ (found : ℕ). AreWidest now.widest.items (old.counts.items ++ found ∷ []) (end_widths c.push_end.new.self)) (sym known.row)
          (subst (λ (found : List CellEnd). AreWidest now.widest.items counts (end_widths found)) (sym same) known.widest))),
    )

pub overflow_add-self : goal.overflow_add-self
overflow_add-self c = omega (arith, (opened (goal.at.overflow_add-self c).Joined-column-len).inside, c.if-column-len.self-inside.widest.ok.0, c.if-column-len.self-inside.widest.ok.1)

pub invariant_of-self-2 : goal.invariant_of-self-2
invariant_of-self-2 c =
    let known = opened (goal.at.invariant_of-self-2 c).Joined-column-len in
    let old = c.self.inside in
    let now = c.if-column-len.self-inside in
    let widths = end_widths old.ends in
    let widest : List ℕ = slice_set now.widest.items old.begun c.max.result in
    let whole : sum old.counts.items + old.begun ≡ length widths = c.self.invariant.0 ∙ sym (length-map old.ends (λ (end : CellEnd). end.width)) in
    let more : c.push_end.new.self ≡ old.ends ++ c.args.cell ∷ [] = c.in_ok-push_end.ensures.more ∙ ap (λ (ends : List CellEnd). ends ++ c.args.cell ∷ []) known.ends in
    let most : c.max.result ≡ max (get_or now.widest.items old.begun 0) c.args.cell.width =
    c.max.ensures ∙ ap (λ n. max n c.args.cell.width) (c.index_mut-widest.ensures.value ∙ get_or_default_zero now.widest.items old.begun _ known.inside) in (
      omega (arith, c.self.invariant.0, ap sum known.counts, ap (λ (ends : List CellEnd). length ends) more, length-append old.ends (c.args.cell ∷ [])),
      subst (λ (found : List ℕ). AreWidest widest (found ++ (old.begun + 1) ∷ []) (end_widths c.push_end.new.self)) (sym known.counts)
          (subst (λ (found : List ℕ). AreWidest widest (old.counts.items ++ (old.begun + 1) ∷ []) found) (sym (ap end_widths more ∙ map_push (λ (end : CellEnd). end.width) old.ends c.args.cell))
          (AreWidest-more now.widest.items old.counts.items widths old.begun c.args.cell.width whole known.widest known.inside c.max.result most)),
    )
