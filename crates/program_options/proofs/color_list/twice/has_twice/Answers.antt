use Rattle.std.proofs.Common.{◌≡◌, ◌∙◌, ◌<◌, ◌+◌, ◌++◌, ◌==◌, ◌||◌, ◌∷◌, [], ℕ, Bool, ap, arith, cond, length, map, refl, take, sym, true, false}
use Rattle.std.specs.Prelude.{if◌then◌else◌}
use Rattle.std.specs.List.{list_any}
use Rattle.std.proofs.lemmas.List.{map_more}
use Rattle.program_options.specs.ColorList.Listed.{has_twice}
use Rattle.program_options.proofs.ColorListLemmas.OneMore.{any-push, twice-step}
use Rattle.program_options.proofs.color_list.twice.has_twice.Goals as goal
use Rattle.program_options.proofs.color_list.twice.has_twice.Goals.{then-not-branch, else-not-branch}

either : (a b : Bool) → cond a true b ≡ (a || b)
either true b = refl
either false b = refl

pub loop-one-preserved : goal.loop-one-preserved
loop-one-preserved g c =
    let given = c.args.given.now in
    let i = c.loop-one.one-index in
    let lt : i < length given = omega arith in
    let item = c.one-item.result in
    let view = λ (x : ℕ × g.row.T.Denot). x.0 in
    let taken = map view (take i given) in
    let is_new = c.in_ok-insert.field-0 in
    let before = c.loop-one.twice in
    let more : map view (take (i + 1) given) ≡ taken ++ item.0 ∷ [] =
    map_more view given i item lt ∙ ap (λ (x : ℕ × g.row.T.Denot). taken ++ view x ∷ []) (sym c.one-item.is) in
    let after : c.if-not-branch.twice ≡ (if is_new then before else true) =
    elim c.if-not-branch.branch [
      | then-not-branch w ↦ w.twice-is ∙ sym (ap (λ (b : Bool). if b then before else true) w.if-not-branch.true)
      | else-not-branch w ↦ w.twice-is ∙ sym (ap (λ (b : Bool). if b then before else true) w.if-not-branch.false)
    ] in
    record {
      twice =
          after
          ∙ (twice-step taken item.0 before _ is_new c.loop-one.invariant.twice (c.loop-one.invariant.met item.0) c.in_ok-insert.ensures.added
          ∙ ap has_twice (sym more));
      met = λ other.
          c.in_ok-insert.ensures.updates.0 other
          ∙ (either (item.0 == other) _
          ∙ (ap (λ (b : Bool). item.0 == other || b) (c.loop-one.invariant.met other)
          ∙ (sym (any-push (λ (known : ℕ). known == other) taken item.0) ∙ ap (list_any (λ (known : ℕ). known == other)) (sym more))));
    }
