use Rattle.std.proofs.Common.{ℕ, List, inl, inr, subst, sym, take}
use Rattle.grid_config_values.specs.Numbers.{IsLeastFrom, numbers_of}
use Rattle.grid_config_values.proofs.NewNumbers.{least_left, least_taken, numbers_more}
use Rattle.grid_config_values.proofs.renumbering.least_from.Goals as goal
use Rattle.grid_config_values.proofs.renumbering.least_from.Goals.{then-from-one+then-one-least, else-from-one, else-from-one-via-then-from-one+else-one-least, else-from-one-via-else-from-one}

pub loop-one-preserved : goal.loop-one-preserved
loop-one-preserved g c =
    let l = c.loop-one in
    let n = c.one-item.result.number in
    let ns = numbers_of (take l.one-index c.args.kept.now) in
    subst (λ (all : List ℕ). IsLeastFrom c.args.from c.args.most all c.if-from-one.least) (sym (numbers_more c.args.kept.now l.one-index c.one-item.result c.loop-one-test.true c.one-item.is))
    (elim c.if-from-one.branch [
      | then-from-one+then-one-least w ↦ rw w.least-is (least_taken c.args.from c.args.most l.least ns l.invariant n w.if-from-one.true w.if-one-least.true)
      | else-from-one w ↦ rw w.least-is (least_left c.args.from c.args.most l.least ns l.invariant n (elim w.else-from-one.branch [
        | else-from-one-via-then-from-one+else-one-least w' ↦ inr w'.if-one-least.false
        | else-from-one-via-else-from-one w' ↦ inl w'.if-from-one.false
      ]))
    ])
