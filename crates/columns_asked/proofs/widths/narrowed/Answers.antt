-- The widths that are shrunk in place are a list of their own, as long as the others.
use Rattle.std.proofs.Common.{◌≡◌, ◌<◌, ◌∙◌, length, replicate, arith}
use Rattle.std.specs.Prelude.{Some}
use Rattle.columns_asked.proofs.Narrows.{narrowed-some}
use Rattle.columns_asked.proofs.widths.narrowed.Goals as goal

pub returns : goal.returns
returns c = λ style beside.
    let items : c.in_ok-sizes.sizes.items ≡ c.args.widths.now = c.in_ok-sizes.ensures.items_if_clones_equal (λ x y same. same) in
    let old : c.deref_mut.result.now ≡ c.in_ok-sizes.sizes.items = search in
    let least : c.deref.result.now ≡ replicate (length c.args.widths.now) c.args.beside = c.deref.ensures.value ∙ c.in_ok-least.ensures.items_if_clones_equal (λ y same. same) in
    let len : c.in_ok-sizes.sizes.len ≡ length c.in_ok-sizes.sizes.items = search in
    let width : c.args.asked.now.width ≡ Some c.in-Some.width = search in
    let more : c.in-Some.width < c.args.total = omega (arith, c.if-total-width.false) in
    narrowed-some style c.args.asked.now c.args.widths.now c.deref.result.now c.deref_mut.result.now c.shrink.new.widths c.in_ok-sizes.sizes.items c.args.total c.args.beside c.in-Some.width
    c.in_ok-sizes.sizes.len beside width more items old least len c.shrink.ensures
