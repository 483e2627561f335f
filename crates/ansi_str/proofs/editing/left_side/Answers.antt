-- The bound is good in all pieces of the text, and the first part is the first side.
use Rattle.std.proofs.Common.{List, [], ℕ, ap, get_or, sym}
use Rattle.ansi_scan.specs.Pieces.{pieces}
use Rattle.ansi_scan.proofs.Existence.{ArePiecesOf-pieces}
use Rattle.ansi_str.proofs.CutSteps.{good-in-all}
use Rattle.ansi_str.proofs.editing.left_side.Goals as goal

pub split_at-requires : goal.split_at-requires
split_at-requires c = good-in-all c.args.text.now c.args.mid (c.is_good_bound.ensures.0 c.if-not-is_good_bound.false)

pub returns : goal.returns
returns c =
    let sides = c.in_ok-left.ensures.parts (pieces c.args.text.now) (ArePiecesOf-pieces c.args.text.now) in
    (c.is_good_bound.ensures.0 c.if-not-is_good_bound.false, sym (ap (λ (parts : List (List ℕ)). get_or parts 0 []) sides))
