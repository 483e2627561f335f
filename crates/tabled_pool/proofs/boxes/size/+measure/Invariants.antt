use Rattle.std.proofs.Common.{◌≡◌, ◌+◌, ◌++◌, drop, max}
use Rattle.grid_config.specs.Looks.{look_of}
use Rattle.tabled_pool.specs.Boxes.Boxes.{column_height, row_width}
use Rattle.tabled_pool.proofs.BoxesLemmas.Sizes.{all_sizes, heights, highest_box, widest_box, widths}
use Rattle.tabled_pool.specs.Boxes.Boxes.{boxes_of}
use Rattle.tabled_pool.specs.Boxes.Values.{nestings_of}
use Rattle.tabled_pool.proofs.boxes.size.+measure.Given as goal

abbrev pub invariant-push_row_sizes-loop-member : goal.invariant-push_row_sizes-loop-member
invariant-push_row_sizes-loop-member l =
    let look = look_of l.cfg in
    let left = drop l.member-index l.member-items in
    (l.width + widths look left ≡ row_width look (boxes_of look (nestings_of l.member-items)))
    × (max l.height (highest_box look left) ≡ highest_box look l.member-items)
    × (l.sizes.items ++ all_sizes look left ≡ l.initial.sizes.items ++ all_sizes look l.member-items)

abbrev pub invariant-push_column_sizes-loop-member : goal.invariant-push_column_sizes-loop-member
invariant-push_column_sizes-loop-member l =
    let look = look_of l.cfg in
    let left = drop l.member-index l.member-items in
    (max l.width (widest_box look left) ≡ widest_box look l.member-items)
    × (l.height + heights look left ≡ column_height look (boxes_of look (nestings_of l.member-items)))
    × (l.sizes.items ++ all_sizes look left ≡ l.initial.sizes.items ++ all_sizes look l.member-items)
