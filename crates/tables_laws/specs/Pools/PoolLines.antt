-- The lines of a pool.
use Rattle.std.specs.Prelude.{ℕ, List}
use Rattle.tabled_pool.specs.Boxes.Framed.{framed_width}
use Rattle.tabled_pool.specs.Boxes.Texts.{lines, with_margins}
use Rattle.tabled_pool.specs.Pools.{Pool, look_of_pool, own_box}

-- the lines of a pool that shows something, those of its margin too
abbrev pub pool_lines : Pool → List (List ℕ)
pool_lines pool = with_margins (look_of_pool pool) (framed_width (look_of_pool pool) (own_box pool)) (lines (look_of_pool pool) pool.takers (own_box pool))
