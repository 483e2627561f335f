-- The lines of a cell's rectangle, where the settings are even: each is a line of its text, or after the last.
use Rattle.std.proofs.Common.{◌≡◌, ℕ, ◌+◌, ◌-◌, ◌<◌, ◌≤◌, Bool, true, false, cond, refl, ap, sym, ◌∙◌, arith}
use Rattle.std.specs.Prelude.{nat_lt}
use Rattle.std.proofs.lemmas.Bool.Decides.{nat_tests}
use Rattle.grid_config_values.specs.declared.position.Position.{Position}
use Rattle.grid_config.specs.Looks.{Look, look_of}
use Rattle.grid_config.specs.Settings.{Settings}
use Rattle.papergrid_picture.specs.Blocks.{free_above}
use Rattle.papergrid_cells.specs.BlockLines.{block_line_at, kind_at}
use Rattle.papergrid_cells.specs.Flat.{AreEven, first_cell}
use Rattle.papergrid_cells.specs.declared.block.BlockLine.{BlockLine}
use Rattle.papergrid_cells.specs.declared.block.BlockLine.TheVariants.{Above, Text, Below, Outside}

-- ---- without paddings

module _ (above count below k : ℕ) where
  -- by whether it is in the padding, above the text, in it, or below it
  abbrev kind_by : Bool → Bool → Bool → Bool → BlockLine
  kind_by padded free shown under =
      cond padded Above (cond free (Text count) (cond shown (Text (k - 0 - above)) (cond under (Text count) (cond (nat_lt (k - 0 - above - count - below) 0) Below Outside))))

  abbrev in_text : Bool
  in_text = nat_lt (k - 0 - above) count

  abbrev is_under : Bool
  is_under = nat_lt (k - 0 - above - count) below

  none-padded : nat_lt k 0 ≡ false
  none-padded =
      let least : 0 ≤ k = omega arith in
      grind (arith, nat_tests, least)

  kind-above : k < above → kind_at 0 above count below 0 k ≡ Text count
  kind-above inside =
      let less : k - 0 < above = omega (arith, inside) in
      let free : nat_lt (k - 0) above ≡ true = grind (arith, nat_tests, less) in
      ap (λ b. kind_by b (nat_lt (k - 0) above) in_text is_under) none-padded ∙ ap (λ b. kind_by false b in_text is_under) free

  kind-behind : (r : ℕ) → above ≤ k → k < above + (count + below) → (k - above < count → r ≡ k - above) → (count ≤ k - above → r ≡ count) → kind_at 0 above count below 0 k ≡ Text r
  kind-behind r least inside one other =
      let least_so : above ≤ k - 0 = omega (arith, least) in
      let not_free : nat_lt (k - 0) above ≡ false = grind (arith, nat_tests, least_so) in
      ap (λ b. kind_by b (nat_lt (k - 0) above) in_text is_under) none-padded
      ∙ (ap (λ b. kind_by false b in_text is_under) not_free
      ∙ elim in_text as (λ b. in_text ≡ b → kind_by false false b is_under ≡ Text r) [
        | true ↦ λ is.
            let less : k - 0 - above < count = grind (arith, nat_tests, is) in
            let short : k - above < count = omega (arith, less) in
            let same : k - 0 - above ≡ r = omega (arith, one short) in
            ap Text same
        | false ↦ λ is.
            let more : count ≤ k - 0 - above = grind (arith, nat_tests, is) in
            let long : count ≤ k - above = omega (arith, more) in
            let rest : k - 0 - above - count < below = omega (arith, inside, more) in
            let under : is_under ≡ true = grind (arith, nat_tests, rest) in
            ap (kind_by false false false) under ∙ ap Text (sym (other long))
      ] refl)

-- ---- in even settings

module _ (settings : Settings) (even : AreEven settings) (pos : Position) (count height k : ℕ) where
  abbrev own_look : Look
  own_look = look_of settings

  abbrev free : ℕ
  free = height - count

  abbrev above_text : ℕ
  above_text = free_above (own_look.alignment_vertical pos) free

  -- that line, where the paddings above and below take so many
  abbrev padded : ℕ → ℕ → ℕ → BlockLine
  padded top bottom left = kind_at top (free_above (own_look.alignment_vertical pos) left) count (left - free_above (own_look.alignment_vertical pos) left) bottom k

  as-even : block_line_at own_look pos count height k ≡ kind_at 0 above_text count (free - above_text) 0 k
  as-even =
      let padding = own_look.padding pos in
      let top : padding.top.size ≡ 0 = ap (λ p. p.top.size) (even.uniform.padding pos first_cell) ∙ even.above in
      let bottom : padding.bottom.size ≡ 0 = ap (λ p. p.bottom.size) (even.uniform.padding pos first_cell) ∙ even.below in
      let same : height - 0 - count - 0 ≡ free = omega arith in
      ap (λ n. padded n padding.bottom.size (height - n - count - padding.bottom.size)) top
      ∙ (ap (λ n. padded 0 n (height - 0 - count - n)) bottom
      ∙ ap (padded 0 0) same)

  pub line-above : k < above_text → block_line_at own_look pos count height k ≡ Text count
  line-above inside = as-even ∙ kind-above above_text count (free - above_text) k inside

  pub line-behind : (r : ℕ) → above_text ≤ k → k < height → (k - above_text < count → r ≡ k - above_text) → (count ≤ k - above_text → r ≡ count) → block_line_at own_look pos count height k ≡ Text r
  line-behind r least inside one other =
      let within : k < above_text + (count + (free - above_text)) = omega (arith, inside, least) in
      as-even ∙ kind-behind above_text count (free - above_text) k r least within one other
