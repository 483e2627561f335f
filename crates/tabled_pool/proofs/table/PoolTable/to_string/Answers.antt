use Rattle.std.proofs.Common.{◌≡◌, IfErr, IfOk, subst}
use Rattle.std.specs.Prelude.{string_bytes}
use Rattle.grid_config.specs.Looks.{Look}
use Rattle.grid_config_values.specs.declared.fault.Fault.TheVariants.{Range}
use Rattle.tabled_pool.specs.Boxes.Boxes.{box_of}
use Rattle.tabled_pool.specs.Boxes.Texts.{IsPoolTooLarge, pool_text}
use Rattle.tabled_pool.specs.Boxes.Values.{nesting_of}
use Rattle.tabled_pool.proofs.table.PoolTable.to_string.Goals as goal

pub returns-clause-text : goal.returns-clause-text
returns-clause-text c =
    let takers = c.args.self.now.dimension in
    let nesting = nesting_of c.args.self.now.value in
    let shown = λ (look : Look). IfOk c.pool_text.result (λ text. string_bytes text ≡ pool_text look takers (box_of look nesting)) in
    subst shown c.in_ok-config.ensures.settings c.pool_text.ensures.text

pub returns-clause-fits : goal.returns-clause-fits
returns-clause-fits c =
    let takers = c.args.self.now.dimension in
    let nesting = nesting_of c.args.self.now.value in
    let fits = λ (look : Look). IfOk c.pool_text.result (λ _. IsPoolTooLarge look takers (box_of look nesting) → ⊥) in
    subst fits c.in_ok-config.ensures.settings c.pool_text.ensures.fits

pub returns-clause-range : goal.returns-clause-range
returns-clause-range c =
    let takers = c.args.self.now.dimension in
    let nesting = nesting_of c.args.self.now.value in
    let passes = λ (look : Look). IfErr c.pool_text.result (λ fault. fault ≡ Range → IsPoolTooLarge look takers (box_of look nesting)) in
    subst passes c.in_ok-config.ensures.settings c.pool_text.ensures.range
