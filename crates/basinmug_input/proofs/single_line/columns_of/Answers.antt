-- The columns of the whole text, where they add up.
use Rattle.std.proofs.Common.{◌≡◌, ◌∙◌, List, ℕ, ap, arith, chars, sym, take}
use Rattle.std.proofs.lemmas.List.{take_all}
use Rattle.grid_records_measure.specs.Measures.{measure}
use Rattle.basinmug_input.proofs.single_line.columns_of.Goals as goal

pub returns-then-len-text : goal.returns-then-len-text
returns-then-len-text c =
    let text = c.args.text.now in
    let all : take c.measured_front-len.result.0 text ≡ text = take_all c.measured_front-len.result.0 text (omega arith) in
    sym (sym (ap (λ (of : List ℕ). measure (chars of)) all) ∙ c.measured_front-len.ensures.columns)
