-- Of all characters, or of all words.
use Rattle.std.proofs.Common.{◌∙◌, ◌++◌, List, Bool, ℕ, map, ap, sym, true, append-nil}
use Rattle.std.specs.Prelude.{chars}
use Rattle.std.proofs.lemmas.Str.{chars-nil}
use Rattle.tabled_size_wrap.specs.Units.{character_unit, line_units, placed_units}
use Rattle.tabled_size_wrap.proofs.AllUnits.{left-none}
use Rattle.tabled_size_wrap.proofs.line_units.LineUnits.new.Goals as goal

pub returns-then-keep_words : goal.returns-then-keep_words
returns-then-keep_words c =
    ap (placed_units 0) (left-none c.args.width c.args.line.now) ∙ ap (λ (keep : Bool). placed_units 0 (line_units c.args.width keep (chars c.args.line.now))) (sym c.if-keep_words.true)

pub returns-else-keep_words : goal.returns-else-keep_words
returns-else-keep_words c =
    let units = map character_unit (chars c.args.line.now) in
    ap (λ (cs : List ℕ). placed_units 0 (units ++ line_units c.args.width true cs)) chars-nil
    ∙ ap (placed_units 0) (append-nil units)
    ∙ ap (λ (keep : Bool). placed_units 0 (line_units c.args.width keep (chars c.args.line.now))) (sym c.if-keep_words.false)
