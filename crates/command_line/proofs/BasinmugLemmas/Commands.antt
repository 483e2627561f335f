-- What the command `basinmug` is, for the clauses of its parser.
use Rattle.std.proofs.Common.{◌≡◌, ◌∙◌, true, List, [], ◌∷◌, refl, ap, codes}
use Rattle.std.specs.Borrow.{Bor}
use Rattle.clap.specs.Faults.{is_simple_and_free}
use Rattle.clap.specs.Simple.{App, is_simple}
use Rattle.clap.specs.Walk.{Rule as OptionRule, Text}
use Rattle.clap.specs.declared.builder.value_parser.ValueParser.TheVariants.{Names}
use Rattle.clap.proofs.OnLiterals.{clap_on_literals}
use Rattle.command_line.specs.Options.Rules.{value_rule}
use Rattle.command_line.specs.Basinmug.Command.{IsBasinmug, basinmug_app}

-- the names that a parser borrows
abbrev Borrowed : Type 0
Borrowed = Bor (List (Bor Text))

-- the options that take these names
abbrev escapes_rule : Borrowed → OptionRule
escapes_rule names = value_rule (codes "escapes") (Names names) (codes "colors" ∷ [])

abbrev priority_rule : Borrowed → OptionRule
priority_rule names = value_rule (codes "priority") (Names names) (codes "max" ∷ [])

abbrev style_rule : Borrowed → OptionRule
style_rule names = value_rule (codes "style") (Names names) (codes "rounded" ∷ [])

-- the command, with the names that its four lists borrow
abbrev listed : Borrowed → Borrowed → Borrowed → Borrowed → App
listed escapes priorities styles rules = basinmug_app
    (escapes_rule escapes)
    (priority_rule priorities)
    (style_rule styles)
    (value_rule (codes "rules") (Names rules) (codes "header" ∷ []))

is_listed : (app : App) (h : IsBasinmug app) → app ≡ listed h.all_escapes.0 h.priorities.0 h.styles.0 h.all_rules.0
is_listed app h =
    h.is ∙ (ap (λ (e : OptionRule). basinmug_app e h.priority h.style h.rules) h.all_escapes.2
    ∙ (ap (λ (p : OptionRule). basinmug_app (escapes_rule h.all_escapes.0) p h.style h.rules) h.priorities.2
    ∙ (ap (λ (s : OptionRule). basinmug_app (escapes_rule h.all_escapes.0) (priority_rule h.priorities.0) s h.rules) h.styles.2
    ∙ ap (λ (r : OptionRule). basinmug_app (escapes_rule h.all_escapes.0) (priority_rule h.priorities.0) (style_rule h.styles.0) r) h.all_rules.2)))

listed-simple : (escapes priorities styles rules : Borrowed) → is_simple (listed escapes priorities styles rules) ≡ true
unfolding clap_on_literals
listed-simple escapes priorities styles rules = refl

listed-free : (escapes priorities styles rules : Borrowed) → is_simple_and_free (listed escapes priorities styles rules) ≡ true
unfolding clap_on_literals
listed-free escapes priorities styles rules = refl

-- the matches of `basinmug` are those of a simple command
pub basinmug-simple : (app : App) → IsBasinmug app → is_simple app ≡ true
basinmug-simple app h = ap is_simple (is_listed app h) ∙ listed-simple h.all_escapes.0 h.priorities.0 h.styles.0 h.all_rules.0

-- and so are its errors
pub basinmug-free : (app : App) → IsBasinmug app → is_simple_and_free app ≡ true
basinmug-free app h = ap is_simple_and_free (is_listed app h) ∙ listed-free h.all_escapes.0 h.priorities.0 h.styles.0 h.all_rules.0
