use Rattle.std.proofs.Common.{ap, ap₂, codes, true, ◌≡◌, ◌∙◌}
use Rattle.std.proofs.lemmas.Result.{IfOk-weaker}
use Rattle.clap.specs.Simple.{app_of_fields}
use Rattle.clap.specs.Words.{App, app_of, new_app, rule_of, with_rule}
use Rattle.command_line.proofs.columns.command.command.Goals as goal

abbrev with_version : App → App
with_version a = record a { top = record a.top { has_version = true } }

pub returns : goal.returns
returns c =
    let versioned : app_of c.after_help.result ≡ with_version (new_app (codes "columns")) =
    ap app_of_fields c.after_help.ensures ∙ (ap app_of_fields c.override_usage.ensures ∙ (ap app_of_fields c.about.ensures ∙ (ap app_of_fields c.version.ensures ∙ ap with_version c.new.ensures.app))) in
    let one = c.in_ok-arg.ensures.shape c.width.ensures.global ∙ ap₂ with_rule versioned c.width.ensures.rule in
    let two = c.in_ok-arg-2.ensures.shape c.truncate.ensures.global ∙ ap₂ with_rule one c.truncate.ensures.rule in
    let three = c.in_ok-arg-3.ensures.shape c.keep_words.ensures.global ∙ ap₂ with_rule two c.keep_words.ensures.rule in
    let four = c.in_ok-arg-4.ensures.shape c.priority.ensures.global ∙ ap (λ (a : App). with_rule a (rule_of c.priority.result)) three in
    let five = c.in_ok-arg-5.ensures.shape c.style.ensures.global ∙ ap (λ (a : App). with_rule a (rule_of c.style.result)) four in
    let six = c.in_ok-arg-6.ensures.shape c.streamed.ensures.global ∙ ap₂ with_rule five c.streamed.ensures.rule in
    IfOk-weaker c.arg-7.result _ _ (λ command added. record {
      priority = rule_of c.priority.result;
      style = rule_of c.style.result;
      priorities = c.priority.ensures.rule;
      styles = c.style.ensures.rule;
      is = added.shape c.color.ensures.global ∙ ap₂ with_rule six c.color.ensures.rule;
    }) c.arg-7.ensures
