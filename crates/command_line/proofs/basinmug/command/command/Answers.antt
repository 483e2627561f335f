use Rattle.std.proofs.Common.{ap, ap₂, codes, true, ◌≡◌, ◌∙◌}
use Rattle.std.proofs.lemmas.Result.{IfOk-weaker}
use Rattle.clap.specs.Simple.{app_of_fields}
use Rattle.clap.specs.Words.{App, app_of, new_app, rule_of, with_rule}
use Rattle.command_line.proofs.basinmug.command.command.Goals as goal

abbrev with_version : App → App
with_version a = record a { top = record a.top { has_version = true } }

pub returns : goal.returns
returns c =
    let versioned : app_of c.after_help.result ≡ with_version (new_app (codes "basinmug")) =
    ap app_of_fields c.after_help.ensures ∙ (ap app_of_fields c.override_usage.ensures ∙ (ap app_of_fields c.about.ensures ∙ (ap app_of_fields c.version.ensures ∙ ap with_version c.new.ensures.app))) in
    let a1 = c.in_ok-arg.ensures.shape c.file.ensures.global ∙ ap₂ with_rule versioned c.file.ensures.rule in
    let a2 = c.in_ok-arg-2.ensures.shape c.delimiter.ensures.global ∙ ap₂ with_rule a1 c.delimiter.ensures.rule in
    let a3 = c.in_ok-arg-3.ensures.shape c.no_header.ensures.global ∙ ap₂ with_rule a2 c.no_header.ensures.rule in
    let a4 = c.in_ok-arg-4.ensures.shape c.escapes.ensures.global ∙ ap (λ (a : App). with_rule a (rule_of c.escapes.result)) a3 in
    let a5 = c.in_ok-arg-5.ensures.shape c.width.ensures.global ∙ ap₂ with_rule a4 c.width.ensures.rule in
    let a6 = c.in_ok-arg-6.ensures.shape c.priority.ensures.global ∙ ap (λ (a : App). with_rule a (rule_of c.priority.result)) a5 in
    let a7 = c.in_ok-arg-7.ensures.shape c.truncate.ensures.global ∙ ap₂ with_rule a6 c.truncate.ensures.rule in
    let a8 = c.in_ok-arg-8.ensures.shape c.all_columns.ensures.global ∙ ap₂ with_rule a7 c.all_columns.ensures.rule in
    let a9 = c.in_ok-arg-9.ensures.shape c.style.ensures.global ∙ ap (λ (a : App). with_rule a (rule_of c.style.result)) a8 in
    let a10 = c.in_ok-arg-10.ensures.shape c.rules.ensures.global ∙ ap (λ (a : App). with_rule a (rule_of c.rules.result)) a9 in
    let a11 = c.in_ok-arg-11.ensures.shape c.columns.ensures.global ∙ ap₂ with_rule a10 c.columns.ensures.rule in
    let a12 = c.in_ok-arg-12.ensures.shape c.align.ensures.global ∙ ap₂ with_rule a11 c.align.ensures.rule in
    let a13 = c.in_ok-arg-13.ensures.shape c.color.ensures.global ∙ ap₂ with_rule a12 c.color.ensures.rule in
    let a14 = c.in_ok-arg-14.ensures.shape c.max_rows.ensures.global ∙ ap₂ with_rule a13 c.max_rows.ensures.rule in
    let a15 = c.in_ok-arg-15.ensures.shape c.head.ensures.global ∙ ap₂ with_rule a14 c.head.ensures.rule in
    let a16 = c.in_ok-arg-16.ensures.shape c.tail.ensures.global ∙ ap₂ with_rule a15 c.tail.ensures.rule in
    IfOk-weaker c.arg-17.result _ _ (λ command added. record {
      escapes = rule_of c.escapes.result;
      priority = rule_of c.priority.result;
      style = rule_of c.style.result;
      rules = rule_of c.rules.result;
      all_escapes = c.escapes.ensures.rule;
      priorities = c.priority.ensures.rule;
      styles = c.style.ensures.rule;
      all_rules = c.rules.ensures.rule;
      is = added.shape c.expanded.ensures.global ∙ ap₂ with_rule a16 c.expanded.ensures.rule;
    }) c.arg-17.ensures
