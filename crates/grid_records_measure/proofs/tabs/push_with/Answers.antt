-- The text before a tab, what replaces the tab, and the text after it.
use Rattle.std.proofs.Common.{rules, ◌∙◌, ◌++◌, ap, sym, append_assoc, arith, string_bytes, Some, None}
use Rattle.std.specs.List.{before_first}
use Rattle.std.proofs.lemmas.Str.Pattern.{split_once_first}
use Rattle.grid_records_measure.specs.Tabs.{put_for_tabs}
use Rattle.grid_records_measure.proofs.AroundTabs.{is_tab, around-tab, no-tab}
use Rattle.grid_records_measure.proofs.tabs.push_with.Goals as goal

pub loop-before-preserved : goal.loop-before-preserved
loop-before-preserved c =
    let out = string_bytes c.loop-before.out in
    let rest = c.loop-before.rest.now in
    let put = c.args.put.now in
    let before = c.in-Some.before.now in
    let behind = put_for_tabs put c.in-Some.behind.now in
    let found = split_once_first 9 rest (Some (c.in-Some.before, c.in-Some.behind)) c.in-Some.ensures.cases (omega arith) in (
      search rules,
      ap (λ bytes. bytes ++ behind) (c.in_ok-push_str-2.ensures.bytes ∙ ap (λ bytes. bytes ++ put) c.in_ok-push_str.ensures.bytes)
          ∙ append_assoc (out ++ before) put behind
          ∙ append_assoc out before (put ++ behind)
          ∙ ap (λ bytes. out ++ (bytes ++ (put ++ behind))) found.1
          ∙ ap (λ bytes. out ++ (before_first is_tab rest ++ (put ++ put_for_tabs put bytes))) found.2
          ∙ ap (λ bytes. out ++ bytes) (sym (around-tab put rest found.0))
          ∙ c.loop-before.invariant.1,
    )

pub returns : goal.returns
returns c =
    let rest = c.loop-before.rest.now in
    let none = split_once_first 9 rest None c.in_default.ensures.cases (omega arith) in
    search (rules, no-tab c.args.put.now rest none, c.loop-before.invariant.1)
