-- After the first item there is less, and the text is whole where that item is and what comes after it.
use Rattle.std.proofs.Common.{◌≢◌, arith, sym, ◌∙◌}
use Rattle.ansi_scan.specs.Sequences.{Piece}
use Rattle.ansi_scan.specs.declared.items.Kind.TheVariants.{Broken}
use Rattle.ansi_str_search.proofs.Walks.{first-sequence, first-shorter, empty-nothing, escape_first}
use Rattle.columns_run.proofs.Passed.{Passes-sequence}
use Rattle.columns_run.proofs.Whole.{behind-whole, not-broken, whole-behind}
use Rattle.columns_run.proofs.styled_rows.past_sequence.Goals as goal
use Rattle.columns_run.proofs.styled_rows.past_sequence.Goals.{in-Sgr, in_default-kind}

good : (c : goal.After-rest-2-1) → c.in-Some.kind ≢ Broken
good c = elim c.match-kind.branch [ in-Sgr w ↦ (λ same. cc (sym w.in-Sgr.is ∙ same)) | in_default-kind w ↦ w.in_default-kind.not-Broken ]

pub returns-clause-passes : goal.returns-clause-passes
returns-clause-passes c =
    let text = c.args.place.now.rest.now in
    let first : Piece = record { kind = c.in-Some.kind; bytes = c.in-Some.bytes.now } in
    Passes-sequence text c.in-Some.rest.now first c.in-Some.ensures (first-sequence text c.in-Some.rest.now first c.in-Some.ensures (escape_first text c.requires).0) (good c)

pub returns-clause-shorter : goal.returns-clause-shorter
returns-clause-shorter c = first-shorter c.args.place.now.rest.now c.in-Some.rest.now (record { kind = c.in-Some.kind; bytes = c.in-Some.bytes.now }) c.in-Some.ensures

pub returns-clause-whole : goal.returns-clause-whole
returns-clause-whole c =
    let first : Piece = record { kind = c.in-Some.kind; bytes = c.in-Some.bytes.now } in (
      behind-whole c.args.place.now.rest.now c.in-Some.rest.now first c.in-Some.ensures,
      whole-behind c.args.place.now.rest.now c.in-Some.rest.now first c.in-Some.ensures (good c),
    )

pub returns-in-Broken-clause-broken : goal.returns-in-Broken-clause-broken
returns-in-Broken-clause-broken c = λ _. not-broken c.args.place.now.rest.now c.in-Some.rest.now (record { kind = c.in-Some.kind; bytes = c.in-Some.bytes.now }) c.in-Some.ensures c.in-Broken.is

pub returns-in_default-clause-broken : goal.returns-in_default-clause-broken
returns-in_default-clause-broken c = let none = empty-nothing c.args.place.now.rest.now c.in_default.ensures in let some = (escape_first c.args.place.now.rest.now c.requires).1 in absurd (omega (arith, none, some))
