-- A step over the first item.
use Rattle.std.proofs.Common.{rules, ◌≡◌, ◌∙◌, ◌+◌, ◌≤◌, ◌-◌, ◌++◌, true, ap, length, slice_range, string_bytes, List, ℕ, arith}
use Rattle.ansi_scan.specs.declared.items.Kind.{Kind}
use Rattle.ansi_scan.specs.Sequences.{Piece}
use Rattle.ansi_scan.specs.Joining.{is_text_kind}
use Rattle.ansi_str.specs.StyledText.{shown}
use Rattle.ansi_str_search.proofs.Dressed.{other_kind}
use Rattle.ansi_str_search.proofs.Rests.{strip-fits}
use Rattle.ansi_str_search.proofs.Walks.{first-shorter}
use Rattle.ansi_str.proofs.Keeps.{behind-utf8, kept-counts, IsKeptLeft-text, IsKeptLeft-sequence}
use Rattle.ansi_str.proofs.trim.kept_text.Goals as goal

pub overflow_add-place : goal.overflow_add-place
overflow_add-place c =
    let l = c.loop-kind in
    let first : Piece = record { kind = c.in-Some.kind; bytes = c.in-Some.bytes.now } in
    let sum = kept-counts (string_bytes l.out) l.rest.now l.place c.args.from c.args.to c.args.text.now l.invariant.1 c.in-Some.behind.now first c.in-Some.ensures l.invariant.0 in
    let all = strip-fits c.args.text.now in
    let own : length (shown c.in-Some.kind c.in-Some.bytes.now) ≡ length c.in-Some.bytes.now = ap (λ (kind : Kind). length (shown kind c.in-Some.bytes.now)) c.in-Text.is in
    let fits : l.place + length c.in-Some.bytes.now ≤ length c.args.text.now = omega (arith, sum, all, own) in
    search (rules, fits)

pub loop-kind-smaller-in_ok-push_str : goal.loop-kind-smaller-in_ok-push_str
loop-kind-smaller-in_ok-push_str c = first-shorter c.loop-kind.rest.now c.in-Some.behind.now (record { kind = c.in-Some.kind; bytes = c.in-Some.bytes.now }) c.in-Some.ensures

pub loop-kind-smaller : goal.loop-kind-smaller
loop-kind-smaller c = first-shorter c.loop-kind.rest.now c.in-Some.behind.now (record { kind = c.in-Some.kind; bytes = c.in-Some.bytes.now }) c.in-Some.ensures

pub loop-kind-preserved-in_ok-push_str : goal.loop-kind-preserved-in_ok-push_str
loop-kind-preserved-in_ok-push_str c =
    let l = c.loop-kind in
    let text = c.args.text.now in
    let first : Piece = record { kind = c.in-Some.kind; bytes = c.in-Some.bytes.now } in
    let is_text : is_text_kind c.in-Some.kind ≡ true = ap (λ (kind : Kind). is_text_kind kind) c.in-Text.is in
    let now : string_bytes c.push_str.new.self ≡ string_bytes l.out ++ slice_range c.in-Some.bytes.now (c.args.from - l.place) (c.args.to - l.place) =
    c.in_ok-push_str.ensures.bytes ∙ ap (λ (bytes : List ℕ). string_bytes l.out ++ bytes) (c.within.ensures ∙ ap (λ n. slice_range c.in-Some.bytes.now n c.saturating_sub-to.result) c.saturating_sub-from.ensures ∙ ap (λ n. slice_range c.in-Some.bytes.now (c.args.from - l.place) n) c.saturating_sub-to.ensures) in (
      behind-utf8 (string_bytes l.out) l.rest.now l.place c.args.from c.args.to text l.invariant.1 c.in-Some.behind.now first c.in-Some.ensures l.invariant.0,
      IsKeptLeft-text (string_bytes l.out) l.rest.now l.place c.args.from c.args.to text l.invariant.1 c.in-Some.behind.now first c.in-Some.ensures l.invariant.0 is_text (string_bytes c.push_str.new.self) now,
    )

pub loop-kind-preserved : goal.loop-kind-preserved
loop-kind-preserved c =
    let l = c.loop-kind in
    let text = c.args.text.now in
    let first : Piece = record { kind = c.in-Some.kind; bytes = c.in-Some.bytes.now } in
    let now : string_bytes c.push_str-in_default-kind.new.self ≡ string_bytes l.out ++ c.in-Some.bytes.now = c.in_ok-push_str-2.ensures.bytes in (
      behind-utf8 (string_bytes l.out) l.rest.now l.place c.args.from c.args.to text l.invariant.1 c.in-Some.behind.now first c.in-Some.ensures l.invariant.0,
      IsKeptLeft-sequence (string_bytes l.out) l.rest.now l.place c.args.from c.args.to text l.invariant.1 c.in-Some.behind.now first c.in-Some.ensures l.invariant.0 (other_kind c.in-Some.kind c.in_default-kind.not-Text)
          (string_bytes c.push_str-in_default-kind.new.self) now,
    )
