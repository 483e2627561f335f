-- The characters of a line, looked at one after the other.
use Rattle.std.proofs.Common.{◌≡◌, ◌∙◌, ◌==◌, ap, sym, ℕ, Bool, true, List, arith}
use Rattle.std.specs.Prelude.{◌||◌, not}
use Rattle.std.specs.List.{list_any}
use Rattle.std.proofs.lemmas.Bool.Decides.{nat_tests}
use Rattle.ansi_scan.specs.Pieces.{pieces}
use Rattle.ansi_scan.proofs.Existence.{ArePiecesOf-pieces}
use Rattle.basinmug_columns.proofs.fitting.wrapping.is_not_blank.Goals as goal

no-space : (c : ℕ) → ¬ (c ≡ 0x20) → not (c == 0x20) ≡ true
no-space c other = grind (arith, nat_tests)

pub loop-c-init : goal.loop-c-init
loop-c-init c = record {
  goes = (tt, tt);
  left = ap (λ (left : List ℕ). list_any (λ c. not (c == 0x20)) left)
      (c.into_iter-c-iterator.ensures.into_iter_gives ∙ c.stripped_chars-c-items.ensures.characters (pieces c.args.line.now) (ArePiecesOf-pieces c.args.line.now));
}

pub loop-c-preserved : goal.loop-c-preserved
loop-c-preserved c =
    let left : List ℕ = c.next.new.self in
    record {
      goes = (tt, tt);
      left = sym (ap (λ (it : ℕ). not (it == 0x20) || list_any (λ c. not (c == 0x20)) left) c.if-c-ne32.false)
          ∙ ap (λ (it : List ℕ). list_any (λ c. not (c == 0x20)) it) (sym c.in-Some.ensures.steps) ∙ c.loop-c.invariant.left;
    }

pub returns-then-c-ne32 : goal.returns-then-c-ne32
returns-then-c-ne32 c =
    let left : List ℕ = c.next.new.self in
    sym (ap (λ (it : Bool). it || list_any (λ c. not (c == 0x20)) left) (no-space c.in-Some.c c.if-c-ne32.true))
    ∙ ap (λ (it : List ℕ). list_any (λ c. not (c == 0x20)) it) (sym c.in-Some.ensures.steps) ∙ c.loop-c.invariant.left

pub returns : goal.returns
returns c = sym (ap (λ (it : List ℕ). list_any (λ c. not (c == 0x20)) it) c.in-None.ensures.steps.0) ∙ c.loop-c.invariant.left
