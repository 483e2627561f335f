-- The two texts are at the three places, and where there is no text the empty one is a line of no columns.
use Rattle.std.proofs.Common.{◌≡◌, ◌-◌, ◌≤◌, ◌∙◌, List, [], ◌∷◌, ℕ, zero, suc, length, refl, subst, sym, arith}
use Rattle.std.specs.Prelude.{slice_index_or, slice_range}
use Rattle.grid_records_traits.specs.SingleLines.{AreSingleLines, IsSingleLine, texts_at}
use Rattle.grid_tests.proofs.tests.single_lines.are_plain.Goals as goal
use Rattle.grid_tests.proofs.tests.single_lines.are_plain.Goals.{then-branch+in_ok-both-2, else-branch}

past : {X : Type 0} (xs : List X) (k : ℕ) (d : X) → length xs ≤ k → slice_index_or xs k d ≡ d
past [] zero d over = refl
past [] (suc k) d over = refl
past (x ∷ xs) zero d over = absurd (omega (arith, over))
past (x ∷ xs) (suc k) d over = past xs k d (omega (arith, over))

single-lines : (text starts widths : List ℕ) (first second : List ℕ) → length starts ≡ 3 → length widths ≤ 2
    → first ≡ slice_range text (slice_index_or starts 0 0) (slice_index_or starts 1 0 - 1) → second ≡ slice_range text (slice_index_or starts 1 0) (slice_index_or starts 2 0 - 1)
    → IsSingleLine first (slice_index_or widths 0 (length first)) → IsSingleLine second (slice_index_or widths 1 (length second)) → IsSingleLine [] 0
    → AreSingleLines (texts_at text starts) widths
single-lines text [] widths first second three few is also one two none column = absurd (omega (arith, three))
single-lines text (a ∷ []) widths first second three few is also one two none column = absurd (omega (arith, three))
single-lines text (a ∷ b ∷ []) widths first second three few is also one two none column = absurd (omega (arith, three))
single-lines text (a ∷ b ∷ c ∷ d ∷ starts) widths first second three few is also one two none column = absurd (omega (arith, three))
single-lines text (a ∷ b ∷ c ∷ []) widths first second three few is also one two none zero = subst (λ (line : List ℕ). IsSingleLine line (slice_index_or widths 0 (length line))) is one
single-lines text (a ∷ b ∷ c ∷ []) widths first second three few is also one two none (suc zero) = subst (λ (line : List ℕ). IsSingleLine line (slice_index_or widths 1 (length line))) also two
single-lines text (a ∷ b ∷ c ∷ []) widths first second three few is also one two none (suc (suc k)) =
    subst (λ (line : List ℕ). IsSingleLine line (slice_index_or widths (suc (suc k)) (length line))) (sym (past [] k [] (omega arith)))
    (subst (IsSingleLine []) (sym (past widths (suc (suc k)) 0 (omega (arith, few)))) none)

pub returns-in_ok-is_plain : goal.returns-in_ok-is_plain
returns-in_ok-is_plain c = λ is.
    elim c.if-branch.branch [
      | then-branch+in_ok-both-2 w ↦
          single-lines c.args.text.now c.args.starts.now c.args.widths.now c.range-first.result.now c.range-second.result.now (omega (arith, c.if-starts-ne3.false)) (omega (arith, c.if-widths-gt2.false))
          c.range-first.ensures.value c.range-second.ensures.value (subst (IsSingleLine c.range-first.result.now) c.width_at.ensures (c.in_ok-both.ensures w.if-branch.true))
          (subst (IsSingleLine c.range-second.result.now) w.width_at-then-branch.ensures (w.in_ok-both-2.ensures (sym w.both-is ∙ c.if-both.true))) (c.in_ok-is_plain.ensures is)
      | else-branch w ↦ absurd (grind (arith, w.both-is, c.if-both.true))
    ]
