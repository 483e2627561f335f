use Rattle.std.proofs.Common.{◌≡◌, ℕ, zero, suc, List, [], ◌∷◌, ◌++◌, length, ap, subst, sym, arith}
use Rattle.std.specs.Prelude.{IfSome}
use Rattle.std.specs.List.{slice_get}
use Rattle.std.proofs.lemmas.List.{length-append}
use Rattle.grid_config.specs.Looks.{look_of}
use Rattle.grid_config_values.specs.declared.alignment.AlignmentHorizontal.{AlignmentHorizontal}
use Rattle.grid_config_values.specs.declared.position.Position.{Position}
use Rattle.papergrid_cells.specs.Flat.{AreOfColumns}
use Rattle.papergrid_cells.proofs.flat.column_alignments.Goals as goal

-- what holds of each that is kept holds with one more
one-more : {X : Type 0} (P : ℕ → X → Type 0) (xs : List X) (x : X) → ((k : ℕ) → IfSome (slice_get xs k) (P k)) → P (length xs) x → (k : ℕ) → IfSome (slice_get (xs ++ (x ∷ [])) k) (P k)
one-more P [] x all one zero = one
one-more P [] x all one (suc k) = tt
one-more P (y ∷ xs) x all one zero = all zero
one-more P (y ∷ xs) x all one (suc k) = one-more (λ n. P (suc n)) xs x (λ n. all (suc n)) one k

pub loop-column-preserved : goal.loop-column-preserved
loop-column-preserved c =
    let look = look_of c.args.cfg.now in
    let before = c.loop-column.alignments.items in
    let own = c.in-Some.alignment in
    let Holds : ℕ → AlignmentHorizontal → Type 0 = λ column one. (cell : Position) → cell.col ≡ column → look.alignment_horizontal cell ≡ one in
    let are = c.loop-column.invariant in
    let one : Holds (length before) own = subst (λ (n : ℕ). Holds n own) (sym are.count) c.in-Some.ensures in
    record {
      count = omega (arith, are.count, ap (λ (l : List AlignmentHorizontal). length l) c.in_ok-push.ensures.items, length-append before (own ∷ []));
      own = subst (AreOfColumns look) (sym c.in_ok-push.ensures.items) (one-more Holds before own are.own one);
    }
