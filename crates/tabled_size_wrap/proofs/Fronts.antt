-- The walk finds the longest prefix of a cell, and there is no other.
use Rattle.std.proofs.Common.{◌≡◌, ◌++◌, ℕ, List, length, map, take, drop, ap, sym, subst, ◌∙◌}
use Rattle.std.proofs.Math.Seq.{drop-append_seam, take-append_seam}
use Rattle.std.proofs.lemmas.List.{append_cancel_left, drop-map, length-map, take-append-drop, take-map}
use Rattle.grid_records_measure.specs.Cutting.{IsLongestFront}
use Rattle.grid_records_measure.specs.Filling.{behind_front, fitting_front}
use Rattle.grid_records_measure.proofs.Filling.{IsLongestFront-fitting_front, IsLongestFront-unique}
use Rattle.tabled_size_wrap.specs.Fronts.{IsFrontOf}

module _ {X : Type 0} (character : X → ℕ) (width : ℕ) (cell : List X) where
  abbrev walked : List ℕ
  walked = fitting_front width 0 (map character cell)

  abbrev behind : List ℕ
  behind = behind_front width 0 (map character cell)

  -- as many items as the walk passes
  abbrev pub kept_of : List X
  kept_of = take (length walked) cell

  abbrev pub left_of : List X
  left_of = drop (length walked) cell

  longest-fitting_front : IsLongestFront width (map character cell) walked behind
  longest-fitting_front = IsLongestFront-fitting_front width (map character cell)

  pub kept-characters : map character kept_of ≡ walked
  kept-characters = sym (take-map character (length walked) cell) ∙ ap (take (length walked)) longest-fitting_front.parted ∙ take-append_seam walked behind

  pub left-characters : map character left_of ≡ behind
  left-characters = sym (drop-map character (length walked) cell) ∙ ap (drop (length walked)) longest-fitting_front.parted ∙ drop-append_seam walked behind

  pub fitting_front-meets : IsFrontOf character width cell kept_of left_of
  fitting_front-meets = record {
    parted = sym (take-append-drop (length walked) cell);
    longest =
        subst (λ xs. IsLongestFront width (map character cell) xs (map character left_of)) (sym kept-characters)
        (subst (IsLongestFront width (map character cell) walked) (sym left-characters) longest-fitting_front);
  }

  module _ (kept left : List X) (is : IsFrontOf character width cell kept left) where
    same-walked : map character kept ≡ walked
    same-walked = IsLongestFront-unique width (map character cell) (map character kept) (map character left) walked behind is.longest longest-fitting_front

    pub fitting_front-one : kept ≡ kept_of
    fitting_front-one =
        sym (take-append_seam kept left) ∙ ap (take (length kept)) (sym is.parted)
        ∙ ap (λ n. take n cell) (sym (length-map kept character) ∙ ap (λ (xs : List ℕ). length xs) same-walked)

    pub left-one : left ≡ left_of
    left-one = append_cancel_left kept left left_of (sym is.parted ∙ fitting_front-meets.parted ∙ ap (λ xs. xs ++ left_of) (sym fitting_front-one))
