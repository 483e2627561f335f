-- The first columns of texts, where a column is put before those after it.
use Rattle.std.proofs.Common.{◌≡◌, ◌∙◌, ap, sym, ℕ, suc, ◌+◌, ◌<◌, cond, List, [], ◌∷◌, Option, Some, length, drop, get_or, drop-cons, add-one}
use Rattle.std.specs.List.{position_from}
use Rattle.std.specs.Map.{update}
use Rattle.std.specs.Str.{bytes_eq}
use Rattle.ansi_scan.specs.Pieces.{pieces}
use Rattle.ansi_str.specs.StyledText.{strip}
use Rattle.basinmug_columns.specs.Names.{shows}

module _ (header : List (List ℕ)) (k : ℕ) (bytes : List ℕ) (inside : k < length header) (are : bytes ≡ strip (pieces (get_or header k []))) where
  pub found-before : (old new : List ℕ → Option ℕ) → ((name : List ℕ) → new name ≡ update bytes_eq old bytes (Some k) name)
      → ((name : List ℕ) → old name ≡ position_from (shows name) (k + 1) (drop (k + 1) header)) → (name : List ℕ) → new name ≡ position_from (shows name) k (drop k header)
  found-before old new put behind name =
      let text = get_or header k [] in
      let parted : drop k header ≡ text ∷ drop (suc k) header = drop-cons header k [] inside in
      put name
      ∙ ap (λ (it : List ℕ). cond (bytes_eq it name) (Some k) (old name)) are
      ∙ ap (λ (it : Option ℕ). cond (shows name text) (Some k) it) (behind name ∙ ap (λ (n : ℕ). position_from (shows name) (k + 1) (drop n header)) (add-one k))
      ∙ ap (λ (it : List (List ℕ)). position_from (shows name) k it) (sym parted)
