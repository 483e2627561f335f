-- The style after the items of a text.
use Rattle.std.proofs.Common.{◌≡◌, ◌≢◌, ℕ, List, [], ◌∷◌, ◌++◌, fold, refl}
use Rattle.std.proofs.lemmas.List.Sums.{fold-append}
use Rattle.ansi_scan.specs.declared.items.Item.{Item}
use Rattle.ansi_scan.specs.declared.items.Kind.{Kind}
use Rattle.ansi_scan.specs.declared.items.Kind.TheVariants.{Text, Sgr, Csi, Osc, Esc, Str, Broken}
use Rattle.ansi_scan.specs.Places.{piece_at}
use Rattle.ansi_scan.specs.Attributes.{Attributes}
use Rattle.ansi_str_search.specs.Text.StyledText.{style_by, style_after}

-- the style after these items
abbrev pub style_behind : List ℕ → Attributes → List Item → Attributes
style_behind text before items = fold (λ style item. style_after style (piece_at text item)) before items

pub style_behind-more : (text : List ℕ) (before : Attributes) (items : List Item) (item : Item)
    → style_behind text before (items ++ item ∷ []) ≡ style_after (style_behind text before items) (piece_at text item)
style_behind-more text before items item = fold-append (λ style found. style_after style (piece_at text found)) before items (item ∷ [])

-- what is no rendition sets nothing
pub style_by-other : (style : Attributes) (kind : Kind) (bytes : List ℕ) → kind ≢ Sgr → style_by style kind bytes ≡ style
style_by-other style Text bytes other = refl
style_by-other style Sgr bytes other = absurd (other refl)
style_by-other style Csi bytes other = refl
style_by-other style Osc bytes other = refl
style_by-other style Esc bytes other = refl
style_by-other style Str bytes other = refl
style_by-other style Broken bytes other = refl
