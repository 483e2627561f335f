-- Sequences SELECT GRAPHIC RENDITION (ECMA-48, 8.3.117), from the start of bytes.
use Rattle.std.specs.Prelude.{◌+◌, ◌==◌, ◌&&◌, ℕ, Bool, List, [], ◌∷◌, if◌then◌else◌, slice_index}
use Rattle.std.specs.List.{prefix_len}
use Rattle.ansi_scan.specs.Sequences.{escape}
use Rattle.ansi_scan.specs.Styles.Rendition.{is_numeric}

-- ESC and `[`
abbrev pub opens : ℕ → ℕ → Bool
opens a b = (a == escape) && (b == 0x5b)

-- how many bytes the sequence has whose bytes after ESC and `[` these begin with: digits, `:` and `;` up to an `m`. 0
-- where there is none
abbrev pub len_after_opener : List ℕ → ℕ
len_after_opener rest = let parameters = prefix_len is_numeric rest in
    if slice_index rest parameters == 0x6d then parameters + 3 else 0

-- how many bytes the sequence at the start has; 0 where there is none
abbrev pub rendition_len : List ℕ → ℕ
rendition_len [] = 0
rendition_len (a ∷ []) = 0
rendition_len (a ∷ b ∷ rest) = if opens a b then len_after_opener rest else 0
