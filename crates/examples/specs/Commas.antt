-- Comma-separated text as tab-separated text.
use Rattle.std.specs.Prelude.{ℕ, ◌==◌, List, map, if◌then◌else◌}

-- a tab for a comma, and any other byte as itself
abbrev pub tab_for : ℕ → ℕ
tab_for byte = if byte == 0x2c then 0x09 else byte

abbrev pub with_tabs : List ℕ → List ℕ
with_tabs bytes = map tab_for bytes
