-- The texts so far are escaped.
use Rattle.std.proofs.Common.{◌≡◌, map, string_bytes}
use Rattle.tabled_text.specs.Fields.{texts_of}
use Rattle.tabled_expanded.specs.Escapes.{escaped}
use Rattle.tabled_expanded.proofs.escaping.escaped_texts.Given as goal

abbrev pub invariant-loop-text : goal.invariant-loop-text
invariant-loop-text l = map string_bytes l.out.items ≡ map escaped (texts_of l.yielded)
