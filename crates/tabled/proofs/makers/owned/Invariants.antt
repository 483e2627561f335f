use Rattle.std.proofs.Common.{◌≡◌, map, string_bytes}
use Rattle.tabled_text.specs.Fields.{texts_of}
use Rattle.tabled.proofs.makers.owned.Given as goal

abbrev pub invariant-loop-text : goal.invariant-loop-text
invariant-loop-text l = map string_bytes l.out.items ≡ texts_of l.yielded
