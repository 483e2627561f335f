use Rattle.std.proofs.Common.{◌≡◌, ◌∙◌, get_or, ap, arith, sym, true, false}
use Rattle.basinmug_values.specs.Delimiters.{can_delimit}
use Rattle.command_line.specs.Basinmug.Asking.{byte_named}
use Rattle.command_line.proofs.BasinmugLemmas.Bytes.{byte-alone}
use Rattle.command_line.proofs.basinmug.words.byte_named.Goals as goal

pub returns-in-len1 : goal.returns-in-len1
returns-in-len1 c =
    let bytes = c.as_bytes.result.now in
    let can : can_delimit (get_or bytes 0 0) ≡ true = sym c.can_delimit.ensures ∙ c.if-can_delimit.true in
    sym (byte-alone bytes true (omega arith) (omega arith) can) ∙ ap byte_named c.as_bytes.ensures.value

pub returns-in_default-2 : goal.returns-in_default-2
returns-in_default-2 c =
    let bytes = c.as_bytes.result.now in
    let can : can_delimit (get_or bytes 0 0) ≡ false = sym c.can_delimit.ensures ∙ c.if-can_delimit.false in
    sym (byte-alone bytes false (omega arith) (omega arith) can) ∙ ap byte_named c.as_bytes.ensures.value
