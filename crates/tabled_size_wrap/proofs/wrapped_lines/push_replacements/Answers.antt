use Rattle.std.proofs.Common.{append-nil, string_bytes}
use Rattle.std.specs.Prelude.{encode_utf8}
use Rattle.grid_records_measure.specs.Cutting.{replacement}
use Rattle.tabled_size_wrap.specs.Wrapping.{replacement_bytes}
use Rattle.tabled_size_wrap.proofs.Repeated.{one-more}
use Rattle.tabled_size_wrap.proofs.wrapped_lines.push_replacements.Goals as goal

pub loop-preserved : goal.loop-preserved
loop-preserved c = one-more (string_bytes c.args.out.now) (string_bytes c.loop.out) replacement_bytes (encode_utf8 replacement) c.loop.counter _ (append-nil (encode_utf8 replacement)) c.loop.invariant c.in_ok-push.ensures.bytes
