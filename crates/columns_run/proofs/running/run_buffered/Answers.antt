use Rattle.std.proofs.Common.{ℕ, List, inl, inr, rules, arith, subst}
use Rattle.std.proofs.lemmas.Grind.{common_steps}
use Rattle.tabled_output.specs.Counts.{inner_of}
use Rattle.columns_run.specs.DrawnTables.{output_of}
use Rattle.columns_run.specs.Wanted.{wanted_of}
use Rattle.columns_run.specs.Run.{LeavesAlone, MayAnswer, Writes}
use Rattle.columns_run.proofs.Serves.{all-read, known, some}
use Rattle.columns_run.proofs.Written.{no-long-read, no-read}
use Rattle.columns_run.proofs.running.run_buffered.Goals as goal

pub returns-in_err-bytes : goal.returns-in_err-bytes
returns-in_err-bytes g c =
    let written = g.W.Write.contents (inner_of c.args.writer.now) in
    let wanted = wanted_of c.args.options.now in
    record {
      known_input = known wanted c.requires.narrow c.requires.close c.from_residual.result written written c.args.writer.now c.args.writer.now (g.R.Read.remaining (inner_of c.args.reader.now)) (grind (arith, common_steps));
      some_input = some wanted c.requires.narrow c.requires.close c.from_residual.result written written c.args.writer.now c.args.writer.now (g.R.Read.remaining (inner_of c.args.reader.now)) (g.R.Read.remaining (inner_of c.read_all.new.reader)) (search rules);
      at_end = search rules;
      told_end = search rules;
      no_end = search rules;
      one_end = search rules;
      read = search rules;
      read_too_long = search rules;
      write = search rules;
      write_zero = search rules;
      only_reads = search rules;
      only_writes = search rules;
      untouched = search rules;
    }

pub returns : goal.returns
returns g c =
    let wanted = wanted_of c.args.options.now in
    let old = g.W.Write.contents (inner_of c.args.writer.now) in
    let new = g.W.Write.contents (inner_of c.write_input.new.writer) in
    let result = c.write_input.result in
    let bytes = c.in_ok-bytes.bytes.items in
    let before = g.R.Read.remaining (inner_of c.args.reader.now) in
    let after = g.R.Read.remaining (inner_of c.read_all.new.reader) in
    let Answered : List ℕ → Type 0 = λ input. MayAnswer wanted input result × Writes (output_of wanted input) result old new × LeavesAlone wanted input c.args.writer.now c.write_input.new.writer in
    let answered : Answered bytes = subst Answered c.deref.ensures.value
    (c.write_input.ensures.answers, c.write_input.ensures.written.writes, c.write_input.ensures.alone) in
    let never_read = no-read result c.write_input.ensures.faults in
    let never_long = no-long-read result c.write_input.ensures.faults in
    record {
      known_input = known wanted c.requires.narrow c.requires.close result old new c.args.writer.now c.write_input.new.writer before
          (all-read before after bytes Answered c.in_ok-bytes.ensures.bytes c.in_ok-bytes.ensures.end answered);
      some_input = some wanted c.requires.narrow c.requires.close result old new c.args.writer.now c.write_input.new.writer before after
          (bytes, c.in_ok-bytes.ensures.bytes, answered);
      at_end = search rules;
      told_end = search rules;
      no_end = λ told. elim told [ inl read ↦ absurd (never_read read) | inr long ↦ absurd (never_long long) ];
      one_end = search rules;
      read = record { once = λ is. absurd (never_read is); last = λ is. absurd (never_read is); others = λ _. c.in_ok-bytes.ensures.read.others (λ is. cc is) };
      read_too_long = λ _. (
        λ long. absurd (never_long long),
        λ given. let long = (c.in_ok-bytes.ensures.too_long (λ is. cc is)).1 given in cc long,
      );
      write = c.write_input.ensures.written.writer.write;
      write_zero = c.write_input.ensures.written.writer.write_zero;
      only_reads = search rules;
      only_writes = c.write_input.ensures.written.writer.only_writes;
      untouched = search rules;
    }
