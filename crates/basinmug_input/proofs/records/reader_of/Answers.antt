-- The reader is as it was built.
use Rattle.std.proofs.Common.{◌∙◌, ap, inr}
use Rattle.csv.specs.declared.parser.Config.{Config}
use Rattle.basinmug_input.proofs.records.reader_of.Goals as goal

pub returns : goal.returns
returns c =
    let made = c.from_reader-reader.ensures in
    record {
      trim = rw (c.flexible.ensures, c.has_headers.ensures, c.delimiter.ensures) at made.trim ∙ c.new.ensures.trim;
      ready = inr (inr (rw (c.flexible.ensures, c.has_headers.ensures) at made.has_headers, made.headers));
      flexible = rw c.flexible.ensures at made.flexible;
      config = rw (c.flexible.ensures, c.has_headers.ensures, c.delimiter.ensures) at made.config ∙ ap (λ (cfg : Config). record cfg { delimiter = c.args.delimiter }) c.new.ensures.config;
      source = made.source;
      state = made.state;
    }
