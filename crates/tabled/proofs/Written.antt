-- The result of a table that is written line by line.
use Rattle.std.proofs.Common.{◌≡◌, ◌⊎◌, inl, inr, ℕ, List, [], Option, Result, Ok, Err, append-nil, ap, length, refl, sym, subst, ◌∙◌}
use Rattle.std.specs.Prelude.{OnErr}
use Rattle.std.specs.Io.KnownBytes.{Appends}
use Rattle.grid_config_values.specs.Spans.Spans.{AreGood}
use Rattle.grid_config_values.specs.declared.fault.Fault.{Fault}
use Rattle.grid_config_values.specs.declared.position.Position.{Position}
use Rattle.tabled_output.specs.Counts.{inner_of}
use Rattle.tabled_output.specs.Pieces.{HasPassed, HasStopped, Passes}
use Rattle.tabled_output.specs.Streams.{AppendsFront}
use Rattle.tabled_output.specs.declared.counted.Counted.{Counted}
use Rattle.tabled_output.specs.declared.writing.WriteFault.{WriteFault}
use Rattle.tabled_output.specs.declared.writing.WriteFault.TheVariants.{Write as Failed, WriteZero as TookNothing}
use Rattle.tabled_output.proofs.WrittenPieces.{front-taken, passes-nothing}
use Rattle.grid_config.specs.Colors.{Color}
use Rattle.grid_config.specs.Looks.{look_of}
use Rattle.grid_config.specs.Settings.{Settings}
use Rattle.papergrid_fits.proofs.Listed.{good-listed}
use Rattle.papergrid_picture.specs.Fitting.{InRange}
use Rattle.papergrid_picture.specs.Frame.{frame_of}
use Rattle.papergrid_picture.specs.Tables.{sizes_of}
use Rattle.papergrid_print.specs.Ended.{ended_text as table_ended_text}
use Rattle.tabled_size.specs.Dimension.Sizes.{given_size}
use Rattle.tabled_size.specs.Dimension.Stored.{Stored, stored_sizes}
use Rattle.tabled_steps.specs.States.{State, column_count, state_with}
use Rattle.tabled.specs.Printing.{FitsOrFails, IsFitsAnswer, drawn_heights, drawn_sizes, drawn_widths}
use Rattle.tabled_output.specs.declared.building.BuildFault.{BuildFault}
use Rattle.tabled_output.specs.declared.building.BuildFault.TheVariants.{Table, Write, WriteZero}
use Rattle.tabled.specs.Writing.{FitsOrIsRefused, IsBuilt, build_answer, ended_text}
use Rattle.tabled.proofs.Fitting.{by_spans}

module _ {T : Type 0} (contents : T → Option (List ℕ)) (s : State) (text : List ℕ) (a b : Counted T) where
  abbrev Built : Result (Unit {0}) BuildFault → Type 0
  Built result = IsBuilt contents s text result a b

  complete : (done : Unit {0}) → HasPassed contents text [] a b → Built (Ok done)
  complete done p = record {
    whole = subst (Appends (contents (inner_of a)) (contents (inner_of b))) (sym (append-nil p.bytes.0) ∙ p.bytes.2) p.bytes.1;
    front = tt;
    writer = record {
      write = record { once = λ is. cc is; last = λ is. cc is; others = λ _. p.failures };
      write_zero = record { once = λ is. cc is; last = λ is. cc is; others = λ _. p.empty_writes };
      only_writes = p.only_writes;
    };
  }

  failed : IsFitsAnswer s (Ok tt) → HasStopped contents text Failed a b → Built (Err Write)
  failed fit q = record {
    whole = tt;
    front = inr (fit, front-taken contents text q.bytes.0 q.bytes.1 a b q.bytes.2 q.bytes.3);
    writer = record {
      write = record { once = λ _. q.writer.write.once refl; last = λ _. q.writer.write.last refl; others = λ no. absurd (no refl) };
      write_zero = record { once = λ is. cc is; last = λ is. cc is; others = λ _. q.writer.write_zero.others (λ is. cc is) };
      only_writes = q.writer.only_writes;
    };
  }

  took-nothing : IsFitsAnswer s (Ok tt) → HasStopped contents text TookNothing a b → Built (Err WriteZero)
  took-nothing fit q = record {
    whole = tt;
    front = inr (fit, front-taken contents text q.bytes.0 q.bytes.1 a b q.bytes.2 q.bytes.3);
    writer = record {
      write = record { once = λ is. cc is; last = λ is. cc is; others = λ _. q.writer.write.others (λ is. cc is) };
      write_zero = record { once = λ _. q.writer.write_zero.once refl; last = λ _. q.writer.write_zero.last refl; others = λ no. absurd (no refl) };
      only_writes = q.writer.only_writes;
    };
  }

  no-front : (b ≡ a) ⊎ IsFitsAnswer s (Ok tt) → (rest : List ℕ) → HasPassed contents text rest a b
      → (b ≡ a) ⊎ (IsFitsAnswer s (Ok tt) × AppendsFront (contents (inner_of a)) (contents (inner_of b)) text)
  no-front (inl same) rest p = inl same
  no-front (inr fit) rest p = inr (fit, front-taken contents text p.bytes.0 rest a b p.bytes.1 p.bytes.2)

  no-table : (fault : Fault) → (b ≡ a) ⊎ IsFitsAnswer s (Ok tt) → (rest : List ℕ) → HasPassed contents text rest a b → Built (Err (Table fault))
  no-table fault untouched rest p = record {
    whole = tt;
    front = no-front untouched rest p;
    writer = record {
      write = record { once = λ is. cc is; last = λ is. cc is; others = λ _. p.failures };
      write_zero = record { once = λ is. cc is; last = λ is. cc is; others = λ _. p.empty_writes };
      only_writes = p.only_writes;
    };
  }

  answered : (given : Result (Result (Unit {0}) WriteFault) Fault) → Passes contents text given [] a b → FitsOrFails s given → OnErr given ((b ≡ a) ⊎ IsFitsAnswer s (Ok tt)) → Built (build_answer given)
  answered (Ok (Ok done)) passes table untouched = complete done passes
  answered (Ok (Err Failed)) passes table untouched = failed table.fits passes
  answered (Ok (Err TookNothing)) passes table untouched = took-nothing table.fits passes
  answered (Err fault) passes table untouched = no-table fault untouched passes.0 passes.1

  pub built : (given : Result (Result (Unit {0}) WriteFault) Fault) (result : Result (Unit {0}) BuildFault) → result ≡ build_answer given → Passes contents text given [] a b → FitsOrFails s given
      → OnErr given ((b ≡ a) ⊎ IsFitsAnswer s (Ok tt)) → Built result
  built given result is passes table untouched = subst Built (sym is) (answered given passes table untouched)

  pub nothing-built : (given : Result (Result (Unit {0}) WriteFault) Fault) → Passes contents text given [] a b → text ≡ [] → b ≡ a
  nothing-built given passes none = passes-nothing contents text [] given a b passes (ap length none)

-- ---- that the table fits, or why it is refused

module _ (s : State) where
  refusing : (given : Result (Result (Unit {0}) WriteFault) Fault) → FitsOrFails s given → FitsOrIsRefused s (build_answer given)
  refusing (Ok (Ok done)) table = record { fits = table.fits; refused = tt }
  refusing (Ok (Err Failed)) table = record { fits = tt; refused = table.fits }
  refusing (Ok (Err TookNothing)) table = record { fits = tt; refused = table.fits }
  refusing (Err fault) table = record { fits = tt; refused = table.refused }

  pub table-built : (given : Result (Result (Unit {0}) WriteFault) Fault) (result : Result (Unit {0}) BuildFault) → result ≡ build_answer given → FitsOrFails s given → FitsOrIsRefused s result
  table-built given result is table = subst (FitsOrIsRefused s) (sym is) (refusing given table)

-- ---- a line feed after the last line

module _ (settings : Settings) (rows : List (List (List ℕ))) (colors : Position → Option Color) (stored : Stored) where
  abbrev state : State
  state = state_with rows (look_of settings) colors stored

  abbrev width : Stored → ℕ → ℕ
  width sizes = given_size (stored_sizes sizes.widths)

  abbrev height : Stored → ℕ → ℕ
  height sizes = given_size (stored_sizes sizes.heights)

  -- sizes by number are those that are drawn
  module _ (sizes : Stored) (n m : ℕ) (widths heights : List ℕ) (is : sizes ≡ drawn_sizes state) (across : n ≡ column_count rows) (down : m ≡ length rows) (wide : widths ≡ sizes_of (width sizes) n) (high : heights ≡ sizes_of (height sizes) m) where
    widths_drawn : widths ≡ drawn_widths state
    widths_drawn = wide ∙ ap (λ (sizes : Stored). sizes_of (width sizes) n) is ∙ ap (sizes_of (width (drawn_sizes state))) across

    heights_drawn : heights ≡ drawn_heights state
    heights_drawn = high ∙ ap (λ (sizes : Stored). sizes_of (height sizes) m) is ∙ ap (sizes_of (height (drawn_sizes state))) down

    pub ended_drawn : table_ended_text (look_of settings) rows colors widths heights ≡ ended_text state
    ended_drawn =
        ap (λ ws. table_ended_text (look_of settings) rows colors ws heights) widths_drawn
        ∙ ap (table_ended_text (look_of settings) rows colors (drawn_widths state)) heights_drawn

    pub good_drawn : IsFitsAnswer state (Ok tt) → AreGood settings.spans (length heights) (length widths)
    good_drawn fit =
        good-listed settings.spans m n (width sizes) (height sizes) widths heights wide high
        (subst (AreGood settings.spans m) (sym across) (subst (λ r. AreGood settings.spans r (column_count rows)) (sym down) (by_spans settings.spans (length rows) (column_count rows) fit.0)))

    pub range_drawn : IsFitsAnswer state (Ok tt) → InRange (frame_of (look_of settings) widths heights)
    range_drawn fit =
        subst (λ hs. InRange (frame_of (look_of settings) widths hs)) (sym heights_drawn)
        (subst (λ ws. InRange (frame_of (look_of settings) ws (drawn_heights state))) (sym widths_drawn) fit.1)
