-- What a run leaves in a writer that is lent to it.
use Rattle.std.proofs.Common.{◌≡◌, ◌∙◌, ◌⊎◌, ℕ, List, [], ◌∷◌, ◌++◌, Bool, Option, None, Some, Result, Ok, Err, IfOk, ap, append-nil, arith, drop, length, inl, inr, refl, subst, sym, take}
use Rattle.std.proofs.Math.Seq.{drop-append_seam}
use Rattle.std.proofs.lemmas.List.{drop_all}
use Rattle.std.specs.Prelude.{IfErr, IfSome, OnErr}
use Rattle.tabled_output.specs.Counts.{inner_of}
use Rattle.tabled_output.specs.declared.counted.Counted.{Counted}
use Rattle.basinmug_bounded.specs.Lent.{lent_of, named}
use Rattle.basinmug_bounded.specs.declared.lent.Lent.{Lent}
use Rattle.basinmug_bounded.proofs.Alone.{Alone, Begun}
use Rattle.basinmug_bounded.specs.Outputs.{WroteAfter}
use Rattle.basinmug_run.specs.Runs.{IsRunWithoutText}
use Rattle.basinmug_run.specs.declared.fault.RunFault.{RunFault}
use Rattle.basinmug_run.specs.declared.picture.printing.Printed.{Printed}

-- the first of what is known, and the rest
abbrev first_of : Option (List ℕ) → ℕ
first_of None = 0
first_of (Some []) = 0
first_of (Some (x ∷ xs)) = x

abbrev rest_of : Option (List ℕ) → Option (List ℕ)
rest_of None = None
rest_of (Some []) = None
rest_of (Some (x ∷ xs)) = Some xs

-- what is named and grew has its name, and what is known of it grew
unnamed : (name name' : ℕ) (held : List ℕ) (known : Option (List ℕ)) (text : List ℕ) → named name' known ≡ Some ((name ∷ held) ++ text) → (name' ≡ name) × (known ≡ Some (held ++ text))
unnamed name name' held None text is = cc is
unnamed name name' held (Some new) text is = (ap first_of is, ap rest_of is)

-- what holds of what is known, and means another fact, means it of that
weakened : (known : Option (List ℕ)) (P Q : List ℕ → Type 0) → ((held : List ℕ) → P held → Q held) → IfSome known P → IfSome known Q
weakened None P Q means holds = tt
weakened (Some held) P Q means holds = means held holds

-- the bytes that are known
abbrev bytes_of : Option (List ℕ) → List ℕ
bytes_of None = []
bytes_of (Some bytes) = bytes

-- nothing is after a list that stays as it is
nothing-more : (a taken : List ℕ) → Some a ≡ Some (a ++ taken) → taken ≡ []
nothing-more a taken is = sym (drop-append_seam a taken) ∙ ap (λ known. drop (length a) (bytes_of known)) (sym is) ∙ drop_all (length a) a (omega arith)

module _ (Ends : Bool → Option (List ℕ) → Option (List ℕ) → Type 0) (Begins : Option (List ℕ) → Option (List ℕ) → Type 0) (IsFault : RunFault → Type 0)
    (alone : (wider : Bool) (a : List ℕ) (b : Option (List ℕ)) → Ends wider (Some a) b → Alone (Ends wider) a b)
    (begun : (a : List ℕ) (b : Option (List ℕ)) → Begins (Some a) b → Begun Ends a b) where
  abbrev Prints : Bool → List ℕ → Type 0
  Prints wider output = Ends wider (Some []) (Some output)

  abbrev Lends : (name name' : ℕ) → Result Printed RunFault → Option (List ℕ) → List ℕ → Type 0
  Lends name name' result known held = (name' ≡ name) × WroteAfter Prints IsFault known result held

  module _ (name name' : ℕ) where
    -- it was whole
    of-ok : (printed : Printed) (held : List ℕ) (known : Option (List ℕ)) → Ends printed.wider (Some (name ∷ held)) (named name' known) → Lends name name' (Ok printed) known held
    of-ok printed held known ends =
        let found = alone printed.wider (name ∷ held) (named name' known) ends in
        let bare = unnamed name name' held known found.0 found.1 in
        (bare.0, record { taken = found.0; after = bare.1; wrote = record { printed = found.2; begun = tt; untouched = tt; refused = tt } })

    -- nothing was written
    of-none : (fault : RunFault) (held : List ℕ) (known : Option (List ℕ)) → IsFault fault → named name' known ≡ Some (name ∷ held) → Lends name name' (Err fault) known held
    of-none fault held known refused same =
        let bare = unnamed name name' held known [] (same ∙ ap Some (sym (append-nil (name ∷ held)))) in
        (bare.0, record { taken = []; after = bare.1; wrote = record { printed = tt; begun = inl refl; untouched = λ silent. refl; refused = refused } })

    -- a prefix was written
    of-begun : (fault : RunFault) (held : List ℕ) (known : Option (List ℕ)) → IsFault fault → (IsRunWithoutText fault → named name' known ≡ Some (name ∷ held)) → Begins (Some (name ∷ held)) (named name' known)
        → Lends name name' (Err fault) known held
    of-begun fault held known refused silent begins =
        let found = begun (name ∷ held) (named name' known) begins in
        let taken = take found.2 found.1 in
        let bare = unnamed name name' held known taken found.3 in (
          bare.0,
          record {
            taken = taken;
            after = bare.1;
            wrote = record {
              printed = tt;
              begun = inr (record { wider = found.0; output = found.1; printed = found.4; count = found.2; prefix = refl });
              untouched = λ is. nothing-more (name ∷ held) taken (sym (silent is) ∙ found.3);
              refused = refused;
            };
          },
        )

    -- what a run ensures of a lent writer says what it wrote into the lender
    lent-wrote : (result : Result Printed RunFault) (before known : Option (List ℕ))
        → IfOk result (λ printed. Ends printed.wider (named name before) (named name' known))
        → OnErr result ((named name' known ≡ named name before) ⊎ Begins (named name before) (named name' known))
        → IfErr result (λ fault. IsRunWithoutText fault → named name' known ≡ named name before)
        → IfErr result IsFault
        → IfSome before (Lends name name' result known)
    lent-wrote result None known ends left silent refused = tt
    lent-wrote (Ok printed) (Some held) known ends left silent refused = of-ok printed held known ends
    lent-wrote (Err fault) (Some held) known ends (inl same) silent refused = of-none fault held known refused same
    lent-wrote (Err fault) (Some held) known ends (inr begins) silent refused = of-begun fault held known refused silent begins

  module _ {W : Type 0} (contents : W → Option (List ℕ)) (before after : Counted (Lent W)) where
    abbrev first : Lent W
    first = inner_of before

    abbrev last : Lent W
    last = inner_of after

    abbrev Left : Result Printed RunFault → Type 0
    Left result = OnErr result ((after ≡ before) ⊎ Begins (lent_of contents first) (lent_of contents last))

    abbrev Silent : Result Printed RunFault → Type 0
    Silent result = IfErr result (λ fault. IsRunWithoutText fault → after ≡ before)

    abbrev same : after ≡ before → lent_of contents last ≡ lent_of contents first
    same is = ap (λ writer. lent_of contents (inner_of writer)) is

    left-known : (result : Result Printed RunFault) → Left result → OnErr result ((lent_of contents last ≡ lent_of contents first) ⊎ Begins (lent_of contents first) (lent_of contents last))
    left-known (Ok printed) left = tt
    left-known (Err fault) (inl is) = inl (same is)
    left-known (Err fault) (inr begins) = inr begins

    silent-known : (result : Result Printed RunFault) → Silent result → IfErr result (λ fault. IsRunWithoutText fault → lent_of contents last ≡ lent_of contents first)
    silent-known (Ok printed) silent = tt
    silent-known (Err fault) silent = λ is. same (silent is)

    -- what a run ensures of a counted writer, and that the lender holds at the end what was lent if the name is the same
    pub run-wrote : (result : Result Printed RunFault)
        → IfOk result (λ printed. Ends printed.wider (lent_of contents first) (lent_of contents last))
        → Left result → Silent result → IfErr result IsFault
        → (name : ℕ) (given final : W) (back : Lent W) → first.writer.ghost_name ≡ name → first.writer.now ≡ given → back ≡ last → (name ≡ back.writer.ghost_name → final ≡ back.writer.now)
        → IfSome (contents given) (WroteAfter Prints IsFault (contents final) result)
    run-wrote result ends left silent refused name given final back is-name is-given is-back tie =
        subst (λ (value : W). IfSome (contents value) (WroteAfter Prints IsFault (contents final) result)) is-given
        (weakened (contents first.writer.now) _ _
        (λ held both.
        let back-name = ap (λ (lent : Lent W). lent.writer.ghost_name) is-back in
        let is-final = tie (sym is-name ∙ sym both.0 ∙ sym back-name) ∙ ap (λ (lent : Lent W). lent.writer.now) is-back in
        subst (λ (value : W). WroteAfter Prints IsFault (contents value) result held) (sym is-final) both.1)
        (lent-wrote first.writer.ghost_name last.writer.ghost_name result (contents first.writer.now) (contents last.writer.now) ends (left-known result left) (silent-known result silent) refused))
