use Rattle.std.proofs.Common.{rules, ◌≡◌, ◌==◌, ◌∙◌, ℕ, zero, suc, Bool, true, false, sym, arith}
use Rattle.tabled_output.proofs.Written.{HasWritten-step}
use Rattle.tabled_output.proofs.writing.write_all.Goals as goal

-- a rest that is written of is not empty
not_empty : {T : Type 0} (n : ℕ) {test : Bool} → test ≡ (n == 0) → test ≡ false → n ≡ 0 → T
not_empty zero is_test more none = let both : true ≡ false = sym is_test ∙ more in cc both
not_empty (suc n) is_test more none = absurd (omega (arith, none))

pub loop-rest-preserved : goal.loop-rest-preserved
loop-rest-preserved g c = record {
  written = HasWritten-step _ _ _ _ _ _ c.loop-rest.invariant.written c.in-Ok.ensures.bytes;
  failures = search rules;
  empty_writes = search rules;
  only_writes = search rules;
  nothing = λ none. not_empty _ c.is_empty.ensures c.loop-rest-test.true (c.loop-rest.invariant.nothing none).1;
}

pub returns-clause-nothing : goal.returns-clause-nothing
returns-clause-nothing g c = λ none. (c.loop-rest.invariant.nothing none).0
