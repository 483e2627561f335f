-- What follows from the result of a call.
use Rattle.std.proofs.Common.{Result, Ok, Err}
use Rattle.std.specs.Prelude.{IfErr, IfOk, OnOk}

pub ok_weaker : {T E : Type 0} (A B : Type 0) (result : Result T E) → (A → B) → OnOk result A → OnOk result B
ok_weaker A B (Ok x) more is = more is
ok_weaker A B (Err e) more is = is

pub of_ok_weaker : {T E : Type 0} (P Q : T → Type 0) (result : Result T E) → ((x : T) → P x → Q x) → IfOk result P → IfOk result Q
of_ok_weaker P Q (Ok x) more is = more x is
of_ok_weaker P Q (Err e) more is = is

pub of_err_weaker : {T E : Type 0} (P Q : E → Type 0) (result : Result T E) → ((e : E) → P e → Q e) → IfErr result P → IfErr result Q
of_err_weaker P Q (Ok x) more is = is
of_err_weaker P Q (Err e) more is = more e is
