-- Why a schema is refused, and where.
use Rattle.std.specs.Prelude.{ℕ, Result, Ok, Err}
use Rattle.wt_lex.specs.declared.token.LexFault.{LexFault}
use Rattle.wt_ddl.specs.declared.fault.DdlFault.{DdlFault}

-- by its grammar or its names, or for a token
pub data Refusal : Type 0 where
  refused : DdlFault → Refusal
  odd : LexFault → Refusal

-- a refusal and the offset of its place
abbrev pub Fault : Type 0
Fault = Refusal × ℕ

-- a value, or a refusal
abbrev pub Checked : Type 0 → Type 0
Checked A = Result A Fault

-- a value that is there, and what is made of it
abbrev pub chain : {A B : Type 0} → Checked A → (A → Checked B) → Checked B
chain (Ok a) f = f a
chain (Err e) f = Err e
