-- What a command has to answer, and how it may end short of it.
use Rattle.std.specs.Prelude.{◌≡◌, ◌≢◌, ℕ, List, take, Result, Ok, Err, Some, ◌⊎◌}
use Rattle.std.specs.declared.option.Option.{Option}
use Rattle.std.specs.Io.KnownBytes.{append_known}
use Rattle.wt_outcome.specs.declared.stop.Stop.{Stop}
use Rattle.wt_outcome.specs.declared.stop.Stop.TheVariants.{Read, Write, Memory}

-- the status and the whole text of a command that meets no fault and no want of memory; or, without a status, a part of the text
-- that a run may have come to which ends before its answer is known
pub record Outcome : Type 0 where
  pub status : Option ℕ
  pub text : List ℕ

-- what was written grew by a prefix of the text
abbrev pub AppendsPrefix : Option (List ℕ) → Option (List ℕ) → List ℕ → Type 0
AppendsPrefix old new text = (n : ℕ) × (new ≡ append_known old (take n text))

-- the status is the outcome's, and its text was written whole
abbrev pub Writes : Option (List ℕ) → Option (List ℕ) → Outcome → ℕ → Type 0
Writes old new o status = (o.status ≡ Some status) × (new ≡ append_known old o.text)

-- How a command ended, by its status: 3 is a fault of a read, before which nothing was written; 5 a fault of a write; 6 want of
-- memory; after these two a prefix of the text was written. Any other status is the outcome's, and the text was written whole.
pub record Ends (read_rose write_rose : Type 0) (old new : Option (List ℕ)) (o : Outcome) (status : ℕ) : Type 0 where
  pub done : status ≢ 3 → status ≢ 5 → status ≢ 6 → Writes old new o status
  pub read : status ≡ 3 → read_rose × (new ≡ old)
  pub write : status ≡ 5 → write_rose
  pub prefix : (status ≡ 5) ⊎ (status ≡ 6) → AppendsPrefix old new o.text

-- The same while a command runs, by the cause with which it stopped.

-- why a command stopped, and what was written of its text
abbrev pub Stops : Type 0 → Type 0 → Option (List ℕ) → Option (List ℕ) → List ℕ → Stop → Type 0
Stops read_rose write_rose old new text Read = read_rose × (new ≡ old)
Stops read_rose write_rose old new text Write = write_rose × AppendsPrefix old new text
Stops read_rose write_rose old new text Memory = AppendsPrefix old new text

-- a command ends as its outcome says, or stops with a cause
abbrev pub Runs : Type 0 → Type 0 → Option (List ℕ) → Option (List ℕ) → Outcome → Result ℕ Stop → Type 0
Runs read_rose write_rose old new o (Ok status) = (o.status ≡ Some status) × (new ≡ append_known old o.text)
Runs read_rose write_rose old new o (Err stop) = Stops read_rose write_rose old new o.text stop

-- a part of a command writes a text, or stops with a cause; it reads nothing
abbrev pub Puts : {T : Type 0} → Type 0 → Option (List ℕ) → Option (List ℕ) → List ℕ → Result T Stop → Type 0
Puts write_rose old new text (Ok x) = new ≡ append_known old text
Puts write_rose old new text (Err stop) = Stops ⊥ write_rose old new text stop

-- a part of a command stops by a fault of the store, or by want of memory
abbrev pub StopsIn : Type 0 → Stop → Type 0
StopsIn rose Read = rose
StopsIn rose Write = ⊥
StopsIn rose Memory = Unit {0}

abbrev pub StopsReading : {T : Type 0} → Type 0 → Result T Stop → Type 0
StopsReading rose (Ok x) = Unit {0}
StopsReading rose (Err stop) = StopsIn rose stop

-- a part that neither reads nor writes stops by want of memory alone
abbrev pub WantsMemory : Stop → Type 0
WantsMemory Read = ⊥
WantsMemory Write = ⊥
WantsMemory Memory = Unit {0}
