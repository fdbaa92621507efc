-- Files whose bytes were not read, and a reading that stopped.
use Rattle.std.proofs.Common.{ℕ, List, length, refl, inl, inr}
use Rattle.std.specs.Prelude.{Some, None}
use Rattle.std.specs.declared.option.Option.{Option}
use Rattle.std.proofs.lemmas.Bool.Decides.{leb_tells}
use Rattle.wt_outcome.specs.declared.stop.Stop.{Stop}
use Rattle.wt_outcome.specs.declared.stop.Stop.TheVariants.{Read, Write, Memory}
use Rattle.wt_outcome.specs.declared.input.Input.{Input}
use Rattle.wt_outcome.specs.declared.input.Input.TheVariants.{Whole, TooLong}
use Rattle.wt_outcome.specs.Inputs.{IsInput}
use Rattle.wt_outcome.specs.Outcomes.{Stops, StopsIn}
use Rattle.wt_outcome.proofs.Putting.{prefix_none}

-- each name has some input
pub any_input : (told : Option (List ℕ)) → (input : Input) × IsInput told input
any_input None = (TooLong, tt)
any_input (Some bytes) = elim (leb_tells (length bytes) 16777216) [ inl h ↦ (Whole bytes, (h.1, refl)) | inr h ↦ (TooLong, h.1) ]

-- a reading that stopped left the sink as it was
pub stops_reading : (read write : Type 0) (w : Option (List ℕ)) (text : List ℕ) (stop : Stop) → StopsIn read stop → Stops read write w w text stop
stops_reading read write w text Read h = (h, refl)
stops_reading read write w text Write h = absurd h
stops_reading read write w text Memory h = prefix_none w text
