-- What `discover` answers: the file of the rules of its bounds.
use Rattle.std.specs.Prelude.{◌≡◌, ℕ, ◌⊎◌, List, ◌++◌, take, Result, Ok, Err, Some, None}
use Rattle.std.specs.Io.KnownBytes.{append_known}
use Rattle.std.specs.declared.option.Option.{Option}
use Rattle.wt_discover.specs.Files.{AreAllLines, AreCounted, IsRuleFile}
use Rattle.wt_pair.specs.declared.bounds.Bounds.{Bounds}
use Rattle.wt_pair.specs.Candidates.{pairs_of}
use Rattle.wt_rule.specs.Texts.{head_line}
use Rattle.wt_symbol.specs.Sides.{PairTree}
use Rattle.wt_outcome.specs.declared.stop.Stop.{Stop}
use Rattle.wt_outcome.specs.Outcomes.{Outcome, Stops}

-- the rule file of the bounds
abbrev pub IsFileOf : Bounds → List ℕ → Type 0
IsFileOf b text = IsRuleFile b.steps b.depth (pairs_of b) text

-- it was written
abbrev pub WritesFile : Bounds → Option (List ℕ) → Option (List ℕ) → Type 0
WritesFile b old new = (text : List ℕ) × IsFileOf b text × (new ≡ append_known old text)

-- the whole file: the head, a line for each rule of each pair of the bounds in order, and the end
abbrev pub IsWhole : Bounds → Outcome → Type 0
IsWhole b o = IsFileOf b o.text × (o.status ≡ Some 0)

-- the head and the lines of the rules of the first pairs: what a run may have come to that ends before the last pair
abbrev pub IsPart : Bounds → Outcome → Type 0
IsPart b o = (n : ℕ) × (lines : List ℕ) × (count : ℕ) × AreAllLines b.steps b.depth (take n (pairs_of b)) lines count
    × (o ≡ record { status = None; text = head_line b.steps ++ lines })

-- a run is done with the whole file, or it ends early within the lines of some first pairs
abbrev pub IsDiscovered : Bounds → Outcome → Type 0
IsDiscovered b o = IsWhole b o ⊎ IsPart b o

-- The same while the command runs.

-- the lines of the rules of these pairs were put, and this is their number; or a stop within the lines of the first of them
abbrev pub PutsRulesOf : Bounds → List PairTree → Type 0 → Option (List ℕ) → Option (List ℕ) → Result ℕ Stop → Type 0
PutsRulesOf b pairs rose old new (Ok n) = (lines : List ℕ) × AreCounted b.steps b.depth pairs lines n × (new ≡ append_known old lines)
PutsRulesOf b pairs rose old new (Err stop) =
    (k : ℕ) × (lines : List ℕ) × (count : ℕ) × AreAllLines b.steps b.depth (take k pairs) lines count × Stops ⊥ rose old new lines stop

-- the whole run
abbrev pub Discovers : Bounds → Type 0 → Option (List ℕ) → Option (List ℕ) → Result ℕ Stop → Type 0
Discovers b rose old new (Ok status) = (o : Outcome) × IsWhole b o × (o.status ≡ Some status) × (new ≡ append_known old o.text)
Discovers b rose old new (Err stop) = (o : Outcome) × IsDiscovered b o × Stops ⊥ rose old new o.text stop
