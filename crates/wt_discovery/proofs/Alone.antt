-- What a discovery on the caller's thread has written when it ends early.
use Rattle.std.proofs.Common.{List, ℕ, ◌++◌, sym, subst, inl, inr}
use Rattle.std.specs.Prelude.{Err}
use Rattle.std.specs.declared.option.Option.{Option}
use Rattle.wt_discover.proofs.OneFile.{one_file, first_pairs_begin}
use Rattle.wt_pair.specs.Candidates.{pairs_of}
use Rattle.wt_pair.specs.declared.bounds.Bounds.{Bounds}
use Rattle.wt_rule.specs.Texts.{head_line}
use Rattle.wt_outcome.specs.declared.stop.Stop.{Stop}
use Rattle.wt_outcome.specs.declared.stop.Stop.TheVariants.{Read, Write, Memory}
use Rattle.wt_discovery.specs.Discovering.{Discovers, IsDiscovered, IsFileOf}
use Rattle.wt_outcome.specs.Outcomes.{AppendsPrefix, Outcome}
use Rattle.wt_outcome.proofs.Putting.{prefix_more}

-- a prefix of what a run may have come to is a prefix of the rule file
pub discovered_prefix : (b : Bounds) (old new : Option (List ℕ)) (file : List ℕ) (o : Outcome) → IsDiscovered b o → IsFileOf b file → AppendsPrefix old new o.text → AppendsPrefix old new file
discovered_prefix b old new file o (inl whole) is h = subst (AppendsPrefix old new) (one_file b.steps b.depth (pairs_of b) o.text file whole.0 is) h
discovered_prefix b old new file o (inr part) is h =
    let (rest, whole) = first_pairs_begin b.steps b.depth part.0 (pairs_of b) part.1 file part.2 part.3 is in
    subst (AppendsPrefix old new) (sym whole) (prefix_more old new (head_line b.steps ++ part.1) rest (subst (λ (x : Outcome). AppendsPrefix old new x.text) part.4 h))

pub stop_prefix : (b : Bounds) (rose : Type 0) (old new : Option (List ℕ)) (stop : Stop) → Discovers b rose old new (Err stop) → (file : List ℕ) → IsFileOf b file → AppendsPrefix old new file
stop_prefix b rose old new Read (o, is, h) file whole = absurd h.0
stop_prefix b rose old new Write (o, is, h) file whole = discovered_prefix b old new file o is whole h.1
stop_prefix b rose old new Memory (o, is, h) file whole = discovered_prefix b old new file o is whole h
