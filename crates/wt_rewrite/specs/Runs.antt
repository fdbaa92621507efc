-- Rules of a list that follow one another and have one source.
use Rattle.std.specs.Prelude.{◌≡◌, ℕ, ◌<◌, ◌≤◌, List, [], ◌∷◌, length, slice_get, Some}
use Rattle.wt_symbol.specs.Sides.{tree_of}
use Rattle.wt_rule.specs.declared.Rule.{Rule}
use Rattle.wt_rewrite.specs.declared.runs.Run.{Run}

-- the same source, its lists with the same anchors
abbrev pub SameSource : Rule → Rule → Type 0
SameSource one other = (tree_of one.pair.source ≡ tree_of other.pair.source) × (one.pair.anchors ≡ other.pair.anchors)

-- the rules from one number on and before another one have the source of the first of them
pub record IsRun (rules : List Rule) (start end : ℕ) : Type 0 where
  pub after : start < end
  pub within : end ≤ length rules
  pub same : (k : ℕ) (r first : Rule) → start ≤ k → k < end → slice_get rules k ≡ Some r → slice_get rules start ≡ Some first → SameSource r first

-- runs that follow one another up to the end of the rules
abbrev pub AreRuns : List Rule → ℕ → List Run → Type 0
AreRuns rules start [] = length rules ≤ start
AreRuns rules start (run ∷ runs) = (run.start ≡ start) × IsRun rules run.start run.end × AreRuns rules run.end runs
