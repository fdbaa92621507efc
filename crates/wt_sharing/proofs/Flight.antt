-- What is in flight between two stages: rules whose lines are not put yet, the next part, and the pairs that are left.
use Rattle.std.proofs.Common.{◌≡◌, ◌∙◌, ℕ, ◌+◌, ◌-◌, ◌<◌, ◌≤◌, ◌^◌, min, List, [], ◌++◌, length, length-append, take, drop, map, ap, sym, subst, arith, append-nil, take-add, drop-drop}
use Rattle.std.specs.Prelude.{All, Some, None, Ok, Err, ⊤}
use Rattle.std.specs.Io.KnownBytes.{append_known}
use Rattle.std.specs.declared.option.Option.{Option}
use Rattle.std.proofs.Math.Seq.{drop-append_seam, take-append_seam}
use Rattle.std.proofs.lemmas.List.{length-map, take-append-drop}
use Rattle.wt_board.specs.Lots.{lot_tree}
use Rattle.wt_board.specs.Rules.{AreLotRules, AreRulesOf, rule_of}
use Rattle.wt_discover.specs.Files.{AreCounted}
use Rattle.wt_discover.specs.declared.lines.RuleLines.{RuleLines}
use Rattle.wt_discover.proofs.Counted.{none_counted}
use Rattle.wt_discovery.proofs.RuleLines.{PutSoFar, counted_on, so_far_next, stops_here, stops_in}
use Rattle.wt_discovery.specs.Discovering.{PutsRulesOf}
use Rattle.wt_outcome.proofs.Putting.{append_known-nil}
use Rattle.wt_outcome.specs.Outcomes.{Stops}
use Rattle.wt_outcome.specs.declared.stop.Stop.{Stop}
use Rattle.wt_outcome.specs.declared.stop.Stop.TheVariants.{Memory}
use Rattle.wt_pair.specs.Candidates.{pairs_of}
use Rattle.wt_pair.specs.Walk.{Progress}
use Rattle.wt_pair.specs.declared.bounds.Bounds.{Bounds}
use Rattle.wt_pair.specs.declared.lot.Lot.{Lot}
use Rattle.wt_rule.specs.declared.Rule.{Rule}
use Rattle.wt_symbol.specs.Lawful.{IsLawful}
use Rattle.wt_symbol.specs.Sides.{PairTree, pair_of}
use Rattle.wt_sharing.specs.Parts.{Gives, left}
use Rattle.wt_sharing.specs.Stages.{AreLinesOf}

-- the pairs of the next part and those behind it
abbrev pub ahead : Option Lot → Progress → List PairTree
ahead None parts = []
ahead (Some part) parts = map pair_of part.pairs ++ left parts

-- what the next part may be asked for
abbrev pub MayBeNext : Bounds → Option Lot → Type 0
MayBeNext b None = ⊤
MayBeNext b (Some part) = (part.bounds ≡ b) × All (λ p. IsLawful (pair_of p)) part.pairs × (0 < length part.pairs) × (length part.pairs ≤ 512)

-- the lines of the first pairs were put; `before` has the rules of the pairs behind them; the next part and those left follow
pub record InFlight (b : Bounds) (old new : Option (List ℕ)) (count : ℕ) (before : List Rule) (next : Option Lot) (parts : Progress) : Type 0 where
  pub done : ℕ
  pub found : List PairTree
  pub so_far : PutSoFar b.steps b.depth (take done (pairs_of b)) old new count
  pub rules : AreRulesOf b.steps b.depth found (map rule_of before)
  pub lawful : All (λ (r : Rule). IsLawful (pair_of r.pair)) before
  pub bounds : parts.bounds ≡ b
  pub behind : drop done (pairs_of b) ≡ found ++ ahead next parts
  pub may_follow : MayBeNext b next

-- what was given is ahead
given : (old new : Progress) (next : Option Lot) → Gives old new next → left old ≡ ahead next new
given old new None h = h.0
given old new (Some part) h = sym h.together

may_be_next : (b : Bounds) (old new : Progress) (next : Option Lot) → old.bounds ≡ b → Gives old new next → MayBeNext b next
may_be_next b old new None same h = tt
may_be_next b old new (Some part) same h = (h.bounds ∙ same, h.lawful, h.some, h.few)

none_put : (b : Bounds) (w : Option (List ℕ)) → PutSoFar b.steps b.depth [] w w 0
none_put b w = record {
  lines = [];
  are = none_counted b.steps b.depth;
  put = sym (append_known-nil w);
}

-- before the first stage
pub begun : (b : Bounds) (w : Option (List ℕ)) (before : List Rule) (old new : Progress) (next : Option Lot) → before ≡ [] → old.bounds ≡ b → left old ≡ pairs_of b → new.bounds ≡ old.bounds → Gives old new next
    → InFlight b w w 0 before next new
begun b w before old new next none same all bounds h = record {
  done = 0;
  found = [];
  so_far = none_put b w;
  rules = ap (map rule_of) none;
  lawful = subst (All (λ (r : Rule). IsLawful (pair_of r.pair))) (sym none) (λ k d l. absurd (let bad : ⊥ = omega (arith, l) in bad));
  bounds = bounds ∙ same;
  behind = sym all ∙ given old new next h;
  may_follow = may_be_next b old new next same h;
}

-- want of memory before the first stage
pub stops_first : (b : Bounds) (w : Option (List ℕ)) → PutsRulesOf b (pairs_of b) ⊥ w w (Err Memory)
stops_first b w = stops_here b (pairs_of b) ⊥ 0 w w 0 (none_put b w)

module _ (b : Bounds) (old mid : Option (List ℕ)) (count : ℕ) (before : List Rule) (next : Option Lot) (parts : Progress) (f : InFlight b old mid count before next parts) where
  -- want of memory
  pub stops_waiting : PutsRulesOf b (pairs_of b) ⊥ old mid (Err Memory)
  stops_waiting = stops_here b (pairs_of b) ⊥ f.done old mid count f.so_far

  -- the pairs whose lines were put, and those of the rules found before
  together : take (f.done + length f.found) (pairs_of b) ≡ take f.done (pairs_of b) ++ f.found
  together =
      take-add f.done (length f.found) (pairs_of b)
      ∙ ap (λ l. take f.done (pairs_of b) ++ l) (ap (take (length f.found)) f.behind ∙ take-append_seam f.found (ahead next parts))

  module _ (lines : RuleLines) (are : AreLinesOf before lines) where
    counted : AreCounted b.steps b.depth f.found lines.text lines.count
    counted = are b.steps b.depth f.found f.rules

    -- a stop while the lines of the rules found before are put
    pub stops_putting : (rose rose' : Type 0) → (rose → rose') → (new : Option (List ℕ)) (text : List ℕ) (stop : Stop) → text ≡ lines.text → Stops ⊥ rose mid new text stop → PutsRulesOf b (pairs_of b) rose' old new (Err stop)
    stops_putting rose rose' g new text stop is h =
        stops_in b (pairs_of b) rose rose' g f.done (f.done + length f.found) f.found old mid new count counted.number lines.text stop together f.so_far counted.are (subst (λ t. Stops ⊥ rose mid new t stop) is h)

    module _ (new : Option (List ℕ)) (text : List ℕ) (more : ℕ) (is : text ≡ lines.text) (put : new ≡ append_known mid text) (added : more ≡ min (count + lines.count) (2 ^ 64 - 1)) where
      put_now : PutSoFar b.steps b.depth (take (f.done + length f.found) (pairs_of b)) old new more
      put_now =
          so_far_next b.steps b.depth (take f.done (pairs_of b)) f.found (take (f.done + length f.found) (pairs_of b)) old mid new lines.text count counted.number more together
          (counted_on count lines.count counted.number more added counted.counted) f.so_far counted.are (put ∙ ap (append_known mid) is)

      -- the next stage
      pub next_stage : (part : Lot) (found : List Rule) (parts' : Progress) (next' : Option Lot) → next ≡ Some part → AreLotRules (lot_tree part) found → All (λ (r : Rule). IsLawful (pair_of r.pair)) found
          → parts'.bounds ≡ parts.bounds → Gives parts parts' next' → InFlight b old new more found next' parts'
      next_stage part found parts' next' at rules lawful same h = record {
        done = f.done + length f.found;
        found = map pair_of part.pairs;
        so_far = put_now;
        rules = subst (λ x. AreRulesOf x.steps x.depth (map pair_of part.pairs) (map rule_of found)) (subst (MayBeNext b) at f.may_follow).0 rules;
        lawful = lawful;
        bounds = same ∙ f.bounds;
        behind = sym (drop-drop (length f.found) f.done (pairs_of b)) ∙ ap (drop (length f.found)) f.behind ∙ drop-append_seam f.found (ahead next parts)
            ∙ ap (λ n. ahead n parts) at ∙ ap (λ l. map pair_of part.pairs ++ l) (given parts parts' next' h);
        may_follow = may_be_next b parts parts' next' f.bounds h;
      }

      -- the end
      pub whole : next ≡ None → PutsRulesOf b (pairs_of b) ⊥ old new (Ok more)
      whole at =
          let all : take (f.done + length f.found) (pairs_of b) ≡ pairs_of b =
          together ∙ ap (λ l. take f.done (pairs_of b) ++ l) (sym (f.behind ∙ ap (λ n. f.found ++ ahead n parts) at ∙ append-nil f.found)) ∙ take-append-drop f.done (pairs_of b) in
          (put_now.lines, subst (λ l. AreCounted b.steps b.depth l put_now.lines more) all put_now.are, put_now.put)

-- fewer pairs are ahead after a stage
pub fewer_ahead : (part : Lot) (parts parts' : Progress) (next next' : Option Lot) → next ≡ Some part → 0 < length part.pairs → Gives parts parts' next' → length (ahead next' parts') < length (ahead next parts)
fewer_ahead part parts parts' next next' at some h =
    let a = ap length (given parts parts' next' h) in
    let b = ap (λ n. length (ahead n parts)) at in
    let c = length-append (map pair_of part.pairs) (left parts) in
    let d = length-map part.pairs pair_of in
    omega (arith, a, b, c, d, some)
