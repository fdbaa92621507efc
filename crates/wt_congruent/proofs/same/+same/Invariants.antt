use Rattle.std.proofs.Common.{◌<◌, ◌+◌, ◌*◌, ◌++◌, ◌∷◌, [], ℕ, map}
use Rattle.wt_bag.specs.Choices.{At, drop_at}
use Rattle.wt_form.specs.Congruent.{TermsSame, RangeSame, CondsSame, CondSame}
use Rattle.wt_form.specs.Views.{terms_seen, ranges_seen, range_seen, conds_seen, cond_seen, terms_from, term_seen}
use Rattle.wt_facts.specs.Facts.{known_of}
use Rattle.wt_congruent.specs.Refs.{term_behind, range_behind, cond_behind, TermIs}
use Rattle.wt_congruent.specs.Early.{GoesOn}
use Rattle.wt_form.specs.Weights.{terms_size, ranges_size, range_size, conds_size, cond_size}
use Rattle.wt_congruent.proofs.same.+same.Given as goal

abbrev pub decreases-same_range : goal.decreases-same_range
decreases-same_range l = 4 * range_size (range_seen l.range.now)

abbrev pub decreases-same_conds : goal.decreases-same_conds
decreases-same_conds l = 4 * conds_size (conds_seen l.conds.now) + 1

abbrev pub decreases-same_cond : goal.decreases-same_cond
decreases-same_cond l = 4 * cond_size (cond_seen l.c.now)

abbrev pub decreases-can_go_on : goal.decreases-can_go_on
decreases-can_go_on l = 4 * (ranges_size (ranges_seen l.ranges.now) + conds_size (conds_seen l.conds.now)) + 2

abbrev pub decreases-same_term : goal.decreases-same_term
decreases-same_term l = 4 * (1 + ranges_size (ranges_seen l.term.now.ranges) + conds_size (conds_seen l.term.now.conds))

abbrev pub decreases-same_terms : goal.decreases-same_terms
decreases-same_terms l = 4 * terms_size (terms_seen l.terms.now) + 1

-- no place so far leads to a pairing
abbrev pub invariant-same_conds-loop-j : goal.invariant-same_conds-loop-j
invariant-same_conds-loop-j l = (i : ℕ) → i < l.j → (At (CondSame (known_of l.facts) l.ks (cond_seen l.c)) i (map cond_behind l.left) × CondsSame (known_of l.facts) l.ks (conds_seen l.rest.value) (drop_at i (map cond_behind l.left))) → ⊥

abbrev pub invariant-can_go_on-loop-j : goal.invariant-can_go_on-loop-j
invariant-can_go_on-loop-j l = (i : ℕ) → i < l.j → (At (RangeSame (known_of l.facts) (range_seen l.range)) i (map range_behind l.left) × GoesOn (known_of l.facts) (l.ks ++ i ∷ []) (ranges_seen l.rest.value) (drop_at i (map range_behind l.left)) (conds_seen l.conds) l.pieces (map cond_behind l.others) l.values) → ⊥

abbrev pub invariant-same_terms-loop-k : goal.invariant-same_terms-loop-k
invariant-same_terms-loop-k l = (i : ℕ) → i < l.k → (At (TermIs (known_of l.facts) (term_seen l.term.value)) i (map term_behind l.left) × TermsSame (known_of l.facts) (terms_seen l.rest.value) (terms_from (drop_at i (map term_behind l.left)))) → ⊥
