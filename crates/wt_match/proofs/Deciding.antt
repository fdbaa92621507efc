-- What was found is a match where each test passes, and where one fails it is none.
use Rattle.std.proofs.Common.{◌≡◌, ℕ, ◌<◌, Bool, true, false, List, sym, ap, ◌∙◌, subst}
use Rattle.std.specs.Prelude.{Option, Some, None, Result, Ok, Err, IfOk, IfSome, IfNone, IsTrue}
use Rattle.wt_bag.specs.Bags.{Each}
use Rattle.wt_symbol.specs.Sides.{PairTree}
use Rattle.wt_symbol.specs.Lawful.{IsLawful}
use Rattle.wt_constraint.specs.declared.set.AtomSet.{AtomSet}
use Rattle.wt_schema.specs.declared.schema.Table.{Table}
use Rattle.wt_plan.specs.declared.plan.Plan.{Plan}
use Rattle.wt_plan.specs.Tree.{PlanTree, plan_tree}
use Rattle.wt_plan.specs.Measures.{width, node_count}
use Rattle.wt_plan.specs.WellFormed.{Narrow}
use Rattle.wt_plan.specs.Regular.{Regular}
use Rattle.wt_matching.specs.Filling.{Assigned}
use Rattle.wt_matching.specs.Nodes.{at, put}
use Rattle.wt_matching.specs.Matching.{AtomKnown, IsMatch}
use Rattle.wt_matching.specs.Finding.{Found, found, nothing, just}
use Rattle.wt_matching.proofs.FindLaws.{just_same}
use Rattle.wt_matching.proofs.Subplans.{narrow_at, narrow_put}
use Rattle.wt_fill.specs.Capped.{capped_fill}
use Rattle.wt_fill.proofs.CappedLaws.{where_filled, where_capped}
use Rattle.wt_match.specs.Asking.{asked}
use Rattle.wt_match.specs.Matched.{made_by, GivesAt}
use Rattle.wt_match.proofs.Asked.{asked_known, known_asked}
use Rattle.wt_match.proofs.Matches.{given, found_narrow, is_match, match_found}

nothing_just : {X : Type 0} (x : X) → nothing ≡ just x → ⊥
nothing_just x h = cc

module _ (S : List Table) (p : PairTree) (set : AtomSet) (lawful : IsLawful p) (plan : PlanTree) (n : ℕ) where
  module _ (x : Found) (walked : found p.source p.anchors (at plan n) ≡ just x) where
    -- its leaves are narrow
    pub narrow_found : Narrow plan → Each Narrow x.leaves
    narrow_found h = found_narrow p lawful (at plan n) x walked (narrow_at plan n h)

    pub no_atoms : (Each (AtomKnown S p.anchors (given x)) (asked p set) → ⊥) → IsMatch S p set plan n (given x) → ⊥
    no_atoms k h = k (known_asked (AtomKnown S p.anchors (given x)) p set h.atoms)

    -- the plan that was made is the one that a match makes, where either is regular
    made_where_regular : n < node_count plan → (q : PlanTree) → q ≡ put plan n (capped_fill p.dest p.anchors (given x)) → Regular S q → q ≡ made_by p plan n (given x)
    made_where_regular within q e regular =
        let narrow = narrow_put plan n _ within (subst Narrow e regular.well_formed.narrow) in
        e ∙ ap (put plan n) (where_capped p.anchors (given x) p.dest narrow)

    made_where_match : n < node_count plan → (q : PlanTree) → q ≡ put plan n (capped_fill p.dest p.anchors (given x)) → IsMatch S p set plan n (given x) → q ≡ made_by p plan n (given x)
    made_where_match within q e h =
        let narrow = narrow_put plan n _ within h.regular.well_formed.narrow in
        e ∙ ap (put plan n) (where_filled p.anchors (given x) p.dest narrow)

    no_regular : n < node_count plan → (q : PlanTree) → q ≡ put plan n (capped_fill p.dest p.anchors (given x)) → (Regular S q → width q ≡ width plan → ⊥) → IsMatch S p set plan n (given x) → ⊥
    no_regular within q e k h =
        let made = made_where_match within q e h in
        k (subst (Regular S) (sym made) h.regular) (ap width made ∙ h.wide)

    is_a_match : n < node_count plan → Each (AtomKnown S p.anchors (given x)) (asked p set) → (q : PlanTree) → q ≡ made_by p plan n (given x) → Regular S q → width q ≡ width plan → IsMatch S p set plan n (given x)
    is_a_match within known q e regular wide =
        is_match p lawful S set plan n x within walked (λ k a has get. asked_known (AtomKnown S p.anchors (given x)) p set known k a has get)
        (subst (Regular S) e regular) (ap width (sym e) ∙ wide)

    pub only_found : (IsMatch S p set plan n (given x) → ⊥) → (m : Assigned) → IsMatch S p set plan n m → ⊥
    only_found k m h =
        let seen = match_found p lawful S set plan n m h in
        let same : seen.0 ≡ x = just_same seen.0 x (sym seen.1 ∙ walked) in
        k (subst (λ z. IsMatch S p set plan n z) (seen.2 ∙ ap given same) h)

    -- the plan that was made, where it is regular and as wide
    gives_regular : n < node_count plan → Each (AtomKnown S p.anchors (given x)) (asked p set) → (q : PlanTree) → q ≡ put plan n (capped_fill p.dest p.anchors (given x)) → (o : Option Plan) →
        IfSome o (λ r. plan_tree r ≡ q) → IfSome o (λ r. Regular S q) → IfSome o (λ r. width q ≡ width plan) → IfNone o (Regular S q → width q ≡ width plan → ⊥) →
        GivesAt S p set plan n o
    gives_regular within known q e (Some r) is regular wide none =
        let made = made_where_regular within q e regular in
        (given x, is_a_match within known q made regular wide, is ∙ made)
    gives_regular within known q e None is regular wide none = only_found (no_regular within q e none)

    -- the same of a result, where the plan is copied then
    pub gives_copied : {E : Type 0} → n < node_count plan → Each (AtomKnown S p.anchors (given x)) (asked p set) → (q : PlanTree) → q ≡ put plan n (capped_fill p.dest p.anchors (given x)) →
        (r : Result (Option Plan) E) → IfOk r (λ o. IfSome o (λ z. plan_tree z ≡ q)) → IfOk r (λ o. IfSome o (λ z. Regular S q)) → IfOk r (λ o. IfSome o (λ z. width q ≡ width plan)) →
        IfOk r (λ o. IfNone o (Regular S q → width q ≡ width plan → ⊥)) → IfOk r (λ o. GivesAt S p set plan n o)
    gives_copied within known q e (Ok o) is regular wide none = gives_regular within known q e o is regular wide none
    gives_copied within known q e (Err x) is regular wide none = tt

  pub none_found : nothing ≡ found p.source p.anchors (at plan n) → (m : Assigned) → IsMatch S p set plan n m → ⊥
  none_found e m h = let seen = match_found p lawful S set plan n m h in nothing_just seen.0 (e ∙ seen.1)

pub not_true : (b : Bool) → b ≡ false → IsTrue b → ⊥
not_true true e h = cc
not_true false e h = cc
