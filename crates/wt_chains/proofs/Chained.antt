-- The laws on chains.
use Rattle.std.proofs.Common.{◌≡◌, ◌∙◌, ℕ, ◌+◌, ◌<◌, ◌≤◌, zero, suc, List, [], ◌∷◌, ◌⊎◌, length, refl, sym, ap, subst, inl, inr, arith}
use Rattle.std.specs.Prelude.{Some, slice_get}
use Rattle.wt_bag.specs.Bags.{Each}
use Rattle.wt_value.specs.Values.{Tuple, IsOneBag}
use Rattle.wt_schema.specs.declared.schema.Table.{Table}
use Rattle.wt_schema.specs.Lawful.{IsSchema}
use Rattle.wt_schema.specs.Satisfying.{Satisfies}
use Rattle.wt_symbol.specs.Sides.{pair_of}
use Rattle.wt_symbol.specs.Lawful.{IsLawful}
use Rattle.wt_rule.specs.declared.Rule.{Rule}
use Rattle.wt_plan.specs.Tree.{PlanTree}
use Rattle.wt_plan.specs.Measures.{cost, width}
use Rattle.wt_plan.specs.Rows.{plan_rows}
use Rattle.wt_plan.specs.Regular.{Regular}
use Rattle.wt_place.specs.Keeping.{IsPlaced}
use Rattle.wt_place.specs.Placing.{placed}
use Rattle.wt_place.proofs.Measured.{cost_kept}
use Rattle.wt_place.proofs.NarrowKept.{width_placed}
use Rattle.wt_place.proofs.Regularity.{regular_placed}
use Rattle.wt_placed.proofs.Again.{is_placed}
use Rattle.wt_matching.specs.Filling.{Assigned, fill}
use Rattle.wt_matching.specs.Nodes.{put}
use Rattle.wt_matching.specs.Matching.{IsMatch, IsSound}
use Rattle.wt_matching.proofs.Final.{keeps_rows, lowers_cost, is_unique}
use Rattle.wt_chains.specs.declared.applied.Applied.{Applied}
use Rattle.wt_chains.specs.Chains.{AreLawful, AreSound, HasNoMatch, IsChain, IsFirst, IsStep, made, ends, goes}
use Rattle.wt_chains.proofs.Keeping.{bag_through, placing_keeps, same_bag}

each_get : {X : Type 0} (P : X → Type 0) (xs : List X) (i : ℕ) (x : X) → Each P xs → slice_get xs i ≡ Some x → P x
each_get P [] i x h at = cc
each_get P (y ∷ ys) zero x h at = let e : y ≡ x = cc in subst P e h.0
each_get P (y ∷ ys) (suc i) x h at = each_get P ys i x h.1 at

-- a number is less than another, the same or greater
compared : (a b : ℕ) → (a < b) ⊎ ((a ≡ b) ⊎ (b < a))
compared zero zero = inr (inl refl)
compared zero (suc b) = inl (omega arith)
compared (suc a) zero = inr (inr (omega arith))
compared (suc a) (suc b) = elim (compared a b) [
  | inl h ↦ inl (omega (arith, h))
  | inr h ↦ elim h [ inl e ↦ inr (inl (ap suc e)) | inr k ↦ inr (inr (omega (arith, k))) ]
]

module _ (S : List Table) (schema : IsSchema S) (rules : List Rule) (lawful : AreLawful rules) (plan : PlanTree) (regular : Regular S plan) where
  module _ (step : Applied) (m : Assigned) (is : IsStep S rules plan step m) where
    pair_lawful : IsLawful (pair_of is.rule.pair)
    pair_lawful = each_get (λ (r : Rule). IsLawful (pair_of r.pair)) rules step.rule is.rule lawful is.at

    pub cheaper : cost (made (pair_of is.rule.pair) plan step.node m) < cost plan
    cheaper =
        let p = pair_of is.rule.pair in
        let falls = lowers_cost S schema p is.rule.set pair_lawful plan regular step.node is.node m is.matches in
        subst (λ c. c < cost plan) (sym (cost_kept (put plan step.node (fill p.dest p.anchors m)))) falls

    same_rows : AreSound rules → (base : List (List Tuple)) → Satisfies S base → IsOneBag (plan_rows base plan) (plan_rows base (made (pair_of is.rule.pair) plan step.node m))
    same_rows sound base holds =
        let p = pair_of is.rule.pair in
        let new = put plan step.node (fill p.dest p.anchors m) in
        bag_through (plan_rows base plan) (plan_rows base new) (plan_rows base (placed new))
        (keeps_rows S schema p is.rule.set pair_lawful plan regular step.node is.node m is.matches base holds (each_get (λ (r : Rule). IsSound (pair_of r.pair) r.set) rules step.rule is.rule sound is.at))
        (placing_keeps S schema base holds new is.matches.regular)

  -- matches of one rule at one node make one plan
  same_made : (step other : Applied) (m x : Assigned) (a : IsStep S rules plan step m) (b : IsStep S rules plan other x) → step ≡ other
      → made (pair_of a.rule.pair) plan step.node m ≡ made (pair_of b.rule.pair) plan other.node x
  same_made step other m x a b e =
      let node : step.node ≡ other.node = ap (λ (s : Applied). s.node) e in
      let found : Some a.rule ≡ Some b.rule = sym a.at ∙ ap (λ (s : Applied). slice_get rules s.rule) e ∙ b.at in
      let rule : a.rule ≡ b.rule = cc in
      let there : IsMatch S (pair_of b.rule.pair) b.rule.set plan step.node x = subst (λ n. IsMatch S (pair_of b.rule.pair) b.rule.set plan n x) (sym node) b.matches in
      let too : IsMatch S (pair_of a.rule.pair) a.rule.set plan step.node x = subst (λ (r : Rule). IsMatch S (pair_of r.pair) r.set plan step.node x) (sym rule) there in
      let one : m ≡ x = is_unique S schema (pair_of a.rule.pair) a.rule.set (pair_lawful step m a) plan regular step.node a.node m a.matches x too in
      ap (λ (r : Rule). made (pair_of r.pair) plan step.node m) rule ∙ ap (λ n. made (pair_of b.rule.pair) plan n m) node ∙ ap (made (pair_of b.rule.pair) plan other.node) one

made_regular : (S : List Table) (rules : List Rule) (plan : PlanTree) (step : Applied) (m : Assigned) (is : IsStep S rules plan step m) → Regular S (made (pair_of is.rule.pair) plan step.node m)
made_regular S rules plan step m is = regular_placed S (put plan step.node (fill (pair_of is.rule.pair).dest (pair_of is.rule.pair).anchors m)) is.matches.regular

-- two first matches of a plan are one
module _ (S : List Table) (rules : List Rule) (plan : PlanTree) where
  one_first : (step other : Applied) (m x : Assigned) → IsFirst S rules plan step m → IsFirst S rules plan other x → step ≡ other
  one_first step other m x a b = elim (compared step.node other.node) [
    | inl h ↦ absurd (b.first step m (inl h) a.is)
    | inr h ↦ elim h [
      | inl e ↦ elim (compared step.rule other.rule) [
        | inl k ↦ absurd (b.first step m (inr (e, k)) a.is)
        | inr k ↦ elim k [ inl f ↦ both step.node other.node step.rule other.rule e f | inr l ↦ absurd (a.first other x (inr (sym e, l)) b.is) ]
      ]
      | inr k ↦ absurd (a.first other x (inl k) b.is)
    ]
  ]
    where
      applied : ℕ → ℕ → Applied
      applied n r = record { node = n; rule = r }

      both : (n n' r r' : ℕ) → n ≡ n' → r ≡ r' → applied n r ≡ applied n' r'
      both n n' r r' e f = ap (λ k. applied k r) e ∙ ap (applied n') f

same_traces : {a b : Applied} {xs ys : List Applied} → a ≡ b → xs ≡ ys → (a ∷ xs) ≡ (b ∷ ys)
same_traces {b = b} {xs = xs} e f = ap (λ s. s ∷ xs) e ∙ ap (λ l. b ∷ l) f

module _ (S : List Table) (rules : List Rule) where
  moved : {p q last : PlanTree} {trace : List Applied} → p ≡ q → IsChain S rules p trace last → IsChain S rules q trace last
  moved {last = last} {trace = trace} e chain = subst (λ r. IsChain S rules r trace last) e chain

  pub chain_regular : {plan last : PlanTree} {trace : List Applied} → Regular S plan → IsChain S rules plan trace last → Regular S last
  chain_regular regular (ends none) = regular
  chain_regular {plan} regular (goes step m first rest) = chain_regular (made_regular S rules plan step m first.is) rest

  pub chain_wide : {plan last : PlanTree} {trace : List Applied} → IsChain S rules plan trace last → width last ≡ width plan
  chain_wide (ends none) = refl
  chain_wide {plan} (goes step m first rest) =
      let p = pair_of first.is.rule.pair in
      chain_wide rest ∙ width_placed (put plan step.node (fill p.dest p.anchors m)) ∙ first.is.matches.wide

  pub chain_placed : {plan last : PlanTree} {trace : List Applied} → IsPlaced plan → IsChain S rules plan trace last → IsPlaced last
  chain_placed is (ends none) = is
  chain_placed {plan} is (goes step m first rest) =
      let p = pair_of first.is.rule.pair in chain_placed (is_placed (put plan step.node (fill p.dest p.anchors m))) rest

  pub chain_ends : {plan last : PlanTree} {trace : List Applied} → IsChain S rules plan trace last → HasNoMatch S rules last
  chain_ends (ends none) = none
  chain_ends (goes step m first rest) = chain_ends rest

  module _ (schema : IsSchema S) (lawful : AreLawful rules) where
    pub chain_rows : AreSound rules → (base : List (List Tuple)) → Satisfies S base → {plan last : PlanTree} {trace : List Applied} → Regular S plan → IsChain S rules plan trace last
        → IsOneBag (plan_rows base plan) (plan_rows base last)
    chain_rows sound base holds {plan} regular (ends none) = same_bag (plan_rows base plan)
    chain_rows sound base holds {plan} {last} regular (goes step m first rest) =
        let next = made (pair_of first.is.rule.pair) plan step.node m in
        bag_through (plan_rows base plan) (plan_rows base next) (plan_rows base last) (same_rows S schema rules lawful plan regular step m first.is sound base holds)
        (chain_rows sound base holds (made_regular S rules plan step m first.is) rest)

    pub chain_cost : {plan last : PlanTree} {trace : List Applied} → Regular S plan → IsChain S rules plan trace last → cost last + length trace ≤ cost plan
    chain_cost regular (ends none) = omega arith
    chain_cost {plan} {last} {trace} regular (goes step m first rest) =
        let next = chain_cost (made_regular S rules plan step m first.is) rest in
        let falls = cheaper S schema rules lawful plan regular step m first.is in
        omega (arith, next, falls)

    pub chain_one : {plan last other : PlanTree} {trace way : List Applied} → Regular S plan → IsChain S rules plan trace last → IsChain S rules plan way other → (last ≡ other) × (trace ≡ way)
    chain_one regular (ends none) (ends also) = (refl, refl)
    chain_one regular (ends none) (goes step m first rest) = absurd (none step m first.is)
    chain_one regular (goes step m first rest) (ends none) = absurd (none step m first.is)
    chain_one {plan} {last} {other} regular (goes step m first rest) (goes step' m' first' rest') =
        let same = one_first S rules plan step step' m m' first first' in
        let next = same_made S schema rules lawful plan regular step step' m m' first.is first'.is same in
        let after = chain_one (made_regular S rules plan step m first.is) rest (moved (sym next) rest') in
        (after.0, same_traces same after.1)
