-- Matches at one node and at the nodes of a subplan, put together.
use Rattle.std.proofs.Common.{◌≡◌, ℕ, ◌+◌, ◌<◌, ◌≤◌, List, sym, ◌∙◌, subst, inl, inr, arith}
use Rattle.std.specs.Prelude.{◌⊎◌, slice_get, Some}
use Rattle.std.proofs.lemmas.Bool.{cases_lt}
use Rattle.wt_schema.specs.declared.schema.Table.{Table}
use Rattle.wt_symbol.specs.Sides.{pair_of}
use Rattle.wt_rule.specs.declared.Rule.{Rule}
use Rattle.wt_plan.specs.Tree.{PlanTree}
use Rattle.wt_plan.specs.Measures.{node_count}
use Rattle.wt_matching.specs.Filling.{Assigned}
use Rattle.wt_matching.specs.Matching.{IsMatch}
use Rattle.wt_chains.specs.declared.applied.Applied.{Applied}
use Rattle.wt_chains.specs.Chains.{IsStep, HasNoMatch}
use Rattle.wt_rewrite.specs.declared.first.Hit.{Hit}
use Rattle.wt_rewrite.proofs.Listing.{same_some}
use Rattle.wt_rewrite.specs.Search.{step_of, IsHit, HasNoneAt, HasNoneIn, IsFirstIn, IsFirstHit}

module _ (S : List Table) (rules : List Rule) (plan : PlanTree) where
  -- at this node or behind it
  here_or_behind : (n k : ℕ) → n ≤ k → (k ≡ n) ⊎ (n + 1 ≤ k)
  here_or_behind n k h = elim (cases_lt n k) [ inl lt ↦ inr (omega (arith, lt)) | inr ge ↦ inl (omega (arith, h, ge)) ]

  at_one : (node : ℕ) (step : Applied) (m : Assigned) → step.node ≡ node → HasNoneAt S rules plan node → IsStep S rules plan step m → ⊥
  at_one node step m e h is = h.none step.rule m (subst (λ n. IsStep S rules plan (step_of n step.rule) m) e is)

  pub none_here : (node count : ℕ) → HasNoneAt S rules plan node → HasNoneIn S rules plan (node + 1) count → HasNoneIn S rules plan node (1 + count)
  none_here node count h k = record {
    none = λ step m from to is. elim (here_or_behind node step.node from) [
      | inl e ↦ at_one node step m e h is
      | inr behind ↦ k.none step m behind (omega (arith, to)) is
    ];
  }

  pub none_alone : (node : ℕ) → HasNoneAt S rules plan node → HasNoneIn S rules plan node 1
  none_alone node h = record { none = λ step m from to is. at_one node step m (omega (arith, from, to)) h is }

  pub none_both : (node left right : ℕ) → HasNoneAt S rules plan node → HasNoneIn S rules plan (node + 1) left → HasNoneIn S rules plan ((node + 1) + left) right → HasNoneIn S rules plan node (1 + (left + right))
  none_both node left right h f g = none_here node (left + right) h (record {
    none = λ step m from to is. elim (cases_lt step.node ((node + 1) + left)) [
      | inl lt ↦ f.none step m from lt is
      | inr ge ↦ g.none step m ge (omega (arith, to)) is
    ];
  })

  pub first_here : (node : ℕ) (h : Hit) → HasNoneAt S rules plan node → IsFirstIn S rules plan (node + 1) h → IsFirstIn S rules plan node h
  first_here node h k f = record {
    hit = f.hit;
    first = λ other m from before is. elim (here_or_behind node other.node from) [
      | inl e ↦ at_one node other m e k is
      | inr behind ↦ f.first other m behind before is
    ];
  }

  pub first_behind : (node left : ℕ) (h : Hit) → HasNoneAt S rules plan node → HasNoneIn S rules plan (node + 1) left → IsFirstIn S rules plan ((node + 1) + left) h → IsFirstIn S rules plan node h
  first_behind node left h k f g = first_here node h k (record {
    hit = g.hit;
    first = λ other m from before is. elim (cases_lt other.node ((node + 1) + left)) [
      | inl lt ↦ f.none other m from lt is
      | inr ge ↦ g.first other m ge before is
    ];
  })

  -- the first rule that matches at a node is the first match from it on
  pub first_rule : (node : ℕ) (h : Hit) → IsHit S rules plan h → ((k : ℕ) (m : Assigned) → k < h.rule → IsStep S rules plan (step_of h.node k) m → ⊥) → h.node ≡ node → IsFirstIn S rules plan node h
  first_rule node h hit earlier e = record {
    hit = hit;
    first = λ other m from before is. elim before [
      | inl lt ↦ absurd (omega (arith, lt, from, e))
      | inr both ↦ earlier other.rule m both.1 (subst (λ n. IsStep S rules plan (step_of n other.rule) m) both.0 is)
    ];
  }

  -- the rule of this number has no match at the node
  pub none_rule : (node k : ℕ) (rule : Rule) → slice_get rules k ≡ Some rule → ((m : Assigned) → IsMatch S (pair_of rule.pair) rule.set plan node m → ⊥) → (m : Assigned) → IsStep S rules plan (step_of node k) m → ⊥
  none_rule node k rule e h m is = h m (subst (λ (r : Rule). IsMatch S (pair_of r.pair) r.set plan node m) (same_some is.rule rule (sym is.at ∙ e)) is.matches)

  pub none_at_all : HasNoneIn S rules plan 0 (node_count plan) → HasNoMatch S rules plan
  none_at_all h = λ step m is. h.none step m (omega arith) (omega (arith, is.node)) is

  pub first_of_all : (h : Hit) → IsFirstIn S rules plan 0 h → IsFirstHit S rules plan h
  first_of_all h f = record {
    found = f.hit.found;
    first = record { is = f.hit.is; first = λ other m before is. f.first other m (omega arith) before is };
    made = f.hit.made;
  }
