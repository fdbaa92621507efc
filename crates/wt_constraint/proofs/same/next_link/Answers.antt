use Rattle.std.proofs.Common.{◌≡◌, inl, inr, arith}
use Rattle.std.proofs.lemmas.Bool.{cases_lt}
use Rattle.wt_constraint.proofs.SetLemmas.{not_from_64}
use Rattle.wt_constraint.proofs.SameLemmas.{link_found, link_read, link_within}
use Rattle.wt_constraint.proofs.same.next_link.Goals as goal

pub returns-then-k-ge64-clause-none : goal.returns-then-k-ge64-clause-none
returns-then-k-ge64-clause-none c k x y link =
    elim (cases_lt k c.loop-k.k) [
      | inl lt ↦ c.loop-k.invariant k x y lt link
      | inr ge ↦ absurd (not_from_64 c.args.set k (omega arith) (omega arith) link.there)
    ]

pub returns-in-Some-clause-link : goal.returns-in-Some-clause-link
returns-in-Some-clause-link c =
    let found = c.in-Some.ensures.link in (
      omega (arith, found.0),
      link_found c.args.kind c.as_slice-atom-items.result.now c.args.atoms.now c.args.set c.loop-k.k c.in-Some.link.atom c.in-Some.link.x c.in-Some.link.y _
          c.as_slice-atom-items.ensures c.loop-k-test.true found.0 found.1 found.2,
      found.3,
    )

pub loop-k-preserved : goal.loop-k-preserved
loop-k-preserved c k x y below link =
    elim (cases_lt k c.loop-k.k) [
      | inl lt ↦ c.loop-k.invariant k x y lt link
      | inr ge ↦
          let here : k ≡ c.loop-k.k = omega arith in
          let this = rw here at link in
          c.in_default.ensures.none x y this.there
          (link_read c.args.kind c.as_slice-atom-items.result.now c.args.atoms.now c.args.set c.loop-k.k x y _ c.as_slice-atom-items.ensures this)
    ]

pub returns-clause-none : goal.returns-clause-none
returns-clause-none c k x y link =
    let within = link_within c.args.kind c.as_slice-atom-items.result.now c.args.atoms.now c.args.set k x y c.as_slice-atom-items.ensures link in
    c.loop-k.invariant k x y (omega (arith, within)) link
