use Rattle.std.proofs.Common.{◌≡◌, ◌<◌, ◌^◌, true, false, rules, refl, sym, ◌∙◌, arith}
use Rattle.std.proofs.lemmas.Bool.{false≢true}
use Rattle.wt_symbol.specs.Sides.{pair_of}
use Rattle.wt_cores.specs.Cores.{IsNeeded}
use Rattle.wt_cores.proofs.Bits.{below_64}
use Rattle.wt_cores.proofs.Searching.{one_more}
use Rattle.wt_cores.proofs.found.is_least.Goals as goal

pub returns-then-not-branch-clause-exact : goal.returns-then-not-branch-clause-exact
returns-then-not-branch-clause-exact g c =
    let no : c.in_ok-needs.field-0 ≡ false = search rules in
    (λ y. absurd (false≢true y), λ least. absurd (false≢true (sym no ∙ c.in_ok-needs.ensures.exact.1 (λ t leaves h. least c.loop-i.i t leaves h))))

pub loop-i-preserved : goal.loop-i-preserved
loop-i-preserved g c = record {
  found = c.in_ok-needs.ensures.found;
  cores = c.in_ok-needs.ensures.cores ∙ c.loop-i.invariant.cores;
  each = let yes : c.in_ok-needs.field-0 ≡ true = search rules in one_more (IsNeeded (pair_of c.args.pair.now) c.args.steps c.args.set) c.loop-i.i c.loop-i.invariant.each (c.in_ok-needs.ensures.exact.0 yes);
}

pub returns-clause-exact : goal.returns-clause-exact
returns-clause-exact g c =
    let small : c.args.set.0 < 2 ^ 64 = omega arith in
    (λ y. λ i t leaves. c.loop-i.invariant.each i (let b = below_64 c.args.set i small leaves.there in let e = c.loop-i-test.false in omega (arith, b, e)) t leaves, λ h. refl)
