use Rattle.std.proofs.Common.{◌≡◌, ◌++◌, ◌∷◌, [], map, ap, subst, sym, rules}
use Rattle.wt_bag.specs.Choices.{Apart}
use Rattle.wt_form.specs.Views.{form_seen, terms_seen}
use Rattle.wt_places.proofs.GainedLaws.{pushed}
use Rattle.wt_steps.proofs.OnceLaws.{none_taken, one_taken, all_taken, one_head}
use Rattle.wt_steps.proofs.every.forms_of.Goals as goal

pub sums-init : goal.sums-init
sums-init c =
    let none : c.new-out.result.items ≡ [] = search rules in
    record {
      exact = none_taken c.args.head.now (map terms_seen c.args.sums.items) (map form_seen c.new-out.result.items) (ap (map form_seen) none);
      once = subst (λ z. Apart (map form_seen z)) (sym none) tt;
    }

pub sums-preserved : goal.sums-preserved
sums-preserved c =
    let taken : c.sums.left.items ≡ c.pop.new.self.items ++ c.in-Some.terms ∷ [] = search rules in
    record {
      exact = one_taken c.args.head.now (terms_seen c.in-Some.terms) (map terms_seen c.args.sums.items) (map terms_seen c.sums.left.items) (map terms_seen c.pop.new.self.items) (map form_seen c.sums.out.items) (map form_seen c.push_new.new.out.items)
          (pushed terms_seen c.pop.new.self.items c.sums.left.items c.in-Some.terms taken) c.sums.invariant.exact
          (one_head c.args.head.now c.in_ok-copied_head.field-0 (terms_seen c.in-Some.terms) (map form_seen c.sums.out.items) (map form_seen c.push_new.new.out.items) c.in_ok-copied_head.ensures c.in_ok-push_new.ensures.gains);
      once = c.in_ok-push_new.ensures.once;
    }

pub returns-clause-exact : goal.returns-clause-exact
returns-clause-exact c =
    let none : c.sums.left.items ≡ [] = search rules in
    all_taken c.args.head.now (map terms_seen c.args.sums.items) (map terms_seen c.sums.left.items) (map form_seen c.sums.out.items) (ap (map terms_seen) none) c.sums.invariant.exact
