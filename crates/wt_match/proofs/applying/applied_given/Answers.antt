use Rattle.std.proofs.Common.{◌≡◌, sym, ap, ◌∙◌, subst}
use Rattle.wt_bag.specs.Bags.{Each}
use Rattle.wt_symbol.specs.Sides.{pair_of}
use Rattle.wt_plan.specs.Tree.{plan_tree}
use Rattle.wt_draft.specs.Drafts.{draft_tree}
use Rattle.wt_matching.specs.Nodes.{put}
use Rattle.wt_matching.specs.Matching.{AtomKnown}
use Rattle.wt_found.specs.Seen.{seen, assigned_in}
use Rattle.wt_fill.specs.Capped.{capped_fill}
use Rattle.wt_match.specs.Asking.{asked}
use Rattle.wt_match.proofs.Deciding.{narrow_found, no_atoms, only_found, gives_copied, not_true}
use Rattle.wt_match.proofs.applying.applied_given.Goals as goal

pub returns-then-not-branch : goal.returns-then-not-branch
returns-then-not-branch g c =
    let S = g.F.Facts.tables c.args.facts.now in
    let p = pair_of c.args.rule.now.pair in
    let m = assigned_in c.args.given.now.found.now in
    let plan = plan_tree c.args.plan.now in
    let unknown = no_atoms S p c.args.rule.now.set c.requires.lawful plan c.args.node (seen c.args.given.now.found.now) c.requires.walked
    (λ h. not_true c.in_ok-are_known.field-0 c.if-not-branch.true (c.in_ok-are_known.ensures.exact.1
    (subst (λ A. Each (AtomKnown S A m) c.args.atoms.now) (sym c.requires.anchors) (subst (Each (AtomKnown S p.anchors m)) (sym c.requires.asked) h)))) in
    record { exact = only_found S p c.args.rule.now.set c.requires.lawful plan c.args.node (seen c.args.given.now.found.now) c.requires.walked unknown }

pub fill-requires : goal.fill-requires
fill-requires g c = record {
  blank = c.requires.blank;
  narrow = narrow_found (g.F.Facts.tables c.args.facts.now) (pair_of c.args.rule.now.pair) c.args.rule.now.set c.requires.lawful (plan_tree c.args.plan.now) c.args.node (seen c.args.given.now.found.now) c.requires.walked
      c.requires.narrow;
}

pub returns : goal.returns
returns g c =
    let S = g.F.Facts.tables c.args.facts.now in
    let p = pair_of c.args.rule.now.pair in
    let m = assigned_in c.args.given.now.found.now in
    let plan = plan_tree c.args.plan.now in
    let q = draft_tree c.in_ok-made.made in
    let made : q ≡ put plan c.args.node (capped_fill p.dest p.anchors m) =
    c.in_ok-made.ensures.exact ∙ (ap (put plan c.args.node) c.in_ok-filled.ensures.exact ∙ ap (λ A. put plan c.args.node (capped_fill p.dest A m)) c.requires.anchors) in
    let known : Each (AtomKnown S p.anchors m) (asked p c.args.rule.now.set) =
    subst (Each (AtomKnown S p.anchors m)) c.requires.asked (subst (λ A. Each (AtomKnown S A m) c.args.atoms.now) c.requires.anchors (c.in_ok-are_known.ensures.exact.0 c.if-not-branch.false)) in
    record {
      exact = gives_copied S p c.args.rule.now.set c.requires.lawful plan c.args.node (seen c.args.given.now.found.now) c.requires.walked c.requires.within known q made
          c.copy_if_regular.result c.copy_if_regular.ensures.is c.copy_if_regular.ensures.regular c.copy_if_regular.ensures.wide c.copy_if_regular.ensures.none;
    }
