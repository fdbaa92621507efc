use Rattle.std.proofs.Common.{◌≡◌, ◌<◌, ◌+◌, ◌^◌, true, false, inl, rules, sym, ◌∙◌, subst, arith}
use Rattle.std.proofs.lemmas.Bool.{false≢true}
use Rattle.wt_bag.specs.Choices.{Has}
use Rattle.wt_symbol.specs.Sides.{pair_of}
use Rattle.wt_form.specs.Under.{Provable}
use Rattle.wt_form.specs.Relaxed.{IsLeast}
use Rattle.wt_cores.specs.Cores.{Within, missing}
use Rattle.wt_cores.proofs.Searching.{first_given, all_given, none_between, between_all, none_with, fewer_left, with_within, all_with, between_more, added, alone}
use Rattle.wt_cores.proofs.search.+search.Goals as goal

pub branch-loop-i-init : goal.branch-loop-i-init
branch-loop-i-init g t c = record {
  found = c.requires.before;
  kept = λ s h. h;
  given = first_given c.args.free c.args.refused c.shared-given.result c.shared-given.ensures;
  between = none_between (pair_of c.args.pair.now) c.args.steps c.args.set c.shared-given.result c.args.refused _ c.requires.around (λ j h. ((c.shared-given.ensures j).0 h).1) c.requires.unprovable;
}

pub branch-loop-i-preserved : goal.branch-loop-i-preserved
branch-loop-i-preserved g t c = record {
  found = c.in_ok-given.ensures.found;
  kept = λ s h. c.in_ok-given.ensures.kept s (c.loop-i.invariant.kept s h);
  given = c.in_ok-given.ensures.given;
  between = c.in_ok-given.ensures.between;
}

pub branch-returns-clause-all : goal.branch-returns-clause-all
branch-returns-clause-all g t c =
    let small : c.args.free.0 < 2 ^ 64 = omega arith in
    between_all (pair_of c.args.pair.now) c.args.steps c.args.set c.loop-i.given c.args.free _
    (all_given c.args.free c.args.refused c.loop-i.given c.loop-i.i small (let e = c.loop-i-test.false in omega (arith, e)) c.loop-i.invariant.given) c.loop-i.invariant.between

pub branch_at-returns-then-not-branch-clause-all :
    goal.branch_at-returns-then-not-branch-clause-all
branch_at-returns-then-not-branch-clause-all g t c =
    let small : c.with-larger.result.0 < 2 ^ 64 = omega arith in
    let no : c.in_ok-is_least.field-0 ≡ false = search rules in
    none_with (pair_of c.args.pair.now) c.args.steps c.args.set c.with-larger.result c.args.free c.args.i _ small c.with-larger.ensures (λ least. false≢true (sym no ∙ c.in_ok-is_least.ensures.exact.1 least))

pub branch_at-search-requires : goal.branch_at-search-requires
branch_at-search-requires g t c κs within =
    let small : c.with-larger.result.0 < 2 ^ 64 = omega arith in
    let fewer : missing 64 c.args.all c.args.set ≡ missing 64 c.args.all c.with-larger.result + 1 = fewer_left c.args.all c.args.set c.with-larger.result c.args.i small c.requires.below c.with-larger.ensures c.requires.new c.requires.within c.requires.there in
    let inside : Within c.with-larger.result c.args.all = with_within c.args.set c.with-larger.result c.args.all c.args.i c.with-larger.ensures c.requires.within c.requires.there in
    let yes : c.in_ok-is_least.field-0 ≡ true = search rules in
    let least : IsLeast (pair_of c.args.pair.now) c.args.steps c.with-larger.result = c.in_ok-is_least.ensures.exact.0 yes in
    search (rules, arith, fewer, inside, least)

pub branch_at-returns-clause-kept : goal.branch_at-returns-clause-kept
branch_at-returns-clause-kept g t c s h = c.in_ok-search.ensures.kept s (subst (Has s) (sym c.in_ok-is_least.ensures.cores) h)

pub branch_at-returns-clause-all : goal.branch_at-returns-clause-all
branch_at-returns-clause-all g t c = all_with (pair_of c.args.pair.now) c.args.steps c.args.set c.with-larger.result c.args.free c.args.i _ c.with-larger.ensures c.in_ok-search.ensures.all

pub branch_by-returns-clause-between : goal.branch_by-returns-clause-between
branch_by-returns-clause-between g t c = between_more (pair_of c.args.pair.now) c.args.steps c.args.set c.args.given _ c.args.i _ _ c.with.ensures c.in_ok-branch_at.ensures.kept c.requires.between c.in_ok-branch_at.ensures.all

pub search-returns-in_ok-insert-in-None-clause-found :
    goal.search-returns-in_ok-insert-in-None-clause-found
search-returns-in_ok-insert-in-None-clause-found g t c =
    let small : c.args.set.0 < 2 ^ 64 = omega arith in
    let provable : Provable (pair_of c.args.pair.now) c.args.set c.args.steps = search (rules, c.in_ok-refusal.ensures.none) in
    added (pair_of c.args.pair.now) c.args.steps c.args.set _ _ _ (record { small = small; provable = provable; least = c.requires.least }) (subst (Within c.args.set) c.requires.whole c.requires.within) c.in_ok-insert-in-None.ensures.sets c.in_ok-insert-in-None.ensures.ascending c.in_ok-refusal.ensures.found

pub search-returns-in_ok-insert-in-None-clause-kept :
    goal.search-returns-in_ok-insert-in-None-clause-kept
search-returns-in_ok-insert-in-None-clause-kept g t c s h = (c.in_ok-insert-in-None.ensures.sets s).1 (inl (subst (Has s) (sym c.in_ok-refusal.ensures.cores) h))

pub search-returns-in_ok-insert-in-None-clause-all :
    goal.search-returns-in_ok-insert-in-None-clause-all
search-returns-in_ok-insert-in-None-clause-all g t c =
    let small : c.args.set.0 < 2 ^ 64 = omega arith in
    let provable : Provable (pair_of c.args.pair.now) c.args.set c.args.steps = search (rules, c.in_ok-refusal.ensures.none) in
    alone (pair_of c.args.pair.now) c.args.steps c.args.set c.args.free _ _ (record { small = small; provable = provable; least = c.requires.least }) c.in_ok-insert-in-None.ensures.sets

pub search-returns-in_ok-branch-in-Some-clause-kept :
    goal.search-returns-in_ok-branch-in-Some-clause-kept
search-returns-in_ok-branch-in-Some-clause-kept g t c s h = c.in_ok-branch-in-Some.ensures.kept s (subst (Has s) (sym c.in_ok-refusal.ensures.cores) h)
