use Rattle.std.proofs.Common.{map, sym, ◌∙◌}
use Rattle.std.proofs.lemmas.Bool.{false≢true}
use Rattle.wt_form.specs.Parts.{ranges_list}
use Rattle.wt_form.specs.Views.{ranges_seen, cond_seen}
use Rattle.wt_facts.specs.Facts.{known_of}
use Rattle.wt_congruent.specs.Refs.{cond_behind}
use Rattle.wt_drops.specs.Truths.{CondTrue, SomeSame}
use Rattle.wt_drops.proofs.TruthLaws.{or_second}
use Rattle.wt_drops.proofs.dropping.goes.Goals as goal

pub returns : goal.returns
returns c =
    or_second (CondTrue (known_of c.args.facts.now) c.args.ks.now (ranges_list (ranges_seen c.args.ranges.now)) (map cond_behind c.args.others.now) (cond_seen c.args.c.now)) (SomeSame (known_of c.args.facts.now) c.args.ks.now (map cond_behind c.args.before.now) (cond_seen c.args.c.now)) c.same_as_some.result
    (λ a. absurd (false≢true (sym c.if-cond_is_true.false ∙ c.cond_is_true.ensures.1 a))) c.same_as_some.ensures
