use Rattle.std.proofs.Common.{map, sym, ◌∙◌}
use Rattle.std.proofs.lemmas.Bool.{false≢true}
use Rattle.wt_form.specs.Parts.{ranges_list}
use Rattle.wt_form.specs.Views.{ranges_seen, cond_seen}
use Rattle.wt_facts.specs.Facts.{known_of}
use Rattle.wt_congruent.specs.Refs.{cond_behind}
use Rattle.wt_drops.specs.Truths.{CondFalse, Denied}
use Rattle.wt_drops.proofs.TruthLaws.{or_second}
use Rattle.wt_drops.proofs.truths.cond_is_false.Goals as goal

pub returns : goal.returns
returns c =
    let others = map cond_behind c.args.others.now in
    or_second (CondFalse (known_of c.args.facts.now) c.args.ks.now (ranges_list (ranges_seen c.args.ranges.now)) others (cond_seen c.args.c.now)) (Denied (known_of c.args.facts.now) c.args.ks.now others (cond_seen c.args.c.now)) c.is_denied.result
    (λ a. absurd (false≢true (sym c.if-is_never_true.false ∙ c.is_never_true.ensures.1 a))) c.is_denied.ensures
