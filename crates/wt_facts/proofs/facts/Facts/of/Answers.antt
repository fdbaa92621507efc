use Rattle.std.proofs.Common.{ap, ◌∙◌, sym, subst, length, flat_map, ◌++◌, ◌≤◌}
use Rattle.wt_symbol.specs.Sides.{pair_of}
use Rattle.wt_constraint.proofs.AtomLemmas.{few}
use Rattle.wt_facts.specs.declared.facts.Facts.{Facts}
use Rattle.wt_facts.specs.Facts.{unique_of, not_null_of, reference_of}
use Rattle.wt_facts.proofs.FactLaws.{facts_tell}
use Rattle.wt_facts.proofs.facts.Facts.of.Goals as goal

pub asked_atoms-requires : goal.asked_atoms-requires
asked_atoms-requires c = record { few = subst (λ atoms. length atoms ≤ 64) (sym c.requires.atoms) (few (pair_of c.args.pair.now) c.requires.lawful) }

pub of-requires : goal.of-requires
of-requires c = record { few = subst (λ atoms. length atoms ≤ 64) (sym c.requires.atoms) (few (pair_of c.args.pair.now) c.requires.lawful) }

pub returns : goal.returns
returns c =
    let facts : Facts = record { sames = c.in_ok-sames.sames; unique = c.push_uniques.new.out; not_null = c.push_not_nulls.new.out; refs = c.push_references.new.out; kept = c.in_ok-kept.kept } in
    record {
      under = facts_tell (pair_of c.args.pair.now) c.args.atoms.now c.args.set facts c.in_ok-asked.asked.items c.requires.atoms c.in_ok-sames.ensures.leaves c.in_ok-sames.ensures.lists c.in_ok-sames.ensures.preds c.in_ok-asked.ensures
          (c.in_ok-push_uniques.ensures ∙ ap (λ l. l ++ flat_map (unique_of c.args.pair.now.anchors) c.deref.result.now) c.new-unique.ensures ∙ ap (flat_map (unique_of c.args.pair.now.anchors)) c.deref.ensures.value)
          (c.in_ok-push_not_nulls.ensures ∙ ap (λ l. l ++ flat_map (not_null_of c.args.pair.now.anchors) c.deref-2.result.now) c.new-not_null.ensures ∙ ap (flat_map (not_null_of c.args.pair.now.anchors)) c.deref-2.ensures.value)
          (c.in_ok-push_references.ensures ∙ ap (λ l. l ++ flat_map (reference_of c.args.pair.now.anchors) c.deref-3.result.now) c.new-refs.ensures ∙ ap (flat_map (reference_of c.args.pair.now.anchors)) c.deref-3.ensures.value)
          c.in_ok-kept.ensures;
    }
