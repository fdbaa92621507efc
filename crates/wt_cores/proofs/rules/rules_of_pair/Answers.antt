use Rattle.std.proofs.Common.{◌↔◌, sym, subst}
use Rattle.wt_bag.specs.Choices.{Has}
use Rattle.wt_symbol.specs.Sides.{pair_of}
use Rattle.wt_form.specs.Relaxed.{IsRule}
use Rattle.wt_cores.specs.SetLists.{Ascending}
use Rattle.wt_cores.specs.Cores.{Within}
use Rattle.wt_cores.proofs.Searching.{rules_read, few_of, whole_of}
use Rattle.wt_cores.proofs.rules.rules_of_pair.Goals as goal

pub find_cores-requires-clause-whole : goal.find_cores-requires-clause-whole
find_cores-requires-clause-whole g c = whole_of (pair_of c.args.pair.now) c.in_ok-atoms.atoms c.full-all.result c.in_ok-atoms.ensures.atoms c.in_ok-atoms.ensures.few c.full-all.ensures.number

pub returns : goal.returns
returns g c =
    let few = few_of (pair_of c.args.pair.now) c.in_ok-atoms.atoms c.in_ok-atoms.ensures.atoms c.in_ok-atoms.ensures.few in
    let whole = whole_of (pair_of c.args.pair.now) c.in_ok-atoms.atoms c.full-all.result c.in_ok-atoms.ensures.atoms c.in_ok-atoms.ensures.few c.full-all.ensures.number in
    record {
      members = λ s. subst (λ xs. Has s xs ↔ IsRule (pair_of c.args.pair.now) c.args.steps c.args.depth s) (sym c.from_vec.ensures)
          (rules_read (pair_of c.args.pair.now) c.args.steps few c.full-all.result c.args.depth c.in_ok-found.found.cores.items c.in_ok-found.found.refused.items c.deref.result.now c.in_ok-rules.rules.items
          whole c.deref.ensures.value c.in_ok-found.ensures.found (λ t is. c.in_ok-found.ensures.all t is.core (subst (Within t) (sym whole) is.within)) c.in_ok-rules.ensures.sets s);
      ascending = subst Ascending (sym c.from_vec.ensures) c.in_ok-rules.ensures.ascending;
    }
