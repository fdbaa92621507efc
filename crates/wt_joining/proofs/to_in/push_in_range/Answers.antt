use Rattle.std.proofs.Common.{List, ◌≡◌, map, refl, arith}
use Rattle.wt_bag.specs.Choices.{drop_at}
use Rattle.wt_symbol.specs.declared.head.Part.{Part}
use Rattle.wt_form.specs.Trees.{Terms}
use Rattle.wt_form.specs.Joining.{Joined}
use Rattle.wt_form.specs.Views.{terms_seen}
use Rattle.wt_facts.specs.Facts.{known_of}
use Rattle.wt_congruent.specs.Refs.{cond_behind, range_behind}
use Rattle.wt_congruent.proofs.Pairing.{at_within}
use Rattle.wt_places.proofs.GainedLaws.{gained_none}
use Rattle.wt_joining.specs.ToIn.{in_term, InByRange}
use Rattle.wt_joining.proofs.to_in.push_in_range.Goals as goal

pub returns-else-v-ranges : goal.returns-else-v-ranges
returns-else-v-ranges c =
    let cb = map cond_behind c.args.before.now in
    let ca = map cond_behind c.args.after.now in
    let rs = map range_behind c.args.ranges.now in
    gained_none (map terms_seen c.args.out.now.items) _ (InByRange (known_of c.args.facts.now) c.args.nested rs c.args.term.now.pieces c.args.v c.args.b cb ca c.args.e) refl
    (λ us p.
    let l = at_within (λ range. (h : List Part) × (ts : Terms) × Joined (known_of c.args.facts.now) c.args.nested range c.args.b h ts × (us ≡ in_term (drop_at c.args.v rs) c.args.term.now.pieces c.args.v cb ca c.args.e h ts)) range_behind c.args.ranges.now c.args.v p in
    let bad : ⊥ = omega (arith, l, c.if-v-ranges.false) in absurd bad)
